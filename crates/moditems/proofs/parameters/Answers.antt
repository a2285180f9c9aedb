use Rattle.std.proofs.Common.{length, refl, sym, ap, ◌∙◌, subst}
use Rattle.grammar.specs.Trees.{Body}
use Rattle.statics.specs.Scopes.{Env}
use Rattle.statics.specs.Order.{InBody}
use Rattle.statics.specs.Modules.{outermost}
use Rattle.statics.specs.JudgeModules.{judge_fields, judge_opt}
use Rattle.texts.specs.Facts.{facts}
use Rattle.scopes.specs.Meanings.{Answers}
use Rattle.frames.specs.Frames.{frame_means}
use Rattle.frames.specs.Rooms.{Room}
use Rattle.frames.proofs.Counts.{locals_fit}
use Rattle.frames.proofs.Entering.{body_node, body_parts}
use Rattle.blocks.proofs.Framing.{opened}
use Rattle.moditems.proofs.parameters.Goals as goal

pub returns-in_default : goal.returns-in_default
returns-in_default c = record {
  length = refl;
  front = refl;
  judged = λ ps b are is even room.
      let x = body_node _ _ b is in
      absurd (c.in_default.not-Body x.0 x.1 (c.node_at.ensures ∙ x.2));
}

pub returns-clause-judged : goal.returns-clause-judged
returns-clause-judged c ps b are is even room =
    let Γ = frame_means c.args.frame c.args.names.now in
    let x = facts c.args.frame.text in
    let p = body_parts _ _ _ _ b (sym c.in-Body.ensures) is in
    let r = locals_fit x p.0 p.1 c.args.frame.count (length c.args.names.now) (subst (λ (d : Body). Room InBody d c.args.frame.count (length c.args.names.now)) p.5 room) in
    let o = opened c.args.frame p.0 c.args.names.now c.declare_locals.new.names c.declare_locals.result (c.declare_locals.ensures.behind x c.args.frame.takes.now p.0 p.3) r even in
    subst (λ (Δ : Env). Answers (λ u. tt) c.fields.result (judge_opt (judge_fields Δ) ps)) (c.env.ensures.means ∙ o.1 ∙ ap (outermost Γ) (sym p.5)) (c.fields.ensures.maybe ps are)
