use Rattle.std.proofs.Common.{length, sym, ap, subst}
use Rattle.grammar.specs.Trees.{Brick, own}
use Rattle.statics.specs.Scopes.{Env}
use Rattle.statics.specs.JudgeExpressions.{judge_each}
use Rattle.statics.specs.JudgeModules.{judge_brick, judge_data_dec}
use Rattle.texts.specs.Facts.{facts}
use Rattle.scopes.specs.Meanings.{Answers}
use Rattle.scopes.proofs.Following.{answered}
use Rattle.frames.specs.Frames.{frame_means}
use Rattle.frames.specs.Rooms.{Roomy}
use Rattle.moditems.proofs.Items.{bricked}
use Rattle.moditems.proofs.brick.Goals as goal

pub returns-in-Store-clause-judged : goal.returns-in-Store-clause-judged
returns-in-Store-clause-judged c b is even room =
    let x = bricked c.args.nodes.now c.args.k b _ (sym c.in-Store.ensures) is in
    answered _ _ _ _ (ap (judge_brick (frame_means c.args.frame c.args.names.now)) x.2) (subst (λ (Δ : Env). Answers (λ u. tt) c.store.result (judge_each (judge_data_dec Δ) x.0)) c.env.ensures.means (c.store.ensures x.0 x.1))

pub returns-in-Procedure-clause-judged : goal.returns-in-Procedure-clause-judged
returns-in-Procedure-clause-judged c b is even room =
    let x = bricked c.args.nodes.now c.args.k b _ (sym c.in-Procedure.ensures) is in
    let inner = subst (λ (d : Brick). Roomy (facts c.args.frame.text) c.args.frame.count (length c.args.names.now) (own d)) x.11 room in
    answered _ _ _ _ (ap (judge_brick (frame_means c.args.frame c.args.names.now)) x.11) (c.procedure.ensures.judged x.0 x.1 x.2 x.3 c.in-Procedure.field-2 x.4 x.5 x.6 x.7 x.8 x.9 x.10 even inner)
