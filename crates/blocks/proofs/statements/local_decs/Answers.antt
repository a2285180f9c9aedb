use Rattle.std.proofs.Common.{Result, sym, ap, ◌∙◌, subst}
use Rattle.grammar.specs.Trees.{local}
use Rattle.statics.specs.declared.Refusal.{Refusal}
use Rattle.statics.specs.Modes.{Mode}
use Rattle.statics.specs.Scopes.{Env}
use Rattle.statics.specs.JudgeStatements.{judge_written, judge_local_items, judge_local_dec, judge_local_decs}
use Rattle.texts.specs.Facts.{facts}
use Rattle.scopes.specs.Meanings.{Answers}
use Rattle.lists.specs.Lists.{left}
use Rattle.frames.specs.Frames.{frame_means}
use Rattle.blocks.specs.Statements.{with_ready}
use Rattle.blocks.proofs.Joined.{both, stepped, answers_same, answer_same}
use Rattle.blocks.proofs.Declaring.{Decs, decs_on, decs_out, parts_of}
use Rattle.blocks.proofs.statements.local_decs.Goals as goal

pub loop-declaration-preserved-in-Local : goal.loop-declaration-preserved-in-Local
loop-declaration-preserved-in-Local c ls here all =
    let Γ = frame_means c.args.frame c.args.names.now in
    let x = decs_on Γ c.args.nodes.now (left c.loop-declaration.declaration-iterator) c.in-Some.declaration (left c.next.new.self) c.loop-declaration.ready c.loop-declaration.result _ c.in-Some.ensures.steps (c.loop-declaration.invariant ls here all) in
    let p = parts_of _ _ _ _ x.0 x.1 (sym c.in-Local.ensures) x.2 in
    let Δ = with_ready Γ c.local_items-items.result.1 in
    let items = c.local_items-items.ensures x.1 p.1 x.3 in
    let mode = c.mode_at.ensures x.0 p.0 (facts c.args.frame.text) in
    let i = answer_same _ _ (subst (λ (m : Mode). Answers (λ u. tt) c.local_items-items.result.0 (judge_local_items Δ m x.1)) mode items.1) in
    let w = subst (λ (E : Env). Answers (λ u. tt) c.written.result (judge_written E x.0)) c.env-env.ensures.means (c.written.ensures.mode x.0 p.0) in
    let a = stepped _ _ _ _ w c.and.ensures in
    let d = answers_same c.and.result (judge_local_dec Δ (local x.0 x.1)) (sym a ∙ ap (λ (r : Result (Unit {0}) Refusal). both (judge_written Δ x.0) r) i) in
    subst (λ (r : Result (Unit {0}) Refusal). Decs Γ c.args.nodes.now (left c.next.new.self) c.local_items-items.result.1 r (judge_local_decs Γ ls)) (stepped _ _ _ _ d c.and-result.ensures) (x.4 c.local_items-items.result.1 items.0)

pub loop-declaration-preserved : goal.loop-declaration-preserved
loop-declaration-preserved c ls here all =
    let x = decs_on (frame_means c.args.frame c.args.names.now) c.args.nodes.now (left c.loop-declaration.declaration-iterator) c.in-Some.declaration (left c.next.new.self) c.loop-declaration.ready c.loop-declaration.result _ c.in-Some.ensures.steps (c.loop-declaration.invariant ls here all) in
    absurd (c.in_default.not-Local x.2.0 x.2.1 (c.node_at.ensures ∙ x.2.4))

pub returns : goal.returns
returns c ls here all = answers_same _ _ (decs_out (frame_means c.args.frame c.args.names.now) c.args.nodes.now (left c.loop-declaration.declaration-iterator) c.loop-declaration.ready c.loop-declaration.result _ c.in-None.ensures.steps.0 (c.loop-declaration.invariant ls here all))
