use Rattle.std.proofs.Common.{length, sym, ap, ◌∙◌, subst}
use Rattle.grammar.specs.Trees.{Moditem}
use Rattle.nodes.proofs.Results.{passed}
use Rattle.statics.specs.Scopes.{Env}
use Rattle.statics.specs.JudgeExpressions.{judge_each}
use Rattle.statics.specs.JudgeStatements.{judge_written}
use Rattle.statics.specs.JudgeModules.{judge_fields, judge_moditem, judge_opt}
use Rattle.texts.specs.Facts.{facts}
use Rattle.scopes.specs.Meanings.{Answers}
use Rattle.scopes.proofs.Following.{stops, goes, answered}
use Rattle.frames.specs.Frames.{frame_means}
use Rattle.frames.specs.Rooms.{Roomy}
use Rattle.frames.proofs.Counts.{components_fit}
use Rattle.moditems.proofs.Items.{itemed, bracketed}
use Rattle.moditems.proofs.moditem.Goals as goal

pub returns-in_err-modes-in-ExternalProcs-clause-judged : goal.returns-in_err-modes-in-ExternalProcs-clause-judged
returns-in_err-modes-in-ExternalProcs-clause-judged c a is even room =
    let x = itemed c.args.nodes.now c.args.k a _ (sym c.in-ExternalProcs.ensures) is in
    passed _ _ c.from_residual.result c.from_residual.ensures.1 (ap (judge_moditem (frame_means c.args.frame c.args.names.now)) x.6 ∙ stops _ _ _ (ap (λ (Δ : Env). judge_opt (judge_each (judge_written Δ)) x.0) (sym c.env-env.ensures.means) ∙ c.in_err-modes-in-ExternalProcs.ensures x.0 x.3))

pub returns-in_err-result_mode-in-ExternalProcs-clause-judged : goal.returns-in_err-result_mode-in-ExternalProcs-clause-judged
returns-in_err-result_mode-in-ExternalProcs-clause-judged c a is even room =
    let x = itemed c.args.nodes.now c.args.k a _ (sym c.in-ExternalProcs.ensures) is in
    passed _ _ c.from_residual-in_err-result_mode-in-ExternalProcs.result c.from_residual-in_err-result_mode-in-ExternalProcs.ensures.1 (ap (judge_moditem (frame_means c.args.frame c.args.names.now)) x.6 ∙ goes _ _ _ (ap (λ (Δ : Env). judge_opt (judge_each (judge_written Δ)) x.0) (sym c.env-env.ensures.means) ∙ c.in_ok-modes-in-ExternalProcs.ensures x.0 x.3) ∙ stops _ _ _ (ap (λ (Δ : Env). judge_opt (judge_written Δ) x.1) (sym c.env-env.ensures.means) ∙ c.in_err-result_mode-in-ExternalProcs.ensures x.1 x.4))

pub returns-in_ok-result_mode-in-ExternalProcs-clause-judged : goal.returns-in_ok-result_mode-in-ExternalProcs-clause-judged
returns-in_ok-result_mode-in-ExternalProcs-clause-judged c a is even room =
    let x = itemed c.args.nodes.now c.args.k a _ (sym c.in-ExternalProcs.ensures) is in
    answered _ _ _ _ (ap (judge_moditem (frame_means c.args.frame c.args.names.now)) x.6 ∙ goes _ _ _ (ap (λ (Δ : Env). judge_opt (judge_each (judge_written Δ)) x.0) (sym c.env-env.ensures.means) ∙ c.in_ok-modes-in-ExternalProcs.ensures x.0 x.3) ∙ goes _ _ _ (ap (λ (Δ : Env). judge_opt (judge_written Δ) x.1) (sym c.env-env.ensures.means) ∙ c.in_ok-result_mode-in-ExternalProcs.ensures x.1 x.4)) (c.described.ensures x.0 x.1 x.2 x.3 x.4 x.5)

pub returns-in-RecordMode-clause-judged : goal.returns-in-RecordMode-clause-judged
returns-in-RecordMode-clause-judged c a is even room =
    let t = facts c.args.frame.text in
    let n = length c.args.names.now in
    let x = itemed c.args.nodes.now c.args.k a _ (sym c.in-RecordMode.ensures) is in
    let fit = components_fit t c.args.frame.count n c.in-RecordMode.field-0 c.in-RecordMode.field-1 x.0 (subst (λ (i : Moditem). Roomy t c.args.frame.count n i) x.2 room) in
    let inside = bracketed c.args.frame c.args.names.now c.declare_components.new.names c.declare_components.result x.0 (c.declare_components.ensures.behind t c.args.frame.takes.now x.0 x.1) fit in
    answered _ _ _ _ (ap (judge_moditem (frame_means c.args.frame c.args.names.now)) x.2) (subst (λ (Δ : Env). Answers (λ u. tt) c.fields.result (judge_fields Δ x.0)) (c.env.ensures.means ∙ inside) (c.fields.ensures.some x.0 x.1))
