use Rattle.std.proofs.Common.{Ok, Result, subst, ◌∙◌}
use Rattle.grammar.specs.Trees.{Comparison}
use Rattle.nodes.specs.Nodes.{IsComparison}
use Rattle.statics.specs.declared.Refusal.{Refusal}
use Rattle.statics.specs.JudgeExpressions.{judge_comparison}
use Rattle.scopes.specs.Meanings.{env_means}
use Rattle.lists.specs.Lists.{left, from_last}
use Rattle.lists.proofs.Loops.{Going, going_on, going_out}
use Rattle.blocks.proofs.Joined.{both, stepped, answers_same, in_their_order}
use Rattle.blocks.proofs.conditions.subcondition.Goals as goal

pub loop-entry-preserved : goal.loop-entry-preserved
loop-entry-preserved c cs stand =
    let step : Comparison → Result (Unit {0}) Refusal → Result (Unit {0}) Refusal = λ t r. both (judge_comparison (env_means c.args.env) t) r in
    let on = going_on step IsComparison c.args.nodes.now (left c.loop-entry.entry-iterator) c.in-Some.entry (left c.next.new.self) c.loop-entry.rest (from_last step (Ok tt) cs) c.in-Some.ensures.steps (c.loop-entry.invariant cs stand) in
    subst (λ (b : Result (Unit {0}) Refusal). Going step IsComparison c.args.nodes.now (left c.next.new.self) b (from_last step (Ok tt) cs)) (stepped _ _ _ _ (c.comparison.ensures on.0 on.1) c.and-rest.ensures) on.2

pub returns : goal.returns
returns c cs stand =
    let step : Comparison → Result (Unit {0}) Refusal → Result (Unit {0}) Refusal = λ t r. both (judge_comparison (env_means c.args.env) t) r in
    answers_same c.loop-entry.rest _ (going_out step IsComparison c.args.nodes.now (left c.loop-entry.entry-iterator) c.loop-entry.rest (from_last step (Ok tt) cs) c.in-None.ensures.steps.0 (c.loop-entry.invariant cs stand) ∙ in_their_order (judge_comparison (env_means c.args.env)) cs)
