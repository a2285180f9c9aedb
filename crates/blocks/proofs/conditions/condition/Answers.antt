use Rattle.std.proofs.Common.{Result, ℕ, List, sym, ap, subst, ◌∙◌}
use Rattle.grammar.specs.Trees.{Comparison}
use Rattle.nodes.specs.Nodes.{IsComparison}
use Rattle.statics.specs.declared.Refusal.{Refusal}
use Rattle.statics.specs.JudgeExpressions.{judge_comparison, judge_condition}
use Rattle.scopes.specs.Meanings.{env_means}
use Rattle.lists.specs.Lists.{left, listed, of_each, comparisons, Stand}
use Rattle.lists.proofs.Loops.{Going, going_over, going_out}
use Rattle.blocks.proofs.Joined.{both, stepped, answers_same, carried, condition_judged}
use Rattle.blocks.proofs.conditions.condition.Goals as goal

pub loop-entry-init : goal.loop-entry-init
loop-entry-init c t is = (comparisons t, subst (λ (ks : List ℕ). Stand IsComparison (comparisons t) c.args.nodes.now (of_each c.args.nodes.now ks)) (ap left (sym c.into_iter-entry-iterator.ensures.into_iter_gives)) (c.entries-entry-items.ensures.conditions t is), sym (condition_judged (env_means c.args.env) t))

pub loop-entry-preserved : goal.loop-entry-preserved
loop-entry-preserved c t is =
    let step : Comparison → Result (Unit {0}) Refusal → Result (Unit {0}) Refusal = λ s r. both (judge_comparison (env_means c.args.env) s) r in
    let now = subst (λ (ks : List ℕ). Going step IsComparison c.args.nodes.now (of_each c.args.nodes.now ks) c.loop-entry.rest (judge_condition (env_means c.args.env) t)) c.in-Some.ensures.steps (c.loop-entry.invariant t is) in
    let on = going_over step IsComparison c.args.nodes.now (listed c.args.nodes.now c.in-Some.entry) (of_each c.args.nodes.now (left c.next.new.self)) c.loop-entry.rest (judge_condition (env_means c.args.env) t) now in
    subst (λ (b : Result (Unit {0}) Refusal). Going step IsComparison c.args.nodes.now (of_each c.args.nodes.now (left c.next.new.self)) b (judge_condition (env_means c.args.env) t)) (carried (judge_comparison (env_means c.args.env)) c.loop-entry.rest on.0 ∙ stepped _ _ _ _ (c.subcondition.ensures on.0 on.1) c.and-rest.ensures) on.2

pub returns : goal.returns
returns c t is =
    let step : Comparison → Result (Unit {0}) Refusal → Result (Unit {0}) Refusal = λ s r. both (judge_comparison (env_means c.args.env) s) r in
    answers_same c.loop-entry.rest _ (going_out step IsComparison c.args.nodes.now (of_each c.args.nodes.now (left c.loop-entry.entry-iterator)) c.loop-entry.rest (judge_condition (env_means c.args.env) t) (ap (of_each c.args.nodes.now) c.in-None.ensures.steps.0) (c.loop-entry.invariant t is))
