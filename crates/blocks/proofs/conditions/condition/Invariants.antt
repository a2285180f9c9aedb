use Rattle.grammar.specs.Trees.{Condition}
use Rattle.nodes.specs.Nodes.{IsComparison, IsCondition}
use Rattle.statics.specs.JudgeExpressions.{judge_comparison, judge_condition}
use Rattle.scopes.specs.Meanings.{env_means}
use Rattle.lists.specs.Lists.{of_each, left}
use Rattle.lists.proofs.Loops.{Going}
use Rattle.blocks.proofs.Joined.{both}
use Rattle.blocks.proofs.conditions.condition.Given as goal

abbrev pub invariant-loop-entry : goal.invariant-loop-entry
invariant-loop-entry l = (t : Condition) → IsCondition t l.nodes l.k → Going (λ c r. both (judge_comparison (env_means l.env) c) r) IsComparison l.nodes (of_each l.nodes (left l.entry-iterator)) l.rest (judge_condition (env_means l.env) t)
