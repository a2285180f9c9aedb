use Rattle.std.proofs.Common.{List, Ok}
use Rattle.grammar.specs.Trees.{Comparison}
use Rattle.nodes.specs.Nodes.{IsComparison}
use Rattle.statics.specs.JudgeExpressions.{judge_comparison}
use Rattle.scopes.specs.Meanings.{env_means}
use Rattle.lists.specs.Lists.{listed, left, Stand, from_last}
use Rattle.lists.proofs.Loops.{Going}
use Rattle.blocks.proofs.Joined.{both}
use Rattle.blocks.proofs.conditions.subcondition.Given as goal

abbrev pub invariant-loop-entry : goal.invariant-loop-entry
invariant-loop-entry l = (cs : List Comparison) → Stand IsComparison cs l.nodes (listed l.nodes l.k) → Going (λ t r. both (judge_comparison (env_means l.env) t) r) IsComparison l.nodes (left l.entry-iterator) l.rest (from_last (λ t r. both (judge_comparison (env_means l.env) t) r) (Ok tt) cs)
