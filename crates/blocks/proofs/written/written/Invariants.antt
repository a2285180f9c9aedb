use Rattle.std.proofs.Common.{◌≡◌}
use Rattle.grammar.specs.Trees.{Amode}
use Rattle.nodes.specs.Nodes.{IsAmode}
use Rattle.statics.specs.JudgeStatements.{judge_element}
use Rattle.scopes.specs.Meanings.{env_means}
use Rattle.blocks.proofs.written.written.Given as goal

abbrev pub invariant-loop-inner : goal.invariant-loop-inner
invariant-loop-inner l = (m : Amode) → IsAmode m l.nodes l.k → (n : Amode) × IsAmode n l.nodes l.at × (judge_element (env_means l.env) m ≡ judge_element (env_means l.env) n)

abbrev pub decreases-loop-inner : goal.decreases-loop-inner
decreases-loop-inner l = l.at
