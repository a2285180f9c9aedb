use Rattle.std.proofs.Common.{◌≤◌}
use Rattle.grammar.specs.Trees.{Variable}
use Rattle.nodes.specs.Nodes.{IsVariable}
use Rattle.judging.specs.Openings.{layer}
use Rattle.judging.proofs.fronts.layer.Given as goal

-- so many layers are taken off
abbrev pub invariant-loop : goal.invariant-loop
invariant-loop l = (l.at ≤ l.k) × ((v : Variable) → IsVariable v l.nodes l.k → IsVariable (layer v l.counter) l.nodes l.at)
