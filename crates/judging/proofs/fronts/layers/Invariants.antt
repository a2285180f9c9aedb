use Rattle.std.proofs.Common.{◌≡◌, ◌+◌, ◌≤◌}
use Rattle.grammar.specs.Trees.{Variable}
use Rattle.nodes.specs.Nodes.{IsVariable}
use Rattle.judging.specs.Openings.{layers}
use Rattle.judging.proofs.fronts.layers.Given as goal

-- the layers counted, and those that are left
abbrev pub invariant-loop-left : goal.invariant-loop-left
invariant-loop-left l = (l.count + l.at ≤ l.k) × ((v : Variable) → IsVariable v l.nodes l.k → (w : Variable) × IsVariable w l.nodes l.at × (layers v ≡ l.count + layers w))

abbrev pub decreases-loop-left : goal.decreases-loop-left
decreases-loop-left l = l.at
