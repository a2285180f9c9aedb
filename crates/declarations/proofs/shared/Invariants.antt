use Rattle.nodes.specs.Made.{Fewer}
use Rattle.std.proofs.Common.{◌-◌, length}
use Rattle.declarations.proofs.Sharing.{NamesMade}
use Rattle.declarations.proofs.shared.Given as goal

abbrev pub invariant-loop-nodes : goal.invariant-loop-nodes
invariant-loop-nodes l = NamesMade l.from.symbols.now l.from.next l.from.used l.initial.nodes l.nodes l.at × Fewer l.from.next l.from.used l.at

abbrev pub decreases-loop-nodes : goal.decreases-loop-nodes
decreases-loop-nodes l = length l.from.symbols.now - l.at.next
