use Rattle.nodes.specs.Made.{Fewer}
use Rattle.std.proofs.Common.{◌-◌, length}
use Rattle.statements.proofs.Targets.{TargetsMade}
use Rattle.statements.proofs.assignments.assignment.Given as goal

abbrev pub invariant-loop-d : goal.invariant-loop-d
invariant-loop-d l = TargetsMade l.from.depth l.from.symbols.now l.from.next l.from.used l.initial.nodes l.nodes l.at × Fewer l.from.next l.from.used l.at

abbrev pub decreases-loop-d : goal.decreases-loop-d
decreases-loop-d l = length l.from.symbols.now - l.at.next
