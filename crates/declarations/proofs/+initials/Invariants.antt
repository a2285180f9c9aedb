use Rattle.std.proofs.Common.{◌+◌, ◌-◌, ◌*◌, length}
use Rattle.grammar.specs.Machine.{all, entries}
use Rattle.nodes.proofs.Repeat.{SomeMade}
use Rattle.declarations.proofs.+initials.Given as goal

abbrev pub decreases-values : goal.decreases-values
decreases-values l = 4 * l.from.depth + 3

abbrev pub decreases-entry : goal.decreases-entry
decreases-entry l = 4 * l.from.depth + 2

abbrev pub decreases-value : goal.decreases-value
decreases-value l = 4 * l.from.depth + 1

abbrev pub decreases-list : goal.decreases-list
decreases-list l = 4 * l.from.depth

abbrev pub invariant-values-loop-from : goal.invariant-values-loop-from
invariant-values-loop-from l = SomeMade 0 entries (all entries) l.from.depth l.from.symbols.now l.from.next l.from.used l.initial.nodes l.nodes l.at

abbrev pub decreases-values-loop-from : goal.decreases-values-loop-from
decreases-values-loop-from l = length l.from.symbols.now - l.at.next
