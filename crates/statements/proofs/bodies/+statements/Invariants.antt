use Rattle.nodes.specs.Made.{Fewer}
use Rattle.std.proofs.Common.{◌+◌, ◌-◌, ◌*◌, length}
use Rattle.grammar.specs.Machine.{all, statements}
use Rattle.nodes.proofs.Repeat.{SomeMade}
use Rattle.statements.proofs.Blocks.{ArmsMade}
use Rattle.statements.proofs.bodies.+statements.Given as goal

abbrev pub decreases-arm : goal.decreases-arm
decreases-arm l = 8 * l.from.depth + 7

abbrev pub decreases-arms : goal.decreases-arms
decreases-arms l = 8 * l.from.depth + 3

abbrev pub decreases-block : goal.decreases-block
decreases-block l = 8 * l.from.depth + 4

abbrev pub decreases-body : goal.decreases-body
decreases-body l = 8 * l.from.depth + 7

abbrev pub decreases-branch : goal.decreases-branch
decreases-branch l = 8 * l.from.depth + 4

abbrev pub decreases-otherwise : goal.decreases-otherwise
decreases-otherwise l = 8 * l.from.depth + 3

abbrev pub decreases-repeat : goal.decreases-repeat
decreases-repeat l = 8 * l.from.depth + 4

abbrev pub decreases-sequence : goal.decreases-sequence
decreases-sequence l = 8 * l.from.depth + 6

abbrev pub decreases-statement : goal.decreases-statement
decreases-statement l = 8 * l.from.depth + 5

abbrev pub decreases-while_loop : goal.decreases-while_loop
decreases-while_loop l = 8 * l.from.depth + 4

abbrev pub invariant-arms-loop-inside : goal.invariant-arms-loop-inside
invariant-arms-loop-inside l = ArmsMade l.from.depth l.from.symbols.now l.from.next l.from.used l.initial.nodes l.nodes l.at × Fewer l.from.next l.from.used l.at

abbrev pub decreases-arms-loop-inside : goal.decreases-arms-loop-inside
decreases-arms-loop-inside l = length l.from.symbols.now - l.at.next

abbrev pub invariant-sequence-loop-from : goal.invariant-sequence-loop-from
invariant-sequence-loop-from l = SomeMade 1 statements (all statements) l.from.depth l.from.symbols.now l.from.next l.from.used l.initial.nodes l.nodes l.at

abbrev pub decreases-sequence-loop-from : goal.decreases-sequence-loop-from
decreases-sequence-loop-from l = length l.from.symbols.now - l.at.next
