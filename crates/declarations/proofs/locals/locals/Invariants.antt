use Rattle.std.proofs.Common.{◌-◌, length}
use Rattle.declarations.proofs.Bodies.{LocalsSome}
use Rattle.declarations.proofs.locals.locals.Given as goal

abbrev pub invariant-loop-from : goal.invariant-loop-from
invariant-loop-from l = LocalsSome l.from.depth l.from.symbols.now l.from.next l.from.used l.initial.nodes l.nodes l.at

abbrev pub decreases-loop-from : goal.decreases-loop-from
decreases-loop-from l = length l.from.symbols.now - l.at.next
