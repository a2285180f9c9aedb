use Rattle.std.proofs.Common.{◌-◌, length}
use Rattle.declarations.specs.Referring.{Behind}
use Rattle.declarations.proofs.innermost.Given as goal

abbrev pub invariant-loop-from : goal.invariant-loop-from
invariant-loop-from l = Behind l.from.depth l.from.symbols.now l.from.next l.i

abbrev pub decreases-loop-from : goal.decreases-loop-from
decreases-loop-from l = length l.from.symbols.now - l.i
