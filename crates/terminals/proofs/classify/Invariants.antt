use Rattle.std.proofs.Common.{◌≡◌, take, drop}
use Rattle.terminals.specs.Signs.{signs}
use Rattle.terminals.proofs.classify.Given as goal

abbrev pub invariant-loop-i : goal.invariant-loop-i
invariant-loop-i l = (take l.i l.out ≡ take l.i (signs l.items)) × (drop l.i l.out ≡ drop l.i l.initial.out)
