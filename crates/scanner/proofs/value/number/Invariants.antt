use Rattle.std.proofs.Common.{◌≡◌, ◌≤◌, take}
use Rattle.symbols.specs.Items.{written}
use Rattle.scanner.proofs.value.number.Given as goal

abbrev pub invariant-loop-digit : goal.invariant-loop-digit
invariant-loop-digit l = (l.value ≡ written l.base (take l.digit-index l.digits)) × (l.value ≤ 32767)
