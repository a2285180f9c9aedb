use Rattle.std.proofs.Common.{◌≡◌}
use Rattle.std.specs.List.{repeat}
use Rattle.listing.specs.Escapes.{unescaped}
use Rattle.listing.proofs.table.expand.Given as goal

abbrev pub invariant-loop : goal.invariant-loop
invariant-loop l = l.bytes.items ≡ repeat l.counter (unescaped l.text)
