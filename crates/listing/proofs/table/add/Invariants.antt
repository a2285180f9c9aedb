use Rattle.std.proofs.Common.{◌≡◌, ◌++◌}
use Rattle.listing.specs.Escapes.{unescaped}
use Rattle.listing.proofs.table.add.Given as goal

abbrev pub invariant-loop-b : goal.invariant-loop-b
invariant-loop-b l = l.bytes.items ++ unescaped l.rest.rest.now ≡ l.initial.bytes.items ++ unescaped l.text
