use Rattle.std.proofs.Common.{◌≡◌, ◌<◌, ◌^◌, take}
use Rattle.std.specs.List.{sum_by}
use Rattle.resolving.proofs.places.Given as goal

abbrev pub invariant-loop-charge : goal.invariant-loop-charge
invariant-loop-charge l = sum_by (λ c. c.amount) l.charges < 2 ^ 64 → l.places ≡ sum_by (λ c. c.amount) (take l.charge-index l.charges)
