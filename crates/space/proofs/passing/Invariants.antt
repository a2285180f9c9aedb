use Rattle.std.proofs.Common.{◌≡◌, ◌≤◌, map, drop}
use Rattle.statics.specs.JudgeLimits.{passing as passing_of}
use Rattle.space.specs.Charges.{charge_means}
use Rattle.space.proofs.passing.Given as goal

abbrev pub invariant-loop-charge : goal.invariant-loop-charge
invariant-loop-charge l =
    (l.used ≤ 4096)
    × (passing_of 4096 0 (map charge_means l.charges) ≡ passing_of 4096 l.used (map charge_means (drop l.charge-index l.charges)))
