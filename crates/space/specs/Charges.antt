-- What the charges of the code stand for in the rules. Assumes nothing.
use Rattle.std.specs.Prelude.{ℕ}
use Rattle.statics.specs.Space as rules
use Rattle.space.specs.declared.Charge.{Charge}

abbrev pub charge_means : Charge → rules.Charge
charge_means c = record { item = c.item; amount = c.amount }

-- the places k for the name n
abbrev pub charge : ℕ → ℕ → rules.Charge
charge k n = record { item = n; amount = k }
