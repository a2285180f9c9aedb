-- How a number is written in decimal figures. Assumes nothing.
use Rattle.std.specs.Prelude.{◌≡◌, ℕ, ◌-◌, ◌<◌, ◌≤◌, List, map, length, ◌≢◌, slice_index}
use Rattle.std.specs.Int.Digits.{number_from_digits}
use Rattle.std.specs.List.{AllByRecursion}

-- a figure, from 0 to 9
abbrev pub IsFigure : ℕ → Type 0
IsFigure b = (48 ≤ b) × (b ≤ 57)

-- the figures ds are of n: read as decimal they give n, and the first of several is no 0
pub record IsDecimal (n : ℕ) (ds : List ℕ) : Type 0 where
  pub figures : AllByRecursion IsFigure ds
  pub value : number_from_digits 10 (map (λ b. b - 48) ds) ≡ n
  pub some : 0 < length ds
  pub front : 1 < length ds → slice_index ds 0 ≢ 48
