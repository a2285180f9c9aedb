use Rattle.std.specs.Prelude.{◌≡◌, ℕ, ◌+◌, ◌≤◌, ◌⊎◌, List, ◌∷◌, ◌++◌, length, ℤ, pos, neg_ℤ, Some, None, codes, Option, FitsSigned}
use Rattle.std.specs.Int.{w16}
use Rattle.std.specs.Str.Parse.{AllDigits, digits_value}
use Rattle.gatelog.specs.declared.commands.Command.{Command}
use Rattle.gatelog.specs.declared.commands.Command.TheVariants.{Record, Flush, Off}
use Rattle.gatelog.specs.Entries.{Valid}

-- One to five decimal figures.
pub record Figures (text : List ℕ) : Type 0 where
  pub some : 1 ≤ length text
  pub few : length text ≤ 5
  pub digits : AllDigits 10 text

-- A text writes a position: figures, with a minus sign before them or none, and the number has 16 bits.
pub record Writes (text : List ℕ) (position : ℤ) : Type 0 where
  pub figures :
      (Figures text × (position ≡ pos (digits_value 10 text)))
      ⊎ ((rest : List ℕ) × (text ≡ 45 ∷ rest) × Figures rest × (position ≡ neg_ℤ (pos (digits_value 10 rest))))
  pub fits : FitsSigned w16 position

-- A line says a command: `gate`, a space, a figure from 1 to 9, a space and a position; or `flush`; or `off`.
abbrev pub Says : List ℕ → Command → Type 0
Says line (Record e) =
    Valid e × ((text : List ℕ) × (line ≡ codes "gate " ++ ((48 + e.gate) ∷ 32 ∷ text)) × Writes text e.position)
Says line Flush = line ≡ codes "flush"
Says line Off = line ≡ codes "off"

-- The answer is the command that the line says, and none where it says none.
abbrev pub Understood : List ℕ → Option Command → Type 0
Understood line (Some c) = Says line c
Understood line None = (c : Command) → Says line c → ⊥

-- The same of a position.
abbrev pub ReadPosition : List ℕ → Option ℤ → Type 0
ReadPosition text (Some z) = Writes text z
ReadPosition text None = (z : ℤ) → Writes text z → ⊥
