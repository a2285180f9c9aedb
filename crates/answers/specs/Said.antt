-- The line that says a decline. Assumes nothing.
use Rattle.std.specs.Prelude.{◌≡◌, ℕ, ◌<◌, ◌≤◌, List, [], ◌∷◌, ◌++◌, length, take, drop, Some, None, Option}
use Rattle.answers.specs.Declines.{number_of, place_of}
use Rattle.answers.specs.Figures.{IsDecimal}
use Rattle.answers.specs.Lines.{line_of, column_of}
use Rattle.answers.specs.declared.Decline.{Decline}

-- the line, the column and the number in figures, with `:`, `: ` and a byte 10
pub record Says (d : Decline) (text line : List ℕ) : Type 0 where
  pub row : List ℕ
  pub column : List ℕ
  pub number : List ℕ
  pub row_is : IsDecimal (line_of text (place_of d).offset) row
  pub column_is : IsDecimal (column_of text (place_of d).offset) column
  pub number_is : IsDecimal (number_of d) number
  pub parts : line ≡ row ++ (58 ∷ (column ++ (58 ∷ 32 ∷ (number ++ (10 ∷ [])))))

-- the first n bytes of the buffer say the decline, and nothing else of it changed; or it is too short, and nothing changed
abbrev pub LineOf : Decline → List ℕ → List ℕ → List ℕ → Option ℕ → Type 0
LineOf d text before after None = (length before < 16) × (after ≡ before)
LineOf d text before after (Some n) =
    (n ≤ 16) × (16 ≤ length before) × Says d text (take n after) × (drop n after ≡ drop n before)
