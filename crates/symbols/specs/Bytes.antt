-- The bytes of a text by their use. Assumes nothing.
use Rattle.std.specs.Prelude.{◌≡◌, ℕ, ◌-◌, Bool, true, cond, not, ◌&&◌, ◌||◌, List, [], ◌∷◌, ◌==◌, nat_le}

abbrev pub within : ℕ → ℕ → ℕ → Bool
within a e b = nat_le a b && nat_le b e

-- layout separates items: tab, new line and space
abbrev pub blank : ℕ → Bool
blank b = b == 9 || b == 10 || b == 32

abbrev pub letter : ℕ → Bool
letter b = within 65 90 b || within 97 122 b

abbrev pub digit : ℕ → Bool
digit b = within 48 57 b

-- a letter, a digit or an underscore
abbrev pub name_byte : ℕ → Bool
name_byte b = letter b || digit b || b == 95

abbrev pub space : ℕ → Bool
space b = b == 32

-- from 32 to 126, but no `"`, `#` and `$`
abbrev pub string_byte : ℕ → Bool
string_byte b = within 32 126 b && not (within 34 36 b)

-- 9, and from 32 to 126, but no `%`
abbrev pub comment_byte : ℕ → Bool
comment_byte b = (b == 9 || within 32 126 b) && not (b == 37)

-- what a digit of any base stands for
abbrev pub digit_value : ℕ → ℕ
digit_value b = cond (nat_le b 57) (b - 48) (b - 55)

-- every byte of the list has the property
abbrev pub Each : (ℕ → Bool) → List ℕ → Type 0
Each p [] = Unit {0}
Each p (b ∷ w) = (p b ≡ true) × Each p w
