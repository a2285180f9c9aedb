-- Which lists of bytes are items, and of which symbol. Assumes nothing.
use Rattle.std.specs.Prelude.{◌≡◌, ℕ, suc, Bool, true, List, [], ◌∷◌, ◌++◌, map, replicate, Some, None, Option, ◌≢◌}
use Rattle.std.specs.Int.Digits.{number_from_digits}
use Rattle.names.specs.Spelling.{uppers}
use Rattle.symbols.specs.Bytes.{letter, digit, name_byte, string_byte, comment_byte, digit_value, Each}
use Rattle.symbols.specs.Spellings.{spelling, sign, base_word, radix, digit_in}
use Rattle.symbols.specs.declared.Keyword.{Keyword}
use Rattle.symbols.specs.declared.Base.{Base}
use Rattle.symbols.specs.declared.Symbol.{Symbol}
use Rattle.symbols.specs.declared.Symbol.TheVariants.{Name, Integer, Text, Word, Mark}

-- a name is a letter, then letters, digits and underscores
abbrev pub IsName : List ℕ → Type 0
IsName [] = ⊥
IsName (b ∷ w) = (letter b ≡ true) × Each name_byte w

-- the number that digits write in a base
abbrev pub written : ℕ → List ℕ → ℕ
written base ds = number_from_digits base (map digit_value ds)

-- an integer is decimal digits; or the word of a base in any case of its letters, one or more spaces and digits of that base; or one
-- string character between two quotes. w is one, and stands for v
pub data IsInteger (w : List ℕ) (v : ℕ) : Type 0 where
  decimal : (d : ℕ) (ds : List ℕ) → w ≡ d ∷ ds → Each digit (d ∷ ds) → v ≡ written 10 (d ∷ ds) → IsInteger w v
  based :
      (base : Base) (word : List ℕ) (n : ℕ) (d : ℕ) (ds : List ℕ)
      → w ≡ word ++ (replicate (suc n) 32 ++ (d ∷ ds))
      → uppers word ≡ base_word base
      → Each (digit_in base) (d ∷ ds)
      → v ≡ written (radix base) (d ∷ ds)
      → IsInteger w v
  quoted : (c : ℕ) → w ≡ 39 ∷ c ∷ 39 ∷ [] → string_byte c ≡ true → v ≡ c → IsInteger w v

-- w is the bytes cs, each of one property, between two bytes q
abbrev pub Encloses : ℕ → (ℕ → Bool) → List ℕ → List ℕ → Type 0
Encloses q p w cs = (w ≡ q ∷ (cs ++ (q ∷ []))) × Each p cs

abbrev pub Enclosed : ℕ → (ℕ → Bool) → List ℕ → Type 0
Enclosed q p w = (cs : List ℕ) × Encloses q p w cs

-- a string stands between two bytes 34, and cs are its bytes; a comment stands between two bytes 37
abbrev pub IsStringOf : List ℕ → List ℕ → Type 0
IsStringOf w cs = Encloses 34 string_byte w cs

abbrev pub IsString : List ℕ → Type 0
IsString w = Enclosed 34 string_byte w

abbrev pub IsComment : List ℕ → Type 0
IsComment w = Enclosed 37 comment_byte w

-- the items of each symbol: a name that no keyword spells is an identifier
abbrev pub Spells : Symbol → List ℕ → Type 0
Spells Name w = IsName w × ((k : Keyword) → uppers w ≢ spelling k)
Spells (Word k) w = IsName w × (uppers w ≡ spelling k)
Spells Integer w = (v : ℕ) × IsInteger w v
Spells Text w = IsString w
Spells (Mark s) w = w ≡ sign s

-- the items: a comment has no symbol
abbrev pub IsItem : Option Symbol → List ℕ → Type 0
IsItem None w = IsComment w
IsItem (Some s) w = Spells s w

abbrev pub Item : List ℕ → Type 0
Item w = (f : Option Symbol) × IsItem f w

-- some item has w as a front part
abbrev pub Begins : List ℕ → Type 0
Begins w = (v : List ℕ) × Item (w ++ v)
