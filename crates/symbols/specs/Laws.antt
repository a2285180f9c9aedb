-- The laws of items and of the cut that functions of this crate promise. Assumes nothing.
use Rattle.std.specs.Prelude.{◌≡◌, ℕ, ◌<◌, ◌≤◌, List, [], ◌∷◌, length, Ok, Err, codes, Option, Result}
use Rattle.answers.specs.Declines.{place}
use Rattle.answers.specs.declared.Decline.{Decline}
use Rattle.answers.specs.declared.Decline.TheVariants.{IntegerTooLarge}
use Rattle.symbols.specs.Items.{IsInteger, IsItem, Spells}
use Rattle.symbols.specs.Cut.{Verdict, entry, covered}
use Rattle.symbols.specs.Twin.{verdict}
use Rattle.symbols.specs.declared.Symbol.{Symbol}
use Rattle.symbols.specs.declared.Symbol.TheVariants.{Integer, Mark, Word}
use Rattle.symbols.specs.declared.Separator.TheVariants.{Same}
use Rattle.symbols.specs.declared.Keyword.TheVariants.{Bin}
use Rattle.symbols.specs.declared.Entry.{Entry}

-- the rules give every text one answer and no second, and it is the twin's
pub record OneAnswer : Type 0 where
  pub some : (t : List ℕ) → Verdict t (verdict t)
  pub one : (t : List ℕ) (r s : Result (List Entry) Decline) → Verdict t r → Verdict t s → r ≡ s

-- an item is of one symbol only, and an integer has one value
pub record OneMeaning : Type 0 where
  pub symbol : (f g : Option Symbol) (w : List ℕ) → IsItem f w → IsItem g w → f ≡ g
  pub value : (u v : ℕ) (w : List ℕ) → IsInteger w u → IsInteger w v → u ≡ v

-- the items es stand in the text t from the place p on, one behind the other, each as its symbol is spelled
abbrev pub Laid : List ℕ → ℕ → List Entry → Type 0
Laid t p [] = Unit {0}
Laid t p (e ∷ es) =
    (p ≤ e.start.offset) × (e.start.offset < e.end.offset) × (e.end.offset ≤ length t) × Spells e.symbol (covered t e)
    × Laid t e.end.offset es

abbrev pub InOrder : Type 0
InOrder = (t : List ℕ) (es : List Entry) → Verdict t (Ok es) → Laid t 0 es

-- `:=:` is cut into n items: one
abbrev pub SameIs : ℕ → Type 0
SameIs n = (n ≡ 1) × Verdict (codes ":=:") (Ok (entry (Mark Same) 0 3 ∷ []))

-- `HEX 1F` is cut into one item, an integer, and v is its value
abbrev pub HexIs : ℕ → Type 0
HexIs v = Verdict (codes "HEX 1F") (Ok (entry Integer 0 6 ∷ [])) × IsInteger (codes "HEX 1F") v

-- `BIN 2` is cut into n items: two
abbrev pub BinIs : ℕ → Type 0
BinIs n = (n ≡ 2) × Verdict (codes "BIN 2") (Ok (entry (Word Bin) 0 3 ∷ entry Integer 4 5 ∷ []))

-- 32767 is accepted, as an integer of the value v, and 32768 is declined
pub record Bound (v : ℕ) : Type 0 where
  pub accepted : Verdict (codes "32767") (Ok (entry Integer 0 5 ∷ []))
  pub value : IsInteger (codes "32767") v
  pub above : Verdict (codes "32768") (Err (IntegerTooLarge (place 0)))

-- r is the answer to t, and no other is
pub record Answer (t : List ℕ) (r : Result (List Entry) Decline) : Type 0 where
  pub meets : Verdict t r
  pub only : (s : Result (List Entry) Decline) → Verdict t s → s ≡ r
