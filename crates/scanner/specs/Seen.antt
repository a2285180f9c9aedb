-- What the functions of the cutter answer, in the words of the twin. Assumes nothing.
use Rattle.std.specs.Prelude.{◌≡◌, ℕ, ◌<◌, ◌≤◌, Bool, false, List, [], ◌∷◌, length, take, drop, Some, None, Ok, Err, codes, Option, Result, ◌≢◌, nat_lt}
use Rattle.std.specs.Borrow.{Bor}
use Rattle.symbols.specs.Spellings.{sign}
use Rattle.symbols.specs.Cut.{max_integer}
use Rattle.symbols.specs.See.{Sight, found, short, stuck, value_of}
use Rattle.symbols.specs.declared.Separator.{Separator}
use Rattle.symbols.specs.declared.Separator.TheVariants.{LeftBracket, RightBracket, Star, Plus, Minus, Comma, Point, Slash, Colon, Semicolon, Less, Equal, Greater, Hash, Becomes, Divide, DoubleSlash, AtMost, AtLeast, Same, Differs}
use Rattle.symbols.specs.declared.Symbol.{Symbol}
use Rattle.symbols.specs.declared.Symbol.TheVariants.{Name as NameSymbol, Integer as IntegerSymbol, Text as TextSymbol, Word as WordSymbol, Mark as MarkSymbol}
use Rattle.scanner.specs.declared.item.Item.{Item}
use Rattle.scanner.specs.declared.item.Item.TheVariants.{Name, Word, Integer, Text, Mark, Comment}
use Rattle.scanner.specs.declared.item.Stop.{Stop}
use Rattle.scanner.specs.declared.item.Stop.TheVariants.{Short, Stuck}

-- the part of the text that an item covers
abbrev pub bytes_of : Item → List ℕ
bytes_of (Name s) = s.now
bytes_of (Word k s) = s.now
bytes_of (Integer s) = s.now
bytes_of (Text s) = s.now
bytes_of (Mark m s) = s.now
bytes_of (Comment s) = s.now

-- what its kind is called
abbrev pub kind_of : Item → List ℕ
kind_of (Name s) = codes "name"
kind_of (Word k s) = codes "keyword"
kind_of (Integer s) = codes "integer"
kind_of (Text s) = codes "string"
kind_of (Mark m s) = codes "separator"
kind_of (Comment s) = codes "comment"

-- its symbol: a comment has none
abbrev pub symbol_of : Item → Option Symbol
symbol_of (Name s) = Some NameSymbol
symbol_of (Word k s) = Some (WordSymbol k)
symbol_of (Integer s) = Some IntegerSymbol
symbol_of (Text s) = Some TextSymbol
symbol_of (Mark m s) = Some (MarkSymbol m)
symbol_of (Comment s) = None

-- it is an integer that is too large
abbrev pub large_of : Item → Bool
large_of (Name s) = false
large_of (Word k s) = false
large_of (Integer s) = nat_lt max_integer (value_of s.now)
large_of (Text s) = false
large_of (Mark m s) = false
large_of (Comment s) = false

-- at the front of t the item is seen
pub record Shows (t : List ℕ) (x : Sight) (i : Item) : Type 0 where
  pub seen : x ≡ found (symbol_of i) (length (bytes_of i))
  pub front : bytes_of i ≡ take (length (bytes_of i)) t
  pub fits : length (bytes_of i) ≤ length t

abbrev pub Sees : List ℕ → Sight → Result Item Stop → Type 0
Sees t x (Ok i) = Shows t x i
Sees t x (Err Short) = x ≡ short
Sees t x (Err (Stuck n)) = x ≡ stuck n

-- the part r of t, whatever its symbol
abbrev pub Part : List ℕ → (Option Symbol → Sight) → Result (Bor (List ℕ)) Stop → Type 0
Part t x (Ok r) =
    ((f : Option Symbol) → x f ≡ found f (length r.now)) × (r.now ≡ take (length r.now) t) × (length r.now ≤ length t)
Part t x (Err Short) = (f : Option Symbol) → x f ≡ short
Part t x (Err (Stuck n)) = (f : Option Symbol) → x f ≡ stuck n

-- t begins with the separator
abbrev pub Leads : Separator → List ℕ → Type 0
Leads s t = take (length (sign s)) t ≡ sign s

-- and with none of these
abbrev pub Unled : List Separator → List ℕ → Type 0
Unled [] t = Unit {0}
Unled (s ∷ ss) t = (Leads s t → ⊥) × Unled ss t

-- the separators that are longer than s and have s as a front part
abbrev pub longer : Separator → List Separator
longer LeftBracket = []
longer RightBracket = []
longer Star = []
longer Plus = []
longer Minus = []
longer Comma = []
longer Point = []
longer Slash = DoubleSlash ∷ []
longer Colon = Same ∷ Differs ∷ Becomes ∷ Divide ∷ []
longer Semicolon = []
longer Less = AtMost ∷ []
longer Equal = []
longer Greater = AtLeast ∷ []
longer Hash = []
longer Becomes = Same ∷ []
longer Divide = []
longer DoubleSlash = []
longer AtMost = []
longer AtLeast = []
longer Same = []
longer Differs = []

abbrev pub compounds : List Separator
compounds = Same ∷ Differs ∷ Becomes ∷ Divide ∷ DoubleSlash ∷ AtMost ∷ AtLeast ∷ []

-- a separator at the front of t, the longest that stands there, and the rest
abbrev pub Longest : List ℕ → Separator × Bor (List ℕ) → Type 0
Longest t p = Leads p.0 t × (p.1.now ≡ drop (length (sign p.0)) t) × Unled (longer p.0) t

-- the longest separator at the front of t; or none of several bytes stands there
abbrev pub Compound : List ℕ → Option (Separator × Bor (List ℕ)) → Type 0
Compound t None = Unled compounds t
Compound t (Some p) = Longest t p

-- the separator of one byte
abbrev pub SimpleIs : ℕ → Option Separator → Type 0
SimpleIs b None = (s : Separator) → sign s ≢ b ∷ []
SimpleIs b (Some s) = sign s ≡ b ∷ []

-- the longest separator at the front of t; or none stands there
abbrev pub Marked : List ℕ → Option (Separator × Bor (List ℕ)) → Type 0
Marked t None = (s : Separator) → Leads s t → ⊥
Marked t (Some p) = Longest t p

-- v, or that it is too large
abbrev pub Small : ℕ → Option ℕ → Type 0
Small v None = max_integer < v
Small v (Some n) = (n ≡ v) × (v ≤ max_integer)
