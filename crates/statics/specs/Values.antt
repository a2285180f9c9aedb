-- The rules of initial values in a data brick. Assumes nothing.
use Rattle.std.specs.Prelude.{◌≡◌, ℕ, suc, ◌+◌, ◌<◌, Bool, true, false, ◌⊎◌, List, [], ◌∷◌, length, Some, None, Option, slice_get}
use Rattle.statics.specs.declared.Refusal.{Refusal}
use Rattle.statics.specs.declared.Refusal.TheVariants.{WrongName, Misfit}
use Rattle.grammar.specs.Trees.{Value, constant, signed, minus_signed, identifier, string, empty_list, list, Values, only, and, Entry, once, repeated}
use Rattle.statics.specs.Modes.{Word, int, byte, Mode, plain, ref, ref_record, ref_array, Element, simple, records, BYTE, Thing, place, array, structure}
use Rattle.statics.specs.Laws.{Wrongs, Both, Under, Lacks, Clean}
use Rattle.statics.specs.Scopes.{Env, Called, Keeps, record_modes}
use Rattle.statics.specs.Statements.{Starts}

-- What a value is to be put into: nothing in particular; a place of a mode; an array of so many elements; a record.
pub data Want : Type 0 where
  free : Want
  simply : Mode → Want
  several : ℕ → Element → Want
  recorded : Word → Want

-- what the values of a list are put into
abbrev pub element_want : Element → Want
element_want (simple m) = simply m
element_want (records r) = recorded r

abbrev pub component_want : Option Mode → Want
component_want None = free
component_want (Some m) = simply m

abbrev pub inner : Env → Want → ℕ → Want
inner Γ (several n e) k = element_want e
inner Γ (recorded r) k = component_want (slice_get (record_modes Γ.parts r) k)
inner Γ _ k = free

-- An integer: for INT any, for BYTE one up to 255 without a sign.
abbrev pub TakesInteger : Want → Bool → ℕ → Unit {0} → Type 0
TakesInteger free s v u = Unit {0}
TakesInteger (simply (plain int)) s v u = Unit {0}
TakesInteger (simply (plain byte)) s v u = (s ≡ false) × (v < 256)
TakesInteger _ s v u = ⊥

-- the mode of a reference to what a data variable's name stands for
abbrev pub address_mode : Thing → Option Mode
address_mode (place b (plain k)) = Some (ref k)
address_mode (array e) = Some (ref_array e)
address_mode (structure r) = Some (ref_record r)
address_mode _ = None

-- A name gives its address, never its contents.
abbrev pub TakesName : Want → Thing → Unit {0} → Type 0
TakesName free t u = Unit {0}
TakesName (simply m) t u = address_mode t ≡ Some m
TakesName _ t u = ⊥

-- A string: for REF ARRAY BYTE, or for an array of exactly as many BYTEs.
abbrev pub TakesString : Want → ℕ → Unit {0} → Type 0
TakesString free k u = Unit {0}
TakesString (simply m) k u = m ≡ ref_array (simple BYTE)
TakesString (several n e) k u = (e ≡ simple BYTE) × (n ≡ k)
TakesString (recorded r) k u = ⊥

-- A list of k values, n with their repetitions: as many as elements or components.
abbrev pub TakesList : Env → Want → ℕ → ℕ → Unit {0} → Type 0
TakesList Γ free k n u = Unit {0}
TakesList Γ (simply m) k n u = ⊥
TakesList Γ (several l e) k n u = n ≡ l
TakesList Γ (recorded r) k n u = k ≡ length (record_modes Γ.parts r)

-- In a record's list no value is repeated.
abbrev pub Repeats : Want → Unit {0} → Type 0
Repeats (recorded r) u = ⊥
Repeats _ u = Unit {0}

abbrev pub times : (ℕ → ℕ) → Entry → ℕ
times f (once v) = 1
times f (repeated v i n) = f n

abbrev pub total : (ℕ → ℕ) → Values → ℕ
total f (only e) = times f e
total f (and vs e) = total f vs + times f e

abbrev pub how_many : Values → ℕ
how_many (only e) = 1
how_many (and vs e) = suc (how_many vs)

abbrev pub front_value : Value → ℕ
front_value (constant i) = i
front_value (signed s i) = s
front_value (minus_signed s i) = s
front_value (identifier n) = n
front_value (string i) = i
front_value (empty_list i) = i
front_value (list i vs) = i

-- if nothing of W is wrong, K is asked for: else f
abbrev pub ThenAsk : Wrongs → (Unit {0} → Type 0) → Refusal → Wrongs
ThenAsk W K f = Both W (Under (Clean W) (λ u. Lacks K f))

abbrev mutual
  pub initial : Env → Want → Value → Wrongs
  initial Γ w (constant i) = Lacks (TakesInteger w false (Γ.text.value i)) (Misfit i)
  initial Γ w (signed s i) = Lacks (TakesInteger w true (Γ.text.value i)) (Misfit s)
  initial Γ w (minus_signed s i) = Lacks (TakesInteger w true (Γ.text.value i)) (Misfit s)
  initial Γ w (identifier n) = Both (Lacks (Called Γ n Keeps) (WrongName n)) (Under (Called Γ n Keeps) (λ t. Lacks (TakesName w t) (Misfit n)))
  initial Γ w (string i) = Lacks (TakesString w (Γ.text.size i)) (Misfit i)
  initial Γ w (empty_list i) = Lacks (TakesList Γ w 0 0) (Misfit i)
  initial Γ w (list i vs) = ThenAsk (listed Γ w vs) (TakesList Γ w (how_many vs) (total Γ.text.value vs)) (Misfit i)

  pub listed : Env → Want → Values → Wrongs
  listed Γ w (only e) = an_entry Γ w 0 e
  listed Γ w (and vs e) = Both (listed Γ w vs) (an_entry Γ w (how_many vs) e)

  pub an_entry : Env → Want → ℕ → Entry → Wrongs
  an_entry Γ w k (once v) = initial Γ (inner Γ w k) v
  an_entry Γ w k (repeated v i n) = ThenAsk (initial Γ (inner Γ w k) v) (Repeats w) (Misfit (front_value v))

-- Without a value: no REF place in it.
abbrev pub AllStart : List Mode → Unit {0} → Type 0
AllStart [] u = Unit {0}
AllStart (m ∷ ms) u = Starts m u × AllStart ms u

abbrev pub ElementStarts : Env → Element → Unit {0} → Type 0
ElementStarts Γ (simple m) u = Starts m u
ElementStarts Γ (records r) u = AllStart (record_modes Γ.parts r) u

abbrev pub Valueless : Env → Want → Unit {0} → Type 0
Valueless Γ free u = Unit {0}
Valueless Γ (simply m) u = Starts m u
Valueless Γ (several n e) u = (n ≡ 0) ⊎ ElementStarts Γ e u
Valueless Γ (recorded r) u = AllStart (record_modes Γ.parts r) u
