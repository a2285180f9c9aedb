-- What a name means. Assumes nothing.
use Rattle.std.specs.Prelude.{◌≡◌, ℕ, ◌+◌, ◌<◌, Bool, true, false, List, [], ◌++◌, map, filter, length, get_or, Option, slice_index_or}
use Rattle.std.specs.Str.{bytes_eq}
use Rattle.statics.specs.Modes.{Word, Mode, INT, Thing, place}

-- whether two words are the same
abbrev pub same_word : Word → Word → Bool
same_word = bytes_eq

-- What items of the text stand for: a name's word, an integer's value, the number of a string's bytes.
pub record Text : Type 0 where
  pub word : ℕ → Word
  pub value : ℕ → ℕ
  pub size : ℕ → ℕ

-- what a procedure takes and gives
pub record Signature : Type 0 where
  pub takes : List Mode
  pub gives : Option Mode

-- The classes of names: a record mode; a data brick; a data variable, and what its name stands for; a local; a procedure; a component, inside the
-- brackets of its record mode.
pub data Class : Type 0 where
  record_mode : Class
  brick : Class
  stored : Thing → Class
  local : Mode → Class
  routine : Signature → Class
  part : Class

pub record Declared : Type 0 where
  pub word : Word
  pub class : Class

-- a component of a record mode, and the record mode
pub record Component : Type 0 where
  pub owner : Word
  pub word : Word
  pub mode : Mode

-- The names in scope, the innermost last; of them the first `ready` can be used, the others are declared further on. The components of
-- all record modes. What the procedure round it gives.
pub record Env : Type 0 where
  pub text : Text
  pub names : List Declared
  pub ready : ℕ
  pub parts : List Component
  pub result : Option Mode

abbrev pub nobody : Declared
nobody = record { word = []; class = brick }

-- i is the last below n of which P holds
abbrev pub LastOf : ℕ → (ℕ → Type 0) → ℕ → Type 0
LastOf n P i = (i < n) × P i × ((k : ℕ) → i < k → k < n → P k → ⊥)

-- the name at the item n is the innermost declaration i, which can be used
abbrev pub Means : Env → ℕ → ℕ → Type 0
Means Γ n i = LastOf (length Γ.names) (λ k. (get_or Γ.names k nobody).word ≡ Γ.text.word n) i × (i < Γ.ready)

abbrev pub class_at : Env → ℕ → Class
class_at Γ i = (get_or Γ.names i nobody).class

-- the name at n is of a class of which P says a
abbrev pub Called : {A : Type 0} → Env → ℕ → (Class → A → Type 0) → A → Type 0
Called Γ n P a = (i : ℕ) × Means Γ n i × P (class_at Γ i) a

-- What the name of a variable stands for; of a data variable; what a procedure's name has; whether it is a record mode's.
abbrev pub Stands : Class → Thing → Type 0
Stands (stored t) u = u ≡ t
Stands (local m) u = u ≡ place false m
Stands _ u = ⊥

abbrev pub Keeps : Class → Thing → Type 0
Keeps (stored t) u = u ≡ t
Keeps _ u = ⊥

abbrev pub Runs : Class → Signature → Type 0
Runs (routine s) u = u ≡ s
Runs _ u = ⊥

abbrev pub Shapes : Class → Unit {0} → Type 0
Shapes record_mode u = Unit {0}
Shapes _ u = ⊥

-- before brackets with one expression: a variable or a procedure
pub data Head : Type 0 where
  thing : Thing → Head
  signature : Signature → Head

abbrev pub Heads : Class → Head → Type 0
Heads c (thing t) = Stands c t
Heads c (signature s) = Runs c s

abbrev pub no_component : Component
no_component = record { owner = []; word = []; mode = INT }

abbrev pub component_at : Env → ℕ → Component
component_at Γ i = slice_index_or Γ.parts i no_component

-- the component i is one of the record mode r, called w
abbrev pub Belongs : Env → Word → Word → ℕ → Type 0
Belongs Γ r w i = ((component_at Γ i).owner ≡ r) × ((component_at Γ i).word ≡ w)

-- the modes of the components of the record mode r, in their order
abbrev pub record_modes : List Component → Word → List Mode
record_modes cs r = map (λ c. c.mode) (filter (λ c. same_word c.owner r) cs)

-- the component of the record mode r that has the name at n, as a place
abbrev pub Selects : Env → Word → ℕ → Thing → Type 0
Selects Γ r n t = (i : ℕ) × LastOf (length Γ.parts) (Belongs Γ r (Γ.text.word n)) i × (t ≡ place true (component_at Γ i).mode)

-- n more of the names can be used
abbrev pub after : Env → ℕ → Env
after Γ n = record { text = Γ.text; names = Γ.names; ready = Γ.ready + n; parts = Γ.parts; result = Γ.result }

-- more names
abbrev pub inside_of : Env → List Declared → Env
inside_of Γ ds = record { text = Γ.text; names = Γ.names ++ ds; ready = Γ.ready; parts = Γ.parts; result = Γ.result }
