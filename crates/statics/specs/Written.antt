-- Written modes, what they mean, and what is wrong with them. Assumes nothing.
use Rattle.std.specs.Prelude.{ℕ, List, [], ◌∷◌, ◌++◌, map}
use Rattle.statics.specs.declared.Refusal.TheVariants.{WrongName}
use Rattle.grammar.specs.Trees.{Many, one, more, Init, given}
use Rattle.grammar.specs.Trees as tree
use Rattle.statics.specs.Modes.{int, byte, Mode, plain, ref, ref_record, ref_array, Element, simple, records}
use Rattle.statics.specs.Laws.{Wrongs, Never, Lacks}
use Rattle.statics.specs.Scopes.{Text, Env, Called, Shapes, Class, Declared}

-- Modes go by a record mode's name, known or not.
abbrev mutual
  pub mode_of : Text → tree.Mode → Mode
  mode_of x tree.int = plain int
  mode_of x (tree.byte i) = plain byte
  mode_of x tree.ref_int = ref int
  mode_of x (tree.ref_byte i) = ref byte
  mode_of x (tree.ref_record n) = ref_record (x.word n)
  mode_of x (tree.ref_array m) = ref_array (element_of x m)
  mode_of x (tree.ref_array_brackets i m) = ref_array (element_of x m)

  pub element_of : Text → tree.Amode → Element
  element_of x (tree.simple m) = simple (mode_of x m)
  element_of x (tree.records n) = records (x.word n)

-- a name in a mode must be that of a record mode
abbrev pub record_name : Env → ℕ → Wrongs
record_name Γ n = Lacks (Called Γ n Shapes) (WrongName n)

abbrev mutual
  pub written : Env → tree.Mode → Wrongs
  written Γ tree.int = Never
  written Γ (tree.byte i) = Never
  written Γ tree.ref_int = Never
  written Γ (tree.ref_byte i) = Never
  written Γ (tree.ref_record n) = record_name Γ n
  written Γ (tree.ref_array m) = written_element Γ m
  written Γ (tree.ref_array_brackets i m) = written_element Γ m

  pub written_element : Env → tree.Amode → Wrongs
  written_element Γ (tree.simple m) = written Γ m
  written_element Γ (tree.records n) = record_name Γ n

-- all that many parts have
abbrev pub gather : {A B : Type 0} → (A → List B) → Many A → List B
gather f (one a) = f a
gather f (more m a) = gather f m ++ f a

-- the names of a list item, and of a declaration's list
abbrev pub item_names : {A : Type 0} → Init A → List ℕ
item_names (tree.plain n) = n ∷ []
item_names (given ns a) = gather (λ n. n ∷ []) ns

abbrev pub list_names : {A : Type 0} → Many (Init A) → List ℕ
list_names is = gather item_names is

-- a name declared at an item, and its class
pub record Site : Type 0 where
  pub item : ℕ
  pub class : Class

abbrev pub site : Class → ℕ → Site
site c n = record { item = n; class = c }

abbrev pub declare : Text → Site → Declared
declare x s = record { word = x.word s.item; class = s.class }

abbrev pub items : List Site → List ℕ
items = map (λ s. s.item)
