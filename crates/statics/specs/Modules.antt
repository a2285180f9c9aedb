-- The rules of module items, and the names of a module. Assumes nothing.
use Rattle.std.specs.Prelude.{◌≡◌, ℕ, ◌+◌, true, ◌⊎◌, List, [], ◌∷◌, ◌++◌, map, length, Some, None, codes, Option}
use Rattle.statics.specs.declared.Refusal.TheVariants.{WrongName, NoValue}
use Rattle.grammar.specs.Trees.{Many, one, more, Opt, Fields, also, Init, given, Value, Dec, variables, arrays, structures, Locals, Body, body, Brick, store, procedure, Moditem, blank, external_procs, external_store, own, entry, Module}
use Rattle.grammar.specs.Trees as tree
use Rattle.statics.specs.Modes.{Word, Mode, INT, BYTE, place, array, structure}
use Rattle.statics.specs.Laws.{Wrongs, Never, At, Both, Lacks}
use Rattle.statics.specs.Scopes.{Text, Env, record_mode, brick, stored, local, routine, part, Signature, Component, inside_of}
use Rattle.statics.specs.Expressions.{each}
use Rattle.statics.specs.Written.{mode_of, element_of, record_name, written, written_element, gather, list_names, Site, site, declare}
use Rattle.statics.specs.Statements.{a_body, inside}
use Rattle.statics.specs.Values.{Want, simply, several, recorded, Valueless, initial}

-- a name of a list of components or parameters, and its mode
pub record Field : Type 0 where
  pub item : ℕ
  pub mode : Mode

abbrev pub last_mode : Fields → tree.Mode
last_mode (tree.field m n) = m
last_mode (also fs n) = last_mode fs
last_mode (tree.next fs m n) = m

abbrev pub fields : Text → Fields → List Field
fields x (tree.field m n) = record { item = n; mode = mode_of x m } ∷ []
fields x (also fs n) = fields x fs ++ record { item = n; mode = mode_of x (last_mode fs) } ∷ []
fields x (tree.next fs m n) = fields x fs ++ record { item = n; mode = mode_of x m } ∷ []

abbrev pub parameters : Text → Opt Fields → List Field
parameters x tree.none = []
parameters x (tree.some fs) = fields x fs

abbrev pub maybe_mode : Text → Opt tree.Mode → Option Mode
maybe_mode x tree.none = None
maybe_mode x (tree.some m) = Some (mode_of x m)

abbrev pub modes : Text → Opt (Many tree.Mode) → List Mode
modes x tree.none = []
modes x (tree.some ms) = gather (λ m. mode_of x m ∷ []) ms

-- What a module declares.
abbrev pub names_of : Many ℕ → List ℕ
names_of ns = gather (λ n. n ∷ []) ns

abbrev pub dec_names : {I : Type 0} → Text → (I → List ℕ) → Dec I → List Site
dec_names x f tree.nothing = []
dec_names x f (variables m i) = map (site (stored (place true (mode_of x m)))) (f i)
dec_names x f (arrays b n m i) = map (site (stored (array (element_of x m)))) (f i)
dec_names x f (structures n i) = map (site (stored (structure (x.word n)))) (f i)

abbrev pub brick_names : Text → Brick → List Site
brick_names x (store n ds) = site brick n ∷ gather (dec_names x list_names) ds
brick_names x (procedure n i ps m b e) = site (routine (record { takes = map (λ f. f.mode) (parameters x ps); gives = maybe_mode x m })) n ∷ []

abbrev pub moditem_names : Text → Moditem → List Site
moditem_names x blank = []
moditem_names x (external_procs i ms m ns) = map (site (routine (record { takes = modes x ms; gives = maybe_mode x m }))) (names_of ns)
moditem_names x (external_store n ds) = site brick n ∷ gather (dec_names x names_of) ds
moditem_names x (tree.record_mode n i fs) = site record_mode n ∷ []
moditem_names x (own b) = brick_names x b
moditem_names x (entry b) = brick_names x b

abbrev pub moditem_parts : Text → Moditem → List Component
moditem_parts x (tree.record_mode n i fs) = map (λ f. record { owner = x.word n; word = x.word f.item; mode = f.mode }) (fields x fs)
moditem_parts x _ = []

-- all names of a module are declared before any construct is judged
abbrev pub module_env : Text → Module → Env
module_env x m = record {
  text = x;
  names = map (declare x) (gather (moditem_names x) m);
  ready = length (gather (moditem_names x) m);
  parts = gather (moditem_parts x) m;
  result = None;
}

-- Module items.
-- the wrongs of what may be missing
abbrev pub optional : {A : Type 0} → (A → Wrongs) → Opt A → Wrongs
optional W tree.none = Never
optional W (tree.some a) = W a

abbrev pub fields_written : Env → Fields → Wrongs
fields_written Γ (tree.field m n) = written Γ m
fields_written Γ (also fs n) = fields_written Γ fs
fields_written Γ (tree.next fs m n) = Both (fields_written Γ fs) (written Γ m)

-- the only EXT descriptions
abbrev pub Admitted : Word → Signature → Unit {0} → Type 0
Admitted w s u =
    ((w ≡ codes "INBYTE") × (s.takes ≡ []) × (s.gives ≡ Some INT)) ⊎ ((w ≡ codes "OUTBYTE") × (s.takes ≡ BYTE ∷ []) × (s.gives ≡ None))

abbrev pub data_item : Env → Want → Init Value → Wrongs
data_item Γ w (tree.plain n) = Lacks (Valueless Γ w) (NoValue n)
data_item Γ w (given ns v) = initial Γ w v

abbrev pub data_dec : Env → Dec (Many (Init Value)) → Wrongs
data_dec Γ tree.nothing = Never
data_dec Γ (variables m is) = Both (written Γ m) (each (data_item Γ (simply (mode_of Γ.text m))) is)
data_dec Γ (arrays b n m is) = Both (written_element Γ m) (each (data_item Γ (several (Γ.text.value n) (element_of Γ.text m))) is)
data_dec Γ (structures n is) = Both (record_name Γ n) (each (data_item Γ (recorded (Γ.text.word n))) is)

-- the names inside the brackets of a record mode
abbrev pub in_record : Env → Fields → Env
in_record Γ fs = inside_of Γ (map (λ f. declare Γ.text (site part f.item)) (fields Γ.text fs))

-- a procedure's parameters are declared with the locals of its outermost block
abbrev pub in_procedure : Env → Opt Fields → Opt tree.Mode → Env
in_procedure Γ ps m = record {
  text = Γ.text;
  names = Γ.names ++ map (λ f. declare Γ.text (site (local f.mode) f.item)) (parameters Γ.text ps);
  ready = Γ.ready + length (parameters Γ.text ps);
  parts = Γ.parts;
  result = maybe_mode Γ.text m;
}

abbrev pub outermost : Env → Body → Env
outermost Γ (body ls s) = inside Γ ls

abbrev pub a_brick : Env → Brick → Wrongs
a_brick Γ (store n ds) = each (data_dec Γ) ds
a_brick Γ (procedure n i ps m b e) =
    Both (optional (fields_written (outermost (in_procedure Γ ps m) b)) ps) (Both (optional (written Γ) m) (a_body (in_procedure Γ ps m) b))

abbrev pub moditem : Env → Moditem → Wrongs
moditem Γ blank = Never
moditem Γ (external_procs i ms m ns) =
    Both (optional (each (written Γ)) ms) (Both (optional (written Γ) m) (each (λ n. Lacks (Admitted (Γ.text.word n) (record { takes = modes Γ.text ms; gives = maybe_mode Γ.text m })) (WrongName n)) ns))
moditem Γ (external_store n ds) = At (WrongName n)
moditem Γ (tree.record_mode n i fs) = fields_written (in_record Γ fs) fs
moditem Γ (own b) = a_brick Γ b
moditem Γ (entry b) = a_brick Γ b

-- THE WRONGS of a module: names, misfits and references without a value.
abbrev pub module_wrongs : Text → Module → Wrongs
module_wrongs x m = each (moditem (module_env x m)) m
