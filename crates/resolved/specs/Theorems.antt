-- What is proved. Assumes nothing.
use Rattle.std.specs.Prelude.{◌≡◌, ◌≢◌, ℕ, ◌+◌, ◌<◌, ◌≤◌, Bool, true, false, ◌⊎◌, List, map, length, All, Some, Ok, Result, slice_get}
use Rattle.statics.specs.declared.Refusal.{Refusal}
use Rattle.grammar.specs.declared.Symbol.{Symbol}
use Rattle.grammar.specs.Sentences.{Made}
use Rattle.grammar.specs.Trees.{Expr, Condition, Body, Module}
use Rattle.statics.specs.Modes.{Word, Plain, Mode, plain, ref, INT, BYTE, Thing, place, Offers, Need, scalar, pointed, Fits}
use Rattle.statics.specs.Laws.{Clean}
use Rattle.statics.specs.Scopes.{Text, Env, Component, component_at, record_modes}
use Rattle.statics.specs.Written.{gather, items}
use Rattle.statics.specs.Modules.{moditem_names, module_env}
use Rattle.statics.specs.Space.{Charge, scalars, charges, space_wrongs}
use Rattle.statics.specs.Stages.{Static}
use Rattle.statics.specs.JudgeExpressions.{then, done, number_of, judge, judge_condition}
use Rattle.statics.specs.JudgeStatements.{judge_body}
use Rattle.statics.specs.JudgeModules.{judge_module}
use Rattle.resolved.specs.Forms.{Cell, Part, datum, procedure, Span, Resolved}
use Rattle.resolved.specs.Grounds.{Ground, ground, slot}
use Rattle.resolved.specs.Reads.{reads, widens_for}
use Rattle.resolved.specs.ResolveExpressions.{Known, component_called, component_number, resolve, resolve_condition}
use Rattle.resolved.specs.ResolveStatements.{resolve_body}
use Rattle.resolved.specs.Places.{places}
use Rattle.resolved.specs.ResolveModules.{resolve_module}
use Rattle.resolved.specs.Parts.{of_part, declared}
use Rattle.resolved.specs.Naming.{WellNamed}

-- Resolving without the forms is judging: it accepts what judging accepts, and refuses all else with the same refusal.
abbrev pub thing_of : Known → Result Thing Refusal
thing_of t = Ok t.0

abbrev pub ExpressionsAgree : Type 0
ExpressionsAgree = (n : ℕ) (G : Ground) (Γ : Env) (e : Expr n) → then (resolve G Γ e) thing_of ≡ judge Γ e

abbrev pub ConditionsAgree : Type 0
ConditionsAgree = (G : Ground) (Γ : Env) (c : Condition) → then (resolve_condition G Γ c) done ≡ judge_condition Γ c

abbrev pub StatementsAgree : Type 0
StatementsAgree = (G : Ground) (Γ : Env) (b : Body) → then (resolve_body G Γ b) done ≡ judge_body Γ b

abbrev pub ModulesAgree : Type 0
ModulesAgree = (x : Text) (m : Module) → then (resolve_module x m) done ≡ judge_module x m

-- THE TREE of a module
abbrev pub Tree : Text → Module → Resolved → Type 0
Tree x m T = resolve_module x m ≡ Ok T

abbrev pub ExactlyOne : {A : Type 0} → (A → Type 0) → Type 0
ExactlyOne {A} P = (a : A) × P a × ((b : A) → P b → b ≡ a)

-- A module is judged right exactly where it has a tree, and then it has exactly one. Judged right means that none of the declines 10, 11 and 12 applies:
-- a module refused by 9, 13 or 14 only may have a tree.
abbrev pub OneTree : Type 0
OneTree = (x : Text) (m : Module) → (judge_module x m ≡ Ok tt → ExactlyOne (Tree x m)) × ((T : Resolved) → Tree x m T → judge_module x m ≡ Ok tt)

-- So a module that the static rules accept has exactly one tree.
abbrev pub AcceptedTree : Type 0
AcceptedTree = (x : Text) (m : Module) (w : List Symbol) → Made m w → Static x m (Ok tt) → ExactlyOne (Tree x m)

-- What so many reads give: the mode at hand, or a BYTE that is then widened to INT; behind VAL what refers to a place of the mode at hand. A place to
-- store into is not read.
abbrev pub Brings : Need → Thing → Mode → Type 0
Brings scalar t m = (b : Bool) × (t ≡ place b m) × (reads scalar t ≡ 0)
Brings pointed t m = (k : Plain) × (m ≡ plain k) × Offers t (ref k) (reads pointed t)
Brings n t m = ((widens_for n (number_of t) ≡ false) × Offers t m (reads n t)) ⊎ ((widens_for n (number_of t) ≡ true) × (m ≡ INT) × Offers t BYTE (reads n t))

abbrev pub ReadsRight : Type 0
ReadsRight = (n : Need) (t : Thing) (m : Mode) → Fits n t m → Brings n t m

-- A component is numbered among those of its record mode, in their order.
abbrev pub ComponentRight : Type 0
ComponentRight = (Γ : Env) (r : Word) (n k : ℕ) → component_called Γ r n ≡ Some k → slice_get (record_modes Γ.parts r) (component_number Γ r k) ≡ Some (component_at Γ k).mode

-- What is charged for its places has so many, none of which any other has.
abbrev pub of_span : Span → Charge
of_span s = record { item = s.item; amount = s.size }

abbrev pub EachPlaced : Type 0
EachPlaced = (x : Text) (m : Module) → map of_span (places x m) ≡ charges x m

abbrev pub PlacesApart : Type 0
PlacesApart = (x : Text) (m : Module) (i j : ℕ) (a b : Span) → i < j → slice_get (places x m) i ≡ Some a → slice_get (places x m) j ≡ Some b → a.first + a.size ≤ b.first

-- In a module made of a text they stand in the order of their items: an item has at most one.
abbrev pub PlacesInOrder : Type 0
PlacesInOrder = (x : Text) (m : Module) (w : List Symbol) → Made m w → (i j : ℕ) (a b : Span) → i < j → slice_get (places x m) i ≡ Some a → slice_get (places x m) j ≡ Some b → a.item < b.item

-- Where there are not too many, all lie below 4,096.
abbrev pub PlacesBelow : Type 0
PlacesBelow = (x : Text) (m : Module) → Clean (space_wrongs x m) tt → (i : ℕ) (a : Span) → slice_get (places x m) i ≡ Some a → a.first + a.size ≤ 4096

-- The names of the module come from the items that declare them, in the order in which the environment has them.
abbrev pub GroundRight : Type 0
GroundRight = (x : Text) (m : Module) → map (λ h. h.item) (ground x m) ≡ items (gather (moditem_names x) m)

-- Locals in scope have different slots: they are the names behind those of the module.
abbrev pub SlotsApart : Type 0
SlotsApart = (G : Ground) (i j : ℕ) → length G ≤ i → length G ≤ j → i ≢ j → slot G i ≢ slot G j

-- The parts of a tree are the data variables and procedures that the module declares, all of them, in the order of the text.
abbrev pub PartsRight : Type 0
PartsRight = (x : Text) (m : Module) (T : Resolved) → Tree x m T → map of_part T.parts ≡ gather declared m

-- A data variable has as many places as it is charged, and with an initial value one cell for each.
abbrev pub Filled : List Component → Part → Type 0
Filled ps (procedure p) = Unit {0}
Filled ps (datum d) = (length d.modes ≡ scalars ps d.shape) × ((cs : List Cell) → d.cells ≡ Some cs → length cs ≡ length d.modes)

abbrev pub CellsRight : Type 0
CellsRight = (x : Text) (m : Module) (T : Resolved) → Tree x m T → All (Filled (module_env x m).parts) T.parts

-- A tree names just what it has: its slots, its data variables and procedures, and strings that have places in it.
abbrev pub NamesRight : Type 0
NamesRight = (x : Text) (m : Module) (T : Resolved) → Tree x m T → All (WellNamed (map of_part T.parts) T.places) T.parts
