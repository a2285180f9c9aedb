-- The places of data and strings. Assumes nothing.
use Rattle.std.specs.Prelude.{◌≡◌, ℕ, ◌+◌, ◌*◌, ◌<◌, ◌≤◌, ◌⊎◌, List, [], ◌∷◌, ◌++◌, map, length}
use Rattle.statics.specs.declared.Refusal.TheVariants.{TooManyPlaces}
use Rattle.grammar.specs.Trees.{Expr, term, up, dyadic, Term, monadic, primary, Primary, integer, text, variable, call, call_on, paren, Variable, name, element, component, Exprs, first, comma, Comparison, compare, Many, Init, given, Locals, no_locals, locals, Destination, val, Body, body, Sequence, single, sequel, Statement, dummy, block, assign, invoke, invoke_on, branch, branch_else, repeat, loop, return, return_with, Arms, when, elsewhen, Value, constant, signed, minus_signed, identifier, string, empty_list, list, Values, only, and, Entry, once, repeated, Dec, variables, arrays, structures, Brick, store, procedure, Moditem, blank, external_procs, external_store, own, entry, Module}
use Rattle.grammar.specs.Trees as tree
use Rattle.statics.specs.Modes.{Element, simple, records}
use Rattle.statics.specs.Laws.{Wrongs, Wherever}
use Rattle.statics.specs.Scopes.{Text, Component, record_modes}
use Rattle.statics.specs.Written.{mode_of, element_of, gather, item_names}
use Rattle.statics.specs.Values.{Want, free, simply, several, recorded}
use Rattle.statics.specs.Modules.{moditem_parts}

-- The strings of a form, in their order.
abbrev mutual
  pub expr_strings : {n : ℕ} → Expr n → List ℕ
  expr_strings (term t) = term_strings t
  expr_strings (up e) = expr_strings e
  expr_strings (dyadic a o i b) = expr_strings a ++ expr_strings b

  pub term_strings : Term → List ℕ
  term_strings (monadic o i t) = term_strings t
  term_strings (primary p) = primary_strings p

  pub primary_strings : Primary → List ℕ
  primary_strings (text i) = i ∷ []
  primary_strings (variable v) = variable_strings v
  primary_strings (call_on n i es e) = exprs_strings es ++ expr_strings e
  primary_strings (paren i e) = expr_strings e
  primary_strings _ = []

  pub variable_strings : Variable → List ℕ
  variable_strings (name n) = []
  variable_strings (element v i e) = variable_strings v ++ expr_strings e
  variable_strings (component v c) = variable_strings v

  pub exprs_strings : Exprs → List ℕ
  exprs_strings (first e) = expr_strings e
  exprs_strings (comma es e) = exprs_strings es ++ expr_strings e

abbrev pub comparison_strings : Comparison → List ℕ
comparison_strings (compare a o b) = expr_strings a ++ expr_strings b

abbrev pub condition_strings : tree.Condition → List ℕ
condition_strings c = gather (gather comparison_strings) c

abbrev pub init_strings : Init (Expr 5) → List ℕ
init_strings (tree.plain n) = []
init_strings (given ns e) = expr_strings e

abbrev pub locals_strings : Locals → List ℕ
locals_strings no_locals = []
locals_strings (locals ls (tree.local m is)) = locals_strings ls ++ gather init_strings is

abbrev pub destination_strings : Destination → List ℕ
destination_strings (tree.place v) = variable_strings v
destination_strings (val i v) = variable_strings v

abbrev mutual
  pub body_strings : Body → List ℕ
  body_strings (body ls s) = locals_strings ls ++ sequence_strings s

  pub sequence_strings : Sequence → List ℕ
  sequence_strings (single s) = statement_strings s
  sequence_strings (sequel ss s) = sequence_strings ss ++ statement_strings s

  pub statement_strings : Statement → List ℕ
  statement_strings (block b) = body_strings b
  statement_strings (assign ds e) = gather destination_strings ds ++ expr_strings e
  statement_strings (invoke_on n i es) = exprs_strings es
  statement_strings (branch ws) = arms_strings ws
  statement_strings (branch_else ws s) = arms_strings ws ++ sequence_strings s
  statement_strings (repeat e b) = expr_strings e ++ body_strings b
  statement_strings (loop c s) = condition_strings c ++ sequence_strings s
  statement_strings (return_with i j e) = expr_strings e
  statement_strings _ = []

  pub arms_strings : Arms → List ℕ
  arms_strings (when c s) = condition_strings c ++ sequence_strings s
  arms_strings (elsewhen ws c s) = arms_strings ws ++ (condition_strings c ++ sequence_strings s)

abbrev mutual
  pub value_strings : Value → List ℕ
  value_strings (string i) = i ∷ []
  value_strings (list i vs) = values_strings vs
  value_strings _ = []

  pub values_strings : Values → List ℕ
  values_strings (only e) = entry_strings e
  values_strings (and vs e) = values_strings vs ++ entry_strings e

  pub entry_strings : Entry → List ℕ
  entry_strings (once v) = value_strings v
  entry_strings (repeated v i n) = value_strings v

-- a name or string, and the places that it adds
pub record Charge : Type 0 where
  pub item : ℕ
  pub amount : ℕ

abbrev pub string_charges : Text → List ℕ → List Charge
string_charges x = map (λ i. record { item = i; amount = x.size i })

-- the scalars of what is declared
abbrev pub element_scalars : List Component → Element → ℕ
element_scalars cs (simple m) = 1
element_scalars cs (records r) = length (record_modes cs r)

abbrev pub scalars : List Component → Want → ℕ
scalars cs free = 0
scalars cs (simply m) = 1
scalars cs (several n e) = n * element_scalars cs e
scalars cs (recorded r) = length (record_modes cs r)

abbrev pub item_values : Init Value → List ℕ
item_values (tree.plain n) = []
item_values (given ns v) = value_strings v

abbrev pub item_charges : Text → ℕ → Init Value → List Charge
item_charges x k i = map (λ n. record { item = n; amount = k }) (item_names i) ++ string_charges x (item_values i)

abbrev pub dec_charges : Text → List Component → Dec (Many (Init Value)) → List Charge
dec_charges x cs tree.nothing = []
dec_charges x cs (variables m is) = gather (item_charges x (scalars cs (simply (mode_of x m)))) is
dec_charges x cs (arrays b n m is) = gather (item_charges x (scalars cs (several (x.value n) (element_of x m)))) is
dec_charges x cs (structures n is) = gather (item_charges x (scalars cs (recorded (x.word n)))) is

abbrev pub brick_charges : Text → List Component → Brick → List Charge
brick_charges x cs (store n ds) = gather (dec_charges x cs) ds
brick_charges x cs (procedure n i ps m b e) = string_charges x (body_strings b)

abbrev pub moditem_charges : Text → List Component → Moditem → List Charge
moditem_charges x cs (own b) = brick_charges x cs b
moditem_charges x cs (entry b) = brick_charges x cs b
moditem_charges x cs _ = []

-- all of a module, in the order of the text
abbrev pub charges : Text → Module → List Charge
charges x m = gather (moditem_charges x (gather (moditem_parts x) m)) m

-- with p the sum passes the limit, so many being used before
abbrev pub Passes : ℕ → ℕ → List Charge → ℕ → Type 0
Passes limit used [] p = ⊥
Passes limit used (c ∷ cs) p = ((limit < used + c.amount) × (p ≡ c.item)) ⊎ ((used + c.amount ≤ limit) × Passes limit (used + c.amount) cs p)

abbrev pub space_wrongs : Text → Module → Wrongs
space_wrongs x m = Wherever TooManyPlaces (Passes 4096 0 (charges x m))
