-- What is charged for its places stands in the order of the text, so no item is charged twice. Assumes nothing.
use Rattle.std.proofs.Common.{◌≡◌, ℕ, zero, suc, ◌+◌, ◌<◌, ◌≤◌, List, [], ◌∷◌, ◌++◌, map, length, Some, slice_get, arith}
use Rattle.grammar.specs.declared.Symbol.{Symbol}
use Rattle.grammar.specs.Sentences.{Made}
use Rattle.grammar.specs.Trees.{Expr, term, up, dyadic, Term, monadic, primary, Primary, integer, text, variable, call, call_on, paren, Variable, name, element, component, Exprs, first, comma, Comparison, compare, Condition, Many, one, more, Init, given, Local, Locals, no_locals, locals, Destination, val, Body, body, Sequence, single, sequel, Statement, dummy, block, assign, invoke, invoke_on, branch, branch_else, repeat, loop, return, return_with, Arms, when, elsewhen, Value, constant, signed, minus_signed, identifier, string, empty_list, list, Values, only, and, Entry, once, repeated, Dec, variables, arrays, structures, Opt, Fields, also, Brick, store, procedure, Moditem, blank, external_procs, external_store, own, entry, Module}
use Rattle.grammar.specs.Trees as tree
use Rattle.statics.specs.Scopes.{Text, Component}
use Rattle.statics.specs.Written.{gather}
use Rattle.statics.specs.Modules.{names_of, moditem_parts}
use Rattle.statics.specs.Space.{expr_strings, term_strings, primary_strings, variable_strings, exprs_strings, comparison_strings, condition_strings, init_strings, locals_strings, destination_strings, body_strings, sequence_strings, statement_strings, arms_strings, value_strings, values_strings, entry_strings, Charge, item_charges, dec_charges, brick_charges, moditem_charges, charges}
use Rattle.statics.specs.Order.{In, InTerm, InPrimary, InVariable, InExprs, InComparison, InMany, InCondition, InMode, InName, InInit, InLocals, InDestination, InBody, InSequence, InStatement, InArms, InValue, InValues, InEntry, InDec, InSpec, InOpt, InFields, InBrick, InModitem}
use Rattle.statics.proofs.Statements.{mode_lt, element_lt}
use Rattle.statics.proofs.Expressions.{many_le}
use Rattle.statics.proofs.Places.{made_in_order}
use Rattle.resolved.specs.Forms
use Rattle.resolved.specs.Places.{laid}

-- the items f of a list lie from lo up to hi, each behind the one before it
abbrev Rises : {A : Type 0} → (A → ℕ) → ℕ → List A → ℕ → Type 0
Rises f lo [] hi = lo ≤ hi
Rises f lo (a ∷ rest) hi = (lo ≤ f a) × Rises f (f a + 1) rest hi

module _ {A : Type 0} (f : A → ℕ) where
  rises_le : (xs : List A) (lo hi : ℕ) → Rises f lo xs hi → lo ≤ hi
  rises_le [] lo hi r = r
  rises_le (x ∷ xs) lo hi r = let h = rises_le xs (f x + 1) hi r.1 in let l = r.0 in omega arith

  rises_from : (xs : List A) (l lo hi : ℕ) → l ≤ lo → Rises f lo xs hi → Rises f l xs hi
  rises_from [] l lo hi h r = omega arith
  rises_from (x ∷ xs) l lo hi h r = (let k = r.0 in omega arith, r.1)

  rises_both : (xs ys : List A) (lo mid hi : ℕ) → Rises f lo xs mid → Rises f mid ys hi → Rises f lo (xs ++ ys) hi
  rises_both [] ys lo mid hi r s = rises_from ys lo mid hi r s
  rises_both (x ∷ xs) ys lo mid hi r s = (r.0, rises_both xs ys (f x + 1) mid hi r.1 s)

  rises_to : (xs : List A) (lo mid hi : ℕ) → mid ≤ hi → Rises f lo xs mid → Rises f lo xs hi
  rises_to [] lo mid hi h r = omega arith
  rises_to (x ∷ xs) lo mid hi h r = (r.0, rises_to xs (f x + 1) mid hi h r.1)

  rises_many : {B : Type 0} (I : ℕ → B → ℕ → Type 0) (g : B → List A) → ((b : B) (lo hi : ℕ) → I lo b hi → Rises f lo (g b) hi) → (m : Many B) (lo hi : ℕ) → InMany I lo m hi → Rises f lo (gather g m) hi
  rises_many I g h (one b) lo hi i = h b lo hi i
  rises_many I g h (more m b) lo hi i = rises_both (gather g m) (g b) lo i.0 hi (rises_many I g h m lo i.0 i.1) (h b i.0 hi i.2)

abbrev itself : ℕ → ℕ
itself n = n

abbrev Up : ℕ → List ℕ → ℕ → Type 0
Up lo ns hi = Rises itself lo ns hi

both : (xs ys : List ℕ) (lo mid hi : ℕ) → Up lo xs mid → Up mid ys hi → Up lo (xs ++ ys) hi
both = rises_both itself

from : (xs : List ℕ) (l lo hi : ℕ) → l ≤ lo → Up lo xs hi → Up l xs hi
from = rises_from itself

-- The strings of expressions.
mutual
  expr_up : {n : ℕ} (e : Expr n) (lo hi : ℕ) → In lo e hi → Up lo (expr_strings e) hi
  expr_up (term t) lo hi i = term_up t lo hi i
  expr_up (up e) lo hi i = expr_up e lo hi i
  expr_up (dyadic a o k b) lo hi i = both _ _ lo i.0 hi (expr_up a lo i.0 i.1) (expr_up b i.0 hi i.2)

  term_up : (t : Term) (lo hi : ℕ) → InTerm lo t hi → Up lo (term_strings t) hi
  term_up (monadic o k t) lo hi i = from _ lo (k + 1) hi (let l = i.0 in omega arith) (term_up t (k + 1) hi i.1)
  term_up (primary p) lo hi i = primary_up p lo hi i

  primary_up : (p : Primary) (lo hi : ℕ) → InPrimary lo p hi → Up lo (primary_strings p) hi
  primary_up (integer k) lo hi i = omega (arith, i.0, i.1)
  primary_up (text k) lo hi i = (i.0, omega (arith, i.1))
  primary_up (variable v) lo hi i = variable_up v lo hi i
  primary_up (call n k) lo hi i = omega (arith, i.0, i.1)
  primary_up (call_on n k es e) lo hi i = from _ lo (n + 1) hi (let l = i.0 in omega arith) (both _ _ (n + 1) i.1.0 hi (exprs_up es (n + 1) i.1.0 i.1.1) (expr_up e i.1.0 hi i.1.2))
  primary_up (paren k e) lo hi i = from _ lo (k + 1) hi (let l = i.0 in omega arith) (expr_up e (k + 1) hi i.1)

  variable_up : (v : Variable) (lo hi : ℕ) → InVariable lo v hi → Up lo (variable_strings v) hi
  variable_up (name n) lo hi i = omega (arith, i.0, i.1)
  variable_up (element v k e) lo hi i = both _ _ lo i.0 hi (variable_up v lo i.0 i.1) (expr_up e i.0 hi i.2)
  variable_up (component v c) lo hi i = rises_to itself _ lo i.0 hi (let s = i.2 in omega arith) (variable_up v lo i.0 i.1)

  exprs_up : (es : Exprs) (lo hi : ℕ) → InExprs lo es hi → Up lo (exprs_strings es) hi
  exprs_up (first e) lo hi i = expr_up e lo hi i
  exprs_up (comma es e) lo hi i = both _ _ lo i.0 hi (exprs_up es lo i.0 i.1) (expr_up e i.0 hi i.2)

comparison_up : (c : Comparison) (lo hi : ℕ) → InComparison lo c hi → Up lo (comparison_strings c) hi
comparison_up (compare a o b) lo hi i = both _ _ lo i.0 hi (expr_up a lo i.0 i.1) (expr_up b i.0 hi i.2)

condition_up : (c : Condition) (lo hi : ℕ) → InCondition lo c hi → Up lo (condition_strings c) hi
condition_up c lo hi i = rises_many itself (InMany InComparison) (gather comparison_strings) (rises_many itself InComparison comparison_strings comparison_up) c lo hi i

-- Those of statements.
name_up : (n lo hi : ℕ) → InName lo n hi → Up lo (n ∷ []) hi
name_up n lo hi i = (i.0, omega (arith, i.1))

names_up : (ns : Many ℕ) (lo hi : ℕ) → InMany InName lo ns hi → Up lo (names_of ns) hi
names_up ns lo hi i = rises_many itself InName (λ n. n ∷ []) name_up ns lo hi i

init_up : (d : Init (Expr 5)) (lo hi : ℕ) → InInit In lo d hi → Up lo (init_strings d) hi
init_up (tree.plain n) lo hi i = omega (arith, i.0, i.1)
init_up (given ns e) lo hi i = from _ lo i.0 hi (rises_le itself (names_of ns) lo i.0 (names_up ns lo i.0 i.1)) (expr_up e i.0 hi i.2)

locals_up : (ls : Locals) (lo hi : ℕ) → InLocals lo ls hi → Up lo (locals_strings ls) hi
locals_up no_locals lo hi i = i
locals_up (locals ls (tree.local m is)) lo hi i =
    let l = mode_lt m i.0 i.2.0 i.2.1 in
    both _ _ lo i.0 hi (locals_up ls lo i.0 i.1) (from _ i.0 i.2.0 hi (omega arith) (rises_many itself (InInit In) init_strings init_up is i.2.0 hi i.2.2))

destination_up : (d : Destination) (lo hi : ℕ) → InDestination lo d hi → Up lo (destination_strings d) hi
destination_up (tree.place v) lo hi i = variable_up v lo hi i
destination_up (val k v) lo hi i = from _ lo (k + 1) hi (let l = i.0 in omega arith) (variable_up v (k + 1) hi i.1)

mutual
  body_up : (b : Body) (lo hi : ℕ) → InBody lo b hi → Up lo (body_strings b) hi
  body_up (body ls s) lo hi i = both _ _ lo i.0 hi (locals_up ls lo i.0 i.1) (sequence_up s i.0 hi i.2)

  sequence_up : (s : Sequence) (lo hi : ℕ) → InSequence lo s hi → Up lo (sequence_strings s) hi
  sequence_up (single s) lo hi i = statement_up s lo hi i
  sequence_up (sequel ss s) lo hi i = both _ _ lo i.0 hi (sequence_up ss lo i.0 i.1) (statement_up s i.0 hi i.2)

  statement_up : (s : Statement) (lo hi : ℕ) → InStatement lo s hi → Up lo (statement_strings s) hi
  statement_up dummy lo hi i = i
  statement_up (block b) lo hi i = body_up b lo hi i
  statement_up (assign ds e) lo hi i = both _ _ lo i.0 hi (rises_many itself InDestination destination_strings destination_up ds lo i.0 i.1) (expr_up e i.0 hi i.2)
  statement_up (invoke n k) lo hi i = omega (arith, i.0, i.1)
  statement_up (invoke_on n k es) lo hi i = from _ lo (n + 1) hi (let l = i.0 in omega arith) (exprs_up es (n + 1) hi i.1)
  statement_up (branch ws) lo hi i = arms_up ws lo hi i
  statement_up (branch_else ws s) lo hi i = both _ _ lo i.0 hi (arms_up ws lo i.0 i.1) (sequence_up s i.0 hi i.2)
  statement_up (repeat e b) lo hi i = both _ _ lo i.0 hi (expr_up e lo i.0 i.1) (body_up b i.0 hi i.2)
  statement_up (loop c s) lo hi i = both _ _ lo i.0 hi (condition_up c lo i.0 i.1) (sequence_up s i.0 hi i.2)
  statement_up (return k) lo hi i = omega (arith, i.0, i.1)
  statement_up (return_with k j e) lo hi i = from _ lo (k + 1) hi (let l = i.0 in omega arith) (expr_up e (k + 1) hi i.1)

  arms_up : (ws : Arms) (lo hi : ℕ) → InArms lo ws hi → Up lo (arms_strings ws) hi
  arms_up (when c s) lo hi i = both _ _ lo i.0 hi (condition_up c lo i.0 i.1) (sequence_up s i.0 hi i.2)
  arms_up (elsewhen ws c s) lo hi i = both _ _ lo i.0 hi (arms_up ws lo i.0 i.1) (both _ _ i.0 i.2.0 hi (condition_up c i.0 i.2.0 i.2.1) (sequence_up s i.2.0 hi i.2.2))

-- Those of initial values.
mutual
  value_up : (v : Value) (lo hi : ℕ) → InValue lo v hi → Up lo (value_strings v) hi
  value_up (constant k) lo hi i = omega (arith, i.0, i.1)
  value_up (signed s k) lo hi i = omega (arith, i.0, i.1)
  value_up (minus_signed s k) lo hi i = omega (arith, i.0, i.1)
  value_up (identifier n) lo hi i = omega (arith, i.0, i.1)
  value_up (string k) lo hi i = (i.0, omega (arith, i.1))
  value_up (empty_list k) lo hi i = omega (arith, i.0, i.1)
  value_up (list k vs) lo hi i = from _ lo (k + 1) hi (let l = i.0 in omega arith) (values_up vs (k + 1) hi i.1)

  values_up : (vs : Values) (lo hi : ℕ) → InValues lo vs hi → Up lo (values_strings vs) hi
  values_up (only e) lo hi i = entry_up e lo hi i
  values_up (and vs e) lo hi i = both _ _ lo i.0 hi (values_up vs lo i.0 i.1) (entry_up e i.0 hi i.2)

  entry_up : (e : Entry) (lo hi : ℕ) → InEntry lo e hi → Up lo (entry_strings e) hi
  entry_up (once v) lo hi i = value_up v lo hi i
  entry_up (repeated v k n) lo hi i = value_up v lo hi i

-- Charges.
abbrev Charged : ℕ → List Charge → ℕ → Type 0
Charged lo cs hi = Rises (λ (c : Charge). c.item) lo cs hi

charged : (g : ℕ → ℕ) (ns : List ℕ) (lo hi : ℕ) → Up lo ns hi → Charged lo (map (λ i. record { item = i; amount = g i }) ns) hi
charged g [] lo hi r = r
charged g (n ∷ ns) lo hi r = (r.0, charged g ns (n + 1) hi r.1)

item_charged : (x : Text) (k : ℕ) (d : Init Value) (lo hi : ℕ) → InInit InValue lo d hi → Charged lo (item_charges x k d) hi
item_charged x k (tree.plain n) lo hi i = (i.0, omega (arith, i.1))
item_charged x k (given ns v) lo hi i = rises_both (λ (c : Charge). c.item) _ _ lo i.0 hi (charged (λ n. k) (names_of ns) lo i.0 (names_up ns lo i.0 i.1)) (charged x.size (value_strings v) i.0 hi (value_up v i.0 hi i.2))

inits_charged : (x : Text) (k : ℕ) (is : Many (Init Value)) (lo hi : ℕ) → InMany (InInit InValue) lo is hi → Charged lo (gather (item_charges x k) is) hi
inits_charged x k is lo hi i = rises_many (λ (c : Charge). c.item) (InInit InValue) (item_charges x k) (item_charged x k) is lo hi i

dec_charged : (x : Text) (cs : List Component) (d : Dec (Many (Init Value))) (lo hi : ℕ) → InDec lo d hi → Charged lo (dec_charges x cs d) hi
dec_charged x cs tree.nothing lo hi i = i
dec_charged x cs (variables m is) lo hi i = let l = mode_lt m lo i.0 i.1 in rises_from (λ (c : Charge). c.item) _ lo i.0 hi (omega arith) (inits_charged x _ is i.0 hi i.2)
dec_charged x cs (arrays b n m is) lo hi i = let l = element_lt m lo i.0 i.1 in rises_from (λ (c : Charge). c.item) _ lo i.0 hi (omega arith) (inits_charged x _ is i.0 hi i.2)
dec_charged x cs (structures n is) lo hi i = rises_from (λ (c : Charge). c.item) _ lo (n + 1) hi (let l = i.0 in omega arith) (inits_charged x _ is (n + 1) hi i.1)

-- What has no charges is somewhere, too.
opt_le : {A : Type 0} (I : ℕ → A → ℕ → Type 0) → ((a : A) (lo hi : ℕ) → I lo a hi → lo ≤ hi) → (o : Opt A) (lo hi : ℕ) → InOpt I lo o hi → lo ≤ hi
opt_le I h tree.none lo hi i = i
opt_le I h (tree.some a) lo hi i = h a lo hi i

mode_le : (m : tree.Mode) (lo hi : ℕ) → InMode lo m hi → lo ≤ hi
mode_le m lo hi i = let l = mode_lt m lo hi i in omega arith

fields_le : (fs : Fields) (lo hi : ℕ) → InFields lo fs hi → lo ≤ hi
fields_le (tree.field m n) lo hi i = let l = mode_lt m lo i.0 i.1 in let s = i.2 in omega arith
fields_le (also fs n) lo hi i = let l = fields_le fs lo i.0 i.1 in let s = i.2 in omega arith
fields_le (tree.next fs m n) lo hi i = let l = fields_le fs lo i.0 i.1 in let k = mode_lt m i.0 i.2.0 i.2.1 in let s = i.2.2 in omega arith

names_le : (ns : Many ℕ) (lo hi : ℕ) → InMany InName lo ns hi → lo ≤ hi
names_le ns lo hi i = rises_le itself (names_of ns) lo hi (names_up ns lo hi i)

spec_le : (d : Dec (Many ℕ)) (lo hi : ℕ) → InSpec lo d hi → lo ≤ hi
spec_le tree.nothing lo hi i = i
spec_le (variables m ns) lo hi i = let l = mode_lt m lo i.0 i.1 in let k = names_le ns i.0 hi i.2 in omega arith
spec_le (arrays b n m ns) lo hi i = let l = element_lt m lo i.0 i.1 in let k = names_le ns i.0 hi i.2 in omega arith
spec_le (structures n ns) lo hi i = let l = i.0 in let k = names_le ns (n + 1) hi i.1 in omega arith

brick_charged : (x : Text) (cs : List Component) (b : Brick) (lo hi : ℕ) → InBrick lo b hi → Charged lo (brick_charges x cs b) hi
brick_charged x cs (store n ds) lo hi i = rises_from (λ (c : Charge). c.item) _ lo (n + 1) hi (let l = i.0 in omega arith) (rises_many (λ (c : Charge). c.item) InDec (dec_charges x cs) (dec_charged x cs) ds (n + 1) hi i.1)
brick_charged x cs (procedure n k ps m b e) lo hi i =
    let l = i.0 in
    let p = opt_le InFields fields_le ps (n + 1) i.1.0 i.1.1 in
    let q = opt_le InMode mode_le m i.1.0 i.1.2.0 i.1.2.1 in
    rises_from (λ (c : Charge). c.item) _ lo i.1.2.0 hi (omega arith) (charged x.size (body_strings b) i.1.2.0 hi (body_up b i.1.2.0 hi i.1.2.2))

moditem_charged : (x : Text) (cs : List Component) (it : Moditem) (lo hi : ℕ) → InModitem lo it hi → Charged lo (moditem_charges x cs it) hi
moditem_charged x cs blank lo hi i = i
moditem_charged x cs (external_procs k ms m ns) lo hi i =
    let p = opt_le (InMany InMode) (many_le InMode mode_le) ms lo i.0 i.1 in
    let q = opt_le InMode mode_le m i.0 i.2.0 i.2.1 in
    let l = names_le ns i.2.0 hi i.2.2 in
    omega arith
moditem_charged x cs (external_store n ds) lo hi i = let l = i.0 in let p = many_le InSpec spec_le ds (n + 1) hi i.1 in omega arith
moditem_charged x cs (tree.record_mode n k fs) lo hi i = let l = i.0 in let p = fields_le fs (n + 1) hi i.1 in omega arith
moditem_charged x cs (own b) lo hi i = brick_charged x cs b lo hi i
moditem_charged x cs (entry b) lo hi i = brick_charged x cs b lo hi i

module_charged : (x : Text) (m : Module) (w : List Symbol) → Made m w → Charged 0 (charges x m) (length w)
module_charged x m w made = rises_many (λ (c : Charge). c.item) InModitem _ (moditem_charged x (gather (moditem_parts x) m)) m 0 (length w) (made_in_order m w made)

-- each behind the ones before it
item_from : (cs : List Charge) (p lo hi i : ℕ) (a : Forms.Span) → Charged lo cs hi → slice_get (laid p cs) i ≡ Some a → lo ≤ a.item
item_from [] p lo hi i a r e = grind arith
item_from (c ∷ cs) p lo hi zero a r e = let l = r.0 in grind arith
item_from (c ∷ cs) p lo hi (suc i) a r e = let l = r.0 in let h = item_from cs (p + c.amount) (c.item + 1) hi i a r.1 e in omega arith

items_rise : (cs : List Charge) (p lo hi i j : ℕ) (a b : Forms.Span) → Charged lo cs hi → i < j → slice_get (laid p cs) i ≡ Some a → slice_get (laid p cs) j ≡ Some b → a.item < b.item
items_rise [] p lo hi i j a b r l e q = grind arith
items_rise (c ∷ cs) p lo hi i zero a b r l e q = omega arith
items_rise (c ∷ cs) p lo hi zero (suc j) a b r l e q = let h = item_from cs (p + c.amount) (c.item + 1) hi j b r.1 q in grind arith
items_rise (c ∷ cs) p lo hi (suc i) (suc j) a b r l e q = items_rise cs (p + c.amount) (c.item + 1) hi i j a b r.1 (omega arith) e q

pub places_rise : (x : Text) (m : Module) (w : List Symbol) → Made m w → (i j : ℕ) (a b : Forms.Span) → i < j → slice_get (laid 0 (charges x m)) i ≡ Some a → slice_get (laid 0 (charges x m)) j ≡ Some b → a.item < b.item
places_rise x m w made i j a b = items_rise (charges x m) 0 0 (length w) i j a b (module_charged x m w made)
