-- What the parts of a module declare is not more than their items, so tables of as many entries have room for it. Assumes nothing.
use Rattle.std.proofs.Common.{ℕ, ◌+◌, ◌≤◌, List, [], ◌∷◌, ◌++◌, length, arith, length-append}
use Rattle.std.specs.List.{AllByRecursion}
use Rattle.std.proofs.lemmas.List.{length-map}
use Rattle.grammar.specs.Trees.{Expr, term, up, dyadic, monadic, primary, integer, text, variable, call, call_on, paren, name, element, component, first, comma, compare, Condition, one, more, Opt, given, Locals, no_locals, locals, val, Body, body, Sequence, single, sequel, dummy, block, assign, invoke, invoke_on, branch, branch_else, repeat, loop, return, return_with, Arms, when, elsewhen, constant, signed, minus_signed, identifier, string, empty_list, list, only, and, once, repeated, variables, arrays, structures, Fields, also, Brick, store, procedure, Moditem, blank, external_procs, external_store, own, entry, Module}
use Rattle.grammar.specs.Trees as tree
use Rattle.statics.specs.Scopes.{Text, Component}
use Rattle.statics.specs.Order.{In, InTerm, InPrimary, InVariable, InExprs, InComparison, InMany, InCondition, InMode, InName, InInit, InLocal, InLocals, InDestination, InBody, InSequence, InStatement, InArms, InValue, InValues, InEntry, InDecOf, InDec, InSpec, InOpt, InFields, InBrick, InModitem, InModule}
use Rattle.statics.specs.Written.{mode_of, element_of, gather, item_names, list_names}
use Rattle.statics.specs.Statements.{local_names, entries}
use Rattle.statics.specs.Values.{simply, several, recorded}
use Rattle.statics.specs.Modules.{fields, parameters, modes, names_of, dec_names, brick_names, moditem_names, moditem_parts}
use Rattle.statics.specs.Blocks.{blocks, inner_blocks, statement_blocks, arms_blocks}
use Rattle.statics.specs.DeclaredTwice.{block_names}
use Rattle.statics.specs.Space.{expr_strings, term_strings, primary_strings, variable_strings, exprs_strings, comparison_strings, condition_strings, init_strings, locals_strings, destination_strings, body_strings, sequence_strings, statement_strings, arms_strings, value_strings, values_strings, entry_strings, scalars, item_charges, dec_charges, brick_charges, moditem_charges}
use Rattle.statics.proofs.Statements.{mode_lt, element_lt}
use Rattle.lists.specs.Lists.{of_many, of_sequence, of_arms}
use Rattle.frames.specs.Rooms.{Room, Roomy, brick_takes, moditem_takes}

-- the list that f makes of something is not longer than its items are many
abbrev pub Few : {A B : Type 0} → (ℕ → A → ℕ → Type 0) → (A → List B) → Type 0
Few {A} I f = (a : A) (lo hi : ℕ) → I lo a hi → lo + length (f a) ≤ hi

-- it ends no earlier than it begins
abbrev pub Ordered : {A : Type 0} → (ℕ → A → ℕ → Type 0) → Type 0
Ordered {A} I = (a : A) (lo hi : ℕ) → I lo a hi → lo ≤ hi

-- Lists, and what may be missing.
pub gather_few : {A B : Type 0} (I : ℕ → A → ℕ → Type 0) (f : A → List B) → Few I f → Few (InMany I) (gather f)
gather_few I f few (one a) lo hi i = few a lo hi i
gather_few I f few (more m a) lo hi i =
    let p = gather_few I f few m lo i.0 i.1 in
    let q = few a i.0 hi i.2 in
    omega (arith, length-append (gather f m) (f a))

many_ordered : {A : Type 0} (I : ℕ → A → ℕ → Type 0) → Ordered I → Ordered (InMany I)
many_ordered I le (one a) lo hi i = le a lo hi i
many_ordered I le (more m a) lo hi i =
    let p = many_ordered I le m lo i.0 i.1 in
    let q = le a i.0 hi i.2 in
    omega arith

opt_ordered : {A : Type 0} (I : ℕ → A → ℕ → Type 0) → Ordered I → Ordered (InOpt I)
opt_ordered I le tree.none lo hi i = i
opt_ordered I le (tree.some a) lo hi i = le a lo hi i

names_of_few : Few (InMany InName) names_of
names_of_few ns lo hi i = gather_few InName (λ n. n ∷ []) (λ n lo hi j. omega arith) ns lo hi i

-- Strings.
mutual
  pub expr_strings_few : {n : ℕ} (e : Expr n) (lo hi : ℕ) → In lo e hi → lo + length (expr_strings e) ≤ hi
  expr_strings_few (term t) lo hi i = term_strings_few t lo hi i
  expr_strings_few (up e) lo hi i = expr_strings_few e lo hi i
  expr_strings_few (dyadic a o k b) lo hi i =
      let p = expr_strings_few a lo i.0 i.1 in
      let q = expr_strings_few b i.0 hi i.2 in
      omega (arith, length-append (expr_strings a) (expr_strings b))

  term_strings_few : Few InTerm term_strings
  term_strings_few (monadic o k t) lo hi i = let p = term_strings_few t (k + 1) hi i.1 in omega arith
  term_strings_few (primary p) lo hi i = primary_strings_few p lo hi i

  primary_strings_few : Few InPrimary primary_strings
  primary_strings_few (integer k) lo hi i = omega arith
  primary_strings_few (text k) lo hi i = omega arith
  primary_strings_few (variable v) lo hi i = variable_strings_few v lo hi i
  primary_strings_few (call n k) lo hi i = omega arith
  primary_strings_few (call_on n k es e) lo hi i =
      let p = exprs_strings_few es (n + 1) i.1.0 i.1.1 in
      let q = expr_strings_few e i.1.0 hi i.1.2 in
      omega (arith, length-append (exprs_strings es) (expr_strings e))
  primary_strings_few (paren k e) lo hi i = let p = expr_strings_few e (k + 1) hi i.1 in omega arith

  variable_strings_few : Few InVariable variable_strings
  variable_strings_few (name n) lo hi i = omega arith
  variable_strings_few (element v k e) lo hi i =
      let p = variable_strings_few v lo i.0 i.1 in
      let q = expr_strings_few e i.0 hi i.2 in
      omega (arith, length-append (variable_strings v) (expr_strings e))
  variable_strings_few (component v c) lo hi i =
      let p = variable_strings_few v lo i.0 i.1 in
      let q = i.2 in
      omega arith

  exprs_strings_few : Few InExprs exprs_strings
  exprs_strings_few (first e) lo hi i = expr_strings_few e lo hi i
  exprs_strings_few (comma es e) lo hi i =
      let p = exprs_strings_few es lo i.0 i.1 in
      let q = expr_strings_few e i.0 hi i.2 in
      omega (arith, length-append (exprs_strings es) (expr_strings e))

expr_ordered : Ordered (In {n = 5})
expr_ordered e lo hi i = let p = expr_strings_few e lo hi i in omega arith

comparison_strings_few : Few InComparison comparison_strings
comparison_strings_few (compare a o b) lo hi i =
    let p = expr_strings_few a lo i.0 i.1 in
    let q = expr_strings_few b i.0 hi i.2 in
    omega (arith, length-append (expr_strings a) (expr_strings b))

condition_strings_few : Few InCondition condition_strings
condition_strings_few c lo hi i = gather_few (InMany InComparison) (gather comparison_strings) (gather_few InComparison comparison_strings comparison_strings_few) c lo hi i

init_strings_few : Few (InInit In) init_strings
init_strings_few (tree.plain n) lo hi i = omega arith
init_strings_few (given ns e) lo hi i =
    let p = names_of_few ns lo i.0 i.1 in
    let q = expr_strings_few e i.0 hi i.2 in
    omega arith

locals_strings_few : Few InLocals locals_strings
locals_strings_few no_locals lo hi i = omega arith
locals_strings_few (locals ls (tree.local m is)) lo hi i =
    let p = locals_strings_few ls lo i.0 i.1 in
    let o = mode_lt m i.0 i.2.0 i.2.1 in
    let q = gather_few (InInit In) init_strings init_strings_few is i.2.0 hi i.2.2 in
    omega (arith, length-append (locals_strings ls) (gather init_strings is))

destination_strings_few : Few InDestination destination_strings
destination_strings_few (tree.place v) lo hi i = variable_strings_few v lo hi i
destination_strings_few (val k v) lo hi i = let p = variable_strings_few v (k + 1) hi i.1 in omega arith

mutual
  pub body_strings_few : Few InBody body_strings
  body_strings_few (body ls s) lo hi i =
      let p = locals_strings_few ls lo i.0 i.1 in
      let q = sequence_strings_few s i.0 hi i.2 in
      omega (arith, length-append (locals_strings ls) (sequence_strings s))

  pub sequence_strings_few : Few InSequence sequence_strings
  sequence_strings_few (single s) lo hi i = statement_strings_few s lo hi i
  sequence_strings_few (sequel ss s) lo hi i =
      let p = sequence_strings_few ss lo i.0 i.1 in
      let q = statement_strings_few s i.0 hi i.2 in
      omega (arith, length-append (sequence_strings ss) (statement_strings s))

  pub statement_strings_few : Few InStatement statement_strings
  statement_strings_few dummy lo hi i = omega arith
  statement_strings_few (block b) lo hi i = body_strings_few b lo hi i
  statement_strings_few (assign ds e) lo hi i =
      let p = gather_few InDestination destination_strings destination_strings_few ds lo i.0 i.1 in
      let q = expr_strings_few e i.0 hi i.2 in
      omega (arith, length-append (gather destination_strings ds) (expr_strings e))
  statement_strings_few (invoke n k) lo hi i = omega arith
  statement_strings_few (invoke_on n k es) lo hi i = let p = exprs_strings_few es (n + 1) hi i.1 in omega arith
  statement_strings_few (branch ws) lo hi i = arms_strings_few ws lo hi i
  statement_strings_few (branch_else ws s) lo hi i =
      let p = arms_strings_few ws lo i.0 i.1 in
      let q = sequence_strings_few s i.0 hi i.2 in
      omega (arith, length-append (arms_strings ws) (sequence_strings s))
  statement_strings_few (repeat e b) lo hi i =
      let p = expr_strings_few e lo i.0 i.1 in
      let q = body_strings_few b i.0 hi i.2 in
      omega (arith, length-append (expr_strings e) (body_strings b))
  statement_strings_few (loop c s) lo hi i =
      let p = condition_strings_few c lo i.0 i.1 in
      let q = sequence_strings_few s i.0 hi i.2 in
      omega (arith, length-append (condition_strings c) (sequence_strings s))
  statement_strings_few (return k) lo hi i = omega arith
  statement_strings_few (return_with k j e) lo hi i = let p = expr_strings_few e (k + 1) hi i.1 in omega arith

  pub arms_strings_few : Few InArms arms_strings
  arms_strings_few (when c s) lo hi i =
      let p = condition_strings_few c lo i.0 i.1 in
      let q = sequence_strings_few s i.0 hi i.2 in
      omega (arith, length-append (condition_strings c) (sequence_strings s))
  arms_strings_few (elsewhen ws c s) lo hi i =
      let o = arms_strings_few ws lo i.0 i.1 in
      let p = condition_strings_few c i.0 i.2.0 i.2.1 in
      let q = sequence_strings_few s i.2.0 hi i.2.2 in
      omega (arith, length-append (arms_strings ws) (condition_strings c ++ sequence_strings s), length-append (condition_strings c) (sequence_strings s))

mutual
  pub value_strings_few : Few InValue value_strings
  value_strings_few (constant k) lo hi i = omega arith
  value_strings_few (signed s k) lo hi i = omega arith
  value_strings_few (minus_signed s k) lo hi i = omega arith
  value_strings_few (identifier n) lo hi i = omega arith
  value_strings_few (string k) lo hi i = omega arith
  value_strings_few (empty_list k) lo hi i = omega arith
  value_strings_few (list k vs) lo hi i = let p = values_strings_few vs (k + 1) hi i.1 in omega arith

  values_strings_few : Few InValues values_strings
  values_strings_few (only e) lo hi i = entry_strings_few e lo hi i
  values_strings_few (and vs e) lo hi i =
      let p = values_strings_few vs lo i.0 i.1 in
      let q = entry_strings_few e i.0 hi i.2 in
      omega (arith, length-append (values_strings vs) (entry_strings e))

  entry_strings_few : Few InEntry entry_strings
  entry_strings_few (once v) lo hi i = value_strings_few v lo hi i
  entry_strings_few (repeated v k n) lo hi i = value_strings_few v lo hi i

value_ordered : Ordered InValue
value_ordered v lo hi i = let p = value_strings_few v lo hi i in omega arith

body_ordered : Ordered InBody
body_ordered b lo hi i = let p = body_strings_few b lo hi i in omega arith

sequence_ordered : Ordered InSequence
sequence_ordered s lo hi i = let p = sequence_strings_few s lo hi i in omega arith

statement_ordered : Ordered InStatement
statement_ordered s lo hi i = let p = statement_strings_few s lo hi i in omega arith

arms_ordered : Ordered InArms
arms_ordered ws lo hi i = let p = arms_strings_few ws lo hi i in omega arith

condition_ordered : Ordered InCondition
condition_ordered c lo hi i = let p = condition_strings_few c lo hi i in omega arith

mode_ordered : Ordered InMode
mode_ordered m lo hi i = let p = mode_lt m lo hi i in omega arith

-- Names.
item_names_few : {A : Type 0} (I : ℕ → A → ℕ → Type 0) → Ordered I → Few (InInit I) item_names
item_names_few I le (tree.plain n) lo hi i = omega arith
item_names_few I le (given ns a) lo hi i =
    let p = names_of_few ns lo i.0 i.1 in
    let q = le a i.0 hi i.2 in
    omega arith

list_names_few : {A : Type 0} (I : ℕ → A → ℕ → Type 0) → Ordered I → Few (InMany (InInit I)) list_names
list_names_few I le is lo hi i = gather_few (InInit I) item_names (item_names_few I le) is lo hi i

module _ (x : Text) where
  local_names_few : Few InLocal (local_names x)
  local_names_few (tree.local m is) lo hi i =
      let o = mode_lt m lo i.0 i.1 in
      let p = list_names_few In expr_ordered is i.0 hi i.2 in
      simp length-map (omega arith)

  pub entries_few : Few InLocals (entries x)
  entries_few no_locals lo hi i = omega arith
  entries_few (locals ls l) lo hi i =
      let p = entries_few ls lo i.0 i.1 in
      let q = local_names_few l i.0 hi i.2 in
      omega (arith, length-append (entries x ls) (local_names x l))

  pub block_names_few : Few InLocals (block_names x)
  block_names_few ls lo hi i = let p = entries_few ls lo hi i in simp length-map (omega arith)

  pub fields_few : Few InFields (fields x)
  fields_few (tree.field m n) lo hi i =
      let p = mode_lt m lo i.0 i.1 in
      let q = i.2 in
      omega arith
  fields_few (also fs n) lo hi i =
      let p = fields_few fs lo i.0 i.1 in
      let q = i.2 in
      simp length-append (omega arith)
  fields_few (tree.next fs m n) lo hi i =
      let p = fields_few fs lo i.0 i.1 in
      let o = mode_lt m i.0 i.2.0 i.2.1 in
      let q = i.2.2 in
      simp length-append (omega arith)

  pub parameters_few : Few (InOpt InFields) (parameters x)
  parameters_few tree.none lo hi i = omega arith
  parameters_few (tree.some fs) lo hi i = fields_few fs lo hi i

-- Blocks.
module _ {A : Type 0} (f : Locals → List A) (few : Few InLocals f) where
  mutual
    pub blocks_few : Few InBody (blocks f)
    blocks_few (body ls s) lo hi i =
        let p = few ls lo i.0 i.1 in
        let q = inner_blocks_few s i.0 hi i.2 in
        omega (arith, length-append (f ls) (inner_blocks f s))

    pub inner_blocks_few : Few InSequence (inner_blocks f)
    inner_blocks_few (single s) lo hi i = statement_blocks_few s lo hi i
    inner_blocks_few (sequel ss s) lo hi i =
        let p = inner_blocks_few ss lo i.0 i.1 in
        let q = statement_blocks_few s i.0 hi i.2 in
        omega (arith, length-append (inner_blocks f ss) (statement_blocks f s))

    statement_blocks_few : Few InStatement (statement_blocks f)
    statement_blocks_few dummy lo hi i = omega arith
    statement_blocks_few (block b) lo hi i = blocks_few b lo hi i
    statement_blocks_few (assign ds e) lo hi i = let p = statement_strings_few (assign ds e) lo hi i in omega arith
    statement_blocks_few (invoke n k) lo hi i = omega arith
    statement_blocks_few (invoke_on n k es) lo hi i = let p = statement_strings_few (invoke_on n k es) lo hi i in omega arith
    statement_blocks_few (branch ws) lo hi i = arms_blocks_few ws lo hi i
    statement_blocks_few (branch_else ws s) lo hi i =
        let p = arms_blocks_few ws lo i.0 i.1 in
        let q = inner_blocks_few s i.0 hi i.2 in
        omega (arith, length-append (arms_blocks f ws) (inner_blocks f s))
    statement_blocks_few (repeat e b) lo hi i =
        let p = expr_ordered e lo i.0 i.1 in
        let q = blocks_few b i.0 hi i.2 in
        omega arith
    statement_blocks_few (loop c s) lo hi i =
        let p = condition_strings_few c lo i.0 i.1 in
        let q = inner_blocks_few s i.0 hi i.2 in
        omega arith
    statement_blocks_few (return k) lo hi i = omega arith
    statement_blocks_few (return_with k j e) lo hi i = let p = expr_ordered e (k + 1) hi i.1 in omega arith

    pub arms_blocks_few : Few InArms (arms_blocks f)
    arms_blocks_few (when c s) lo hi i =
        let p = condition_strings_few c lo i.0 i.1 in
        let q = inner_blocks_few s i.0 hi i.2 in
        omega arith
    arms_blocks_few (elsewhen ws c s) lo hi i =
        let p = arms_blocks_few ws lo i.0 i.1 in
        let o = condition_strings_few c i.0 i.2.0 i.2.1 in
        let q = inner_blocks_few s i.2.0 hi i.2.2 in
        omega (arith, length-append (arms_blocks f ws) (inner_blocks f s))

-- the names of a body's blocks
pub body_names_few : (x : Text) → Few InBody (blocks (block_names x))
body_names_few x b lo hi i = blocks_few (block_names x) (block_names_few x) b lo hi i

-- Module items: what they declare.
names_ordered : Ordered (InMany InName)
names_ordered ns lo hi i = let p = names_of_few ns lo hi i in omega arith

modes_few : (x : Text) → Few (InOpt (InMany InMode)) (modes x)
modes_few x tree.none lo hi i = omega arith
modes_few x (tree.some ms) lo hi i = gather_few InMode (λ m. mode_of x m ∷ []) (λ m lo hi j. let p = mode_lt m lo hi j in omega arith) ms lo hi i

dec_names_few : {I : Type 0} (x : Text) (f : I → List ℕ) (J : ℕ → I → ℕ → Type 0) → Few J f → Few (InDecOf J) (dec_names x f)
dec_names_few x f J few tree.nothing lo hi i = omega arith
dec_names_few x f J few (variables m is) lo hi i =
    let p = mode_lt m lo i.0 i.1 in
    let q = few is i.0 hi i.2 in
    simp length-map (omega arith)
dec_names_few x f J few (arrays b n m is) lo hi i =
    let p = element_lt m lo i.0 i.1 in
    let q = few is i.0 hi i.2 in
    simp length-map (omega arith)
dec_names_few x f J few (structures n is) lo hi i =
    let q = few is (n + 1) hi i.1 in
    simp length-map (omega arith)

store_few : (x : Text) → Few (InMany InDec) (gather (dec_names x list_names))
store_few x ds lo hi i = gather_few InDec (dec_names x list_names) (dec_names_few x list_names (InMany (InInit InValue)) (list_names_few InValue value_ordered)) ds lo hi i

specs_few : (x : Text) → Few (InMany InSpec) (gather (dec_names x names_of))
specs_few x ds lo hi i = gather_few InSpec (dec_names x names_of) (dec_names_few x names_of (InMany InName) names_of_few) ds lo hi i

brick_names_few : (x : Text) → Few InBrick (brick_names x)
brick_names_few x (store n ds) lo hi i = let p = store_few x ds (n + 1) hi i.1 in omega arith
brick_names_few x (procedure n k ps m b e) lo hi i =
    let j = i.1 in
    let p = parameters_few x ps (n + 1) j.0 j.1 in
    let q = opt_ordered InMode mode_ordered m j.0 j.2.0 j.2.1 in
    let r = body_ordered b j.2.0 hi j.2.2 in
    omega arith

pub moditem_names_few : (x : Text) → Few InModitem (moditem_names x)
moditem_names_few x blank lo hi i = omega arith
moditem_names_few x (external_procs k ms m ns) lo hi i =
    let p = modes_few x ms lo i.0 i.1 in
    let q = opt_ordered InMode mode_ordered m i.0 i.2.0 i.2.1 in
    let r = names_of_few ns i.2.0 hi i.2.2 in
    simp length-map (omega arith)
moditem_names_few x (external_store n ds) lo hi i = let p = specs_few x ds (n + 1) hi i.1 in omega arith
moditem_names_few x (tree.record_mode n k fs) lo hi i = let p = fields_few x fs (n + 1) hi i.1 in omega arith
moditem_names_few x (own b) lo hi i = brick_names_few x b lo hi i
moditem_names_few x (entry b) lo hi i = brick_names_few x b lo hi i

pub module_names_few : (x : Text) → Few InModule (gather (moditem_names x))
module_names_few x m lo hi i = gather_few InModitem (moditem_names x) (moditem_names_few x) m lo hi i

-- The components of record modes.
pub moditem_parts_few : (x : Text) → Few InModitem (moditem_parts x)
moditem_parts_few x (tree.record_mode n k fs) lo hi i = let p = fields_few x fs (n + 1) hi i.1 in simp length-map (omega arith)
moditem_parts_few x blank lo hi i = omega arith
moditem_parts_few x (external_procs k ms m ns) lo hi i = let p = moditem_names_few x (external_procs k ms m ns) lo hi i in omega arith
moditem_parts_few x (external_store n ds) lo hi i = let p = moditem_names_few x (external_store n ds) lo hi i in omega arith
moditem_parts_few x (own b) lo hi i = let p = brick_names_few x b lo hi i in omega arith
moditem_parts_few x (entry b) lo hi i = let p = brick_names_few x b lo hi i in omega arith

pub module_parts_few : (x : Text) → Few InModule (gather (moditem_parts x))
module_parts_few x m lo hi i = gather_few InModitem (moditem_parts x) (moditem_parts_few x) m lo hi i

-- The modes that procedures take.
brick_takes_few : (x : Text) → Few InBrick (brick_takes x)
brick_takes_few x (store n ds) lo hi i = let p = brick_names_few x (store n ds) lo hi i in omega arith
brick_takes_few x (procedure n k ps m b e) lo hi i =
    let j = i.1 in
    let p = parameters_few x ps (n + 1) j.0 j.1 in
    let q = opt_ordered InMode mode_ordered m j.0 j.2.0 j.2.1 in
    let r = body_ordered b j.2.0 hi j.2.2 in
    simp length-map (omega arith)

pub moditem_takes_few : (x : Text) → Few InModitem (moditem_takes x)
moditem_takes_few x (external_procs k ms m ns) lo hi i =
    let p = modes_few x ms lo i.0 i.1 in
    let q = opt_ordered InMode mode_ordered m i.0 i.2.0 i.2.1 in
    let r = names_ordered ns i.2.0 hi i.2.2 in
    omega arith
moditem_takes_few x (own b) lo hi i = brick_takes_few x b lo hi i
moditem_takes_few x (entry b) lo hi i = brick_takes_few x b lo hi i
moditem_takes_few x blank lo hi i = omega arith
moditem_takes_few x (external_store n ds) lo hi i = let p = moditem_names_few x (external_store n ds) lo hi i in omega arith
moditem_takes_few x (tree.record_mode n k fs) lo hi i = let p = fields_few x fs (n + 1) hi i.1 in omega arith

pub module_takes_few : (x : Text) → Few InModule (gather (moditem_takes x))
module_takes_few x m lo hi i = gather_few InModitem (moditem_takes x) (moditem_takes_few x) m lo hi i

-- The charges of strings and data.
item_charges_few : (x : Text) (k : ℕ) → Few (InInit InValue) (item_charges x k)
item_charges_few x k (tree.plain n) lo hi i = omega arith
item_charges_few x k (given ns v) lo hi i =
    let p = names_of_few ns lo i.0 i.1 in
    let q = value_strings_few v i.0 hi i.2 in
    simp (length-append, length-map) (omega arith)

items_charges_few : (x : Text) (k : ℕ) → Few (InMany (InInit InValue)) (gather (item_charges x k))
items_charges_few x k is lo hi i = gather_few (InInit InValue) (item_charges x k) (item_charges_few x k) is lo hi i

dec_charges_few : (x : Text) (cs : List Component) → Few InDec (dec_charges x cs)
dec_charges_few x cs tree.nothing lo hi i = omega arith
dec_charges_few x cs (variables m is) lo hi i =
    let p = mode_lt m lo i.0 i.1 in
    let q = items_charges_few x (scalars cs (simply (mode_of x m))) is i.0 hi i.2 in
    omega arith
dec_charges_few x cs (arrays b n m is) lo hi i =
    let p = element_lt m lo i.0 i.1 in
    let q = items_charges_few x (scalars cs (several (x.value n) (element_of x m))) is i.0 hi i.2 in
    omega arith
dec_charges_few x cs (structures n is) lo hi i =
    let q = items_charges_few x (scalars cs (recorded (x.word n))) is (n + 1) hi i.1 in
    omega arith

brick_charges_few : (x : Text) (cs : List Component) → Few InBrick (brick_charges x cs)
brick_charges_few x cs (store n ds) lo hi i = let p = gather_few InDec (dec_charges x cs) (dec_charges_few x cs) ds (n + 1) hi i.1 in omega arith
brick_charges_few x cs (procedure n k ps m b e) lo hi i =
    let j = i.1 in
    let p = parameters_few x ps (n + 1) j.0 j.1 in
    let q = opt_ordered InMode mode_ordered m j.0 j.2.0 j.2.1 in
    let r = body_strings_few b j.2.0 hi j.2.2 in
    simp length-map (omega arith)

pub moditem_charges_few : (x : Text) (cs : List Component) → Few InModitem (moditem_charges x cs)
moditem_charges_few x cs (own b) lo hi i = brick_charges_few x cs b lo hi i
moditem_charges_few x cs (entry b) lo hi i = brick_charges_few x cs b lo hi i
moditem_charges_few x cs blank lo hi i = omega arith
moditem_charges_few x cs (external_procs k ms m ns) lo hi i = let p = moditem_names_few x (external_procs k ms m ns) lo hi i in omega arith
moditem_charges_few x cs (external_store n ds) lo hi i = let p = moditem_names_few x (external_store n ds) lo hi i in omega arith
moditem_charges_few x cs (tree.record_mode n k fs) lo hi i = let p = fields_few x fs (n + 1) hi i.1 in omega arith

pub module_charges_few : (x : Text) (cs : List Component) → Few InModule (gather (moditem_charges x cs))
module_charges_few x cs m lo hi i = gather_few InModitem (moditem_charges x cs) (moditem_charges_few x cs) m lo hi i

-- Room beside a module's names: each item has it, and so have the parts that stand in it.
pub rooms : (x : Text) (count n : ℕ) (m : Module) (lo hi : ℕ) → InModule lo m hi → count + hi ≤ lo + n + length (gather (moditem_names x) m) → AllByRecursion (Roomy x count n) (of_many m)
rooms x count n (one a) lo hi i r = ((lo, hi, i, r), tt)
rooms x count n (more m a) lo hi i r =
    let p = module_names_few x m lo i.0 i.1 in
    let q = moditem_names_few x a i.0 hi i.2 in
    let e = length-append (gather (moditem_names x) m) (moditem_names x a) in
    ((i.0, hi, i.2, omega arith), rooms x count n m lo i.0 i.1 (omega arith))

-- what has room has room for its list
pub room_fits : {A B : Type 0} (I : ℕ → A → ℕ → Type 0) (f : A → List B) → Few I f → (a : A) (count n : ℕ) → Room I a count n → count + length (f a) ≤ n
room_fits I f few a count n r =
    let p = few a r.0 r.1 r.2 in
    let o = r.3 in
    omega arith

-- how far a procedure's parameters go, and its body from there on
record Procedure (x : Text) (ps : Opt Fields) (b : Body) (lo hi : ℕ) : Type 0 where
  start : ℕ
  inside : InBody start b hi
  behind : lo + 1 + length (parameters x ps) ≤ start
  order : start ≤ hi

procedure_parts : (x : Text) (p i : ℕ) (ps : Opt Fields) (m : Opt tree.Mode) (b : Body) (e lo hi : ℕ) → InBrick lo (procedure p i ps m b e) hi → Procedure x ps b lo hi
procedure_parts x p i ps m b e lo hi y =
    let j = y.1 in
    let f = parameters_few x ps (p + 1) j.0 j.1 in
    let g = opt_ordered InMode mode_ordered m j.0 j.2.0 j.2.1 in
    record { start = j.2.0; inside = j.2.2; behind = omega arith; order = body_ordered b j.2.0 hi j.2.2 }

-- The same of a brick, which is one name of its module: Roomy of a procedure, own or entry, is this.
abbrev pub BrickRoom : ℕ → ℕ → Brick → Type 0
BrickRoom count n b = (lo : ℕ) × (hi : ℕ) × InBrick lo b hi × (count + hi ≤ lo + n + 1)

module _ (x : Text) (count n p i : ℕ) (ps : Opt Fields) (m : Opt tree.Mode) (b : Body) (e : ℕ) where
  pub parameters_fit : BrickRoom count n (procedure p i ps m b e) → count + length (parameters x ps) ≤ n
  parameters_fit r =
      let y = procedure_parts x p i ps m b e r.0 r.1 r.2 in
      let q = r.3 in
      omega arith

  -- behind the parameters
  pub procedure_body_room : BrickRoom count n (procedure p i ps m b e) → Room InBody b (count + length (parameters x ps)) n
  procedure_body_room r =
      let y = procedure_parts x p i ps m b e r.0 r.1 r.2 in
      let q = r.3 in
      (y.start, r.1, y.inside, omega arith)

pub components_fit : (x : Text) (count n p i : ℕ) (fs : Fields) → Roomy x count n (tree.record_mode p i fs) → count + length (fields x fs) ≤ n
components_fit x count n p i fs r =
    let f = fields_few x fs (p + 1) r.1 r.2.1 in
    let q = r.3 in
    omega arith

-- A block: its locals fit, and behind them its statements have room.
pub locals_fit : (x : Text) (ls : Locals) (s : Sequence) (count n : ℕ) → Room InBody (body ls s) count n → count + length (entries x ls) ≤ n
locals_fit x ls s count n r =
    let p = entries_few x ls r.0 r.2.0 r.2.1 in
    let q = sequence_ordered s r.2.0 r.1 r.2.2 in
    let o = r.3 in
    omega arith

pub sequence_room : (x : Text) (ls : Locals) (s : Sequence) (count n : ℕ) → Room InBody (body ls s) count n → Room InSequence s (count + length (entries x ls)) n
sequence_room x ls s count n r =
    let p = entries_few x ls r.0 r.2.0 r.2.1 in
    let o = r.3 in
    (r.2.0, r.1, r.2.2, omega arith)

-- a part that lies within what has room has it too
part_room : {A : Type 0} (I : ℕ → A → ℕ → Type 0) (a : A) (count n lo hi lo' hi' : ℕ) → I lo' a hi' → lo ≤ lo' → hi' ≤ hi → count + hi ≤ lo + n → Room I a count n
part_room I a count n lo hi lo' hi' i l h r = (lo', hi', i, omega arith)

pub statement_rooms : (ss : Sequence) (count n : ℕ) → Room InSequence ss count n → AllByRecursion (λ s. Room InStatement s count n) (of_sequence ss)
statement_rooms (single s) count n r = (r, tt)
statement_rooms (sequel ss s) count n r =
    let i = r.2 in
    let p = sequence_ordered ss r.0 i.0 i.1 in
    let q = statement_ordered s i.0 r.1 i.2 in
    (part_room InStatement s count n r.0 r.1 i.0 r.1 i.2 p (omega arith) r.3, statement_rooms ss count n (part_room InSequence ss count n r.0 r.1 r.0 i.0 i.1 (omega arith) q r.3))

pub arm_rooms : (ws : Arms) (count n : ℕ) → Room InArms ws count n → AllByRecursion (λ w. Room InArms w count n) (of_arms ws)
arm_rooms (when c s) count n r = (r, tt)
arm_rooms (elsewhen ws c s) count n r =
    let i = r.2 in
    let p = arms_ordered ws r.0 i.0 i.1 in
    let q = arms_ordered (when c s) i.0 r.1 i.2 in
    (part_room InArms (when c s) count n r.0 r.1 i.0 r.1 i.2 p (omega arith) r.3, arm_rooms ws count n (part_room InArms ws count n r.0 r.1 r.0 i.0 i.1 (omega arith) q r.3))

-- What stands in a statement, and in an arm.
module _ (count n : ℕ) where
  pub block_room : (b : Body) → Room InStatement (block b) count n → Room InBody b count n
  block_room b r = r

  pub branch_room : (ws : Arms) → Room InStatement (branch ws) count n → Room InArms ws count n
  branch_room ws r = r

  pub branch_else_arms_room : (ws : Arms) (s : Sequence) → Room InStatement (branch_else ws s) count n → Room InArms ws count n
  branch_else_arms_room ws s r =
      let i = r.2 in
      let q = sequence_ordered s i.0 r.1 i.2 in
      part_room InArms ws count n r.0 r.1 r.0 i.0 i.1 (omega arith) q r.3

  pub branch_else_room : (ws : Arms) (s : Sequence) → Room InStatement (branch_else ws s) count n → Room InSequence s count n
  branch_else_room ws s r =
      let i = r.2 in
      let p = arms_ordered ws r.0 i.0 i.1 in
      part_room InSequence s count n r.0 r.1 i.0 r.1 i.2 p (omega arith) r.3

  pub repeat_room : (e : Expr 5) (b : Body) → Room InStatement (repeat e b) count n → Room InBody b count n
  repeat_room e b r =
      let i = r.2 in
      let p = expr_ordered e r.0 i.0 i.1 in
      part_room InBody b count n r.0 r.1 i.0 r.1 i.2 p (omega arith) r.3

  pub loop_room : (c : Condition) (s : Sequence) → Room InStatement (loop c s) count n → Room InSequence s count n
  loop_room c s r =
      let i = r.2 in
      let p = condition_ordered c r.0 i.0 i.1 in
      part_room InSequence s count n r.0 r.1 i.0 r.1 i.2 p (omega arith) r.3

  pub when_room : (c : Condition) (s : Sequence) → Room InArms (when c s) count n → Room InSequence s count n
  when_room c s r =
      let i = r.2 in
      let p = condition_ordered c r.0 i.0 i.1 in
      part_room InSequence s count n r.0 r.1 i.0 r.1 i.2 p (omega arith) r.3
