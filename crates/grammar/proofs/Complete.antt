-- Every module is read back from its items. Assumes nothing.
use Rattle.std.proofs.Common.{◌≡◌, ℕ, List, [], ◌∷◌, refl, ap, ◌∙◌}
use Rattle.grammar.specs.Symbols.{NAME, INTEGER, TEXT, AND, ARRAY, BYTE, DO, ELSE, ELSEIF, END, ENDBLOCK, ENDDATA, ENDPROC, INT, OR, REF, REP, THEN, LEFT, RIGHT, PLUS, MINUS, COMMA, SEMI, BECOMES}
use Rattle.grammar.specs.Trees.{Token, token, symbol, key, Many, one, more, of_many, Opt, none, some, of_opt, of_name, of_names, Variable, name, element, component, Exprs, first, comma, of_expr, of_variable, Comparator, equal, spell_comparator, Comparison, compare, Subcondition, Condition, of_comparison, of_subcondition, of_condition, Mode, int, byte, ref_int, ref_byte, ref_record, ref_array, ref_array_brackets, Amode, simple, records, of_mode, of_amode, Fields, field, also, next, of_fields, plain, given, of_inits, Value, constant, signed, minus_signed, identifier, string, empty_list, list, Values, only, and, Entry, once, repeated, of_value, of_values, of_entry, Dec, nothing, variables, arrays, structures, of_dec, Local, local, of_local, Locals, no_locals, locals, of_locals, Destination, place, val, of_destination, Body, body, Sequence, single, sequel, Statement, dummy, block, assign, invoke, invoke_on, branch, branch_else, repeat, loop, return, return_with, Arms, when, elsewhen, of_body, of_sequence, of_statement, of_arms, Brick, store, procedure, of_brick, Moditem, blank, external_procs, external_store, record_mode, own, entry, of_moditem, Module, of_module}
use Rattle.grammar.specs.Machine.{start, final, assigned, started, branched, inside, declares, enclose, returns, bare, to_array, refers, fielded, Setting, stored, inblock, Sort, unset, set, Initial, Declared, value, via, chained, initial, stored_name, listed, entered, exprs, ors, ands, statements, modes, entries, moditems, declareds, decs, Goal, tok, all, each, rest, closed_on, a_source, compared, arms_on, returned, a_body, dims, an_amode, maybe_mode, maybe_modes, the_fields, fields_on, a_further, maybe_fields, given_on, chain, a_value, times_on, maybe_values, a_brick, an_expr, a_statement, a_mode, adds, Forest, Move, refuse, mapped, then, orelse, never, at_mode, at_all, just_name, a_module, of_initial, of_declared}
use Rattle.grammar.proofs.Read.{read, Off, Like, Chains, off, like, chains, all_is, ors_is}
use Rattle.grammar.proofs.Expressions.{Ends, index_at, exprs_read, expr_read}
use Rattle.grammar.proofs.Sources.{start_read, source_starts, chain_starts, start_onto}

compare_ends : (o : Comparator) (v : List Token) → Ends (key (spell_comparator o) ∷ v)
compare_ends equal v = ((refl, refl, refl), refl)
compare_ends _ v = ((refl, refl, refl), refl)

-- What may not stand behind: a statement; a declared name with its value; a declaration.
abbrev Calm : List Token → Type 0
Calm v = Off a_statement dummy v × Ends v × Off (closed_on start) none v × Off returned none v

abbrev Set : Sort → List Token → Type 0
Set unset v = Unit {0}
Set (set stored) v = Off (given_on stored) none v
Set (set inblock) v = Off (given_on inblock) none v × Ends v

abbrev AllSet : Sort → List Token → Type 0
AllSet s v = Set s v × Off (rest (declareds s)) [] v

-- no mode stands in front of v
abbrev Modeless : List Token → Type 0
Modeless [] = Unit {0}
Modeless (u ∷ w) = at_mode (symbol u) ≡ refuse

-- what a value begins with is taken alike by two stacks, and a name in front of v
pub record ValuesAlike (R : Type 0) (γ : List Goal) (j : Forest γ → R) (δ : List Goal) (k : Forest δ → R) (v : List Token) : Type 0 where
  pub by_integer : (i : ℕ) (w : List Token) → read γ (token INTEGER i ∷ w) j ≡ read δ (token INTEGER i ∷ w) k
  pub by_plus : (i : ℕ) (w : List Token) → read γ (token PLUS i ∷ w) j ≡ read δ (token PLUS i ∷ w) k
  pub by_minus : (i : ℕ) (w : List Token) → read γ (token MINUS i ∷ w) j ≡ read δ (token MINUS i ∷ w) k
  pub by_text : (i : ℕ) (w : List Token) → read γ (token TEXT i ∷ w) j ≡ read δ (token TEXT i ∷ w) k
  pub by_left : (i : ℕ) (w : List Token) → read γ (token LEFT i ∷ w) j ≡ read δ (token LEFT i ∷ w) k
  pub by_name : (n : ℕ) → read γ (token NAME n ∷ v) j ≡ read δ (token NAME n ∷ v) k

modeless_variable : (x : Variable) (v : List Token) → Modeless (of_variable x v)
modeless_variable (name n) v = refl
modeless_variable (element x i e) v = modeless_variable x _
modeless_variable (component x n) v = modeless_variable x _

modeless_destinations : (ds : Many Destination) (v : List Token) → Modeless (of_many of_destination BECOMES ds v)
modeless_destinations (one (place x)) v = modeless_variable x v
modeless_destinations (one (val i x)) v = refl
modeless_destinations (more ds d) v = modeless_destinations ds _

modeless_arms : (ws : Arms) (v : List Token) → Modeless (of_arms ws v)
modeless_arms (when c s) v = refl
modeless_arms (elsewhen ws c s) v = modeless_arms ws _

modeless_statement : (s : Statement) (v : List Token) → Modeless v → Modeless (of_statement s v)
modeless_statement dummy v h = h
modeless_statement (assign ds e) v h = modeless_destinations ds _
modeless_statement (branch ws) v h = modeless_arms ws _
modeless_statement (branch_else ws s) v h = modeless_arms ws _
modeless_statement _ v h = refl

modeless_sequence : (s : Sequence) (v : List Token) → Modeless v → Modeless (of_sequence s v)
modeless_sequence (single s) v h = modeless_statement s v h
modeless_sequence (sequel ss s) v h = modeless_sequence ss _ refl

body_like : (v : List Token) → Modeless v → Like a_body (all statements) inside v
body_like [] h = refl
body_like (u ∷ w) h = ap (λ (m : Move Mode). orelse (then m (λ α. all (declareds (set inblock)) ∷ tok SEMI ∷ a_body ∷ α) (λ m α g. (declares (local m g.0) g.1.1.0, g.1.1.1)) never) (mapped inside (at_all statements (symbol u)))) h

unset_read : (s : Setting) (w : List Token) → Set (set s) w → Off (given_on s) none w
unset_read stored w h = h
unset_read inblock w h = h.0

comma_set : (s : Sort) (w : List Token) → Set s (key COMMA ∷ w)
comma_set unset w = tt
comma_set (set stored) w = refl
comma_set (set inblock) w = (refl, ((refl, refl, refl), refl))

semi_set : (s : Sort) (w : List Token) → AllSet s (key SEMI ∷ w)
semi_set unset w = (tt, refl)
semi_set (set stored) w = (refl, refl)
semi_set (set inblock) w = ((refl, ((refl, refl, refl), refl)), refl)

abbrev Settled : List Token → Type 0
Settled v = Off (each moditems) blank v × Off (rest (declareds unset)) [] v

name_mode : (ns : Many ℕ) (v : List Token) → Off maybe_mode none (of_names ns v)
name_mode (one n) v = refl
name_mode (more ns n) v = name_mode ns _

comparison_chains : (v : List Token) → Chains (each ands) an_expr compared (λ a p. compare a p.0 p.1) v
comparison_chains [] = refl
comparison_chains (u ∷ w) = refl

module _ {R : Type 0} where
  -- conditions
  compare_at : (o : Comparator) (α : List Goal) (v : List Token) (k : Forest (compared ∷ α) → R) → read (compared ∷ α) (key (spell_comparator o) ∷ v) k ≡ read (an_expr ∷ α) v (λ g. k ((o, g.0), g.1))
  compare_at equal α v k = refl
  compare_at _ α v k = refl

  comparison_read : (c : Comparison) (α : List Goal) (v : List Token) (k : Forest (each ands ∷ α) → R) → Ends v → read (each ands ∷ α) (of_comparison c v) k ≡ read α v (λ f. k (c, f))
  comparison_read (compare a o b) α v k h = chains (each ands) an_expr compared (λ a p. compare a p.0 p.1) α (of_comparison (compare a o b) v) k (comparison_chains (of_comparison (compare a o b) v)) ∙ expr_read a (compared ∷ α) (key (spell_comparator o) ∷ of_expr b v) _ (compare_ends o (of_expr b v)) ∙ compare_at o α (of_expr b v) (λ g. k (compare a g.0.0 g.0.1, g.1)) ∙ expr_read b α v _ h

  ands_read : (cs : Subcondition) (α : List Goal) (v : List Token) (k : Forest (each ors ∷ α) → R) → Ends v → read (each ors ∷ α) (of_subcondition cs v) k ≡ read (rest ands ∷ α) v (λ g. k (adds ands cs g.0, g.1))
  ands_read (one c) α v k h = ors_is α (of_comparison c v) k ∙ comparison_read c (rest ands ∷ α) v _ h
  ands_read (more cs c) α v k h = ands_read cs α (key AND ∷ of_comparison c v) k ((refl, refl, refl), refl) ∙ comparison_read c (rest ands ∷ α) v _ h

  subcondition_read : (cs : Subcondition) (α : List Goal) (v : List Token) (k : Forest (each ors ∷ α) → R) → Ends v → Off (rest ands) [] v → read (each ors ∷ α) (of_subcondition cs v) k ≡ read α v (λ f. k (cs, f))
  subcondition_read cs α v k h o = ands_read cs α v k h ∙ off (rest ands) [] α v (λ g. k (adds ands cs g.0, g.1)) o

  ors_read : (cs : Condition) (α : List Goal) (v : List Token) (k : Forest (all ors ∷ α) → R) → Ends v → Off (rest ands) [] v → read (all ors ∷ α) (of_condition cs v) k ≡ read (rest ors ∷ α) v (λ g. k (adds ors cs g.0, g.1))
  ors_read (one c) α v k h o = all_is ors α (of_subcondition c v) k ∙ subcondition_read c (rest ors ∷ α) v _ h o
  ors_read (more cs c) α v k h o = ors_read cs α (key OR ∷ of_subcondition c v) k ((refl, refl, refl), refl) refl ∙ subcondition_read c (rest ors ∷ α) v _ h o

  condition_read : (cs : Condition) (α : List Goal) (v : List Token) (k : Forest (all ors ∷ α) → R) → Ends v → Off (rest ands) [] v → Off (rest ors) [] v → read (all ors ∷ α) (of_condition cs v) k ≡ read α v (λ f. k (cs, f))
  condition_read cs α v k h o p = ors_read cs α v k h o ∙ off (rest ors) [] α v (λ g. k (adds ors cs g.0, g.1)) p

  -- modes: two stacks that take the first symbols of a mode alike
  by_mode : (γ δ : List Goal) (j : Forest γ → R) (k : Forest δ → R) → ((i : ℕ) (w : List Token) → read γ (token INT i ∷ w) j ≡ read δ (token INT i ∷ w) k) → ((i : ℕ) (w : List Token) → read γ (token BYTE i ∷ w) j ≡ read δ (token BYTE i ∷ w) k) → ((i : ℕ) (w : List Token) → read γ (token REF i ∷ w) j ≡ read δ (token REF i ∷ w) k) → (m : Mode) (v : List Token) → read γ (of_mode m v) j ≡ read δ (of_mode m v) k
  by_mode γ δ j k a b c int v = a 0 v
  by_mode γ δ j k a b c (byte i) v = b i v
  by_mode γ δ j k a b c ref_int v = c 0 (key INT ∷ v)
  by_mode γ δ j k a b c (ref_byte i) v = c 0 (token BYTE i ∷ v)
  by_mode γ δ j k a b c (ref_record n) v = c 0 (token NAME n ∷ v)
  by_mode γ δ j k a b c (ref_array m) v = c 0 (key ARRAY ∷ of_amode m v)
  by_mode γ δ j k a b c (ref_array_brackets i m) v = c 0 (key ARRAY ∷ token LEFT i ∷ key RIGHT ∷ of_amode m v)

  mutual
    mode_read : (m : Mode) (α : List Goal) (v : List Token) (k : Forest (a_mode ∷ α) → R) → read (a_mode ∷ α) (of_mode m v) k ≡ read α v (λ f. k (m, f))
    mode_read (ref_array m) α v k = dims_bare m α v (λ g. k (refers (to_array g.0), g.1)) ∙ amode_read m α v (λ g. k (ref_array g.0, g.1))
    mode_read (ref_array_brackets i m) α v k = amode_read m α v (λ g. k (ref_array_brackets i g.0, g.1))
    mode_read _ α v k = refl

    amode_read : (m : Amode) (α : List Goal) (v : List Token) (k : Forest (an_amode ∷ α) → R) → read (an_amode ∷ α) (of_amode m v) k ≡ read α v (λ f. k (m, f))
    amode_read (simple m) α v k = by_mode (an_amode ∷ α) (a_mode ∷ α) k (λ g. k (simple g.0, g.1)) (λ i w. refl) (λ i w. refl) (λ i w. refl) m v ∙ mode_read m α v (λ g. k (simple g.0, g.1))
    amode_read (records n) α v k = refl

    dims_bare : (m : Amode) (α : List Goal) (v : List Token) (k : Forest (dims ∷ α) → R) → read (dims ∷ α) (of_amode m v) k ≡ read (an_amode ∷ α) (of_amode m v) (λ g. k (bare g.0, g.1))
    dims_bare (simple m) α v k = by_mode (dims ∷ α) (an_amode ∷ α) k (λ g. k (bare g.0, g.1)) (λ i w. refl) (λ i w. refl) (λ i w. refl) m v
    dims_bare (records n) α v k = refl

  modes_read : (ms : Many Mode) (α : List Goal) (v : List Token) (k : Forest (all modes ∷ α) → R) → read (all modes ∷ α) (of_many of_mode COMMA ms v) k ≡ read (rest modes ∷ α) v (λ g. k (adds modes ms g.0, g.1))
  modes_read (one m) α v k = all_is modes α (of_mode m v) k ∙ mode_read m (rest modes ∷ α) v _
  modes_read (more ms m) α v k = modes_read ms α (key COMMA ∷ of_mode m v) k ∙ mode_read m (rest modes ∷ α) v _

  modes_there : (ms : Many Mode) (α : List Goal) (v : List Token) (k : Forest (maybe_modes ∷ α) → R) → read (maybe_modes ∷ α) (of_many of_mode COMMA ms v) k ≡ read (all modes ∷ α) (of_many of_mode COMMA ms v) (λ g. k (some g.0, g.1))
  modes_there (one m) α v k = by_mode (maybe_modes ∷ α) (all modes ∷ α) k (λ g. k (some g.0, g.1)) (λ i w. refl) (λ i w. refl) (λ i w. refl) m v
  modes_there (more ms m) α v k = modes_there ms α (key COMMA ∷ of_mode m v) k

  maybe_modes_read : (o : Opt (Many Mode)) (α : List Goal) (v : List Token) (k : Forest (maybe_modes ∷ tok RIGHT ∷ α) → R) → read (maybe_modes ∷ tok RIGHT ∷ α) (of_opt (of_many of_mode COMMA) o (key RIGHT ∷ v)) k ≡ read α v (λ f. k (o, (0, f)))
  maybe_modes_read none α v k = refl
  maybe_modes_read (some ms) α v k = modes_there ms (tok RIGHT ∷ α) (key RIGHT ∷ v) k ∙ modes_read ms (tok RIGHT ∷ α) (key RIGHT ∷ v) (λ g. k (some g.0, g.1))

  maybe_mode_read : (o : Opt Mode) (α : List Goal) (v : List Token) (k : Forest (maybe_mode ∷ α) → R) → Off maybe_mode none v → read (maybe_mode ∷ α) (of_opt of_mode o v) k ≡ read α v (λ f. k (o, f))
  maybe_mode_read none α v k h = off maybe_mode none α v k h
  maybe_mode_read (some m) α v k h = by_mode (maybe_mode ∷ α) (a_mode ∷ α) k (λ g. k (some g.0, g.1)) (λ i w. refl) (λ i w. refl) (λ i w. refl) m v ∙ mode_read m α v (λ g. k (some g.0, g.1))

  -- components and parameters
  fields_read : (fs : Fields) (α : List Goal) (v : List Token) (k : Forest (the_fields ∷ α) → R) → read (the_fields ∷ α) (of_fields fs v) k ≡ read (fields_on ∷ α) v (λ g. k (fielded fs g.0, g.1))
  fields_read (field m n) α v k = by_mode (the_fields ∷ α) (a_mode ∷ tok NAME ∷ fields_on ∷ α) k (λ g. k (fielded (field g.0 g.1.0) g.1.1.0, g.1.1.1)) (λ i w. refl) (λ i w. refl) (λ i w. refl) m (token NAME n ∷ v) ∙ mode_read m (tok NAME ∷ fields_on ∷ α) (token NAME n ∷ v) (λ g. k (fielded (field g.0 g.1.0) g.1.1.0, g.1.1.1))
  fields_read (also fs n) α v k = fields_read fs α (key COMMA ∷ token NAME n ∷ v) k
  fields_read (next fs m n) α v k =
      fields_read fs α (key COMMA ∷ of_mode m (token NAME n ∷ v)) k
      ∙ by_mode (a_further ∷ α) (a_mode ∷ tok NAME ∷ fields_on ∷ α) (λ g. k (fielded fs (g.0.0 ∷ g.0.1), g.1)) (λ g. k (fielded (next fs g.0 g.1.0) g.1.1.0, g.1.1.1)) (λ i w. refl) (λ i w. refl) (λ i w. refl) m (token NAME n ∷ v)
      ∙ mode_read m (tok NAME ∷ fields_on ∷ α) (token NAME n ∷ v) (λ g. k (fielded (next fs g.0 g.1.0) g.1.1.0, g.1.1.1))

  fields_there : (fs : Fields) (α : List Goal) (v : List Token) (k : Forest (maybe_fields ∷ α) → R) → read (maybe_fields ∷ α) (of_fields fs v) k ≡ read (the_fields ∷ α) (of_fields fs v) (λ g. k (some g.0, g.1))
  fields_there (field m n) α v k = by_mode (maybe_fields ∷ α) (the_fields ∷ α) k (λ g. k (some g.0, g.1)) (λ i w. refl) (λ i w. refl) (λ i w. refl) m (token NAME n ∷ v)
  fields_there (also fs n) α v k = fields_there fs α (key COMMA ∷ token NAME n ∷ v) k
  fields_there (next fs m n) α v k = fields_there fs α (key COMMA ∷ of_mode m (token NAME n ∷ v)) k

  maybe_fields_read : (o : Opt Fields) (α : List Goal) (v : List Token) (k : Forest (maybe_fields ∷ tok RIGHT ∷ α) → R) → read (maybe_fields ∷ tok RIGHT ∷ α) (of_opt of_fields o (key RIGHT ∷ v)) k ≡ read α v (λ f. k (o, (0, f)))
  maybe_fields_read none α v k = refl
  maybe_fields_read (some fs) α v k = fields_there fs (tok RIGHT ∷ α) (key RIGHT ∷ v) k ∙ fields_read fs (tok RIGHT ∷ α) (key RIGHT ∷ v) (λ g. k (some g.0, g.1))

  -- initial values in a data brick
  value_alike : (x : Value) (γ δ : List Goal) (j : Forest γ → R) (k : Forest δ → R) (v : List Token) → ValuesAlike R γ j δ k v → read γ (of_value x v) j ≡ read δ (of_value x v) k
  value_alike (constant i) γ δ j k v S = S.by_integer i v
  value_alike (signed s i) γ δ j k v S = S.by_plus s (token INTEGER i ∷ v)
  value_alike (minus_signed s i) γ δ j k v S = S.by_minus s (token INTEGER i ∷ v)
  value_alike (identifier n) γ δ j k v S = S.by_name n
  value_alike (string i) γ δ j k v S = S.by_text i v
  value_alike (empty_list i) γ δ j k v S = S.by_left i (key RIGHT ∷ v)
  value_alike (list i vs) γ δ j k v S = S.by_left i (of_values vs (key RIGHT ∷ v))

  values_alike : (α : List Goal) (k : Forest (maybe_values ∷ α) → R) (v : List Token) → ValuesAlike R (maybe_values ∷ α) k (all entries ∷ α) (λ g. k (some g.0, g.1)) v
  values_alike α k v = record { by_integer = λ i w. refl; by_plus = λ i w. refl; by_minus = λ i w. refl; by_text = λ i w. refl; by_left = λ i w. refl; by_name = λ n. refl }

  values_there : (vs : Values) (α : List Goal) (v : List Token) (k : Forest (maybe_values ∷ α) → R) → read (maybe_values ∷ α) (of_values vs v) k ≡ read (all entries ∷ α) (of_values vs v) (λ g. k (some g.0, g.1))
  values_there (only (once x)) α v k = value_alike x _ _ _ _ v (values_alike α k v)
  values_there (only (repeated x i n)) α v k = value_alike x _ _ _ _ _ (values_alike α k (token LEFT i ∷ token INTEGER n ∷ key RIGHT ∷ v))
  values_there (and vs e) α v k = values_there vs α (key COMMA ∷ of_entry e v) k

  mutual
    value_read : (x : Value) (α : List Goal) (v : List Token) (k : Forest (a_value ∷ α) → R) → read (a_value ∷ α) (of_value x v) k ≡ read α v (λ f. k (x, f))
    value_read (list i vs) α v k = values_there vs (tok RIGHT ∷ α) (key RIGHT ∷ v) (λ g. k (listed i g.0, g.1.1)) ∙ values_read vs (tok RIGHT ∷ α) (key RIGHT ∷ v) (λ g. k (list i g.0, g.1.1)) refl
    value_read _ α v k = refl

    entry_read : (e : Entry) (α : List Goal) (v : List Token) (k : Forest (each entries ∷ α) → R) → Off times_on none v → read (each entries ∷ α) (of_entry e v) k ≡ read α v (λ f. k (e, f))
    entry_read (once x) α v k h = entry_value x α v k ∙ value_read x (times_on ∷ α) v (λ g. k (entered g.0 g.1.0, g.1.1)) ∙ off times_on none α v (λ g. k (entered x g.0, g.1)) h
    entry_read (repeated x i n) α v k h = entry_value x α (token LEFT i ∷ token INTEGER n ∷ key RIGHT ∷ v) k ∙ value_read x (times_on ∷ α) (token LEFT i ∷ token INTEGER n ∷ key RIGHT ∷ v) (λ g. k (entered g.0 g.1.0, g.1.1))

    values_read : (vs : Values) (α : List Goal) (v : List Token) (k : Forest (all entries ∷ α) → R) → Off times_on none v → read (all entries ∷ α) (of_values vs v) k ≡ read (rest entries ∷ α) v (λ g. k (adds entries vs g.0, g.1))
    values_read (only e) α v k h = all_is entries α (of_entry e v) k ∙ entry_read e (rest entries ∷ α) v _ h
    values_read (and vs e) α v k h = values_read vs α (key COMMA ∷ of_entry e v) k refl ∙ entry_read e (rest entries ∷ α) v _ h

    entry_value : (x : Value) (α : List Goal) (v : List Token) (k : Forest (each entries ∷ α) → R) → read (each entries ∷ α) (of_value x v) k ≡ read (a_value ∷ times_on ∷ α) (of_value x v) (λ g. k (entered g.0 g.1.0, g.1.1))
    entry_value (constant i) α v k = refl
    entry_value _ α v k = refl

  -- declarations
  via_at : (v : Setting) (n : ℕ) (α : List Goal) (w : List Token) (k : Forest (chain v ∷ α) → R) → read (chain v ∷ α) (token NAME n ∷ key BECOMES ∷ w) k ≡ read (chain v ∷ α) w (λ g. k (via n g.0, g.1))
  via_at stored n α w k = refl
  via_at inblock n α w k = refl

  chain_read : (v : Setting) (a : Initial v) (α : List Goal) (w : List Token) (k : Forest (chain v ∷ α) → R) → Set (set v) w → read (chain v ∷ α) (of_initial v a w) k ≡ read α w (λ f. k (value a, f))
  chain_read stored (identifier n) α w k h = off (given_on stored) none α w (λ g. k (stored_name n g.0, g.1)) h
  chain_read stored (list i vs) α w k h = value_read (list i vs) α w (λ g. k (value g.0, g.1))
  chain_read stored _ α w k h = refl
  chain_read inblock e α w k h = start_read (chain inblock) value chain_starts e α w k h.1

  names_read : (v : Setting) (ns : Many ℕ) (α : List Goal) (w : List Token) (k : Forest (each (declareds (set v)) ∷ α) → R) → read (each (declareds (set v)) ∷ α) (of_many of_name BECOMES ns (key BECOMES ∷ w)) k ≡ read (chain v ∷ α) w (λ g. k (chained ns g.0, g.1))
  names_read v (one n) α w k = refl
  names_read v (more ns n) α w k = names_read v ns α (token NAME n ∷ key BECOMES ∷ w) k ∙ via_at v n α w (λ g. k (chained ns g.0, g.1))

  declared_read : (s : Sort) (d : Declared s) (α : List Goal) (w : List Token) (k : Forest (each (declareds s) ∷ α) → R) → Set s w → read (each (declareds s) ∷ α) (of_declared s d w) k ≡ read α w (λ f. k (d, f))
  declared_read unset n α w k h = refl
  declared_read (set v) (plain n) α w k h = off (given_on v) none α w (λ g. k (initial n g.0, g.1)) (unset_read v w h)
  declared_read (set v) (given ns a) α w k h = names_read v ns α (of_initial v a w) k ∙ chain_read v a α w (λ g. k (chained ns g.0, g.1)) h

  declareds_on : (s : Sort) (ds : Many (Declared s)) (α : List Goal) (w : List Token) (k : Forest (all (declareds s) ∷ α) → R) → Set s w → read (all (declareds s) ∷ α) (of_many (of_declared s) COMMA ds w) k ≡ read (rest (declareds s) ∷ α) w (λ g. k (adds (declareds s) ds g.0, g.1))
  declareds_on s (one d) α w k h = all_is (declareds s) α (of_declared s d w) k ∙ declared_read s d (rest (declareds s) ∷ α) w _ h
  declareds_on s (more ds d) α w k h = declareds_on s ds α (key COMMA ∷ of_declared s d w) k (comma_set s (of_declared s d w)) ∙ declared_read s d (rest (declareds s) ∷ α) w _ h

  declareds_read : (s : Sort) (ds : Many (Declared s)) (α : List Goal) (w : List Token) (k : Forest (all (declareds s) ∷ α) → R) → AllSet s w → read (all (declareds s) ∷ α) (of_many (of_declared s) COMMA ds w) k ≡ read α w (λ f. k (ds, f))
  declareds_read s ds α w k h = declareds_on s ds α w k h.0 ∙ off (rest (declareds s)) [] α w (λ g. k (adds (declareds s) ds g.0, g.1)) h.1

  dec_read : (s : Sort) (d : Dec (Many (Declared s))) (α : List Goal) (w : List Token) (k : Forest (each (decs s) ∷ α) → R) → AllSet s w → Off (each (decs s)) nothing w → read (each (decs s) ∷ α) (of_dec (of_many (of_declared s) COMMA) d w) k ≡ read α w (λ f. k (d, f))
  dec_read s nothing α w k h o = off (each (decs s)) nothing α w k o
  dec_read s (variables m ds) α w k h o =
      by_mode (each (decs s) ∷ α) (a_mode ∷ all (declareds s) ∷ α) k (λ g. k (variables g.0 g.1.0, g.1.1)) (λ i w. refl) (λ i w. refl) (λ i w. refl) m (of_many (of_declared s) COMMA ds w)
      ∙ mode_read m (all (declareds s) ∷ α) (of_many (of_declared s) COMMA ds w) (λ g. k (variables g.0 g.1.0, g.1.1))
      ∙ declareds_read s ds α w (λ g. k (variables m g.0, g.1)) h
  dec_read s (arrays b n m ds) α w k h o =
      amode_read m (all (declareds s) ∷ α) (of_many (of_declared s) COMMA ds w) (λ g. k (arrays b n g.0 g.1.0, g.1.1))
      ∙ declareds_read s ds α w (λ g. k (arrays b n m g.0, g.1)) h
  dec_read s (structures n ds) α w k h o = declareds_read s ds α w (λ g. k (structures n g.0, g.1)) h

  decs_read : (s : Sort) (ds : Many (Dec (Many (Declared s)))) (α : List Goal) (w : List Token) (k : Forest (all (decs s) ∷ α) → R) → AllSet s w → Off (each (decs s)) nothing w → read (all (decs s) ∷ α) (of_many (of_dec (of_many (of_declared s) COMMA)) SEMI ds w) k ≡ read (rest (decs s) ∷ α) w (λ g. k (adds (decs s) ds g.0, g.1))
  decs_read s (one d) α w k h o = all_is (decs s) α (of_dec (of_many (of_declared s) COMMA) d w) k ∙ dec_read s d (rest (decs s) ∷ α) w _ h o
  decs_read s (more ds d) α w k h o = decs_read s ds α (key SEMI ∷ of_dec (of_many (of_declared s) COMMA) d w) k (semi_set s (of_dec (of_many (of_declared s) COMMA) d w)) refl ∙ dec_read s d (rest (decs s) ∷ α) w _ h o

  local_read : (l : Local) (α : List Goal) (w : List Token) (k : Forest (a_body ∷ α) → R) → read (a_body ∷ α) (of_local l (key SEMI ∷ w)) k ≡ read (a_body ∷ α) w (λ g. k (declares l g.0, g.1))
  local_read (local m ds) α w k =
      by_mode (a_body ∷ α) (a_mode ∷ all (declareds (set inblock)) ∷ tok SEMI ∷ a_body ∷ α) k (λ g. k (declares (local g.0 g.1.0) g.1.1.1.0, g.1.1.1.1)) (λ i w. refl) (λ i w. refl) (λ i w. refl) m (of_inits of_expr ds (key SEMI ∷ w))
      ∙ mode_read m (all (declareds (set inblock)) ∷ tok SEMI ∷ a_body ∷ α) (of_inits of_expr ds (key SEMI ∷ w)) (λ g. k (declares (local g.0 g.1.0) g.1.1.1.0, g.1.1.1.1))
      ∙ declareds_read (set inblock) ds (tok SEMI ∷ a_body ∷ α) (key SEMI ∷ w) (λ g. k (declares (local m g.0) g.1.1.0, g.1.1.1)) ((refl, ((refl, refl, refl), refl)), refl)

  locals_read : (ls : Locals) (α : List Goal) (w : List Token) (k : Body × Forest α → R) → read (a_body ∷ α) (of_locals ls w) (λ g. k (enclose no_locals g.0, g.1)) ≡ read (a_body ∷ α) w (λ g. k (enclose ls g.0, g.1))
  locals_read no_locals α w k = refl
  locals_read (locals ls l) α w k = locals_read ls α (of_local l (key SEMI ∷ w)) k ∙ local_read l α w (λ g. k (enclose ls g.0, g.1))

  -- a procedure statement
  invoke_read : (es : Exprs) (n i : ℕ) (α : List Goal) (v : List Token) (k : Forest (a_statement ∷ α) → R) → Off (closed_on start) none v → read (a_statement ∷ α) (of_statement (invoke_on n i es) v) k ≡ read α v (λ f. k (invoke_on n i es, f))
  invoke_read (first e) n i α v k h = index_at (just_name n) start α i e v k (expr_read e) ∙ off (closed_on start) none α v (λ g. k (started n i e g.0, g.1)) h
  invoke_read (comma es e) n i α v k h = exprs_read es start n i α (of_expr e (key RIGHT ∷ v)) k ∙ expr_read e (rest exprs ∷ tok RIGHT ∷ α) (key RIGHT ∷ v) _ ((refl, refl, refl), refl)

  -- statements
  mutual
    body_read : (b : Body) (α : List Goal) (v : List Token) (k : Body × Forest α → R) → Calm v × Off (rest statements) [] v → Modeless v → read (a_body ∷ α) (of_body b v) (λ g. k (enclose no_locals g.0, g.1)) ≡ read α v (λ f. k (b, f))
    body_read (body ls s) α v k h m =
        locals_read ls α (of_sequence s v) k
        ∙ like a_body (all statements) inside α (of_sequence s v) (λ g. k (enclose ls g.0, g.1)) (body_like (of_sequence s v) (modeless_sequence s v m))
        ∙ statements_read s α v (λ g. k (body ls g.0, g.1)) h.0
        ∙ off (rest statements) [] α v (λ g. k (body ls (adds statements s g.0), g.1)) h.1

    statements_read : (s : Sequence) (α : List Goal) (v : List Token) (k : Forest (all statements ∷ α) → R) → Calm v → read (all statements ∷ α) (of_sequence s v) k ≡ read (rest statements ∷ α) v (λ g. k (adds statements s g.0, g.1))
    statements_read (single s) α v k h = all_is statements α (of_statement s v) k ∙ statement_read s (rest statements ∷ α) v _ h
    statements_read (sequel ss s) α v k h = statements_read ss α (key SEMI ∷ of_statement s v) k (refl, ((refl, refl, refl), refl), refl, refl) ∙ statement_read s (rest statements ∷ α) v _ h

    statement_read : (s : Statement) (α : List Goal) (v : List Token) (k : Forest (a_statement ∷ α) → R) → Calm v → read (a_statement ∷ α) (of_statement s v) k ≡ read α v (λ f. k (s, f))
    statement_read dummy α v k h = off a_statement dummy α v k h.0
    statement_read (block b) α v k h = body_read b (tok ENDBLOCK ∷ α) (key ENDBLOCK ∷ v) (λ g. k (block g.0, g.1.1)) ((refl, ((refl, refl, refl), refl), refl, refl), refl) refl
    statement_read (assign ds e) α v k h = start_onto ds α (of_expr e v) k ∙ start_read a_source final source_starts e α v (λ g. k (assigned ds g.0, g.1)) h.1
    statement_read (invoke n i) α v k h = refl
    statement_read (invoke_on n i es) α v k h = invoke_read es n i α v k h.2
    statement_read (branch ws) α v k h = arms_read ws α (key END ∷ v) k (refl, ((refl, refl, refl), refl), refl, refl) refl
    statement_read (branch_else ws s) α v k h =
        arms_read ws α (key ELSE ∷ of_sequence s (key END ∷ v)) k (refl, ((refl, refl, refl), refl), refl, refl) refl
        ∙ statements_read s (tok END ∷ α) (key END ∷ v) (λ g. k (branch_else ws g.0, g.1.1)) (refl, ((refl, refl, refl), refl), refl, refl)
    statement_read (repeat e b) α v k h =
        expr_read e (tok DO ∷ a_body ∷ tok REP ∷ α) (key DO ∷ of_body b (key REP ∷ v)) (λ g. k (repeat g.0 (enclose no_locals g.1.1.0), g.1.1.1.1)) ((refl, refl, refl), refl)
        ∙ body_read b (tok REP ∷ α) (key REP ∷ v) (λ g. k (repeat e g.0, g.1.1)) ((refl, ((refl, refl, refl), refl), refl, refl), refl) refl
    statement_read (loop c s) α v k h =
        condition_read c (tok DO ∷ all statements ∷ tok REP ∷ α) (key DO ∷ of_sequence s (key REP ∷ v)) (λ g. k (loop g.0 g.1.1.0, g.1.1.1.1)) ((refl, refl, refl), refl) refl refl
        ∙ statements_read s (tok REP ∷ α) (key REP ∷ v) (λ g. k (loop c g.0, g.1.1)) (refl, ((refl, refl, refl), refl), refl, refl)
    statement_read (return i) α v k h = off returned none α v (λ g. k (returns i g.0, g.1)) h.3
    statement_read (return_with i j e) α v k h = expr_read e (tok RIGHT ∷ α) (key RIGHT ∷ v) _ ((refl, refl, refl), refl)

    arms_read : (ws : Arms) (α : List Goal) (v : List Token) (k : Forest (a_statement ∷ α) → R) → Calm v → Off (rest statements) [] v → read (a_statement ∷ α) (of_arms ws v) k ≡ read (arms_on ∷ α) v (λ g. k (branched ws g.0, g.1))
    arms_read (when c s) α v k h o =
        condition_read c (tok THEN ∷ all statements ∷ arms_on ∷ α) (key THEN ∷ of_sequence s v) (λ g. k (branched (when g.0 g.1.1.0) g.1.1.1.0, g.1.1.1.1)) ((refl, refl, refl), refl) refl refl
        ∙ statements_read s (arms_on ∷ α) v (λ g. k (branched (when c g.0) g.1.0, g.1.1)) h
        ∙ off (rest statements) [] (arms_on ∷ α) v (λ g. k (branched (when c (adds statements s g.0)) g.1.0, g.1.1)) o
    arms_read (elsewhen ws c s) α v k h o =
        arms_read ws α (key ELSEIF ∷ of_condition c (key THEN ∷ of_sequence s v)) k (refl, ((refl, refl, refl), refl), refl, refl) refl
        ∙ condition_read c (tok THEN ∷ all statements ∷ arms_on ∷ α) (key THEN ∷ of_sequence s v) (λ g. k (branched (elsewhen ws g.0 g.1.1.0) g.1.1.1.0, g.1.1.1.1)) ((refl, refl, refl), refl) refl refl
        ∙ statements_read s (arms_on ∷ α) v (λ g. k (branched (elsewhen ws c g.0) g.1.0, g.1.1)) h
        ∙ off (rest statements) [] (arms_on ∷ α) v (λ g. k (branched (elsewhen ws c (adds statements s g.0)) g.1.0, g.1.1)) o

  -- module items
  brick_read : (b : Brick) (α : List Goal) (v : List Token) (k : Forest (a_brick ∷ α) → R) → read (a_brick ∷ α) (of_brick b v) k ≡ read α v (λ f. k (b, f))
  brick_read (store n ds) α v k = decs_read (set stored) ds (tok ENDDATA ∷ α) (key ENDDATA ∷ v) (λ g. k (store n g.0, g.1.1)) (refl, refl) refl
  brick_read (procedure n i ps m b e) α v k =
      maybe_fields_read ps (maybe_mode ∷ tok SEMI ∷ a_body ∷ tok ENDPROC ∷ α) (of_opt of_mode m (key SEMI ∷ of_body b (token ENDPROC e ∷ v))) (λ g. k (procedure n i g.0 g.1.1.0 (enclose no_locals g.1.1.1.1.0) g.1.1.1.1.1.0, g.1.1.1.1.1.1))
      ∙ maybe_mode_read m (tok SEMI ∷ a_body ∷ tok ENDPROC ∷ α) (key SEMI ∷ of_body b (token ENDPROC e ∷ v)) (λ g. k (procedure n i ps g.0 (enclose no_locals g.1.1.0) g.1.1.1.0, g.1.1.1.1)) refl
      ∙ body_read b (tok ENDPROC ∷ α) (token ENDPROC e ∷ v) (λ g. k (procedure n i ps m g.0 g.1.0, g.1.1)) ((refl, ((refl, refl, refl), refl), refl, refl), refl) refl

  moditem_read : (m : Moditem) (α : List Goal) (v : List Token) (k : Forest (each moditems ∷ α) → R) → Settled v → read (each moditems ∷ α) (of_moditem m v) k ≡ read α v (λ f. k (m, f))
  moditem_read blank α v k h = off (each moditems) blank α v k h.0
  moditem_read (external_procs i ms m ns) α v k h =
      maybe_modes_read ms (maybe_mode ∷ all (declareds unset) ∷ α) (of_opt of_mode m (of_names ns v)) (λ g. k (external_procs i g.0 g.1.1.0 g.1.1.1.0, g.1.1.1.1))
      ∙ maybe_mode_read m (all (declareds unset) ∷ α) (of_names ns v) (λ g. k (external_procs i ms g.0 g.1.0, g.1.1)) (name_mode ns v)
      ∙ declareds_read unset ns α v (λ g. k (external_procs i ms m g.0, g.1)) (tt, h.1)
  moditem_read (external_store n ds) α v k h = decs_read unset ds (tok ENDDATA ∷ α) (key ENDDATA ∷ v) (λ g. k (external_store n g.0, g.1.1)) (tt, refl) refl
  moditem_read (record_mode n i fs) α v k h = fields_read fs (tok RIGHT ∷ α) (key RIGHT ∷ v) (λ g. k (record_mode n i g.0, g.1.1))
  moditem_read (own b) α v k h = own_brick b α v k ∙ brick_read b α v (λ g. k (own g.0, g.1))
    where
      own_brick : (b : Brick) (α : List Goal) (v : List Token) (k : Forest (each moditems ∷ α) → R) → read (each moditems ∷ α) (of_brick b v) k ≡ read (a_brick ∷ α) (of_brick b v) (λ g. k (own g.0, g.1))
      own_brick (store n ds) α v k = refl
      own_brick (procedure n i ps m b e) α v k = refl
  moditem_read (entry b) α v k h = brick_read b α v (λ g. k (entry g.0, g.1))

  module_on : (m : Module) (α : List Goal) (v : List Token) (k : Forest (all moditems ∷ α) → R) → Settled v → read (all moditems ∷ α) (of_module m v) k ≡ read (rest moditems ∷ α) v (λ g. k (adds moditems m g.0, g.1))
  module_on (one i) α v k h = all_is moditems α (of_moditem i v) k ∙ moditem_read i (rest moditems ∷ α) v _ h
  module_on (more m i) α v k h = module_on m α (key SEMI ∷ of_moditem i v) k (refl, refl) ∙ moditem_read i (rest moditems ∷ α) v _ h

pub module_read : (m : Module) → read a_module (of_module m []) (λ f. f.0) ≡ some m
module_read m = module_on m [] [] (λ f. f.0) (refl, refl)
