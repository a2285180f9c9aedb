-- A tree's nodes last while nodes are added. Assumes nothing.
use Rattle.std.proofs.Common.{ℕ, ◌<◌, ◌≤◌, ◌≢◌, List, length, set, ◌∙◌, arith, get_or-set_other, get_or-set_same}
use Rattle.grammar.specs.Trees.{Expr, term, up, dyadic, Term, monadic, primary, Primary, integer, text, variable, call, call_on, paren, Variable, name, element, component, Exprs, first, comma, one, more, none, some, compare, int, byte, ref_int, ref_byte, ref_record, ref_array, ref_array_brackets, simple, records, field, also, next, plain, given, constant, signed, minus_signed, identifier, string, empty_list, list, only, and, once, repeated, nothing, variables, arrays, structures, local, no_locals, locals, place, val, body, single, sequel, dummy, block, assign, invoke, invoke_on, branch, branch_else, repeat, loop, return, return_with, when, elsewhen, store, procedure, blank, external_procs, external_store, record_mode, own, entry}
use Rattle.nodes.specs.Nodes.{At, IsExpr, IsTerm, IsPrimary, IsVariable, IsExprs, Reading, IsMany, IsOpt, IsName, IsComparison, IsSubcondition, IsCondition, IsMode, IsAmode, IsFields, IsInit, IsValue, IsValues, IsEntry, IsDec, IsLocal, IsLocals, IsDestination, IsBody, IsSequence, IsStatement, IsArms, IsBrick, IsModitem, Agree, blank_node}
use Rattle.nodes.specs.declared.Node.{Node}

module _ (n : ℕ) (ns ms : List Node) (a : Agree n ns ms) where
  mutual
    pub keep_expr : {m : ℕ} (e : Expr m) (k : ℕ) → k < n → IsExpr e ns k → IsExpr e ms k
    keep_expr (term t) k h is = keep_term t k h is
    keep_expr (up e) k h is = keep_expr e k h is
    keep_expr (dyadic x o i y) k h is = (is.0, is.1, is.2, is.3, a k h ∙ is.4, keep_expr x is.0 (omega arith) is.5, keep_expr y is.1 (omega arith) is.6)

    pub keep_term : (t : Term) (k : ℕ) → k < n → IsTerm t ns k → IsTerm t ms k
    keep_term (monadic o i t) k h is = (is.0, is.1, a k h ∙ is.2, keep_term t is.0 (omega arith) is.3)
    keep_term (primary p) k h is = keep_primary p k h is

    pub keep_primary : (p : Primary) (k : ℕ) → k < n → IsPrimary p ns k → IsPrimary p ms k
    keep_primary (integer i) k h is = a k h ∙ is
    keep_primary (text i) k h is = a k h ∙ is
    keep_primary (variable x) k h is = keep_variable x k h is
    keep_primary (call m i) k h is = a k h ∙ is
    keep_primary (call_on m i es e) k h is = (is.0, is.1, is.2, is.3, is.4, is.5, a k h ∙ is.6, a is.0 (omega arith) ∙ is.7, keep_exprs es is.1 (omega arith) is.8, keep_expr e is.2 (omega arith) is.9)
    keep_primary (paren i e) k h is = (is.0, is.1, a k h ∙ is.2, keep_expr e is.0 (omega arith) is.3)

    pub keep_variable : (x : Variable) (k : ℕ) → k < n → IsVariable x ns k → IsVariable x ms k
    keep_variable (name m) k h is = a k h ∙ is
    keep_variable (element x i e) k h is = (is.0, is.1, is.2, is.3, a k h ∙ is.4, keep_variable x is.0 (omega arith) is.5, keep_expr e is.1 (omega arith) is.6)
    keep_variable (component x m) k h is = (is.0, is.1, a k h ∙ is.2, keep_variable x is.0 (omega arith) is.3)

    pub keep_exprs : (es : Exprs) (k : ℕ) → k < n → IsExprs es ns k → IsExprs es ms k
    keep_exprs (first e) k h is = keep_expr e k h is
    keep_exprs (comma es e) k h is = (is.0, is.1, is.2, is.3, a k h ∙ is.4, keep_exprs es is.0 (omega arith) is.5, keep_expr e is.1 (omega arith) is.6)

  abbrev Keeps : {A : Type 0} → Reading A → Type 0
  Keeps {A = A} Is = (t : A) (k : ℕ) → k < n → Is t ns k → Is t ms k

  pub keep_many : {A : Type 0} (Is : Reading A) → Keeps Is → Keeps (IsMany Is)
  keep_many Is f (one t) k h is = f t k h is
  keep_many Is f (more m t) k h is = (is.0, is.1, is.2, is.3, a k h ∙ is.4, keep_many Is f m is.0 (omega arith) is.5, f t is.1 (omega arith) is.6)

  pub keep_opt : {A : Type 0} (Is : Reading A) → Keeps Is → Keeps (IsOpt Is)
  keep_opt Is f none k h is = a k h ∙ is
  keep_opt Is f (some t) k h is = f t k h is

  pub keep_name : Keeps IsName
  keep_name m k h is = a k h ∙ is

  pub keep_comparison : Keeps IsComparison
  keep_comparison (compare x o y) k h is = (is.0, is.1, is.2, is.3, a k h ∙ is.4, keep_expr x is.0 (omega arith) is.5, keep_expr y is.1 (omega arith) is.6)

  pub keep_subcondition : Keeps IsSubcondition
  keep_subcondition c k h is = keep_many IsComparison keep_comparison c k h is

  pub keep_condition : Keeps IsCondition
  keep_condition c k h is = keep_many IsSubcondition keep_subcondition c k h is

  mutual
    pub keep_mode : Keeps IsMode
    keep_mode int k h is = a k h ∙ is
    keep_mode (byte i) k h is = a k h ∙ is
    keep_mode ref_int k h is = a k h ∙ is
    keep_mode (ref_byte i) k h is = a k h ∙ is
    keep_mode (ref_record m) k h is = a k h ∙ is
    keep_mode (ref_array m) k h is = (is.0, is.1, a k h ∙ is.2, keep_amode m is.0 (omega arith) is.3)
    keep_mode (ref_array_brackets i m) k h is = (is.0, is.1, a k h ∙ is.2, keep_amode m is.0 (omega arith) is.3)

    pub keep_amode : Keeps IsAmode
    keep_amode (simple m) k h is = keep_mode m k h is
    keep_amode (records m) k h is = a k h ∙ is

  pub keep_fields : Keeps IsFields
  keep_fields (field m i) k h is = (is.0, is.1, a k h ∙ is.2, keep_mode m is.0 (omega arith) is.3)
  keep_fields (also fs i) k h is = (is.0, is.1, a k h ∙ is.2, keep_fields fs is.0 (omega arith) is.3)
  keep_fields (next fs m i) k h is = (is.0, is.1, is.2, is.3, a k h ∙ is.4, keep_fields fs is.0 (omega arith) is.5, keep_mode m is.1 (omega arith) is.6)

  pub keep_init : {A : Type 0} (Is : Reading A) → Keeps Is → Keeps (IsInit Is)
  keep_init Is f (plain m) k h is = a k h ∙ is
  keep_init Is f (given xs t) k h is = (is.0, is.1, is.2, is.3, a k h ∙ is.4, keep_many IsName keep_name xs is.0 (omega arith) is.5, f t is.1 (omega arith) is.6)

  mutual
    pub keep_value : Keeps IsValue
    keep_value (constant i) k h is = a k h ∙ is
    keep_value (signed s i) k h is = a k h ∙ is
    keep_value (minus_signed s i) k h is = a k h ∙ is
    keep_value (identifier m) k h is = a k h ∙ is
    keep_value (string i) k h is = a k h ∙ is
    keep_value (empty_list i) k h is = a k h ∙ is
    keep_value (list i vs) k h is = (is.0, is.1, a k h ∙ is.2, keep_values vs is.0 (omega arith) is.3)

    pub keep_values : Keeps IsValues
    keep_values (only e) k h is = keep_entry e k h is
    keep_values (and vs e) k h is = (is.0, is.1, is.2, is.3, a k h ∙ is.4, keep_values vs is.0 (omega arith) is.5, keep_entry e is.1 (omega arith) is.6)

    pub keep_entry : Keeps IsEntry
    keep_entry (once v) k h is = keep_value v k h is
    keep_entry (repeated v i m) k h is = (is.0, is.1, a k h ∙ is.2, keep_value v is.0 (omega arith) is.3)

  pub keep_dec : {I : Type 0} (Is : Reading I) → Keeps Is → Keeps (IsDec Is)
  keep_dec Is f nothing k h is = a k h ∙ is
  keep_dec Is f (variables m i) k h is = (is.0, is.1, is.2, is.3, a k h ∙ is.4, keep_mode m is.0 (omega arith) is.5, f i is.1 (omega arith) is.6)
  keep_dec Is f (arrays b m t i) k h is = (is.0, is.1, is.2, is.3, a k h ∙ is.4, keep_amode t is.0 (omega arith) is.5, f i is.1 (omega arith) is.6)
  keep_dec Is f (structures m i) k h is = (is.0, is.1, a k h ∙ is.2, f i is.0 (omega arith) is.3)

  pub keep_local : Keeps IsLocal
  keep_local (local m is') k h is = (is.0, is.1, is.2, is.3, a k h ∙ is.4, keep_mode m is.0 (omega arith) is.5, keep_many (IsInit IsExpr) (keep_init IsExpr keep_expr) is' is.1 (omega arith) is.6)

  pub keep_locals : Keeps IsLocals
  keep_locals no_locals k h is = a k h ∙ is
  keep_locals (locals ls x) k h is = (is.0, is.1, is.2, is.3, a k h ∙ is.4, keep_locals ls is.0 (omega arith) is.5, keep_local x is.1 (omega arith) is.6)

  pub keep_destination : Keeps IsDestination
  keep_destination (place x) k h is = keep_variable x k h is
  keep_destination (val i x) k h is = (is.0, is.1, a k h ∙ is.2, keep_variable x is.0 (omega arith) is.3)

  mutual
    pub keep_body : Keeps IsBody
    keep_body (body ls s) k h is = (is.0, is.1, is.2, is.3, a k h ∙ is.4, keep_locals ls is.0 (omega arith) is.5, keep_sequence s is.1 (omega arith) is.6)

    pub keep_sequence : Keeps IsSequence
    keep_sequence (single s) k h is = keep_statement s k h is
    keep_sequence (sequel ss s) k h is = (is.0, is.1, is.2, is.3, a k h ∙ is.4, keep_sequence ss is.0 (omega arith) is.5, keep_statement s is.1 (omega arith) is.6)

    pub keep_statement : Keeps IsStatement
    keep_statement dummy k h is = a k h ∙ is
    keep_statement (block b) k h is = (is.0, is.1, a k h ∙ is.2, keep_body b is.0 (omega arith) is.3)
    keep_statement (assign ds e) k h is = (is.0, is.1, is.2, is.3, a k h ∙ is.4, keep_many IsDestination keep_destination ds is.0 (omega arith) is.5, keep_expr e is.1 (omega arith) is.6)
    keep_statement (invoke m i) k h is = a k h ∙ is
    keep_statement (invoke_on m i es) k h is = (is.0, is.1, a k h ∙ is.2, keep_exprs es is.0 (omega arith) is.3)
    keep_statement (branch ws) k h is = (is.0, is.1, a k h ∙ is.2, keep_arms ws is.0 (omega arith) is.3)
    keep_statement (branch_else ws s) k h is = (is.0, is.1, is.2, is.3, a k h ∙ is.4, keep_arms ws is.0 (omega arith) is.5, keep_sequence s is.1 (omega arith) is.6)
    keep_statement (repeat e b) k h is = (is.0, is.1, is.2, is.3, a k h ∙ is.4, keep_expr e is.0 (omega arith) is.5, keep_body b is.1 (omega arith) is.6)
    keep_statement (loop c s) k h is = (is.0, is.1, is.2, is.3, a k h ∙ is.4, keep_condition c is.0 (omega arith) is.5, keep_sequence s is.1 (omega arith) is.6)
    keep_statement (return i) k h is = a k h ∙ is
    keep_statement (return_with i j e) k h is = (is.0, is.1, a k h ∙ is.2, keep_expr e is.0 (omega arith) is.3)

    pub keep_arms : Keeps IsArms
    keep_arms (when c s) k h is = (is.0, is.1, is.2, is.3, a k h ∙ is.4, keep_condition c is.0 (omega arith) is.5, keep_sequence s is.1 (omega arith) is.6)
    keep_arms (elsewhen ws c s) k h is = (is.0, is.1, is.2, is.3, a k h ∙ is.4, keep_arms ws is.0 (omega arith) is.5, is.6, is.7, is.8, is.9, a is.1 (omega arith) ∙ is.10, keep_condition c is.6 (omega arith) is.11, keep_sequence s is.7 (omega arith) is.12)

  pub keep_brick : Keeps IsBrick
  keep_brick (store m ds) k h is = (is.0, is.1, a k h ∙ is.2, keep_many (IsDec (IsMany (IsInit IsValue))) (keep_dec (IsMany (IsInit IsValue)) (keep_many (IsInit IsValue) (keep_init IsValue keep_value))) ds is.0 (omega arith) is.3)
  keep_brick (procedure m i ps t b e) k h is =
      (is.0, is.1, is.2, is.3, is.4, is.5, is.6, is.7, a k h ∙ is.8, a is.0 (omega arith) ∙ is.9, keep_opt IsFields keep_fields ps is.1 (omega arith) is.10, keep_opt IsMode keep_mode t is.2 (omega arith) is.11, keep_body b is.3 (omega arith) is.12)

  pub keep_moditem : Keeps IsModitem
  keep_moditem blank k h is = a k h ∙ is
  keep_moditem (external_procs i ms m xs) k h is = (is.0, is.1, is.2, is.3, is.4, is.5, a k h ∙ is.6, keep_opt (IsMany IsMode) (keep_many IsMode keep_mode) ms is.0 (omega arith) is.7, keep_opt IsMode keep_mode m is.1 (omega arith) is.8, keep_many IsName keep_name xs is.2 (omega arith) is.9)
  keep_moditem (external_store m ds) k h is = (is.0, is.1, a k h ∙ is.2, keep_many (IsDec (IsMany IsName)) (keep_dec (IsMany IsName) (keep_many IsName keep_name)) ds is.0 (omega arith) is.3)
  keep_moditem (record_mode m i fs) k h is = (is.0, is.1, a k h ∙ is.2, keep_fields fs is.0 (omega arith) is.3)
  keep_moditem (own b) k h is = (is.0, is.1, a k h ∙ is.2, keep_brick b is.0 (omega arith) is.3)
  keep_moditem (entry b) k h is = (is.0, is.1, a k h ∙ is.2, keep_brick b is.0 (omega arith) is.3)

pub agree_set : (n u : ℕ) (ns : List Node) (x : Node) → n ≤ u → Agree n ns (set ns u x)
agree_set n u ns x h j l = let ne : j ≢ u = omega arith in get_or-set_other ns u j x blank_node ne

pub at_set : (u : ℕ) (ns : List Node) (x : Node) → u < length ns → At (set ns u x) u x
at_set u ns x h = get_or-set_same ns u x blank_node h

pub agree_trans : (n m : ℕ) (a b c : List Node) → n ≤ m → Agree n a b → Agree m b c → Agree n a c
agree_trans n m a b c h p q j l = q j (omega arith) ∙ p j l
