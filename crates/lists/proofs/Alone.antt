-- An entry of a list is no list itself. Assumes nothing.
use Rattle.std.proofs.Common.{ℕ, List, ap}
use Rattle.grammar.specs.Trees.{term, up, dyadic, monadic, primary, integer, text, variable, call, call_on, paren, name, element, component, compare, int, byte, ref_int, ref_byte, ref_record, ref_array, ref_array_brackets, plain, given, constant, signed, minus_signed, identifier, string, empty_list, list, once, repeated, nothing, variables, arrays, structures, place, val, dummy, block, assign, invoke, invoke_on, branch, branch_else, repeat, loop, return, return_with, blank, external_procs, external_store, record_mode, own, entry}
use Rattle.grammar.specs.Machine.{Repetition, exprs, ors, ands, statements, modes, entries, moditems, declareds, decs, Sort, unset, set}
use Rattle.nodes.specs.declared.Node.{Node}
use Rattle.nodes.specs.Nodes.{IsExpr, IsTerm, IsPrimary, IsVariable, Reading, IsMany, IsName, IsComparison, IsMode, IsInit, IsValue, IsEntry, IsDec, IsDestination, IsStatement, IsModitem}
use Rattle.nodes.specs.Lists.{IsInitial, IsDeclared, IsSingle}
use Rattle.lists.specs.declared.Shape.TheVariants.{One}
use Rattle.lists.specs.Lists.{shape_of, Flat}
use Rattle.lists.proofs.Listed.{Shaped}

module _ (ns : List Node) where
  abbrev pub Alone : {A : Type 0} → Reading A → Type 0
  Alone {A = A} Is = (t : A) (k : ℕ) → Is t ns k → Shaped ns k (One k)

  mutual
    pub alone_expr : {n : ℕ} → Alone (IsExpr {n = n})
    alone_expr (term t) k is = alone_term t k is
    alone_expr (up e) k is = alone_expr e k is
    alone_expr (dyadic a o i b) k is = ap (shape_of k) is.4

    alone_term : Alone IsTerm
    alone_term (monadic o i t) k is = ap (shape_of k) is.2
    alone_term (primary p) k is = alone_primary p k is

    alone_primary : Alone IsPrimary
    alone_primary (integer i) k is = ap (shape_of k) is
    alone_primary (text i) k is = ap (shape_of k) is
    alone_primary (variable x) k is = alone_variable x k is
    alone_primary (call n i) k is = ap (shape_of k) is
    alone_primary (call_on n i es e) k is = ap (shape_of k) is.6
    alone_primary (paren i e) k is = ap (shape_of k) is.2

    alone_variable : Alone IsVariable
    alone_variable (name n) k is = ap (shape_of k) is
    alone_variable (element x i e) k is = ap (shape_of k) is.4
    alone_variable (component x n) k is = ap (shape_of k) is.2

  alone_name : Alone IsName
  alone_name n k is = ap (shape_of k) is

  pub alone_comparison : Alone IsComparison
  alone_comparison (compare a o b) k is = ap (shape_of k) is.4

  alone_mode : Alone IsMode
  alone_mode int k is = ap (shape_of k) is
  alone_mode (byte i) k is = ap (shape_of k) is
  alone_mode ref_int k is = ap (shape_of k) is
  alone_mode (ref_byte i) k is = ap (shape_of k) is
  alone_mode (ref_record n) k is = ap (shape_of k) is
  alone_mode (ref_array m) k is = ap (shape_of k) is.2
  alone_mode (ref_array_brackets i m) k is = ap (shape_of k) is.2

  alone_init : {A : Type 0} (Is : Reading A) → Alone (IsInit Is)
  alone_init Is (plain n) k is = ap (shape_of k) is
  alone_init Is (given xs a) k is = ap (shape_of k) is.4

  alone_value : Alone IsValue
  alone_value (constant i) k is = ap (shape_of k) is
  alone_value (signed s i) k is = ap (shape_of k) is
  alone_value (minus_signed s i) k is = ap (shape_of k) is
  alone_value (identifier n) k is = ap (shape_of k) is
  alone_value (string i) k is = ap (shape_of k) is
  alone_value (empty_list i) k is = ap (shape_of k) is
  alone_value (list i vs) k is = ap (shape_of k) is.2

  pub alone_entry : Alone IsEntry
  alone_entry (once v) k is = alone_value v k is
  alone_entry (repeated v i n) k is = ap (shape_of k) is.2

  alone_dec : {I : Type 0} (Is : Reading I) → Alone (IsDec Is)
  alone_dec Is nothing k is = ap (shape_of k) is
  alone_dec Is (variables m i) k is = ap (shape_of k) is.4
  alone_dec Is (arrays b n m i) k is = ap (shape_of k) is.4
  alone_dec Is (structures n i) k is = ap (shape_of k) is.2

  pub alone_destination : Alone IsDestination
  alone_destination (place x) k is = alone_variable x k is
  alone_destination (val i x) k is = ap (shape_of k) is.2

  pub alone_statement : Alone IsStatement
  alone_statement dummy k is = ap (shape_of k) is
  alone_statement (block b) k is = ap (shape_of k) is.2
  alone_statement (assign ds e) k is = ap (shape_of k) is.4
  alone_statement (invoke n i) k is = ap (shape_of k) is
  alone_statement (invoke_on n i es) k is = ap (shape_of k) is.2
  alone_statement (branch ws) k is = ap (shape_of k) is.2
  alone_statement (branch_else ws s) k is = ap (shape_of k) is.4
  alone_statement (repeat e b) k is = ap (shape_of k) is.4
  alone_statement (loop c s) k is = ap (shape_of k) is.4
  alone_statement (return i) k is = ap (shape_of k) is
  alone_statement (return_with i j e) k is = ap (shape_of k) is.2

  alone_moditem : Alone IsModitem
  alone_moditem blank k is = ap (shape_of k) is
  alone_moditem (external_procs i ms m xs) k is = ap (shape_of k) is.6
  alone_moditem (external_store n ds) k is = ap (shape_of k) is.2
  alone_moditem (record_mode n i fs) k is = ap (shape_of k) is.2
  alone_moditem (own b) k is = ap (shape_of k) is.2
  alone_moditem (entry b) k is = ap (shape_of k) is.2

  alone_declared : (s : Sort) → Alone (IsDeclared s)
  alone_declared unset t k is = alone_name t k is
  alone_declared (set v) t k is = alone_init (IsInitial v) t k is

  pub alone_single : (r : Repetition) → Flat r → Alone (IsSingle r)
  alone_single exprs f t k is = alone_expr t k is
  alone_single ors f t k is = absurd f
  alone_single ands f t k is = alone_comparison t k is
  alone_single statements f t k is = alone_statement t k is
  alone_single modes f t k is = alone_mode t k is
  alone_single entries f t k is = alone_entry t k is
  alone_single moditems f t k is = alone_moditem t k is
  alone_single (declareds s) f t k is = alone_declared s t k is
  alone_single (decs s) f t k is = alone_dec (IsMany (IsDeclared s)) t k is
