-- The strings of what a node stands for are those of its tree. Assumes nothing.
use Rattle.std.proofs.Common.{◌≡◌, ℕ, zero, suc, Bool, true, false, cond, nat_lt, ◌<◌, List, [], ◌++◌, slice_index_or, refl, ap, ◌∙◌, arith}
use Rattle.std.proofs.lemmas.Bool.{ltb-true, lt-ltb}
use Rattle.grammar.specs.Trees.{term, up, dyadic, monadic, primary, integer, text, variable, call, call_on, paren, name, element, component, first, comma, compare, one, more, plain, given, local, no_locals, locals, place, val, body, single, sequel, dummy, block, assign, invoke, invoke_on, branch, branch_else, repeat, loop, return, return_with, when, elsewhen, constant, signed, minus_signed, identifier, string, empty_list, list, only, and, once, repeated}
use Rattle.nodes.specs.declared.Node.{Node}
use Rattle.nodes.specs.declared.Node.TheVariants as nodes
use Rattle.nodes.specs.Nodes.{blank_node, At, Reading, IsExpr, IsTerm, IsPrimary, IsVariable, IsExprs, IsMany, IsComparison, IsSubcondition, IsCondition, IsInit, IsLocals, IsDestination, IsBody, IsSequence, IsStatement, IsArms, IsValue, IsValues, IsEntry}
use Rattle.statics.specs.Written.{gather}
use Rattle.statics.specs.Space.{expr_strings, term_strings, primary_strings, variable_strings, exprs_strings, comparison_strings, condition_strings, init_strings, locals_strings, destination_strings, body_strings, sequence_strings, statement_strings, arms_strings, value_strings, values_strings, entry_strings}
use Rattle.space.specs.Strings.{before, parted, strings_below, strings_at}

module _ (f g : ℕ → List ℕ) (k : ℕ) (alike : (l : ℕ) → l < k → f l ≡ g l) where
  same_by : (l : ℕ) (b : Bool) → nat_lt l k ≡ b → cond b (f l) [] ≡ cond b (g l) []
  same_by l false n = refl
  same_by l true n = alike l (ltb-true l k n)

  same_before : (l : ℕ) → before f k l ≡ before g k l
  same_before l = same_by l (nat_lt l k) refl

  same_both : (l r : ℕ) → before f k l ++ before f k r ≡ before g k l ++ before g k r
  same_both l r = ap (λ ws. ws ++ before f k r) (same_before l) ∙ ap (λ ws. before g k l ++ ws) (same_before r)

  same_parted : (n : Node) → parted f k n ≡ parted g k n
  same_parted (nodes.Dyadic s i l r) = same_both l r
  same_parted (nodes.Compare s l r) = same_both l r
  same_parted (nodes.Also l r) = same_both l r
  same_parted (nodes.Element l i r) = same_both l r
  same_parted (nodes.Locals l r) = same_both l r
  same_parted (nodes.Body l r) = same_both l r
  same_parted (nodes.Assign l r) = same_both l r
  same_parted (nodes.BranchElse l r) = same_both l r
  same_parted (nodes.Repeat l r) = same_both l r
  same_parted (nodes.Loop l r) = same_both l r
  same_parted (nodes.When l r) = same_both l r
  same_parted (nodes.Monadic s i r) = same_before r
  same_parted (nodes.Paren i r) = same_before r
  same_parted (nodes.CallOn n i r) = same_before r
  same_parted (nodes.Component l n) = same_before l
  same_parted (nodes.Given l r) = same_before r
  same_parted (nodes.Local m r) = same_before r
  same_parted (nodes.Val i r) = same_before r
  same_parted (nodes.Block r) = same_before r
  same_parted (nodes.InvokeOn n i r) = same_before r
  same_parted (nodes.Branch r) = same_before r
  same_parted (nodes.ReturnWith i j r) = same_before r
  same_parted (nodes.List i r) = same_before r
  same_parted (nodes.Repeated r i n) = same_before r
  same_parted _ = refl

module _ (ns : List Node) where
  -- how many nodes are looked at does not matter, where they are enough
  enough : (d e k : ℕ) → k < d → k < e → strings_below d ns k ≡ strings_below e ns k
  enough zero e k h g = absurd (omega (arith, h))
  enough (suc d) zero k h g = absurd (omega (arith, g))
  enough (suc d) (suc e) k h g = same_parted (strings_below d ns) (strings_below e ns) k (λ l below. enough d e l (omega arith) (omega arith)) (slice_index_or ns k blank_node)

  -- of a part further in front
  pub front_strings : (k l : ℕ) → l < k → before (strings_below k ns) k l ≡ strings_at ns l
  front_strings k l h = ap (λ b. cond b (strings_below k ns l) []) (lt-ltb l k h) ∙ enough k (suc l) l h (omega arith)

  -- nodes with no, one and two parts, and with a string of their own
  plainly : {n : Node} {us : List ℕ} (k : ℕ) → At ns k n → ((f : ℕ → List ℕ) → parted f k n ≡ us) → strings_at ns k ≡ us
  plainly k at shape = ap (parted (strings_below k ns) k) at ∙ shape (strings_below k ns)

  by_one : {n : Node} {us : List ℕ} (k l : ℕ) → l < k → At ns k n → ((f : ℕ → List ℕ) → parted f k n ≡ before f k l) → strings_at ns l ≡ us → strings_at ns k ≡ us
  by_one k l h at shape e = ap (parted (strings_below k ns) k) at ∙ shape (strings_below k ns) ∙ front_strings k l h ∙ e

  by_two : {n : Node} {us vs : List ℕ} (k l r : ℕ) → l < k → r < k → At ns k n → ((f : ℕ → List ℕ) → parted f k n ≡ before f k l ++ before f k r) → strings_at ns l ≡ us → strings_at ns r ≡ vs → strings_at ns k ≡ us ++ vs
  by_two {us = us} k l r h i at shape e d =
      ap (parted (strings_below k ns) k) at ∙ shape (strings_below k ns)
      ∙ ap (λ ws. ws ++ before (strings_below k ns) k r) (front_strings k l h ∙ e)
      ∙ ap (λ ws. us ++ ws) (front_strings k r i ∙ d)

  -- the strings of the nodes of such trees are those by F
  abbrev pub Strung : {A : Type 0} → Reading A → (A → List ℕ) → Type 0
  Strung {A = A} Is F = (t : A) (k : ℕ) → Is t ns k → strings_at ns k ≡ F t

  strung_many : {A : Type 0} (Is : Reading A) (F : A → List ℕ) → Strung Is F → Strung (IsMany Is) (gather F)
  strung_many Is F each (one a) k is = each a k is
  strung_many Is F each (more m a) k is = by_two k is.0 is.1 is.2 is.3 is.4 (λ f. refl) (strung_many Is F each m is.0 is.5) (each a is.1 is.6)

  mutual
    strung_expr : {n : ℕ} → Strung (IsExpr {n = n}) expr_strings
    strung_expr (term t) k is = strung_term t k is
    strung_expr (up e) k is = strung_expr e k is
    strung_expr (dyadic a o i b) k is = by_two k is.0 is.1 is.2 is.3 is.4 (λ f. refl) (strung_expr a is.0 is.5) (strung_expr b is.1 is.6)

    strung_term : Strung IsTerm term_strings
    strung_term (monadic o i t) k is = by_one k is.0 is.1 is.2 (λ f. refl) (strung_term t is.0 is.3)
    strung_term (primary p) k is = strung_primary p k is

    strung_primary : Strung IsPrimary primary_strings
    strung_primary (integer i) k is = plainly k is (λ f. refl)
    strung_primary (text i) k is = plainly k is (λ f. refl)
    strung_primary (variable x) k is = strung_variable x k is
    strung_primary (call n i) k is = plainly k is (λ f. refl)
    strung_primary (call_on n i es e) k is = by_one k is.0 is.3 is.6 (λ f. refl) (by_two is.0 is.1 is.2 is.4 is.5 is.7 (λ f. refl) (strung_exprs es is.1 is.8) (strung_expr e is.2 is.9))
    strung_primary (paren i e) k is = by_one k is.0 is.1 is.2 (λ f. refl) (strung_expr e is.0 is.3)

    strung_variable : Strung IsVariable variable_strings
    strung_variable (name n) k is = plainly k is (λ f. refl)
    strung_variable (element x i e) k is = by_two k is.0 is.1 is.2 is.3 is.4 (λ f. refl) (strung_variable x is.0 is.5) (strung_expr e is.1 is.6)
    strung_variable (component x n) k is = by_one k is.0 is.1 is.2 (λ f. refl) (strung_variable x is.0 is.3)

    strung_exprs : Strung IsExprs exprs_strings
    strung_exprs (first e) k is = strung_expr e k is
    strung_exprs (comma es e) k is = by_two k is.0 is.1 is.2 is.3 is.4 (λ f. refl) (strung_exprs es is.0 is.5) (strung_expr e is.1 is.6)

  strung_comparison : Strung IsComparison comparison_strings
  strung_comparison (compare a o b) k is = by_two k is.0 is.1 is.2 is.3 is.4 (λ f. refl) (strung_expr a is.0 is.5) (strung_expr b is.1 is.6)

  strung_condition : Strung IsCondition condition_strings
  strung_condition c k is = strung_many IsSubcondition (gather comparison_strings) (strung_many IsComparison comparison_strings strung_comparison) c k is

  strung_init : Strung (IsInit IsExpr) init_strings
  strung_init (plain n) k is = plainly k is (λ f. refl)
  strung_init (given xs e) k is = by_one k is.1 is.3 is.4 (λ f. refl) (strung_expr e is.1 is.6)

  strung_locals : Strung IsLocals locals_strings
  strung_locals no_locals k is = plainly k is (λ f. refl)
  strung_locals (locals ls (local m is)) k at = by_two k at.0 at.1 at.2 at.3 at.4 (λ f. refl) (strung_locals ls at.0 at.5) (by_one at.1 at.6.1 at.6.3 at.6.4 (λ f. refl) (strung_many (IsInit IsExpr) init_strings strung_init is at.6.1 at.6.6))

  strung_destination : Strung IsDestination destination_strings
  strung_destination (place x) k is = strung_variable x k is
  strung_destination (val i x) k is = by_one k is.0 is.1 is.2 (λ f. refl) (strung_variable x is.0 is.3)

  mutual
    pub strung_body : Strung IsBody body_strings
    strung_body (body ls s) k is = by_two k is.0 is.1 is.2 is.3 is.4 (λ f. refl) (strung_locals ls is.0 is.5) (strung_sequence s is.1 is.6)

    strung_sequence : Strung IsSequence sequence_strings
    strung_sequence (single s) k is = strung_statement s k is
    strung_sequence (sequel ss s) k is = by_two k is.0 is.1 is.2 is.3 is.4 (λ f. refl) (strung_sequence ss is.0 is.5) (strung_statement s is.1 is.6)

    strung_statement : Strung IsStatement statement_strings
    strung_statement dummy k is = plainly k is (λ f. refl)
    strung_statement (block b) k is = by_one k is.0 is.1 is.2 (λ f. refl) (strung_body b is.0 is.3)
    strung_statement (assign ds e) k is = by_two k is.0 is.1 is.2 is.3 is.4 (λ f. refl) (strung_many IsDestination destination_strings strung_destination ds is.0 is.5) (strung_expr e is.1 is.6)
    strung_statement (invoke n i) k is = plainly k is (λ f. refl)
    strung_statement (invoke_on n i es) k is = by_one k is.0 is.1 is.2 (λ f. refl) (strung_exprs es is.0 is.3)
    strung_statement (branch ws) k is = by_one k is.0 is.1 is.2 (λ f. refl) (strung_arms ws is.0 is.3)
    strung_statement (branch_else ws s) k is = by_two k is.0 is.1 is.2 is.3 is.4 (λ f. refl) (strung_arms ws is.0 is.5) (strung_sequence s is.1 is.6)
    strung_statement (repeat e b) k is = by_two k is.0 is.1 is.2 is.3 is.4 (λ f. refl) (strung_expr e is.0 is.5) (strung_body b is.1 is.6)
    strung_statement (loop c s) k is = by_two k is.0 is.1 is.2 is.3 is.4 (λ f. refl) (strung_condition c is.0 is.5) (strung_sequence s is.1 is.6)
    strung_statement (return i) k is = plainly k is (λ f. refl)
    strung_statement (return_with i j e) k is = by_one k is.0 is.1 is.2 (λ f. refl) (strung_expr e is.0 is.3)

    strung_arms : Strung IsArms arms_strings
    strung_arms (when c s) k is = by_two k is.0 is.1 is.2 is.3 is.4 (λ f. refl) (strung_condition c is.0 is.5) (strung_sequence s is.1 is.6)
    strung_arms (elsewhen ws c s) k is = by_two k is.0 is.1 is.2 is.3 is.4 (λ f. refl) (strung_arms ws is.0 is.5) (by_two is.1 is.6 is.7 is.8 is.9 is.10 (λ f. refl) (strung_condition c is.6 is.11) (strung_sequence s is.7 is.12))

  mutual
    pub strung_value : Strung IsValue value_strings
    strung_value (constant i) k is = plainly k is (λ f. refl)
    strung_value (signed s i) k is = plainly k is (λ f. refl)
    strung_value (minus_signed s i) k is = plainly k is (λ f. refl)
    strung_value (identifier n) k is = plainly k is (λ f. refl)
    strung_value (string i) k is = plainly k is (λ f. refl)
    strung_value (empty_list i) k is = plainly k is (λ f. refl)
    strung_value (list i vs) k is = by_one k is.0 is.1 is.2 (λ f. refl) (strung_values vs is.0 is.3)

    strung_values : Strung IsValues values_strings
    strung_values (only e) k is = strung_entry e k is
    strung_values (and vs e) k is = by_two k is.0 is.1 is.2 is.3 is.4 (λ f. refl) (strung_values vs is.0 is.5) (strung_entry e is.1 is.6)

    strung_entry : Strung IsEntry entry_strings
    strung_entry (once v) k is = strung_value v k is
    strung_entry (repeated v i n) k is = by_one k is.0 is.1 is.2 (λ f. refl) (strung_value v is.0 is.3)
