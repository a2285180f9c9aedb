-- The first items of the forms in a table, and the items of their misfits. Assumes nothing.
use Rattle.std.proofs.Common.{◌≡◌, ℕ, ◌<◌, List, Some, None, slice_index_or, refl, sym, ◌∙◌, subst, arith}
use Rattle.grammar.specs.declared.Symbol.{Symbol}
use Rattle.grammar.specs.Trees.{Expr, term, up, dyadic, Term, monadic, primary, Primary, integer, text, variable, call, call_on, paren, Variable, name, element, component}
use Rattle.nodes.specs.Nodes.{At, IsExpr, IsTerm, IsPrimary, IsVariable, blank_node}
use Rattle.nodes.specs.declared.Node.{Node}
use Rattle.nodes.specs.declared.Node.TheVariants.{Paren, Monadic}
use Rattle.statics.specs.Fronts.{front, front_term, front_primary, front_variable, spot, spot_term, spot_primary}
use Rattle.judging.specs.Openings.{left_of, item_of}

-- the form of the node k begins with the item i
pub data Begins (ns : List Node) (i : ℕ) : ℕ → Type 0 where
  item : {k : ℕ} → left_of (slice_index_or ns k blank_node) ≡ None → item_of (slice_index_or ns k blank_node) ≡ i → Begins ns i k
  left : {k : ℕ} (l : ℕ) → left_of (slice_index_or ns k blank_node) ≡ Some l → l < k → Begins ns i l → Begins ns i k

module _ (ns : List Node) where
  mutual
    pub begins : {n : ℕ} (e : Expr n) (k : ℕ) → IsExpr e ns k → Begins ns (front e) k
    begins (term t) k is = begins_term t k is
    begins (up e) k is = begins e k is
    begins (dyadic a o i b) k is = left is.0 (rw is.4 refl) is.2 (begins a is.0 is.5)

    pub begins_term : (t : Term) (k : ℕ) → IsTerm t ns k → Begins ns (front_term t) k
    begins_term (monadic o i t) k is = item (rw is.2 refl) (rw is.2 refl)
    begins_term (primary p) k is = begins_primary p k is

    pub begins_primary : (p : Primary) (k : ℕ) → IsPrimary p ns k → Begins ns (front_primary p) k
    begins_primary (integer i) k is = item (rw is refl) (rw is refl)
    begins_primary (text i) k is = item (rw is refl) (rw is refl)
    begins_primary (variable x) k is = begins_variable x k is
    begins_primary (call n i) k is = item (rw is refl) (rw is refl)
    begins_primary (call_on n i es e) k is = item (rw is.6 refl) (rw is.6 refl)
    begins_primary (paren i e) k is = item (rw is.2 refl) (rw is.2 refl)

    pub begins_variable : (x : Variable) (k : ℕ) → IsVariable x ns k → Begins ns (front_variable x) k
    begins_variable (name n) k is = item (rw is refl) (rw is refl)
    begins_variable (element x i e) k is = left is.0 (rw is.4 refl) is.2 (begins_variable x is.0 is.5)
    begins_variable (component x n) k is = left is.0 (rw is.2 refl) is.1 (begins_variable x is.0 is.3)

  -- with its own item, where no form stands left
  pub opens : {i k : ℕ} → ((j : ℕ) → left_of (slice_index_or ns k blank_node) ≡ Some j → ⊥) → Begins ns i k → item_of (slice_index_or ns k blank_node) ≡ i
  opens h (item e is) = is
  opens h (left l e p b) = absurd (h l e)

  -- as the form that stands left
  pub leans : {i k j : ℕ} → Some j ≡ left_of (slice_index_or ns k blank_node) → Begins ns i k → (j < k) × Begins ns i j
  leans h (item e is) = absurd (cc)
  leans {i = i} {j = j} h (left l e p b) =
      let q : l ≡ j = cc in
      (omega (arith, q, p), subst (Begins ns i) q b)

  -- A misfit in brackets is that of what stands inside, and that of anything else is its first item.
  module _ (k : ℕ) where
    module _ (j r : ℕ) (at : At ns k (Paren j r)) where
      mutual
        pub inside : {n : ℕ} (e : Expr n) → IsExpr e ns k → (r < k) × (f : Expr 5) × IsExpr f ns r × (spot f ≡ spot e)
        inside (term t) is = inside_term t is
        inside (up e) is = inside e is
        inside (dyadic a o i b) is = absurd (cc is.4)

        pub inside_term : (t : Term) → IsTerm t ns k → (r < k) × (f : Expr 5) × IsExpr f ns r × (spot f ≡ spot_term t)
        inside_term (monadic o i t) is = absurd (cc is.2)
        inside_term (primary p) is = inside_primary p is

        pub inside_primary : (p : Primary) → IsPrimary p ns k → (r < k) × (f : Expr 5) × IsExpr f ns r × (spot f ≡ spot_primary p)
        inside_primary (integer i) is = absurd (cc is)
        inside_primary (text i) is = absurd (cc is)
        inside_primary (variable (name n)) is = absurd (cc is)
        inside_primary (variable (element x i e)) is = absurd (cc is.4)
        inside_primary (variable (component x n)) is = absurd (cc is.2)
        inside_primary (call n i) is = absurd (cc is)
        inside_primary (call_on n i es e) is = absurd (cc is.6)
        inside_primary (paren i e) is =
            let q : is.0 ≡ r = cc is.2 in
            (omega (arith, q, is.1), e, subst (λ (x : ℕ). IsExpr e ns x) q is.3, refl)

    module _ (no : (j r : ℕ) → At ns k (Paren j r) → ⊥) where
      mutual
        pub outside : {n : ℕ} (e : Expr n) → IsExpr e ns k → front e ≡ spot e
        outside (term t) is = outside_term t is
        outside (up e) is = outside e is
        outside (dyadic a o i b) is = refl

        pub outside_term : (t : Term) → IsTerm t ns k → front_term t ≡ spot_term t
        outside_term (monadic o i t) is = refl
        outside_term (primary p) is = outside_primary p is

        pub outside_primary : (p : Primary) → IsPrimary p ns k → front_primary p ≡ spot_primary p
        outside_primary (paren i e) is = absurd (no i is.0 is.2)
        outside_primary (integer i) is = refl
        outside_primary (text i) is = refl
        outside_primary (variable x) is = refl
        outside_primary (call n i) is = refl
        outside_primary (call_on n i es e) is = refl

  -- the item of a monadic operator
  pub monadic_spot : {n : ℕ} (e : Expr n) (k i r : ℕ) (c : Symbol) → At ns k (Monadic c i r) → IsExpr e ns k → spot e ≡ i
  monadic_spot e k i r c at is =
      sym (outside k (λ j s h. absurd (cc (at, h))) e is) ∙ sym (opens (λ j h. absurd (cc (at, h))) (begins e k is)) ∙ rw at refl
