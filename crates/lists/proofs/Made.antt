-- What a list is made of: one entry, or a list and one more. Assumes nothing.
use Rattle.std.proofs.Common.{◌≡◌, ℕ, zero, suc, ◌+◌, ◌<◌, ◌≤◌, Bool, true, false, cond, nat_lt, List, [], ◌∷◌, length, slice_index_or, refl, ap, sym, ◌∙◌, subst, arith}
use Rattle.std.proofs.lemmas.Bool.{ltb-true}
use Rattle.grammar.specs.Trees.{Many, one, more, Expr, Exprs, first, comma, Entry, Values, only, and}
use Rattle.nodes.specs.declared.Node.{Node}
use Rattle.nodes.specs.Nodes.{Reading, IsMany, IsExpr, IsExprs, IsEntry, IsValues, blank_node}
use Rattle.lists.specs.declared.Shape.{Shape}
use Rattle.lists.specs.declared.Shape.TheVariants.{Empty, One, More}
use Rattle.lists.specs.Lists.{shape_of, joined, listed_below, listed, Stand}
use Rattle.lists.proofs.Listed.{Shaped}
use Rattle.lists.proofs.Alone.{Alone, alone_expr, alone_entry}

module _ (ns : List Node) (k : ℕ) where
  module _ {A : Type 0} (Is : Reading A) where
    pub many_more : Alone ns Is → (ds : Many A) (l r : ℕ) → Shaped ns k (More l r) → IsMany Is ds ns k → (es : Many A) × (d : A) × IsMany Is es ns l × Is d ns r × (ds ≡ more es d)
    many_more f (one d) l r s is = let h = f d k is in absurd (cc (s, h))
    many_more f (more es d) l r s is =
        let h = ap (shape_of k) is.4 in
        let p : is.0 ≡ l = cc (s, h) in
        let q : is.1 ≡ r = cc (s, h) in
        (es, d, subst (λ (i : ℕ). IsMany Is es ns i) p is.5, subst (λ (i : ℕ). Is d ns i) q is.6, refl)

    pub many_one : (ds : Many A) → ((l r : ℕ) → Shaped ns k (More l r) → l < k → r < k → ⊥) → IsMany Is ds ns k → (d : A) × Is d ns k × (ds ≡ one d)
    many_one (one d) none is = (d, is, refl)
    many_one (more es d) none is = absurd (none is.0 is.1 (ap (shape_of k) is.4) is.2 is.3)

  pub exprs_more : (es : Exprs) (l r : ℕ) → Shaped ns k (More l r) → IsExprs es ns k → (fs : Exprs) × (e : Expr 5) × IsExprs fs ns l × IsExpr e ns r × (es ≡ comma fs e)
  exprs_more (first e) l r s is = let h = alone_expr ns e k is in absurd (cc (s, h))
  exprs_more (comma es e) l r s is =
      let h = ap (shape_of k) is.4 in
      let p : is.0 ≡ l = cc (s, h) in
      let q : is.1 ≡ r = cc (s, h) in
      (es, e, subst (λ (i : ℕ). IsExprs es ns i) p is.5, subst (λ (i : ℕ). IsExpr e ns i) q is.6, refl)

  pub exprs_one : (es : Exprs) → ((l r : ℕ) → Shaped ns k (More l r) → l < k → r < k → ⊥) → IsExprs es ns k → (e : Expr 5) × IsExpr e ns k × (es ≡ first e)
  exprs_one (first e) none is = (e, is, refl)
  exprs_one (comma es e) none is = absurd (none is.0 is.1 (ap (shape_of k) is.4) is.2 is.3)

  pub values_more : (vs : Values) (l r : ℕ) → Shaped ns k (More l r) → IsValues vs ns k → (us : Values) × (e : Entry) × IsValues us ns l × IsEntry e ns r × (vs ≡ and us e)
  values_more (only e) l r s is = let h = alone_entry ns e k is in absurd (cc (s, h))
  values_more (and us e) l r s is =
      let h = ap (shape_of k) is.4 in
      let p : is.0 ≡ l = cc (s, h) in
      let q : is.1 ≡ r = cc (s, h) in
      (us, e, subst (λ (i : ℕ). IsValues us ns i) p is.5, subst (λ (i : ℕ). IsEntry e ns i) q is.6, refl)

  pub values_one : (vs : Values) → ((l r : ℕ) → Shaped ns k (More l r) → l < k → r < k → ⊥) → IsValues vs ns k → (e : Entry) × IsEntry e ns k × (vs ≡ only e)
  values_one (only e) none is = (e, is, refl)
  values_one (and us e) none is = absurd (none is.0 is.1 (ap (shape_of k) is.4) is.2 is.3)

-- as many trees stand as there are entries
pub as_many : {A : Type 0} (Is : Reading A) (ts : List A) (ns : List Node) (ks : List ℕ) → Stand Is ts ns ks → length ks ≡ length ts
as_many Is [] ns [] s = refl
as_many Is [] ns (k ∷ ks) s = absurd s
as_many Is (t ∷ ts) ns [] s = absurd s
as_many Is (t ∷ ts) ns (k ∷ ks) s = ap suc (as_many Is ts ns ks s.1)

module _ (ns : List Node) where
  short_front : (f : ℕ → List ℕ) (k l : ℕ) (b : Bool) → nat_lt l k ≡ b → ((j : ℕ) → length (f j) ≤ j + 1) → length (cond b (f l) []) ≤ k
  short_front f k l false n h = omega arith
  short_front f k l true n h = let below = ltb-true l k n in omega (arith, below, h l)

  short_joined : (f : ℕ → List ℕ) (k : ℕ) → ((j : ℕ) → length (f j) ≤ j + 1) → (s : Shape) → length (joined f k s) ≤ k + 1
  short_joined f k h Empty = omega arith
  short_joined f k h (One e) = omega arith
  short_joined f k h (More l e) = let few = short_front f k l (nat_lt l k) refl h in omega (arith, few)

  short_below : (d k : ℕ) → length (listed_below d ns k) ≤ k + 1
  short_below zero k = omega arith
  short_below (suc d) k = short_joined (listed_below d ns) k (short_below d) (shape_of k (slice_index_or ns k blank_node))

  -- a list has no more entries than nodes
  pub short : (k : ℕ) → length (listed ns k) ≤ k + 1
  short k = short_below (suc k) k
