-- What the nodes of a form say of it. Assumes nothing.
use Rattle.std.proofs.Common.{◌≡◌, ℕ, List, refl, subst, arith}
use Rattle.grammar.specs.Trees.{Primary, integer, text, variable, call, call_on, paren, name, element, component, Expr, comma}
use Rattle.grammar.specs.Machine.{Seen, just_name, one_index, longer, seen, indexed}
use Rattle.nodes.specs.Nodes.{At, IsPrimary, IsExpr, IsExprs}
use Rattle.nodes.specs.declared.Node.{Node}
use Rattle.nodes.specs.declared.Node.TheVariants.{Name, Element, Component, Call, CallOn}
use Rattle.statements.specs.Assigning.{Form, NotIndexed, Shows}
use Rattle.statements.specs.declared.assignments.Shape.TheVariants.{Place, Indexed, Called, CalledOn}

absent : {A : Type 0} → ◌≡◌ {A = ℕ} 0 1 → A
absent z = absurd (omega arith)

-- a second part makes a variable longer
longer_still : (y : Seen) (j i : ℕ) (x e : Expr 5) → NotIndexed (indexed (indexed y j x) i e)
longer_still (just_name n) j i x e = tt
longer_still (one_index n m u) j i x e = tt
longer_still (longer v) j i x e = tt

module _ (ns : List Node) (k : ℕ) (t : Primary) where
  pub shows_called : (n i : ℕ) → At ns k (Call n i) → Form t → IsPrimary t ns k → Shows (Called n i) ns k t
  shows_called n i a = by t
    where
      by : (t : Primary) → Form t → IsPrimary t ns k → t ≡ call n i
      by (variable (name m)) f is = absent (cc)
      by (variable (element x j e)) f is = absent (cc is.4)
      by (variable (component x m)) f is = absent (cc is.2)
      by (call m j) f is = cc
      by (call_on m j es e) f is = absent (cc is.6)
      by (integer m) f is = absurd f
      by (text m) f is = absurd f
      by (paren m e) f is = absurd f

  pub shows_called_on : (n i g : ℕ) → At ns k (CallOn n i g) → Form t → IsPrimary t ns k → Shows (CalledOn n i g) ns k t
  shows_called_on n i g a = by t
    where
      by : (t : Primary) → Form t → IsPrimary t ns k → Shows (CalledOn n i g) ns k t
      by (variable (name m)) f is = absent (cc)
      by (variable (element x j e)) f is = absent (cc is.4)
      by (variable (component x m)) f is = absent (cc is.2)
      by (call m j) f is = absent (cc)
      by (call_on m j es e) f is =
          let q : is.0 ≡ g = cc is.6 in
          (es, e, cc is.6, omega (arith, q, is.3), subst (λ (x : ℕ). IsExprs (comma es e) ns x) q (is.1, is.2, is.4, is.5, is.7, is.8, is.9))
      by (integer m) f is = absurd f
      by (text m) f is = absurd f
      by (paren m e) f is = absurd f

  module _ (b i g : ℕ) (a : At ns k (Element b i g)) where
    pub shows_indexed : (n : ℕ) → At ns b (Name n) → Form t → IsPrimary t ns k → Shows (Indexed n i g) ns k t
    shows_indexed n o = by t
      where
        by : (t : Primary) → Form t → IsPrimary t ns k → Shows (Indexed n i g) ns k t
        by (variable (name m)) f is = absent (cc)
        by (variable (element (name m) j e)) f is =
            let p : is.0 ≡ b = cc is.4 in
            let q : is.1 ≡ g = cc is.4 in
            let r : At ns b (Name m) = subst (λ (x : ℕ). At ns x (Name m)) p is.5 in
            (e, cc is.4, omega (arith, q, is.3), subst (λ (x : ℕ). IsExpr e ns x) q is.6)
        by (variable (element (element x m u) j e)) f is =
            let p : is.0 ≡ b = cc is.4 in
            let r : At ns b (Element is.5.0 m is.5.1) = subst (λ (x : ℕ). At ns x (Element is.5.0 m is.5.1)) p is.5.4 in
            absent (cc)
        by (variable (element (component x m) j e)) f is =
            let p : is.0 ≡ b = cc is.4 in
            let r : At ns b (Component is.5.0 m) = subst (λ (x : ℕ). At ns x (Component is.5.0 m)) p is.5.2 in
            absent (cc)
        by (variable (component x m)) f is = absent (cc is.2)
        by (call m j) f is = absent (cc)
        by (call_on m j es e) f is = absent (cc is.6)
        by (integer m) f is = absurd f
        by (text m) f is = absurd f
        by (paren m e) f is = absurd f

    -- an index behind more than a name
    pub shows_longer : ((n : ℕ) → At ns b (Name n) → ⊥) → Form t → IsPrimary t ns k → Shows Place ns k t
    shows_longer o = by t
      where
        by : (t : Primary) → Form t → IsPrimary t ns k → Shows Place ns k t
        by (variable (name m)) f is = absent (cc)
        by (variable (element (name m) j e)) f is =
            let p : is.0 ≡ b = cc is.4 in
            absurd (o m (subst (λ (x : ℕ). At ns x (Name m)) p is.5))
        by (variable (element (element x m u) j e)) f is = (element (element x m u) j e, refl, longer_still (seen x) m j u e)
        by (variable (element (component x m) j e)) f is = (element (component x m) j e, refl, tt)
        by (variable (component x m)) f is = absent (cc is.2)
        by (call m j) f is = absent (cc)
        by (call_on m j es e) f is = absent (cc is.6)
        by (integer m) f is = absurd f
        by (text m) f is = absurd f
        by (paren m e) f is = absurd f

  -- a name, or one behind a dot
  pub shows_other : ((b i g : ℕ) → At ns k (Element b i g) → ⊥) → ((n i : ℕ) → At ns k (Call n i) → ⊥) → ((n i g : ℕ) → At ns k (CallOn n i g) → ⊥) → Form t → IsPrimary t ns k → Shows Place ns k t
  shows_other x y z = by t
    where
      by : (t : Primary) → Form t → IsPrimary t ns k → Shows Place ns k t
      by (variable (name m)) f is = (name m, refl, tt)
      by (variable (element v j e)) f is = absurd (x is.0 j is.1 is.4)
      by (variable (component v m)) f is = (component v m, refl, tt)
      by (call m j) f is = absurd (y m j is)
      by (call_on m j es e) f is = absurd (z m j is.0 is.6)
      by (integer m) f is = absurd f
      by (text m) f is = absurd f
      by (paren m e) f is = absurd f
