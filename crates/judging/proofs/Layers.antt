-- The layers of a variable. Assumes nothing.
use Rattle.std.proofs.Common.{◌≡◌, ℕ, zero, suc, ◌<◌, List, Some, slice_index_or, refl, ap, ◌∙◌, subst, arith}
use Rattle.grammar.specs.Trees.{Variable, name, element, component}
use Rattle.nodes.specs.Nodes.{IsVariable, blank_node}
use Rattle.nodes.specs.declared.Node.{Node}
use Rattle.statics.specs.Fronts.{front_variable}
use Rattle.judging.specs.Openings.{left_of, layers, stripped, layer}

-- the last layer first
pub from_within : (v : Variable) (d : ℕ) → layer v (suc d) ≡ layer (stripped v) d
from_within v zero = refl
from_within v (suc d) = ap stripped (from_within v d)

pub innermost : (v : Variable) → layer v (layers v) ≡ name (front_variable v)
innermost (name n) = refl
innermost (element v i e) = from_within (element v i e) (layers v) ∙ innermost v
innermost (component v n) = from_within (component v n) (layers v) ∙ innermost v

same_front_stripped : (v : Variable) → front_variable (stripped v) ≡ front_variable v
same_front_stripped (name n) = refl
same_front_stripped (element v i e) = refl
same_front_stripped (component v n) = refl

pub same_front : (v : Variable) (d : ℕ) → front_variable (layer v d) ≡ front_variable v
same_front v zero = refl
same_front v (suc d) = same_front_stripped (layer v d) ∙ same_front v d

-- below the last, there is a subscript or selector
pub layered : (v : Variable) (d : ℕ) → d < layers v → (n : ℕ) → layer v d ≡ name n → ⊥
layered (name m) d p n e = absurd (omega (arith, p))
layered (element v i x) zero p n e = absurd (cc e)
layered (element v i x) (suc d) p n e = layered v d (omega (arith, p)) n (cc (from_within (element v i x) d, e))
layered (component v c) zero p n e = absurd (cc e)
layered (component v c) (suc d) p n e = layered v d (omega (arith, p)) n (cc (from_within (component v c) d, e))

module _ (ns : List Node) where
  -- what stands left in the form of a variable
  pub left_in : (v : Variable) (k l : ℕ) → Some l ≡ left_of (slice_index_or ns k blank_node) → IsVariable v ns k → (l < k) × IsVariable (stripped v) ns l × (layers v ≡ suc (layers (stripped v)))
  left_in (name n) k l h is = absurd (cc (h, is))
  left_in (element v i e) k l h is =
      let q : is.0 ≡ l = cc (h, is.4) in
      (omega (arith, q, is.2), subst (λ (x : ℕ). IsVariable v ns x) q is.5, refl)
  left_in (component v n) k l h is =
      let q : is.0 ≡ l = cc (h, is.2) in
      (omega (arith, q, is.1), subst (λ (x : ℕ). IsVariable v ns x) q is.3, refl)

  -- nothing stands left: a name
  pub none_left : (v : Variable) (k : ℕ) → ((l : ℕ) → left_of (slice_index_or ns k blank_node) ≡ Some l → l < k → ⊥) → IsVariable v ns k → (stripped v ≡ v) × (layers v ≡ 0)
  none_left (name n) k h is = (refl, refl)
  none_left (element v i e) k h is = absurd (h is.0 (rw is.4 refl) is.2)
  none_left (component v n) k h is = absurd (h is.0 (rw is.2 refl) is.1)
