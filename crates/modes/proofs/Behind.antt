-- REF ARRAYs in front of a base. Assumes nothing.
use Rattle.std.proofs.Common.{◌≡◌, ℕ, zero, suc, false, ◌+◌, refl, ap, add-one, arith}
use Rattle.statics.specs.Modes as rules
use Rattle.statics.specs.Scopes.{Text}
use Rattle.statics.specs.JudgeExpressions.{same_element}
use Rattle.modes.specs.declared.Base.{Base}
use Rattle.modes.specs.declared.Base.TheVariants as base
use Rattle.modes.specs.Meanings.{base_means, behind}

-- as many in front of both
pub same_behind : (x : Text) (n m : ℕ) (a b : Base) → n ≡ m → same_element (behind n (base_means x a)) (behind m (base_means x b)) ≡ same_element (base_means x a) (base_means x b)
same_behind x zero zero a b e = refl
same_behind x zero (suc m) a b e = absurd (omega arith)
same_behind x (suc n) zero a b e = absurd (omega arith)
same_behind x (suc n) (suc m) a b e = same_behind x n m a b (omega arith)

bare_differs : (x : Text) (e : rules.Element) (a : Base) → same_element (base_means x a) (rules.simple (rules.ref_array e)) ≡ false
bare_differs x e (base.Plain k) = refl
bare_differs x e (base.Ref k) = refl
bare_differs x e (base.RefRecord n) = refl
bare_differs x e (base.Record n) = refl

differs_bare : (x : Text) (e : rules.Element) (a : Base) → same_element (rules.simple (rules.ref_array e)) (base_means x a) ≡ false
differs_bare x e (base.Plain k) = refl
differs_bare x e (base.Ref k) = refl
differs_bare x e (base.RefRecord n) = refl
differs_bare x e (base.Record n) = refl

-- not as many
pub differ_behind : (x : Text) (n m : ℕ) (a b : Base) → (n ≡ m → ⊥) → same_element (behind n (base_means x a)) (behind m (base_means x b)) ≡ false
differ_behind x zero zero a b h = absurd (h refl)
differ_behind x zero (suc m) a b h = bare_differs x (behind m (base_means x b)) a
differ_behind x (suc n) zero a b h = differs_bare x (behind n (base_means x a)) b
differ_behind x (suc n) (suc m) a b h = differ_behind x n m a b (λ e. h (ap suc e))

in_front : (n : ℕ) (e : rules.Element) → behind n (rules.simple (rules.ref_array e)) ≡ behind (suc n) e
in_front zero e = refl
in_front (suc n) e = ap (λ (f : rules.Element). rules.simple (rules.ref_array f)) (in_front n e)

-- one more, in front or behind
pub one_more : (n : ℕ) (e : rules.Element) → behind n (rules.simple (rules.ref_array e)) ≡ behind (n + 1) e
one_more n e = rw add-one (in_front n e)
