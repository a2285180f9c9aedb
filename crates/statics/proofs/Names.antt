-- What a name means. Assumes nothing.
use Rattle.std.proofs.Common.{◌≡◌, ℕ, zero, suc, ◌<◌, Bool, true, false, cond, ◌⊎◌, length, get_or, Some, Option, refl, subst, inl, inr, arith}
use Rattle.std.specs.Bool.{Decides}
use Rattle.std.proofs.lemmas.Bool.{cases_order}
use Rattle.std.proofs.lemmas.Bool.Decides.{Decides-and, Decides-ltb, not_from_Decides}
use Rattle.std.proofs.lemmas.Slice.Eq.{bytes_eq-Decides}
use Rattle.statics.specs.declared.Refusal.TheVariants.{WrongName}
use Rattle.statics.specs.Modes.{Word, place}
use Rattle.statics.specs.Laws.{Lacks}
use Rattle.statics.specs.Scopes.{Env, Class, record_mode, stored, local, routine, thing, signature, nobody, class_at, component_at, LastOf, Means, Called, Stands, Keeps, Runs, Heads, Shapes, Belongs, Selects}
use Rattle.statics.specs.Order.{Span}
use Rattle.statics.specs.JudgeExpressions.{seek, called_at, look, stands, keeps, runs, heads, shapes, selects}
use Rattle.statics.proofs.Decide.{Tells, found, none, Judged, lacking}
use Rattle.statics.proofs.Fit.{tells_like, tells_if, tells_maybe, tells_bind}

last_one : (n : ℕ) (P : ℕ → Type 0) (i j : ℕ) → LastOf n P i → LastOf n P j → i ≡ j
last_one n P i j a b = go (cases_order i j)
  where
    go : (i ≡ j) ⊎ ((i < j) ⊎ (j < i)) → i ≡ j
    go (inl e) = e
    go (inr (inl h)) = absurd (a.2 j h b.0 b.1)
    go (inr (inr h)) = absurd (b.2 i h a.0 a.1)

pub seek_tells : (n : ℕ) (P : ℕ → Type 0) (t : ℕ → Bool) → ((k : ℕ) → Decides (t k) (P k)) → Tells (LastOf n P) (seek n t)
seek_tells zero P t told = none (λ i l. omega (arith, l.0))
seek_tells (suc n) P t told = go (t n) (told n) (seek_tells n P t told)
  where
    step : (k : ℕ) → k < suc n → (k < n) ⊎ (k ≡ n)
    step k h = grind arith

    go : (b : Bool) {o : Option ℕ} → Decides b (P n) → Tells (LastOf n P) o → Tells (LastOf (suc n) P) (cond b (Some n) o)
    go true d l =
        let here : LastOf (suc n) P n = (omega arith, d.0 refl, λ k a b p. omega arith) in
        found here (λ j m. last_one (suc n) P j n m here)
    go false d (none l) = none (λ i m. elim (step i m.0) [ inl a ↦ l i (a, m.1, λ k x y p. m.2 k x (omega arith) p) | inr q ↦ not_from_Decides false d refl (subst P q m.1) ])
    go false d (found {a = i} l one) =
        let here : LastOf (suc n) P i = (let a = l.0 in omega arith, l.1, λ k a b p. elim (step k b) [ inl c ↦ l.2 k a c p | inr q ↦ not_from_Decides false d refl (subst P q p) ]) in
        found here (λ j m. last_one (suc n) P j i m here)

called_tells : (Γ : Env) (n : ℕ) → Tells (Means Γ n) (called_at Γ n)
called_tells Γ n =
    tells_like _ (λ i x. (rw x.2.1 x.1, rw x.2.1 x.2.0)) (λ i x. (i, x.0, (x.1, refl)))
    (tells_bind (λ i j. (i < Γ.ready) × (j ≡ i)) _
    (seek_tells (length Γ.names) (λ k. (get_or Γ.names k nobody).word ≡ Γ.text.word n) _ (λ k. bytes_eq-Decides (get_or Γ.names k nobody).word (Γ.text.word n)))
    (λ i. tells_if _ i (Decides-ltb i Γ.ready)))

-- a name picked by its class
pub look_judged : {A : Type 0} (Γ : Env) (n : ℕ) (P : Class → A → Type 0) (pick : Class → Option A) (lo hi : ℕ) → ((c : Class) → Tells (P c) (pick c)) → Span lo hi n → Judged lo hi (Called Γ n P) (Lacks (Called Γ n P) (WrongName n)) (look Γ n pick)
look_judged Γ n P pick lo hi t s = lacking lo hi (WrongName n) s (tells_bind (λ i. P (class_at Γ i)) _ (called_tells Γ n) (λ i. t (class_at Γ i)))

pub stands_tells : (c : Class) → Tells (Stands c) (stands c)
stands_tells (stored t) = found refl (λ u x. x)
stands_tells (local m) = found refl (λ u x. x)
stands_tells _ = none (λ t x. x)

pub keeps_tells : (c : Class) → Tells (Keeps c) (keeps c)
keeps_tells (stored t) = found refl (λ u x. x)
keeps_tells _ = none (λ t x. x)

pub runs_tells : (c : Class) → Tells (Runs c) (runs c)
runs_tells (routine s) = found refl (λ u x. x)
runs_tells _ = none (λ t x. x)

pub shapes_tells : (c : Class) → Tells (Shapes c) (shapes c)
shapes_tells record_mode = found tt (λ u x. refl)
shapes_tells _ = none (λ t x. x)

pub heads_tells : (c : Class) → Tells (Heads c) (heads c)
heads_tells (stored t) = found {a = thing t} refl (λ h x. grind arith)
heads_tells (local m) = found {a = thing (place false m)} refl (λ h x. grind arith)
heads_tells (routine s) = found {a = signature s} refl (λ h x. grind arith)
heads_tells c = none (λ h x. grind arith)

pub selects_tells : (Γ : Env) (r : Word) (n : ℕ) → Tells (Selects Γ r n) (selects Γ r n)
selects_tells Γ r n =
    tells_maybe (λ i. place true (component_at Γ i).mode)
    (seek_tells (length Γ.parts) (Belongs Γ r (Γ.text.word n)) _ (λ k. Decides-and _ _ (bytes_eq-Decides (component_at Γ k).owner r) (bytes_eq-Decides (component_at Γ k).word (Γ.text.word n))))
