-- Places lie one behind the other, below the limit. Assumes nothing.
use Rattle.std.proofs.Common.{◌≡◌, ℕ, zero, suc, ◌+◌, ◌<◌, ◌≤◌, ◌⊎◌, List, [], ◌∷◌, map, Some, slice_get, refl, ap, inl, inr, arith}
use Rattle.std.proofs.lemmas.Bool.{cases_lt}
use Rattle.statics.specs.Space.{Charge, Passes}
use Rattle.resolved.specs.Forms.{Span}
use Rattle.resolved.specs.Places.{laid}
use Rattle.resolved.specs.Theorems.{of_span}

pub each_laid : (cs : List Charge) (p : ℕ) → map of_span (laid p cs) ≡ cs
each_laid [] p = refl
each_laid (c ∷ cs) p = ap (λ l. c ∷ l) (each_laid cs _)

-- none before the first place
laid_from : (cs : List Charge) (p : ℕ) (i : ℕ) (a : Span) → slice_get (laid p cs) i ≡ Some a → p ≤ a.first
laid_from [] p i a e = grind arith
laid_from (c ∷ cs) p zero a e = grind arith
laid_from (c ∷ cs) p (suc i) a e = let h = laid_from cs _ i a e in omega arith

pub laid_apart : (cs : List Charge) (p : ℕ) (i j : ℕ) (a b : Span) → i < j → slice_get (laid p cs) i ≡ Some a → slice_get (laid p cs) j ≡ Some b → a.first + a.size ≤ b.first
laid_apart [] p i j a b l e f = grind arith
laid_apart (c ∷ cs) p i zero a b l e f = omega arith
laid_apart (c ∷ cs) p zero (suc j) a b l e f = let h = laid_from cs _ j b f in grind arith
laid_apart (c ∷ cs) p (suc i) (suc j) a b l e f = laid_apart cs _ i j a b (omega arith) e f

pub laid_below : (limit p : ℕ) (cs : List Charge) → ((q : ℕ) → Passes limit p cs q → ⊥) → (i : ℕ) (a : Span) → slice_get (laid p cs) i ≡ Some a → a.first + a.size ≤ limit
laid_below limit p [] never i a e = grind arith
laid_below limit p (c ∷ cs) never i a e = go (cases_lt limit (p + c.amount)) i a e (λ h. laid_below limit (p + c.amount) cs (λ q x. never q (inr (h, x))))
  where
    go :
        (limit < p + c.amount) ⊎ (p + c.amount ≤ limit) → (i : ℕ) (a : Span) → slice_get (laid p (c ∷ cs)) i ≡ Some a
        → (p + c.amount ≤ limit → (k : ℕ) (b : Span) → slice_get (laid (p + c.amount) cs) k ≡ Some b → b.first + b.size ≤ limit)
        → a.first + a.size ≤ limit
    go (inl h) i a e rest = absurd (never c.item (inl (h, refl)))
    go (inr h) zero a e rest = grind arith
    go (inr h) (suc i) a e rest = rest h i a e
