-- Where the i-th of what is laid one behind the other lies. Assumes nothing.
use Rattle.std.proofs.Common.{◌≡◌, ℕ, zero, suc, ◌+◌, List, [], ◌∷◌, map, take, Some, option_map, slice_get, refl, ap, ◌∙◌, arith}
use Rattle.std.specs.List.{sum_by}
use Rattle.std.proofs.lemmas.List.Sums.{sum_by-cons}
use Rattle.resolved.specs.Forms.{Span}
use Rattle.resolved.specs.Places.{laid}
use Rattle.space.specs.declared.Charge.{Charge}
use Rattle.space.specs.Charges.{charge_means}

-- behind so many places
abbrev pub lies : ℕ → Charge → Span
lies p c = record { item = c.item; first = p; size = c.amount }

pub laid_at : (cs : List Charge) (p i : ℕ) → slice_get (laid p (map charge_means cs)) i ≡ option_map (lies (p + sum_by (λ c. c.amount) (take i cs))) (slice_get cs i)
laid_at [] p i = refl
laid_at (c ∷ cs) p zero = ap (λ q. Some (lies q c)) (omega arith)
laid_at (c ∷ cs) p (suc i) =
    laid_at cs (p + c.amount) i
    ∙ ap (λ q. option_map (lies q) (slice_get cs i)) (omega (arith, sum_by-cons (λ c. c.amount) c (take i cs)))
