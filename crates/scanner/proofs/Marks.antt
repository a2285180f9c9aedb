-- The twin sees no separator where there is none.
use Rattle.std.proofs.Common.{◌≡◌, ℕ, true, false, eqb, List, [], ◌∷◌, length, take, Some, None, Err, Option, subst, sym, refl, ◌∙◌, ⊎_elim}
use Rattle.std.proofs.lemmas.Bool.{eqb-true, and_parts, cond-false, false≢true, cases_Bool}
use Rattle.symbols.specs.Spellings.{sign}
use Rattle.symbols.specs.See.{stuck, starts, see_mark, marks}
use Rattle.symbols.specs.declared.Separator.{Separator}
use Rattle.scanner.specs.declared.item.Stop.{Stop}
use Rattle.scanner.specs.declared.item.Stop.TheVariants.{Stuck}
use Rattle.scanner.specs.Seen.{Leads, Marked, Sees}
use Rattle.std.specs.Borrow.{Bor}
use Rattle.std.specs.Option.{ok_or}

starts_leads : (v t : List ℕ) → starts v t ≡ true → take (length v) t ≡ v
starts_leads [] t e = refl
starts_leads (a ∷ v) [] e = absurd (false≢true e)
starts_leads (a ∷ v) (b ∷ t) e =
    let h = and_parts (eqb a b) (starts v t) e in
    let p = eqb-true a b h.0 in
    let q = starts_leads v t h.1 in
    cc

unled : (s : Separator) (t : List ℕ) → (Leads s t → ⊥) → starts (sign s) t ≡ false
unled s t h = ⊎_elim (λ e. absurd (h (starts_leads (sign s) t e))) (λ e. e) (cases_Bool (starts (sign s) t))

skip : (s : Separator) (ss : List Separator) (t : List ℕ) → (Leads s t → ⊥) → see_mark (s ∷ ss) t ≡ see_mark ss t
skip s ss t h = cond-false (starts (sign s) t) _ _ (unled s t h)

pub see_none : (ss : List Separator) (t : List ℕ) → ((s : Separator) → Leads s t → ⊥) → see_mark ss t ≡ stuck 0
see_none [] t h = refl
see_none (s ∷ ss) t h = skip s ss t (h s) ∙ see_none ss t h

-- where there is no separator, none is seen, and no more of the text is read
pub unmarked :
    (t : List ℕ) (o : Option (Separator × Bor (List ℕ))) (s : Stop)
    → Marked t o
    → Err s ≡ ok_or o (Stuck 0)
    → Sees t (see_mark marks t) (Err s)
unmarked t None s h e = let p : s ≡ Stuck 0 = cc in subst (λ y. Sees t (see_mark marks t) (Err y)) (sym p) (see_none marks t h)
unmarked t (Some p) s h e = cc
