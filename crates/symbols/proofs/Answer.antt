-- The twin's verdict on a text meets the rules, and is the only one that does.
use Rattle.std.proofs.Common.{◌≡◌, ℕ, zero, suc, ◌≤◌, ltb, List, [], ◌∷◌, ◌++◌, length, Some, None, Option, Result, sym, refl, ap, ◌∙◌, subst, arith}
use Rattle.std.proofs.lemmas.Bool.{cond-true, cond-false, cond_both, ltb-true, ltb-false, lt-ltb, le-ltb}
use Rattle.answers.specs.declared.Decline.{Decline}
use Rattle.symbols.specs.Cut.{Cut, Verdict, too_long, declined, too_many, whole, max_bytes, max_items}
use Rattle.symbols.specs.Twin.{Cutting, cuts, beyond, counted, summed, verdict}
use Rattle.symbols.specs.declared.Entry.{Entry}
use Rattle.symbols.proofs.Cutting.{meets, determined}

beyond_at : (us : List Entry) (e : Entry) (more : List Entry) → beyond (length us) (us ++ (e ∷ more)) ≡ Some e
beyond_at [] e more = refl
beyond_at (u ∷ us) e more = beyond_at us e more

beyond_few : (n : ℕ) (es : List Entry) → length es ≤ n → beyond n es ≡ None
beyond_few n [] l = refl
beyond_few zero (e ∷ es) l = absurd (omega arith)
beyond_few (suc n) (e ∷ es) l = beyond_few n es (omega arith)

-- where an item is one too many, those before it and those behind it
record Split (n : ℕ) (es : List Entry) (e : Entry) : Type 0 where
  before : List Entry
  after : List Entry
  parts : es ≡ before ++ (e ∷ after)
  size : length before ≡ n

abbrev Beyond : ℕ → List Entry → Option Entry → Type 0
Beyond n es None = length es ≤ n
Beyond n es (Some e) = Split n es e

longer : (n : ℕ) (d : Entry) (es : List Entry) (x : Option Entry) → Beyond n es x → Beyond (suc n) (d ∷ es) x
longer n d es None h = omega arith
longer n d es (Some e) h =
    record { before = d ∷ h.before; after = h.after; parts = ap (λ y. d ∷ y) h.parts; size = ap suc h.size }

beyond_is : (n : ℕ) (es : List Entry) → Beyond n es (beyond n es)
beyond_is n [] = omega arith
beyond_is zero (e ∷ es) = record { before = []; after = es; parts = refl; size = refl }
beyond_is (suc n) (d ∷ es) = longer n d es (beyond n es) (beyond_is n es)

counted_meets :
    (t : List ℕ) (es : List Entry)
    → length t ≤ max_bytes
    → Cut 0 t es None
    → (x : Option Entry)
    → Beyond max_items es x
    → Verdict t (counted es x)
counted_meets t es l c None h = whole es l c h
counted_meets t es l c (Some e) h =
    too_many h.before e h.after l (subst (λ y. Cut 0 t y None) h.parts c) h.size

summed_meets :
    (t : List ℕ) (es : List Entry) (o : Option Decline) → length t ≤ max_bytes → Cut 0 t es o → Verdict t (summed es o)
summed_meets t es None l c = counted_meets t es l c (beyond max_items es) (beyond_is max_items es)
summed_meets t es (Some d) l c = declined es d l c

pub verdict_meets : (t : List ℕ) → Verdict t (verdict t)
verdict_meets t =
    cond_both (ltb max_bytes (length t)) _ _ (Verdict t) (λ e. too_long (ltb-true max_bytes (length t) e))
    (λ e. summed_meets t (cuts (length t) 0 t).items (cuts (length t) 0 t).outcome (ltb-false max_bytes (length t) e) (meets (length t) 0 t (omega arith)))

summed_is :
    (t : List ℕ) (es : List Entry) (o : Option Decline) → length t ≤ max_bytes → Cut 0 t es o → verdict t ≡ summed es o
summed_is t es o l c =
    let d = determined 0 t es o c (length t) (omega arith) in
    cond-false (ltb max_bytes (length t)) _ _ (le-ltb max_bytes (length t) l)
    ∙ ap (λ (k : Cutting). summed k.items k.outcome) d

pub verdict_only : (t : List ℕ) (r : Result (List Entry) Decline) → Verdict t r → verdict t ≡ r
verdict_only t _ (too_long l) = cond-true (ltb max_bytes (length t)) _ _ (lt-ltb max_bytes (length t) l)
verdict_only t _ (declined es d l c) = summed_is t es (Some d) l c
verdict_only t _ (too_many es e more l c n) =
    summed_is t (es ++ (e ∷ more)) None l c
    ∙ ap (counted (es ++ (e ∷ more))) (ap (λ k. beyond k (es ++ (e ∷ more))) (sym n) ∙ beyond_at es e more)
verdict_only t _ (whole es l c n) = summed_is t es None l c ∙ ap (counted es) (beyond_few max_items es n)
