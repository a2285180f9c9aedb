-- What the items of a cut stand for is what the rules of items say. Assumes nothing.
use Rattle.std.proofs.Common.{◌≡◌, ℕ, ◌+◌, ◌-◌, ◌≤◌, List, [], ◌∷◌, ◌++◌, length, take, drop, None, Ok, Option, Result, sym, refl, ap, ◌∙◌, subst, arith}
use Rattle.std.proofs.lemmas.List.{drop-drop, drop_at, take_at, length-append}
use Rattle.std.proofs.lemmas.Bool.Decides.{nat_tests}
use Rattle.names.specs.Spelling.{uppers}
use Rattle.answers.specs.declared.Decline.{Decline}
use Rattle.symbols.specs.Items.{IsInteger, IsStringOf}
use Rattle.symbols.specs.See.{value_of}
use Rattle.symbols.specs.Cut.{Cut, ended, layout, comment, item, large, unfinished, foreign, Verdict, too_long, declined, too_many, whole, entry, covered, max_integer}
use Rattle.symbols.specs.declared.Entry.{Entry}
use Rattle.symbols.proofs.Values.{value_is}
use Rattle.texts.specs.Facts.{spelling_of, at_most_largest}
use Rattle.verdicts.specs.Facts.{FactsRight}

-- no item of the list is an integer above the largest
abbrev Small : List ℕ → List Entry → Type 0
Small t [] = Unit {0}
Small t (e ∷ es) = ((v : ℕ) → IsInteger (covered t e) v → v ≤ max_integer) × Small t es

after : (t : List ℕ) (p : ℕ) (w r : List ℕ) → drop p t ≡ w ++ r → drop (p + length w) t ≡ r
after t p w r e = sym (drop-drop (length w) p t) ∙ ap (drop (length w)) e ∙ drop_at w r (length w) refl

small : (p : ℕ) (u : List ℕ) (es : List Entry) (o : Option Decline) → Cut p u es o → (t : List ℕ) → drop p t ≡ u → Small t es
small _ _ _ _ (ended p) t e = tt
small _ _ _ _ (layout p b u es o h c) t e = small (p + 1) u es o c t (after t p (b ∷ []) u e)
small _ _ _ _ (comment p w r es o h c) t e = small (p + length w) r es o c t (after t p w r e)
small _ _ _ _ (item p s w r es o h few c) t e =
    let k : p + length w - p ≡ length w = omega arith in
    let part : covered t (entry s p (p + length w)) ≡ w = ap (λ j. take j (drop p t)) k ∙ ap (take (length w)) e ∙ take_at w r (length w) refl in
    (λ v i. few v (subst (λ x. IsInteger x v) part i), small (p + length w) r es o c t (after t p w r e))
small _ _ _ _ (large p w r v h i m) t e = tt
small _ _ _ _ (unfinished p b u h c) t e = tt
small _ _ _ _ (foreign p u c r h f b n) t e = tt

small_items : (t : List ℕ) (r : Result (List Entry) Decline) → Verdict t r → (es : List Entry) → r ≡ Ok es → Small t es
small_items t _ (too_long l) es e = cc
small_items t _ (declined xs d l c) es e = cc
small_items t _ (too_many xs x more l c n) es e = cc
small_items t _ (whole xs l c n) es e =
    let q : xs ≡ es = cc in
    subst (Small t) q (small 0 t xs None c t refl)

module _ (t : List ℕ) (e : Entry) (more : List Entry) where
  small_at : (before : List Entry) → Small t (before ++ (e ∷ more)) → (v : ℕ) → IsInteger (covered t e) v → v ≤ max_integer
  small_at [] s = s.0
  small_at (b ∷ bs) s = small_at bs s.1

  -- the item behind those `before` covers what it is said to
  spelled : (before : List Entry) → spelling_of t (before ++ (e ∷ more)) (length before) ≡ covered t e
  spelled [] = refl
  spelled (b ∷ bs) = spelled bs

at_most : (v : ℕ) → v ≤ max_integer → at_most_largest v ≡ v
at_most v l = grind (arith, nat_tests)

between : (w cs : List ℕ) → IsStringOf w cs → length w - 2 ≡ length cs
between w cs s = omega (arith, ap length s.0, length-append cs (34 ∷ []))

pub facts_right_lem : FactsRight
facts_right_lem t before e more c =
    let is = spelled t e more before in
    record {
      word = ap uppers is;
      value = λ v i. ap (λ w. at_most_largest (value_of w)) is ∙ ap at_most_largest (value_is (covered t e) v i) ∙ at_most v (small_at t e more before (small_items t _ c _ refl) v i);
      size = λ cs s. ap (λ w. length w - 2) is ∙ between (covered t e) cs s;
    }
