use Rattle.std.proofs.Common.{◌≡◌, ℕ, ◌+◌, ◌<◌, ◌≤◌, Bool, true, false, ◌&&◌, List, [], ◌∷◌, map, length, get_or, Some, None, Option, MatchOption, refl, sym, arith, subst}
use Rattle.std.specs.Char.{eq_ignore_ascii_case}
use Rattle.std.specs.List.{AllWithin, HoldsAt, list_all, zip}
use Rattle.std.proofs.lemmas.Bool.Decides.{nat_tests}
use Rattle.std.proofs.lemmas.List.{length-map, get_or-map}
use Rattle.names.specs.Spelling.{upper, uppers, Says, SameName, FullName, alone, SameFullName, Last}

-- the two bytes are of one letter, or the same
abbrev pub alike : ℕ × ℕ → Bool
alike p = eq_ignore_ascii_case p.0 p.1

alike_upper : (x y : ℕ) → alike (x, y) ≡ true → upper x ≡ upper y
alike_upper x y e = grind (arith, nat_tests)

upper_alike : (x y : ℕ) → upper x ≡ upper y → alike (x, y) ≡ true
upper_alike x y e = grind (arith, nat_tests)

-- two spellings of one length are of one name where their bytes are alike, each with each
pub all_alike : (a b : List ℕ) → length a ≡ length b → Says (list_all alike (zip a b)) (SameName a b)
all_alike [] [] e = refl
all_alike [] (y ∷ b) e = absurd (omega arith)
all_alike (x ∷ a) [] e = absurd (omega arith)
all_alike (x ∷ a) (y ∷ b) e = go (alike (x, y)) refl (list_all alike (zip a b)) (all_alike a b (omega arith))
  where
    go : (p : Bool) → alike (x, y) ≡ p → (q : Bool) → Says q (SameName a b) → Says (p && q) (SameName (x ∷ a) (y ∷ b))
    go true n true h = let u = alike_upper x y n in cc
    go true n false h = λ s. h (let t : uppers a ≡ uppers b = cc in t)
    go false n q h = λ s. let u : upper x ≡ upper y = cc in let t = upper_alike x y u in cc

-- what is known of the entries, as the promise says it of their names
module _ {X : Type 0} (f : X → FullName) (w : FullName) where
  -- no entry from n on has the name
  abbrev pub NoneFrom : List X → ℕ → Type 0
  NoneFrom xs n = AllWithin (λ x. SameFullName (f x) w → ⊥) xs n (length xs)

  none_from : (xs : List X) (n k : ℕ) → NoneFrom xs n → n ≤ k → k < length (map f xs) → SameFullName (get_or (map f xs) k (alone [])) w → ⊥
  none_from [] n k h m l s = absurd (omega (arith, l))
  none_from (x ∷ xs) n k h m l s =
      let b : k < length (x ∷ xs) = omega (arith, l, length-map (x ∷ xs) f) in
      h k x m b (subst (λ v. SameFullName v w) (get_or-map f (x ∷ xs) k x (alone []) b) s)

  pub last_found : (xs : List X) (r : Option ℕ) → MatchOption r (NoneFrom xs 0) (λ i. (i < length xs) × HoldsAt (λ x. SameFullName (f x) w) xs i × NoneFrom xs (i + 1)) → Last (map f xs) w r
  last_found xs None h = λ k l. none_from xs 0 k h (omega arith) l
  last_found [] (Some i) h = absurd (omega (arith, h.0))
  last_found (x ∷ xs) (Some i) h = (
    omega (arith, h.0, length-map (x ∷ xs) f),
    subst (λ v. SameFullName v w) (sym (get_or-map f (x ∷ xs) i x (alone []) h.0)) (h.1 x),
    λ k a l. none_from (x ∷ xs) (i + 1) k h.2 (omega (arith, a)) l,
  )
