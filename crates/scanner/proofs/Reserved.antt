-- A table of reserved words and what they stand for, against how each of these is spelled.
use Rattle.std.proofs.Common.{◌≡◌, ℕ, zero, suc, ◌<◌, Bool, true, false, cond, eq-eqb, List, [], ◌∷◌, map, filter, length, get_or, nat_eq, None, Some, sym, refl, ap, ◌∙◌, arith}
use Rattle.std.proofs.lemmas.Bool.{cond-true, cond-false}
use Rattle.names.specs.Spelling.{uppers, alone, SameFullName, Last}
use Rattle.symbols.specs.See.{same, lookup}
use Rattle.symbols.proofs.Lookup.{lookup_spells}

-- each entry has a word f and a meaning g, and its word in capitals is how its meaning is spelled
module _ {X T : Type 0} (f : X → List ℕ) (g : X → T) (spell : T → List ℕ) where
  abbrev pub Capitals : List X → Type 0
  Capitals xs = map (λ x. uppers (f x)) xs ≡ map (λ x. spell (g x)) xs

  -- the entry at i, which has the name
  pub entry_spelt :
      (xs : List X) (i : ℕ) (d : X) (w : List ℕ)
      → Capitals xs
      → i < length (map (λ x. alone (f x)) xs)
      → SameFullName (get_or (map (λ x. alone (f x)) xs) i (alone [])) (alone w)
      → uppers w ≡ spell (g (get_or xs i d))
  entry_spelt [] i d w c l h = absurd (omega (arith, l))
  entry_spelt (x ∷ xs) zero d w c l h = let s = h.0 in cc
  entry_spelt (x ∷ xs) (suc i) d w c l h =
      let t : Capitals xs = cc in
      entry_spelt xs i d w t (omega (arith, l)) h

  -- no entry has the name
  pub none_spelt :
      (xs : List X) (w : List ℕ) (k : T)
      → Capitals xs
      → Last (map (λ x. alone (f x)) xs) (alone w) None
      → lookup spell (uppers w) (map g xs) ≡ Some k
      → ⊥
  none_spelt [] w k c h e = cc
  none_spelt (x ∷ xs) w k c h e =
      let t : Capitals xs = cc in
      let d : uppers (f x) ≡ spell (g x) = cc in
      go d (none_spelt xs w k t (λ i l. h (suc i) (omega arith))) (same (uppers w) (spell (g x))) refl
    where
      go : uppers (f x) ≡ spell (g x) → (lookup spell (uppers w) (map g xs) ≡ Some k → ⊥) → (b : Bool) → same (uppers w) (spell (g x)) ≡ b → ⊥
      go d more true p =
          let s = lookup_spells spell (uppers w) (g x ∷ []) (g x) (cond-true (same (uppers w) (spell (g x))) _ _ p) in
          h 0 (omega arith) (d ∙ sym s, refl)
      go d more false p = more (sym (cond-false (same (uppers w) (spell (g x))) _ _ p) ∙ e)

-- what is spelled v is found among what is spelled with as many letters
pub lookup_kept :
    {T : Type 0} (spell : T → List ℕ) (v : List ℕ) (n : ℕ) (ks : List T) (k : T)
    → length v ≡ n
    → lookup spell v ks ≡ Some k
    → lookup spell v (filter (λ x. nat_eq (length (spell x)) n) ks) ≡ Some k
lookup_kept spell v n [] k l e = cc
lookup_kept spell v n (y ∷ ys) k l e =
    go (λ p. lookup_kept spell v n ys k l (sym (cond-false (same v (spell y)) _ _ p) ∙ e)) (same v (spell y)) refl (nat_eq (length (spell y)) n) refl
  where
    go : (same v (spell y) ≡ false → lookup spell v (filter (λ x. nat_eq (length (spell x)) n) ys) ≡ Some k)
        → (b : Bool) → same v (spell y) ≡ b → (q : Bool) → nat_eq (length (spell y)) n ≡ q
        → lookup spell v (cond (nat_eq (length (spell y)) n) (y ∷ filter (λ x. nat_eq (length (spell x)) n) ys) (filter (λ x. nat_eq (length (spell x)) n) ys)) ≡ Some k
    go more true p true q = cc
    go more true p false q =
        let s = ap length (lookup_spells spell v (y ∷ []) y (cond-true (same v (spell y)) _ _ p)) in
        let t = eq-eqb (length (spell y)) n (sym s ∙ l) in
        cc
    go more false p true q = let m = more p in cc
    go more false p false q = let m = more p in cc
