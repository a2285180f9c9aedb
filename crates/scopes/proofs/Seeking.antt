-- What the search by name finds is what the rules seek: the last number below n that passes, by what is known of each number.
use Rattle.std.proofs.Common.{◌≡◌, ℕ, zero, suc, ◌<◌, Bool, true, false, ◌&&◌, List, [], ◌∷◌, map, length, get_or, Some, None, Option, sym, refl, ap, ◌∙◌, subst, arith, inl, inr}
use Rattle.std.specs.Prelude.{Decides}
use Rattle.std.proofs.lemmas.Bool.{cond-true, cond-false, cases_lt}
use Rattle.std.proofs.lemmas.List.{get_or-map, length-map}
use Rattle.std.proofs.lemmas.Slice.Eq.{bytes_eq-Decides}
use Rattle.names.specs.Spelling.{uppers, Says, SameName, FullName, alone, SameFullName, Last}
use Rattle.statics.specs.Scopes.{same_word, nobody, no_component}
use Rattle.statics.specs.JudgeExpressions.{seek}
use Rattle.texts.specs.declared.Text.{Text}
use Rattle.texts.specs.Facts.{facts, spelling}
use Rattle.modes.specs.declared.Mode.{Mode}
use Rattle.scopes.specs.declared.Declared.{Declared}
use Rattle.scopes.specs.declared.Component.{Component}
use Rattle.scopes.specs.Meanings.{declared_means, component_means}

seek_none : (n : ℕ) (t : ℕ → Bool) → ((k : ℕ) → k < n → t k ≡ false) → seek n t ≡ None
seek_none zero t none = refl
seek_none (suc n) t none = cond-false _ _ _ (none n (omega arith)) ∙ seek_none n t (λ k below. none k (omega arith))

seek_some : (n : ℕ) (t : ℕ → Bool) (i : ℕ) → i < n → t i ≡ true → ((k : ℕ) → i < k → k < n → t k ≡ false) → seek n t ≡ Some i
seek_some zero t i below here none = absurd (omega arith)
seek_some (suc n) t i below here none =
    elim (cases_lt i n) [
      | inl less ↦ cond-false _ _ _ (none n less (omega arith)) ∙ seek_some n t i less here (λ k after under. none k after (omega arith))
      | inr more ↦ let e : n ≡ i = omega arith in cond-true _ _ _ (ap t e ∙ here) ∙ ap Some e
    ]

told : {P : Type 0} (b : Bool) → Says b P → P → b ≡ true
told true s p = refl
told false s p = absurd (s p)

denied : {P : Type 0} (b : Bool) → Says b P → (P → ⊥) → b ≡ false
denied true s n = absurd (n s)
denied false s n = refl

-- the rules read entries by f, and their test t says of each whether it has the name w
module _ {X Y : Type 0} (s : X → FullName) (w : FullName) (f : X → Y) (e : Y) (t : Y → Bool) (tells : (x : X) → Says (t (f x)) (SameFullName (s x) w)) where
  tells_at : (xs : List X) (k : ℕ) → k < length (map f xs) → Says (t (get_or (map f xs) k e)) (SameFullName (get_or (map s xs) k (alone [])) w)
  tells_at [] k l = absurd (omega (arith, l))
  tells_at (x ∷ xs) k l =
      let b : k < length (x ∷ xs) = omega (arith, l, length-map (x ∷ xs) f) in
      rw (get_or-map f (x ∷ xs) k x e b) (rw (get_or-map s (x ∷ xs) k x (alone []) b) (tells (get_or (x ∷ xs) k x)))

  seek_last : (xs : List X) (r : Option ℕ) → Last (map s xs) w r → seek (length (map f xs)) (λ k. t (get_or (map f xs) k e)) ≡ r
  seek_last xs None h =
      seek_none _ _ (λ k l. denied _ (tells_at xs k l) (h k (omega (arith, l, length-map xs f, length-map xs s))))
  seek_last xs (Some i) h =
      let b : i < length (map f xs) = omega (arith, h.0, length-map xs f, length-map xs s) in
      seek_some _ _ i b (told _ (tells_at xs i b) h.1)
      (λ k a l. denied _ (tells_at xs k l) (h.2 k a (omega (arith, l, length-map xs f, length-map xs s))))

-- ---- declared names and components

decided : {P : Type 0} (b : Bool) → Decides b P → Says b P
decided true h = h.0 refl
decided false h = λ p. let q = h.1 p in cc

both : (P Q : Type 0) (a b : Bool) → Says a P → Says b Q → Says (a && b) (Q × P)
both P Q true true h k = (k, h)
both P Q true false h k = λ p. k p.0
both P Q false b h k = λ p. h p.1

one_word : (v w : List ℕ) → Says (same_word (uppers v) (uppers w)) (SameName v w)
one_word v w = decided (same_word (uppers v) (uppers w)) (bytes_eq-Decides (uppers v) (uppers w))

abbrev declared_name : Text → Declared → FullName
declared_name t d = alone (spelling t d.item)

abbrev pub component_name : Text → Component → FullName
component_name t c = record { of = spelling t c.owner; own = spelling t c.item }

pub last_declared : (t : Text) (ms : List Mode) (ds : List Declared) (n : ℕ) (w : FullName) (r : Option ℕ) → w ≡ alone (spelling t n) → Last (map (declared_name t) ds) w r
    → seek (length (map (declared_means (facts t) ms) ds)) (λ k. same_word (get_or (map (declared_means (facts t) ms) ds) k nobody).word ((facts t).word n)) ≡ r
last_declared t ms ds n w r is found =
    let v = spelling t n in
    seek_last (declared_name t) (alone v) (declared_means (facts t) ms) nobody (λ d. same_word d.word ((facts t).word n))
    (λ d. both _ _ true (same_word (uppers (spelling t d.item)) (uppers v)) refl (one_word (spelling t d.item) v))
    ds r (subst (λ u. Last (map (declared_name t) ds) u r) is found)

pub last_component : (t : Text) (cs : List Component) (o n : ℕ) (u v : List ℕ) (r : Option ℕ) → u ≡ spelling t o → v ≡ spelling t n → Last (map (component_name t) cs) (record { of = u; own = v }) r
    → seek (length (map (component_means (facts t)) cs)) (λ k. same_word (get_or (map (component_means (facts t)) cs) k no_component).owner ((facts t).word o) && same_word (get_or (map (component_means (facts t)) cs) k no_component).word ((facts t).word n)) ≡ r
last_component t cs o n u v r of own found =
    rw (sym of) (rw (sym own) (
    seek_last (component_name t) (record { of = u; own = v }) (component_means (facts t)) no_component (λ d. same_word d.owner (uppers u) && same_word d.word (uppers v))
    (λ c. both _ _ (same_word (uppers (spelling t c.owner)) (uppers u)) (same_word (uppers (spelling t c.item)) (uppers v)) (one_word (spelling t c.owner) u) (one_word (spelling t c.item) v))
    cs r found))
