-- The part of a table that was lent, and the items of the names that stand there. Assumes nothing.
use Rattle.std.proofs.Common.{◌≡◌, ℕ, zero, suc, ◌+◌, ◌-◌, ◌<◌, ◌≤◌, ◌⊎◌, inl, inr, List, [], ◌∷◌, ◌++◌, drop, length, map, take, Option, Some, None, Bor, refl, ap, sym, ◌∙◌, arith, length-take-le, take-take}
use Rattle.std.specs.Option.{UnwrapsOrElse}
use Rattle.std.specs.Slice.{IsGetRangeResult}
use Rattle.std.proofs.lemmas.List.{map-append, length-map, drop-map, drop-take, drop-append-le}
use Rattle.std.proofs.lemmas.Simd.{map-map}
use Rattle.statics.specs.Scopes.{Text}
use Rattle.statics.specs.Written.{Site, items}
use Rattle.statics.specs.Modules.{Field}
use Rattle.scopes.specs.declared.Declared.{Declared}
use Rattle.frames.specs.Frames.{Behind, site_means}

pub none_between : {A : Type 0} (f : A → ℕ) (k : ℕ) (l : List A) → map f (drop k (take k l)) ≡ []
none_between f zero l = refl
none_between f (suc k) [] = refl
none_between f (suc k) (a ∷ l) = none_between f k l

pub take_less : {A : Type 0} (b g : ℕ) (xs ys : List A) → b ≤ g → take g xs ≡ take g ys → take b xs ≡ take b ys
take_less b g xs ys le e = sym (take-take b g xs le) ∙ ap (take b) e ∙ take-take b g ys le

-- a part of a table that is within it is what was asked for
pub lent : {T : Type 0} (r : Option (Bor (List T))) (P : Bor (List T) → Type 0) (got : Bor (List T)) (xs : List T) (a b : ℕ) → IsGetRangeResult xs a b r → UnwrapsOrElse r P got → a ≤ b → b ≤ length xs → got.now ≡ drop a (take b xs)
lent None P got xs a b h u le within = by_case h.0
  where
    by_case : (b < a) ⊎ (length xs < b) → got.now ≡ drop a (take b xs)
    by_case (inl m) = absurd (omega (arith, m, le))
    by_case (inr m) = absurd (omega (arith, m, within))
lent (Some s) P got xs a b h u le within =
    let e : a + (b - a) ≡ b = omega arith in
    ap (λ (t : Bor (List _)). t.now) u ∙ h.0.2 ∙ sym (drop-take a (b - a) xs) ∙ ap (λ (n : ℕ). drop a (take n xs)) e

abbrev pub items_of : List Declared → List ℕ
items_of = map (λ d. d.item)

module _ (x : Text) where
  sites_items : (ds : List Declared) → items (map (site_means x []) ds) ≡ items_of ds
  sites_items ds = map-map (λ (s : Site). s.item) (site_means x []) ds

  -- what stands from base on where us was put behind the first given
  pub part_items : (us : List Site) (base given : ℕ) (old : List Declared) (end : ℕ) (new : List Declared) → base ≤ given → given + length us ≤ length old → Behind (site_means x []) us given old end new → items_of (drop base (take end new)) ≡ items_of (drop base (take given old)) ++ items us
  part_items us base given old end new le fits behind =
      let all : items_of (take end new) ≡ items_of (take given old) ++ items us =
      sym (sites_items (take end new))
      ∙ ap items (behind fits).1
      ∙ map-append (λ (s : Site). s.item) (map (site_means x []) (take given old)) us
      ∙ ap (λ (l : List ℕ). l ++ items us) (sites_items (take given old)) in
      let within : base ≤ length (items_of (take given old)) = omega (arith, length-map (take given old) (λ (d : Declared). d.item), length-take-le given old (omega (arith, fits))) in
      sym (drop-map (λ (d : Declared). d.item) base (take end new))
      ∙ ap (drop base) all
      ∙ drop-append-le base (items_of (take given old)) (items us) within
      ∙ ap (λ (l : List ℕ). l ++ items us) (drop-map (λ (d : Declared). d.item) base (take given old))

  -- what stands from count on where components or parameters were put there
  pub fresh_items : (site_of : Field → Site) (fs : List Field) (count : ℕ) (old : List Declared) (end : ℕ) (new : List Declared) → count + length fs ≤ length old → Behind (site_means x []) (map site_of fs) count old end new → (end ≡ count + length fs) × (items_of (drop count (take end new)) ≡ map (λ f. (site_of f).item) fs)
  fresh_items site_of fs count old end new fits behind =
      let size : length (map site_of fs) ≡ length fs = length-map fs site_of in
      let room : count + length (map site_of fs) ≤ length old = omega (arith, size, fits) in
      let le : count ≤ count = omega arith in (
        omega (arith, size, (behind room).0),
        part_items (map site_of fs) count count old end new le room behind
            ∙ ap (λ (l : List ℕ). l ++ items (map site_of fs)) (none_between (λ (d : Declared). d.item) count old)
            ∙ map-map (λ (s : Site). s.item) site_of fs,
      )
