-- References to arrays: the way forward over them, and their nodes, the last first. Assumes nothing.
use Rattle.std.proofs.Common.{◌≡◌, eqb, false, ℕ, ◌+◌, ◌-◌, ◌*◌, ◌<◌, ◌≤◌, List, [], ◌∷◌, length, get_or, set, sym, refl, ap, ◌∙◌, arith}
use borrow.Author.Tests.{eqb-false}
use Rattle.grammar.specs.Symbols.{code, STOP, NAME, REF, ARRAY, LEFT, RIGHT}
use Rattle.grammar.specs.declared.Symbol.{Symbol}
use Rattle.grammar.specs.Machine.{Goal, a_mode, an_amode}
use Rattle.nodes.proofs.Build.{inside}
use Rattle.nodes.specs.Made.{at, Refused}
use Rattle.nodes.specs.declared.Node.{Node}
use Rattle.nodes.specs.declared.Node.TheVariants as node
use Rattle.nodes.specs.declared.Parsed.{Parsed}
use Rattle.nodes.specs.declared.Fault.{Fault}
use Rattle.declarations.specs.Referring.{Refers, Behind, start, bare, brackets, AmodeMade}
use Rattle.declarations.proofs.Modes.{simple_way, made_simple, bare_way, brackets_way, made_array, made_brackets}

-- a terminal is not two
pub not_both : (a b : Symbol) → eqb (code a) (code b) ≡ false → (c : Symbol) → c ≡ a → c ≡ b → ⊥
not_both a b h c x y = eqb-false (code a) (code b) h (ap code (sym x ∙ y))

no_name : (s : List Symbol) (j : ℕ) → Refers s j → get_or s j STOP ≡ NAME → ⊥
no_name s j r e = not_both REF NAME refl (get_or s j STOP) r.0 e

-- a reference without brackets does not end with one
no_bracket : (s : List Symbol) (j : ℕ) → Refers s j → get_or s (j + 2 - 1) STOP ≡ RIGHT → ⊥
no_bracket s j r q =
    let e : j + 1 ≡ j + 2 - 1 = omega arith in
    not_both ARRAY RIGHT refl (get_or s (j + 1) STOP) r.1 (ap (λ (v : ℕ). get_or s v STOP) e ∙ q)

module _ (d : ℕ) (s : List Symbol) where
  one_way : (j : ℕ) → Refers s j → (get_or s (j + 2) STOP ≡ LEFT → ⊥) → (α : List Goal) → at d (an_amode ∷ α) s j ≡ at d (an_amode ∷ α) s (j + 2)
  one_way j r n α = simple_way d s j (no_name s j r) α ∙ bare_way d s j 0 [] (omega (arith, r.2)) r.0 r.2 r.1 n α

  one_way_on : (j : ℕ) → Refers s j → get_or s (j + 2) STOP ≡ LEFT → get_or s (j + 3) STOP ≡ RIGHT → 0 < d → (α : List Goal) → at d (an_amode ∷ α) s j ≡ at d (an_amode ∷ α) s (j + 4)
  one_way_on j r l q z α = simple_way d s j (no_name s j r) α ∙ brackets_way d s j 0 [] (omega (arith, r.2)) r.0 r.2 r.1 (inside s (j + 2) LEFT refl l) l z (inside s (j + 3) RIGHT refl q) q α

  module _ (i : ℕ) where
    behind_way : (k : ℕ) → Behind d s i k → (α : List Goal) → at d (an_amode ∷ α) s i ≡ at d (an_amode ∷ α) s k
    behind_way _ start α = refl
    behind_way _ (bare j b r n) α = behind_way j b α ∙ one_way j r n α
    behind_way _ (brackets j b r l q z) α = behind_way j b α ∙ one_way_on j r l q z α

    pub behind_refused : (k : ℕ) → Behind d s i k → (f : Fault) → Refused (an_amode ∷ []) d s k f → Refused (an_amode ∷ []) d s i f
    behind_refused k b f r α = behind_way k b α ∙ r α

    -- a reference that does not fit, behind others
    pub reference_refused : (k : ℕ) → Behind d s i k → Refers s k → (f : Fault) → Refused (a_mode ∷ []) d s k f → Refused (an_amode ∷ []) d s i f
    reference_refused k b r f h α = behind_way k b α ∙ simple_way d s k (no_name s k r) α ∙ h α

    -- how far there is to go back
    pub not_before : (k : ℕ) → Behind d s i k → i ≤ k
    not_before _ start = omega arith
    not_before _ (bare j b r l) = let h = not_before j b in omega (arith, h)
    not_before _ (brackets j b r l q z) = let h = not_before j b in omega (arith, h)

    pub two_before : (k : ℕ) → Behind d s i k → (i ≡ k → ⊥) → i + 2 ≤ k
    two_before _ start x = absurd (x refl)
    two_before _ (bare j b r l) x = let h = not_before j b in omega (arith, h)
    two_before _ (brackets j b r l q z) x = let h = not_before j b in omega (arith, h)

    pub four_before : (k : ℕ) → Behind d s i k → (i ≡ k → ⊥) → get_or s (k - 1) STOP ≡ RIGHT → i + 4 ≤ k
    four_before _ start x q = absurd (x refl)
    four_before _ (bare j b r l) x q = absurd (no_bracket s j r q)
    four_before _ (brackets j b r l q' z) x q = let h = not_before j b in omega (arith, h)

    -- there is room for its node
    pub room_before : (used : ℕ) (ns ms : List Node) (p : Parsed) (k : ℕ) → Behind d s i k → (i ≡ k → ⊥) → used + 2 * length s ≤ length ms + 2 * i → AmodeMade d s k used ns ms p → p.used < length ms
    room_before used ns ms p k b x r m = let h = two_before k b x in omega (arith, h, r, m.few, m.within)

    -- the reference that ends before k
    abbrev pub End : ℕ → ℕ → ℕ → List Node → List Node → Parsed → Type 0
    End k j used ns ms p = Behind d s i j × (j < k) × AmodeMade d s j used ns ms p

    module _ (used : ℕ) (ns ms : List Node) (p : Parsed) (room : used + 2 * length s ≤ length ms + 2 * i) where
      pub bare_end : (k : ℕ) → Behind d s i k → (i ≡ k → ⊥) → (get_or s (k - 1) STOP ≡ RIGHT → ⊥) → AmodeMade d s k used ns ms p → End k (k - 2) used ns (set ms p.used (node.RefArray p.root)) (record { next = p.next; used = p.used + 1; root = p.used })
      bare_end _ start x n m = absurd (x refl)
      bare_end _ (bare j b r l) x n m =
          let e : j + 2 - 2 ≡ j = omega arith in
          let h = room_before used ns ms p (j + 2) (bare j b r l) x room m in
          rw e (b, omega arith, made_simple d s j (no_name s j r) used ns _ _ (made_array d s j used ns (omega (arith, r.2)) r.0 r.2 r.1 l ms p h m))
      bare_end _ (brackets j b r l q z) x n m =
          let e : j + 4 - 1 ≡ j + 3 = omega arith in
          absurd (n (ap (λ (v : ℕ). get_or s v STOP) e ∙ q))

      pub brackets_end : (k : ℕ) → Behind d s i k → (i ≡ k → ⊥) → get_or s (k - 1) STOP ≡ RIGHT → AmodeMade d s k used ns ms p → End k (k - 4) used ns (set ms p.used (node.RefArrayBrackets (k - 2) p.root)) (record { next = p.next; used = p.used + 1; root = p.used })
      brackets_end _ start x q m = absurd (x refl)
      brackets_end _ (bare j b r l) x q m = absurd (no_bracket s j r q)
      brackets_end _ (brackets j b r l q' z) x q m =
          let e : j + 4 - 4 ≡ j = omega arith in
          let f : j + 4 - 2 ≡ j + 2 = omega arith in
          let h = room_before used ns ms p (j + 4) (brackets j b r l q' z) x room m in
          rw (e, f) (b, omega arith, made_simple d s j (no_name s j r) used ns _ _ (made_brackets d s j used ns (omega (arith, r.2)) r.0 r.2 r.1 (inside s (j + 2) LEFT refl l) l z (inside s (j + 3) RIGHT refl q') q' ms p h m))
