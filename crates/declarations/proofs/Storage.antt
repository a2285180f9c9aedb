-- What a data brick declares, step by step. Assumes nothing.
use Rattle.std.proofs.Common.{◌≡◌, ℕ, ◌+◌, ◌-◌, ◌<◌, ◌≤◌, true, List, [], ◌∷◌, length, get_or, drop, set, refl, ap, ◌∙◌, arith}
use Rattle.grammar.specs.Symbols.{among, STOP, NAME, INTEGER, INT, BYTE, REF, ARRAY, LEFT, RIGHT}
use Rattle.grammar.specs.declared.Symbol.{Symbol}
use Rattle.grammar.specs.Trees.{Token, token, key, Mode, of_mode, of_amode, Dec, nothing, variables, arrays, structures, of_dec}
use Rattle.grammar.specs.Sentences.{items}
use Rattle.grammar.specs.Machine.{Goal, Move, skip, orelse, then, never, tok, all, each, declareds, decs, Sort, a_mode, an_amode, at_dec}
use Rattle.grammar.proofs.Steps.{items_here, step_at, skip_at}
use Rattle.nodes.proofs.Build.{grown, not_on, fewer_is, more_is}
use Rattle.nodes.proofs.Keep.{keep_mode, keep_amode, agree_trans}
use Rattle.nodes.specs.Made.{at, Made, Way, Refused}
use Rattle.nodes.specs.Nodes.{IsDec}
use Rattle.nodes.specs.declared.Node.{Node}
use Rattle.nodes.specs.declared.Node.TheVariants as node
use Rattle.nodes.specs.declared.Parsed.{Parsed}
use Rattle.nodes.specs.declared.Fault.{Fault}
use Rattle.declarations.proofs.Modes.{ModeMade}
use Rattle.declarations.specs.Referring.{AmodeMade}
use Rattle.declarations.proofs.Firsts.{mode_alike, mode_refuses}
use Rattle.declarations.specs.Declaring.{mode_firsts, Listing, IsListing, of_listing}
use Rattle.nodes.proofs.Repeat.{keep_declareds}

abbrev pub ListingMade : Sort → ℕ → List Symbol → ℕ → ℕ → List Node → List Node → Parsed → Type 0
ListingMade k d s i used ns ms p = Made 0 (Listing k) (IsListing k) (of_listing k) (Way (all (declareds k) ∷ []) d s i) s i used ns ms p

abbrev pub DecMade : Sort → ℕ → List Symbol → ℕ → ℕ → List Node → List Node → Parsed → Type 0
DecMade k d s i used ns ms p = Made 1 (Dec (Listing k)) (IsDec (IsListing k)) (of_dec (of_listing k)) (Way (each (decs k) ∷ []) d s i) s i used ns ms p

abbrev pub DecRefused : Sort → ℕ → List Symbol → ℕ → Fault → Type 0
DecRefused k d s i f = Refused (each (decs k) ∷ []) d s i f

-- nothing is declared
nothing_move : (t : Sort) (c : Symbol) → (c ≡ ARRAY → ⊥) → (c ≡ NAME → ⊥) → (c ≡ INT → ⊥) → (c ≡ BYTE → ⊥) → (c ≡ REF → ⊥) → at_dec t c ≡ skip nothing
nothing_move t c a n x y z = not_on c ARRAY _ _ _ a ∙ not_on c NAME _ _ _ n ∙ ap (λ (m : Move Mode). orelse (then m (λ α. all (declareds t) ∷ α) (λ e α g. (variables e g.0, g.1)) never) (skip nothing)) (mode_refuses c x y z)

module _ (k : Sort) (d : ℕ) (s : List Symbol) (i used : ℕ) where
  pub made_nothing : (ns : List Node) → i ≤ length s → (get_or s i STOP ≡ ARRAY → ⊥) → (get_or s i STOP ≡ NAME → ⊥) → (get_or s i STOP ≡ INT → ⊥) → (get_or s i STOP ≡ BYTE → ⊥) → (get_or s i STOP ≡ REF → ⊥) → used < length ns → DecMade k d s i used ns (set ns used node.Nothing) (record { next = i; used = used + 1; root = used })
  made_nothing ns h a n x y z r = grown 1 (IsDec (IsListing k)) (of_dec (of_listing k)) (Way (each (decs k) ∷ []) d s i) s i used ns ns used i node.Nothing r nothing h (omega arith) (omega arith) (λ j l. refl) (λ g e. e) refl (λ α. skip_at d (each (decs k)) α s i nothing nothing refl (nothing_move k (get_or s i STOP) a n x y z))

  -- records
  module _ (h : i < length s) (q : get_or s i STOP ≡ NAME) where
    record_way : (α : List Goal) → at d (each (decs k) ∷ α) s i ≡ at d (all (declareds k) ∷ α) s (i + 1)
    record_way α = step_at d (each (decs k) ∷ α) (all (declareds k) ∷ α) s i d NAME h q refl refl

    pub records_refused : (f : Fault) → Refused (all (declareds k) ∷ []) d s (i + 1) f → DecRefused k d s i f
    records_refused f r α = record_way α ∙ r α

    pub made_structures : (ns ms : List Node) (p : Parsed) → p.used < length ms → ListingMade k d s (i + 1) used ns ms p → DecMade k d s i used ns (set ms p.used (node.Structures i p.root)) (record { next = p.next; used = p.used + 1; root = p.used })
    made_structures ns ms p r l = grown 1 (IsDec (IsListing k)) (of_dec (of_listing k)) (Way (each (decs k) ∷ []) d s i) s i used ns ms p.used p.next (node.Structures i p.root) r (structures i l.tree) l.within l.more (omega (arith, l.few)) l.kept (λ g a. (p.root, l.below, a, keep_declareds k p.used ms _ g l.tree p.root l.below l.is)) (items_here s i NAME h q ∙ ap (λ (v : List Token). token NAME i ∷ v) l.text) (λ α. record_way α ∙ l.met α)

  -- variables
  module _ (h : i < length s) (q : among mode_firsts (get_or s i STOP) ≡ true) where
    mode_way : (α : List Goal) → at d (each (decs k) ∷ α) s i ≡ at d (a_mode ∷ all (declareds k) ∷ α) s i
    mode_way α = mode_alike d (each (decs k) ∷ α) (a_mode ∷ all (declareds k) ∷ α) s i h q refl refl refl

    pub mode_refused : (f : Fault) → Refused (a_mode ∷ []) d s i f → DecRefused k d s i f
    mode_refused f r α = mode_way α ∙ r (all (declareds k) ∷ α)

    module _ (ns ms : List Node) (e : Parsed) (m : ModeMade d s i used ns ms e) where
      variable_way : (α : List Goal) → at d (each (decs k) ∷ α) s i ≡ at d (all (declareds k) ∷ α) s e.next
      variable_way α = mode_way α ∙ m.met (all (declareds k) ∷ α)

      pub variables_refused : (f : Fault) → Refused (all (declareds k) ∷ []) d s e.next f → DecRefused k d s i f
      variables_refused f r α = variable_way α ∙ r α

      pub made_variables : (os : List Node) (p : Parsed) → p.used < length os → ListingMade k d s e.next e.used ms os p → DecMade k d s i used ns (set os p.used (node.Variables e.root p.root)) (record { next = p.next; used = p.used + 1; root = p.used })
      made_variables os p r l =
          grown 1 (IsDec (IsListing k)) (of_dec (of_listing k)) (Way (each (decs k) ∷ []) d s i) s i used ns os p.used p.next (node.Variables e.root p.root) r (variables m.tree l.tree) l.within (omega (arith, m.more, l.more)) (omega (arith, m.few, l.few))
          (agree_trans used e.used ns ms os m.more m.kept l.kept)
          (λ g a. (e.root, p.root, omega (arith, m.below, l.more), l.below, a, keep_mode p.used os _ g m.tree e.root (omega (arith, m.below, l.more)) (keep_mode e.used ms os l.kept m.tree e.root m.below m.is), keep_declareds k p.used os _ g l.tree p.root l.below l.is))
          (m.text ∙ ap (of_mode m.tree) l.text)
          (λ α. variable_way α ∙ l.met α)

  -- arrays
  module _ (h : i < length s) (q : get_or s i STOP ≡ ARRAY) where
    two : i + 1 + 1 ≡ i + 2
    two = omega arith

    three : i + 2 + 1 ≡ i + 3
    three = omega arith

    four : i + 3 + 1 ≡ i + 4
    four = omega arith

    array_way : (α : List Goal) → at d (each (decs k) ∷ α) s i ≡ at d (tok LEFT ∷ tok INTEGER ∷ tok RIGHT ∷ an_amode ∷ all (declareds k) ∷ α) s (i + 1)
    array_way α = step_at d (each (decs k) ∷ α) (tok LEFT ∷ tok INTEGER ∷ tok RIGHT ∷ an_amode ∷ all (declareds k) ∷ α) s i d ARRAY h q refl refl

    module _ (h' : i + 1 < length s) (q' : get_or s (i + 1) STOP ≡ LEFT) where
      module _ (z : 0 < d) where
        opened_way : (α : List Goal) → at d (each (decs k) ∷ α) s i ≡ at (d - 1) (tok INTEGER ∷ tok RIGHT ∷ an_amode ∷ all (declareds k) ∷ α) s (i + 2)
        opened_way α = array_way α ∙ step_at d (tok LEFT ∷ tok INTEGER ∷ tok RIGHT ∷ an_amode ∷ all (declareds k) ∷ α) (tok INTEGER ∷ tok RIGHT ∷ an_amode ∷ all (declareds k) ∷ α) s (i + 1) (d - 1) LEFT h' q' refl (fewer_is d z) ∙ ap (λ (j : ℕ). at (d - 1) (tok INTEGER ∷ tok RIGHT ∷ an_amode ∷ all (declareds k) ∷ α) s j) two

        module _ (h'' : i + 2 < length s) (q'' : get_or s (i + 2) STOP ≡ INTEGER) where
          length_way : (α : List Goal) → at d (each (decs k) ∷ α) s i ≡ at (d - 1) (tok RIGHT ∷ an_amode ∷ all (declareds k) ∷ α) s (i + 3)
          length_way α = opened_way α ∙ step_at (d - 1) (tok INTEGER ∷ tok RIGHT ∷ an_amode ∷ all (declareds k) ∷ α) (tok RIGHT ∷ an_amode ∷ all (declareds k) ∷ α) s (i + 2) (d - 1) INTEGER h'' q'' refl refl ∙ ap (λ (j : ℕ). at (d - 1) (tok RIGHT ∷ an_amode ∷ all (declareds k) ∷ α) s j) three

          module _ (h''' : i + 3 < length s) (q''' : get_or s (i + 3) STOP ≡ RIGHT) where
            closed_way : (α : List Goal) → at d (each (decs k) ∷ α) s i ≡ at d (an_amode ∷ all (declareds k) ∷ α) s (i + 4)
            closed_way α = length_way α ∙ step_at (d - 1) (tok RIGHT ∷ an_amode ∷ all (declareds k) ∷ α) (an_amode ∷ all (declareds k) ∷ α) s (i + 3) d RIGHT h''' q''' refl (more_is d z) ∙ ap (λ (j : ℕ). at d (an_amode ∷ all (declareds k) ∷ α) s j) four

            array_text : items i (drop i s) ≡ key ARRAY ∷ token LEFT (i + 1) ∷ token INTEGER (i + 2) ∷ key RIGHT ∷ items (i + 4) (drop (i + 4) s)
            array_text = items_here s i ARRAY h q ∙ ap (λ (v : List Token). key ARRAY ∷ v) (items_here s (i + 1) LEFT h' q' ∙ ap (λ (j : ℕ). token LEFT (i + 1) ∷ items j (drop j s)) two ∙ ap (λ (v : List Token). token LEFT (i + 1) ∷ v) (items_here s (i + 2) INTEGER h'' q'' ∙ ap (λ (j : ℕ). token INTEGER (i + 2) ∷ items j (drop j s)) three ∙ ap (λ (v : List Token). token INTEGER (i + 2) ∷ v) (items_here s (i + 3) RIGHT h''' q''' ∙ ap (λ (j : ℕ). key RIGHT ∷ items j (drop j s)) four)))

            pub element_refused : (f : Fault) → Refused (an_amode ∷ []) d s (i + 4) f → DecRefused k d s i f
            element_refused f r α = closed_way α ∙ r (all (declareds k) ∷ α)

            module _ (ns ms : List Node) (e : Parsed) (m : AmodeMade d s (i + 4) used ns ms e) where
              arrays_way : (α : List Goal) → at d (each (decs k) ∷ α) s i ≡ at d (all (declareds k) ∷ α) s e.next
              arrays_way α = closed_way α ∙ m.met (all (declareds k) ∷ α)

              pub arrays_refused : (f : Fault) → Refused (all (declareds k) ∷ []) d s e.next f → DecRefused k d s i f
              arrays_refused f r α = arrays_way α ∙ r α

              pub made_arrays : (os : List Node) (p : Parsed) → p.used < length os → ListingMade k d s e.next e.used ms os p → DecMade k d s i used ns (set os p.used (node.Arrays (i + 1) (i + 2) e.root p.root)) (record { next = p.next; used = p.used + 1; root = p.used })
              made_arrays os p r l =
                  grown 1 (IsDec (IsListing k)) (of_dec (of_listing k)) (Way (each (decs k) ∷ []) d s i) s i used ns os p.used p.next (node.Arrays (i + 1) (i + 2) e.root p.root) r (arrays (i + 1) (i + 2) m.tree l.tree) l.within (omega (arith, m.more, l.more)) (omega (arith, m.few, l.few))
                  (agree_trans used e.used ns ms os m.more m.kept l.kept)
                  (λ g a. (e.root, p.root, omega (arith, m.below, l.more), l.below, a, keep_amode p.used os _ g m.tree e.root (omega (arith, m.below, l.more)) (keep_amode e.used ms os l.kept m.tree e.root m.below m.is), keep_declareds k p.used os _ g l.tree p.root l.below l.is))
                  (array_text ∙ ap (λ (v : List Token). key ARRAY ∷ token LEFT (i + 1) ∷ token INTEGER (i + 2) ∷ key RIGHT ∷ v) (m.text ∙ ap (of_amode m.tree) l.text))
                  (λ α. arrays_way α ∙ l.met α)
