-- Modes, step by step. Assumes nothing.
use Rattle.std.proofs.Common.{◌≡◌, ℕ, zero, suc, ◌+◌, ◌-◌, ◌<◌, List, [], ◌∷◌, length, get_or, drop, set, sym, refl, ap, ◌∙◌, arith}
use Rattle.grammar.specs.Symbols.{STOP, NAME, INT, BYTE, REF, ARRAY, LEFT, RIGHT}
use Rattle.grammar.specs.declared.Symbol.{Symbol}
use Rattle.grammar.specs.Trees.{Token, token, symbol, key, mark, Mode, int, byte, ref_int, ref_byte, ref_record, ref_array, ref_array_brackets, Amode, simple, records, of_mode, of_amode}
use Rattle.grammar.specs.Sentences.{items}
use Rattle.grammar.specs.Machine.{Goal, Move, refuse, tok, a_mode, an_amode, a_target, dims, bare, at_mode, at_amode, taken, onto_stack, step, fewer}
use Rattle.grammar.proofs.Steps.{items_here, step_at, sink_at, refuse_at, refuses, like_at, mapped_on}
use Rattle.nodes.proofs.Build.{grown, not_on, fewer_is, more_is}
use Rattle.nodes.proofs.Keep.{keep_amode}
use Rattle.nodes.specs.Made.{at, Made, Way, Refused}
use Rattle.nodes.specs.Nodes.{IsMode, IsAmode}
use Rattle.declarations.specs.Referring.{AmodeMade}
use Rattle.nodes.specs.declared.Node.{Node}
use Rattle.nodes.specs.declared.Node.TheVariants as node
use Rattle.nodes.specs.declared.Parsed.{Parsed}
use Rattle.nodes.specs.declared.Fault.{Fault}
use Rattle.nodes.specs.declared.Fault.TheVariants.{Syntax, Deep}

abbrev pub ModeMade : ℕ → List Symbol → ℕ → ℕ → List Node → List Node → Parsed → Type 0
ModeMade d s i used ns ms p = Made 0 Mode IsMode of_mode (Way (a_mode ∷ []) d s i) s i used ns ms p

-- the first symbol of items
abbrev leading : List Token → Symbol
leading [] = STOP
leading (t ∷ ts) = symbol t

leads : (s : List Symbol) (i n : ℕ) → get_or s i STOP ≡ leading (items n (drop i s))
leads [] zero n = refl
leads [] (suc i) n = refl
leads (c ∷ s) zero n = refl
leads (c ∷ s) (suc i) n = leads s i n

module _ (d : ℕ) (s : List Symbol) (i : ℕ) where
  pub mode_none : (get_or s i STOP ≡ INT → ⊥) → (get_or s i STOP ≡ BYTE → ⊥) → (get_or s i STOP ≡ REF → ⊥) → Refused (a_mode ∷ []) d s i (Syntax i)
  mode_none a b c α = let k : Symbol = get_or s i STOP in refuse_at d (a_mode ∷ α) s i refl (refuses a_mode α k (not_on k INT _ _ _ a ∙ not_on k BYTE _ _ _ b ∙ not_on k REF _ _ refuse c))

  module _ (n : get_or s i STOP ≡ NAME → ⊥) where
    pub simple_way : (α : List Goal) → at d (an_amode ∷ α) s i ≡ at d (a_mode ∷ α) s i
    simple_way α = let k : Symbol = get_or s i STOP in like_at d (an_amode ∷ α) (a_mode ∷ α) s i refl (ap (λ (m : Move Amode). onto_stack (an_amode ∷ α) (taken an_amode α m (step α k))) (not_on k NAME _ _ _ n) ∙ mapped_on an_amode a_mode simple α (at_mode k) (step α k))

    pub simple_refused : (f : Fault) → Refused (a_mode ∷ []) d s i f → Refused (an_amode ∷ []) d s i f
    simple_refused f r α = simple_way α ∙ r α

    pub made_simple : (used : ℕ) (ns ms : List Node) (p : Parsed) → ModeMade d s i used ns ms p → AmodeMade d s i used ns ms p
    made_simple used ns ms p m = record { within = m.within; more = m.more; few = m.few; below = m.below; kept = m.kept; tree = simple m.tree; is = m.is; text = m.text; met = λ α. simple_way α ∙ m.met α }

    pub mode_refused : (f : Fault) → Refused (an_amode ∷ []) d s i f → Refused (a_mode ∷ []) d s i f
    mode_refused f r α = sym (simple_way α) ∙ r α

    -- what does not begin with a name is no record
    no_record : (t : Amode) (ms : List Node) (k : ℕ) (r : List Token) → IsAmode t ms k → items i (drop i s) ≡ of_amode t r → (u : Mode) × IsMode u ms k × (items i (drop i s) ≡ of_mode u r)
    no_record (simple u) ms k r is e = (u, is, e)
    no_record (records m) ms k r is e = absurd (n (leads s i i ∙ ap leading e))

    pub made_mode : (used : ℕ) (ns ms : List Node) (p : Parsed) → AmodeMade d s i used ns ms p → ModeMade d s i used ns ms p
    made_mode used ns ms p m =
        let u = no_record m.tree ms p.root _ m.is m.text in
        record { within = m.within; more = m.more; few = m.few; below = m.below; kept = m.kept; tree = u.0; is = u.1; text = u.2; met = λ α. sym (simple_way α) ∙ m.met α }

module _ (d : ℕ) (s : List Symbol) (i used : ℕ) (ns : List Node) (h : i < length s) where
  pub made_int : get_or s i STOP ≡ INT → used < length ns → ModeMade d s i used ns (set ns used node.Int) (record { next = i + 1; used = used + 1; root = used })
  made_int q r = grown 0 IsMode of_mode (Way (a_mode ∷ []) d s i) s i used ns ns used (i + 1) node.Int r int (omega arith) (omega arith) (omega arith) (λ j l. refl) (λ g a. a) (items_here s i INT h q) (λ α. step_at d (a_mode ∷ α) α s i d INT h q refl refl)

  pub made_byte : get_or s i STOP ≡ BYTE → used < length ns → ModeMade d s i used ns (set ns used (node.Byte i)) (record { next = i + 1; used = used + 1; root = used })
  made_byte q r = grown 0 IsMode of_mode (Way (a_mode ∷ []) d s i) s i used ns ns used (i + 1) (node.Byte i) r (byte i) (omega arith) (omega arith) (omega arith) (λ j l. refl) (λ g a. a) (items_here s i BYTE h q) (λ α. step_at d (a_mode ∷ α) α s i d BYTE h q refl refl)

  pub made_records : get_or s i STOP ≡ NAME → used < length ns → AmodeMade d s i used ns (set ns used (node.Records i)) (record { next = i + 1; used = used + 1; root = used })
  made_records q r = grown 0 IsAmode of_amode (Way (an_amode ∷ []) d s i) s i used ns ns used (i + 1) (node.Records i) r (records i) (omega arith) (omega arith) (omega arith) (λ j l. refl) (λ g a. a) (items_here s i NAME h q) (λ α. step_at d (an_amode ∷ α) α s i d NAME h q refl refl)

  module _ (q : get_or s i STOP ≡ REF) where
    ref_way : (α : List Goal) → at d (a_mode ∷ α) s i ≡ at d (a_target ∷ α) s (i + 1)
    ref_way α = step_at d (a_mode ∷ α) (a_target ∷ α) s i d REF h q refl refl

    two : i + 1 + 1 ≡ i + 2
    two = omega arith

    pub target_none : (get_or s (i + 1) STOP ≡ INT → ⊥) → (get_or s (i + 1) STOP ≡ BYTE → ⊥) → (get_or s (i + 1) STOP ≡ NAME → ⊥) → (get_or s (i + 1) STOP ≡ ARRAY → ⊥) → Refused (a_mode ∷ []) d s i (Syntax (i + 1))
    target_none a b c e α = let k : Symbol = get_or s (i + 1) STOP in ref_way α ∙ refuse_at d (a_target ∷ α) s (i + 1) refl (refuses a_target α k (not_on k INT _ _ _ a ∙ not_on k BYTE _ _ _ b ∙ not_on k NAME _ _ _ c ∙ not_on k ARRAY _ _ refuse e))

    module _ (h' : i + 1 < length s) where
      ref_text : (c : Symbol) → get_or s (i + 1) STOP ≡ c → items i (drop i s) ≡ key REF ∷ mark c (i + 1) ∷ items (i + 2) (drop (i + 2) s)
      ref_text c q' = items_here s i REF h q ∙ ap (λ (v : List Token). key REF ∷ v) (items_here s (i + 1) c h' q' ∙ ap (λ (j : ℕ). mark c (i + 1) ∷ items j (drop j s)) two)

      pub made_ref_int : get_or s (i + 1) STOP ≡ INT → used < length ns → ModeMade d s i used ns (set ns used node.RefInt) (record { next = i + 2; used = used + 1; root = used })
      made_ref_int q' r = grown 0 IsMode of_mode (Way (a_mode ∷ []) d s i) s i used ns ns used (i + 2) node.RefInt r ref_int (omega arith) (omega arith) (omega arith) (λ j l. refl) (λ g a. a) (ref_text INT q') (λ α. ref_way α ∙ step_at d (a_target ∷ α) α s (i + 1) d INT h' q' refl refl ∙ ap (λ (j : ℕ). at d α s j) two)

      pub made_ref_byte : get_or s (i + 1) STOP ≡ BYTE → used < length ns → ModeMade d s i used ns (set ns used (node.RefByte (i + 1))) (record { next = i + 2; used = used + 1; root = used })
      made_ref_byte q' r = grown 0 IsMode of_mode (Way (a_mode ∷ []) d s i) s i used ns ns used (i + 2) (node.RefByte (i + 1)) r (ref_byte (i + 1)) (omega arith) (omega arith) (omega arith) (λ j l. refl) (λ g a. a) (ref_text BYTE q') (λ α. ref_way α ∙ step_at d (a_target ∷ α) α s (i + 1) d BYTE h' q' refl refl ∙ ap (λ (j : ℕ). at d α s j) two)

      pub made_ref_record : get_or s (i + 1) STOP ≡ NAME → used < length ns → ModeMade d s i used ns (set ns used (node.RefRecord (i + 1))) (record { next = i + 2; used = used + 1; root = used })
      made_ref_record q' r = grown 0 IsMode of_mode (Way (a_mode ∷ []) d s i) s i used ns ns used (i + 2) (node.RefRecord (i + 1)) r (ref_record (i + 1)) (omega arith) (omega arith) (omega arith) (λ j l. refl) (λ g a. a) (ref_text NAME q') (λ α. ref_way α ∙ step_at d (a_target ∷ α) α s (i + 1) d NAME h' q' refl refl ∙ ap (λ (j : ℕ). at d α s j) two)

      module _ (q' : get_or s (i + 1) STOP ≡ ARRAY) where
        array_way : (α : List Goal) → at d (a_mode ∷ α) s i ≡ at d (dims ∷ α) s (i + 2)
        array_way α = ref_way α ∙ step_at d (a_target ∷ α) (dims ∷ α) s (i + 1) d ARRAY h' q' refl refl ∙ ap (λ (j : ℕ). at d (dims ∷ α) s j) two

        module _ (n : get_or s (i + 2) STOP ≡ LEFT → ⊥) where
          pub bare_way : (α : List Goal) → at d (a_mode ∷ α) s i ≡ at d (an_amode ∷ α) s (i + 2)
          bare_way α = let k : Symbol = get_or s (i + 2) STOP in array_way α ∙ like_at d (dims ∷ α) (an_amode ∷ α) s (i + 2) refl (ap (λ (m : Move _). onto_stack (dims ∷ α) (taken dims α m (step α k))) (not_on k LEFT _ _ _ n) ∙ mapped_on dims an_amode bare α (at_amode k) (step α k))

          pub made_array : (ms : List Node) (p : Parsed) → p.used < length ms → AmodeMade d s (i + 2) used ns ms p → ModeMade d s i used ns (set ms p.used (node.RefArray p.root)) (record { next = p.next; used = p.used + 1; root = p.used })
          made_array ms p r m = grown 0 IsMode of_mode (Way (a_mode ∷ []) d s i) s i used ns ms p.used p.next (node.RefArray p.root) r (ref_array m.tree) m.within m.more (omega (arith, m.few)) m.kept (λ g a. (p.root, m.below, a, keep_amode p.used ms _ g m.tree p.root m.below m.is)) (ref_text ARRAY q' ∙ ap (λ (v : List Token). key REF ∷ key ARRAY ∷ v) m.text) (λ α. bare_way α ∙ m.met α)

        module _ (h'' : i + 2 < length s) (q'' : get_or s (i + 2) STOP ≡ LEFT) where
          three : i + 2 + 1 ≡ i + 3
          three = omega arith

          four : i + 3 + 1 ≡ i + 4
          four = omega arith

          pub dims_deep : d ≡ 0 → Refused (a_mode ∷ []) d s i (Deep (i + 2))
          dims_deep z α = array_way α ∙ sink_at d (dims ∷ α) (tok RIGHT ∷ an_amode ∷ α) s (i + 2) LEFT h'' q'' refl (ap fewer z)

          module _ (z : 0 < d) where
            dims_way : (α : List Goal) → at d (a_mode ∷ α) s i ≡ at (d - 1) (tok RIGHT ∷ an_amode ∷ α) s (i + 3)
            dims_way α = array_way α ∙ step_at d (dims ∷ α) (tok RIGHT ∷ an_amode ∷ α) s (i + 2) (d - 1) LEFT h'' q'' refl (fewer_is d z) ∙ ap (λ (j : ℕ). at (d - 1) (tok RIGHT ∷ an_amode ∷ α) s j) three

            pub dims_unclosed : (get_or s (i + 3) STOP ≡ RIGHT → ⊥) → Refused (a_mode ∷ []) d s i (Syntax (i + 3))
            dims_unclosed n α = dims_way α ∙ refuse_at (d - 1) (tok RIGHT ∷ an_amode ∷ α) s (i + 3) refl (refuses (tok RIGHT) (an_amode ∷ α) (get_or s (i + 3) STOP) (not_on (get_or s (i + 3) STOP) RIGHT _ _ refuse n))

            module _ (h''' : i + 3 < length s) (q''' : get_or s (i + 3) STOP ≡ RIGHT) where
              pub brackets_way : (α : List Goal) → at d (a_mode ∷ α) s i ≡ at d (an_amode ∷ α) s (i + 4)
              brackets_way α = dims_way α ∙ step_at (d - 1) (tok RIGHT ∷ an_amode ∷ α) (an_amode ∷ α) s (i + 3) d RIGHT h''' q''' refl (more_is d z) ∙ ap (λ (j : ℕ). at d (an_amode ∷ α) s j) four

              pub made_brackets : (ms : List Node) (p : Parsed) → p.used < length ms → AmodeMade d s (i + 4) used ns ms p → ModeMade d s i used ns (set ms p.used (node.RefArrayBrackets (i + 2) p.root)) (record { next = p.next; used = p.used + 1; root = p.used })
              made_brackets ms p r m = grown 0 IsMode of_mode (Way (a_mode ∷ []) d s i) s i used ns ms p.used p.next (node.RefArrayBrackets (i + 2) p.root) r (ref_array_brackets (i + 2) m.tree) m.within m.more (omega (arith, m.few)) m.kept (λ g a. (p.root, m.below, a, keep_amode p.used ms _ g m.tree p.root m.below m.is))
                  (ref_text ARRAY q' ∙ ap (λ (v : List Token). key REF ∷ key ARRAY ∷ v) (items_here s (i + 2) LEFT h'' q'' ∙ ap (λ (j : ℕ). token LEFT (i + 2) ∷ items j (drop j s)) three ∙ ap (λ (v : List Token). token LEFT (i + 2) ∷ v) (items_here s (i + 3) RIGHT h''' q''' ∙ ap (λ (j : ℕ). key RIGHT ∷ items j (drop j s)) four ∙ ap (λ (v : List Token). key RIGHT ∷ v) m.text)))
                  (λ α. brackets_way α ∙ m.met α)
