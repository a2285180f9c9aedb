-- Initial values, step by step. Assumes nothing.
use Rattle.std.proofs.Common.{◌≡◌, ℕ, ◌+◌, ◌-◌, ◌<◌, true, List, [], ◌∷◌, length, get_or, drop, set, refl, ap, ◌∙◌, arith}
use Rattle.grammar.specs.Symbols.{among, STOP, NAME, INTEGER, TEXT, PLUS, MINUS, LEFT, RIGHT}
use Rattle.grammar.specs.declared.Symbol.{Symbol}
use Rattle.grammar.specs.Trees.{Token, token, key, mark, Opt, none, some, Value, constant, signed, minus_signed, identifier, string, empty_list, list, Values, Entry, once, repeated, of_value, of_values, of_entry}
use Rattle.grammar.specs.Sentences.{items}
use Rattle.grammar.specs.Machine.{Goal, Left as LeftStack, Move, shift, skip, refuse, optional, tok, all, each, entries, a_value, maybe_values, times_on, entered, at_all, taken, onto_stack, step, step_to, level, fewer}
use Rattle.grammar.proofs.Right.{clash, among_but as found_in}
use Rattle.grammar.proofs.Steps.{items_here, step_at, sink_at, refuse_at, refuses, like_at, skip_at, followed_at}
use Rattle.nodes.proofs.Build.{grown, not_on, fewer_is, more_is}
use Rattle.nodes.proofs.Keep.{keep_value, keep_values}
use Rattle.nodes.specs.Made.{at, Made, Way, Refused}
use Rattle.nodes.specs.Nodes.{At, IsValue, IsValues, IsEntry}
use Rattle.nodes.specs.declared.Node.{Node}
use Rattle.nodes.specs.declared.Node.TheVariants as node
use Rattle.nodes.specs.declared.Parsed.{Parsed}
use Rattle.nodes.specs.declared.Fault.{Fault}
use Rattle.nodes.specs.declared.Fault.TheVariants.{Syntax, Deep}

abbrev pub ValueMade : ℕ → List Symbol → ℕ → ℕ → List Node → List Node → Parsed → Type 0
ValueMade d s i used ns ms p = Made 0 Value IsValue of_value (Way (a_value ∷ []) d s i) s i used ns ms p

abbrev pub ValuesMade : ℕ → List Symbol → ℕ → ℕ → List Node → List Node → Parsed → Type 0
ValuesMade d s i used ns ms p = Made 0 Values IsValues of_values (Way (all entries ∷ []) d s i) s i used ns ms p

abbrev pub EntryMade : ℕ → List Symbol → ℕ → ℕ → List Node → List Node → Parsed → Type 0
EntryMade d s i used ns ms p = Made 0 Entry IsEntry of_entry (Way (each entries ∷ []) d s i) s i used ns ms p

pub value_none : (d : ℕ) (s : List Symbol) (i : ℕ) → (get_or s i STOP ≡ INTEGER → ⊥) → (get_or s i STOP ≡ PLUS → ⊥) → (get_or s i STOP ≡ MINUS → ⊥) → (get_or s i STOP ≡ NAME → ⊥) → (get_or s i STOP ≡ TEXT → ⊥) → (get_or s i STOP ≡ LEFT → ⊥) → Refused (a_value ∷ []) d s i (Syntax i)
value_none d s i a b c e f g α = let k : Symbol = get_or s i STOP in refuse_at d (a_value ∷ α) s i refl (refuses a_value α k (not_on k INTEGER _ _ _ a ∙ not_on k PLUS _ _ _ b ∙ not_on k MINUS _ _ _ c ∙ not_on k NAME _ _ _ e ∙ not_on k TEXT _ _ _ f ∙ not_on k LEFT _ _ refuse g))

-- what holds of both signs
signs : (P : Symbol → Type 0) → P PLUS → P MINUS → (c : Symbol) → among (PLUS ∷ MINUS ∷ []) c ≡ true → P c
signs P a b c h = found_in PLUS (MINUS ∷ []) P c a (found_in MINUS [] P c b (λ x. absurd (clash x refl))) h

-- a list that is there, or its end
optional_on : (β : List Goal) (n : Move _) (o : Opt (LeftStack β)) → onto_stack β o ≡ none → onto_stack (maybe_values ∷ β) (taken maybe_values β (optional n) o) ≡ onto_stack (all entries ∷ β) (taken (all entries) β n o)
optional_on β (shift push build) o e = refl
optional_on β (skip t) none e = refl
optional_on β (skip t) (some l) e = refl
optional_on β refuse none e = refl
optional_on β refuse (some l) e = e

module _ (d : ℕ) (s : List Symbol) (i used : ℕ) (ns : List Node) (h : i < length s) where
  pub made_constant : get_or s i STOP ≡ INTEGER → used < length ns → ValueMade d s i used ns (set ns used (node.Constant i)) (record { next = i + 1; used = used + 1; root = used })
  made_constant q r = grown 0 IsValue of_value (Way (a_value ∷ []) d s i) s i used ns ns used (i + 1) (node.Constant i) r (constant i) (omega arith) (omega arith) (omega arith) (λ j l. refl) (λ g a. a) (items_here s i INTEGER h q) (λ α. step_at d (a_value ∷ α) α s i d INTEGER h q refl refl)

  pub made_identifier : get_or s i STOP ≡ NAME → used < length ns → ValueMade d s i used ns (set ns used (node.Identifier i)) (record { next = i + 1; used = used + 1; root = used })
  made_identifier q r = grown 0 IsValue of_value (Way (a_value ∷ []) d s i) s i used ns ns used (i + 1) (node.Identifier i) r (identifier i) (omega arith) (omega arith) (omega arith) (λ j l. refl) (λ g a. a) (items_here s i NAME h q) (λ α. step_at d (a_value ∷ α) α s i d NAME h q refl refl)

  pub made_literal : get_or s i STOP ≡ TEXT → used < length ns → ValueMade d s i used ns (set ns used (node.Literal i)) (record { next = i + 1; used = used + 1; root = used })
  made_literal q r = grown 0 IsValue of_value (Way (a_value ∷ []) d s i) s i used ns ns used (i + 1) (node.Literal i) r (string i) (omega arith) (omega arith) (omega arith) (λ j l. refl) (λ g a. a) (items_here s i TEXT h q) (λ α. step_at d (a_value ∷ α) α s i d TEXT h q refl refl)

  two : i + 1 + 1 ≡ i + 2
  two = omega arith

  module _ (q : among (PLUS ∷ MINUS ∷ []) (get_or s i STOP) ≡ true) where
    sign_way : (α : List Goal) → at d (a_value ∷ α) s i ≡ at d (tok INTEGER ∷ α) s (i + 1)
    sign_way α = let w = signs (λ c. (step_to (a_value ∷ α) c ≡ some (tok INTEGER ∷ α)) × (level d c ≡ some d)) (refl, refl) (refl, refl) (get_or s i STOP) q in step_at d (a_value ∷ α) (tok INTEGER ∷ α) s i d (get_or s i STOP) h refl w.0 w.1

    module _ (h' : i + 1 < length s) (q' : get_or s (i + 1) STOP ≡ INTEGER) (r : used < length ns) where
      made_sign : (n : Node) (t : Value) → ((ms : List Node) → At ms used n → IsValue t ms used) → ((v : List Token) → mark (get_or s i STOP) i ∷ token INTEGER (i + 1) ∷ v ≡ of_value t v) → ValueMade d s i used ns (set ns used n) (record { next = i + 2; used = used + 1; root = used })
      made_sign n t is e =
          grown 0 IsValue of_value (Way (a_value ∷ []) d s i) s i used ns ns used (i + 2) n r t (omega arith) (omega arith) (omega arith) (λ j l. refl) (λ g a. is _ a)
          (items_here s i (get_or s i STOP) h refl ∙ ap (λ (v : List Token). mark (get_or s i STOP) i ∷ v) (items_here s (i + 1) INTEGER h' q' ∙ ap (λ (j : ℕ). token INTEGER (i + 1) ∷ items j (drop j s)) two) ∙ e _)
          (λ α. sign_way α ∙ step_at d (tok INTEGER ∷ α) α s (i + 1) d INTEGER h' q' refl refl ∙ ap (λ (j : ℕ). at d α s j) two)

      pub made_plus : get_or s i STOP ≡ PLUS → ValueMade d s i used ns (set ns used (node.Signed i (i + 1))) (record { next = i + 2; used = used + 1; root = used })
      made_plus e = made_sign (node.Signed i (i + 1)) (signed i (i + 1)) (λ ms a. a) (λ v. ap (λ (c : Symbol). mark c i ∷ token INTEGER (i + 1) ∷ v) e)

      pub made_minus : (get_or s i STOP ≡ PLUS → ⊥) → ValueMade d s i used ns (set ns used (node.MinusSigned i (i + 1))) (record { next = i + 2; used = used + 1; root = used })
      made_minus n = made_sign (node.MinusSigned i (i + 1)) (minus_signed i (i + 1)) (λ ms a. a) (λ v. ap (λ (c : Symbol). mark c i ∷ token INTEGER (i + 1) ∷ v) (signs (λ c. (c ≡ PLUS → ⊥) → c ≡ MINUS) (λ x. absurd (x refl)) (λ x. refl) (get_or s i STOP) q n))

  module _ (q : get_or s i STOP ≡ LEFT) where
    module _ (z : 0 < d) where
      list_way : (α : List Goal) → at d (a_value ∷ α) s i ≡ at (d - 1) (maybe_values ∷ tok RIGHT ∷ α) s (i + 1)
      list_way α = step_at d (a_value ∷ α) (maybe_values ∷ tok RIGHT ∷ α) s i (d - 1) LEFT h q refl (fewer_is d z)

      pub made_empty : i + 1 < length s → get_or s (i + 1) STOP ≡ RIGHT → used < length ns → ValueMade d s i used ns (set ns used (node.EmptyList i)) (record { next = i + 2; used = used + 1; root = used })
      made_empty h' q' r = grown 0 IsValue of_value (Way (a_value ∷ []) d s i) s i used ns ns used (i + 2) (node.EmptyList i) r (empty_list i) (omega arith) (omega arith) (omega arith) (λ j l. refl) (λ g a. a) (items_here s i LEFT h q ∙ ap (λ (v : List Token). token LEFT i ∷ v) (items_here s (i + 1) RIGHT h' q' ∙ ap (λ (j : ℕ). key RIGHT ∷ items j (drop j s)) two)) (λ α. list_way α ∙ step_at (d - 1) (maybe_values ∷ tok RIGHT ∷ α) α s (i + 1) d RIGHT h' q' refl (more_is d z) ∙ ap (λ (j : ℕ). at d α s j) two)

      module _ (n : get_or s (i + 1) STOP ≡ RIGHT → ⊥) where
        values_way : (α : List Goal) → at d (a_value ∷ α) s i ≡ at (d - 1) (all entries ∷ tok RIGHT ∷ α) s (i + 1)
        values_way α = let k : Symbol = get_or s (i + 1) STOP in list_way α ∙ like_at (d - 1) (maybe_values ∷ tok RIGHT ∷ α) (all entries ∷ tok RIGHT ∷ α) s (i + 1) refl (optional_on (tok RIGHT ∷ α) (at_all entries k) (step (tok RIGHT ∷ α) k) (refuses (tok RIGHT) α k (not_on k RIGHT _ _ refuse n)))

        pub list_refused : (f : Fault) → Refused (all entries ∷ []) (d - 1) s (i + 1) f → Refused (a_value ∷ []) d s i f
        list_refused f r α = values_way α ∙ r (tok RIGHT ∷ α)

        module _ (ms : List Node) (p : Parsed) (m : ValuesMade (d - 1) s (i + 1) used ns ms p) where
          pub list_unclosed : (get_or s p.next STOP ≡ RIGHT → ⊥) → Refused (a_value ∷ []) d s i (Syntax p.next)
          list_unclosed x α = values_way α ∙ m.met (tok RIGHT ∷ α) ∙ refuse_at (d - 1) (tok RIGHT ∷ α) s p.next refl (refuses (tok RIGHT) α (get_or s p.next STOP) (not_on (get_or s p.next STOP) RIGHT _ _ refuse x))

          pub made_list : p.next < length s → get_or s p.next STOP ≡ RIGHT → p.used < length ms → ValueMade d s i used ns (set ms p.used (node.List i p.root)) (record { next = p.next + 1; used = p.used + 1; root = p.used })
          made_list h' q' r = grown 0 IsValue of_value (Way (a_value ∷ []) d s i) s i used ns ms p.used (p.next + 1) (node.List i p.root) r (list i m.tree) (omega arith) m.more (omega (arith, m.few)) m.kept (λ g a. (p.root, m.below, a, keep_values p.used ms _ g m.tree p.root m.below m.is)) (items_here s i LEFT h q ∙ ap (λ (v : List Token). token LEFT i ∷ v) (m.text ∙ ap (of_values m.tree) (items_here s p.next RIGHT h' q'))) (λ α. values_way α ∙ m.met (tok RIGHT ∷ α) ∙ step_at (d - 1) (tok RIGHT ∷ α) α s p.next d RIGHT h' q' refl (more_is d z))

module _ (d : ℕ) (s : List Symbol) (i used : ℕ) where
  entry_begin : (α : List Goal) → at d (each entries ∷ α) s i ≡ at d (a_value ∷ times_on ∷ α) s i
  entry_begin α = followed_at d (each entries) a_value times_on α s i entered refl refl

  pub entry_refused : (f : Fault) → Refused (a_value ∷ []) d s i f → Refused (each entries ∷ []) d s i f
  entry_refused f r α = entry_begin α ∙ r (times_on ∷ α)

  module _ (ns ms : List Node) (p : Parsed) (m : ValueMade d s i used ns ms p) where
    pub made_once : (get_or s p.next STOP ≡ LEFT → ⊥) → EntryMade d s i used ns ms p
    made_once n = record { within = m.within; more = m.more; few = m.few; below = m.below; kept = m.kept; tree = once m.tree; is = m.is; text = m.text; met = λ α. entry_begin α ∙ m.met (times_on ∷ α) ∙ skip_at d times_on α s p.next none none refl (not_on (get_or s p.next STOP) LEFT _ _ _ n) }

    module _ (h : p.next < length s) (q : get_or s p.next STOP ≡ LEFT) where
      pub times_deep : d ≡ 0 → Refused (each entries ∷ []) d s i (Deep p.next)
      times_deep z α = entry_begin α ∙ m.met (times_on ∷ α) ∙ sink_at d (times_on ∷ α) (tok INTEGER ∷ tok RIGHT ∷ α) s p.next LEFT h q refl (ap fewer z)

      module _ (z : 0 < d) where
        two' : p.next + 1 + 1 ≡ p.next + 2
        two' = omega arith

        three' : p.next + 2 + 1 ≡ p.next + 3
        three' = omega arith

        times_way : (α : List Goal) → at d (each entries ∷ α) s i ≡ at (d - 1) (tok INTEGER ∷ tok RIGHT ∷ α) s (p.next + 1)
        times_way α = entry_begin α ∙ m.met (times_on ∷ α) ∙ step_at d (times_on ∷ α) (tok INTEGER ∷ tok RIGHT ∷ α) s p.next (d - 1) LEFT h q refl (fewer_is d z)

        pub no_times : (get_or s (p.next + 1) STOP ≡ INTEGER → ⊥) → Refused (each entries ∷ []) d s i (Syntax (p.next + 1))
        no_times n α = times_way α ∙ refuse_at (d - 1) (tok INTEGER ∷ tok RIGHT ∷ α) s (p.next + 1) refl (refuses (tok INTEGER) (tok RIGHT ∷ α) (get_or s (p.next + 1) STOP) (not_on (get_or s (p.next + 1) STOP) INTEGER _ _ refuse n))

        module _ (h' : p.next + 1 < length s) (q' : get_or s (p.next + 1) STOP ≡ INTEGER) where
          number_way : (α : List Goal) → at d (each entries ∷ α) s i ≡ at (d - 1) (tok RIGHT ∷ α) s (p.next + 2)
          number_way α = times_way α ∙ step_at (d - 1) (tok INTEGER ∷ tok RIGHT ∷ α) (tok RIGHT ∷ α) s (p.next + 1) (d - 1) INTEGER h' q' refl refl ∙ ap (λ (j : ℕ). at (d - 1) (tok RIGHT ∷ α) s j) two'

          pub times_unclosed : (get_or s (p.next + 2) STOP ≡ RIGHT → ⊥) → Refused (each entries ∷ []) d s i (Syntax (p.next + 2))
          times_unclosed n α = number_way α ∙ refuse_at (d - 1) (tok RIGHT ∷ α) s (p.next + 2) refl (refuses (tok RIGHT) α (get_or s (p.next + 2) STOP) (not_on (get_or s (p.next + 2) STOP) RIGHT _ _ refuse n))

          pub made_repeated : p.next + 2 < length s → get_or s (p.next + 2) STOP ≡ RIGHT → p.used < length ms → EntryMade d s i used ns (set ms p.used (node.Repeated p.root p.next (p.next + 1))) (record { next = p.next + 3; used = p.used + 1; root = p.used })
          made_repeated h'' q'' r = grown 0 IsEntry of_entry (Way (each entries ∷ []) d s i) s i used ns ms p.used (p.next + 3) (node.Repeated p.root p.next (p.next + 1)) r (repeated m.tree p.next (p.next + 1)) (omega arith) m.more (omega (arith, m.few)) m.kept (λ g a. (p.root, m.below, a, keep_value p.used ms _ g m.tree p.root m.below m.is))
              (m.text ∙ ap (of_value m.tree) (items_here s p.next LEFT h q ∙ ap (λ (v : List Token). token LEFT p.next ∷ v) (items_here s (p.next + 1) INTEGER h' q' ∙ ap (λ (j : ℕ). token INTEGER (p.next + 1) ∷ items j (drop j s)) two' ∙ ap (λ (v : List Token). token INTEGER (p.next + 1) ∷ v) (items_here s (p.next + 2) RIGHT h'' q'' ∙ ap (λ (j : ℕ). key RIGHT ∷ items j (drop j s)) three'))))
              (λ α. number_way α ∙ step_at (d - 1) (tok RIGHT ∷ α) α s (p.next + 2) d RIGHT h'' q'' refl (more_is d z) ∙ ap (λ (j : ℕ). at d α s j) three')
