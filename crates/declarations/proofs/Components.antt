-- Components and parameters, step by step. Assumes nothing.
use Rattle.std.proofs.Common.{◌≡◌, ℕ, ◌+◌, ◌<◌, Bool, true, false, cond, List, [], ◌∷◌, length, get_or, drop, set, refl, ap, ◌∙◌, arith}
use Rattle.grammar.specs.Symbols.{same, STOP, NAME, INT, BYTE, REF, COMMA}
use Rattle.grammar.specs.declared.Symbol.{Symbol}
use Rattle.grammar.specs.Trees.{Token, token, key, Opt, Mode, Fields, field, also, next, of_mode, of_fields}
use Rattle.grammar.specs.Sentences.{items}
use Rattle.grammar.specs.Machine.{Goal, Forest, Tree, Left as LeftStack, Move, shift, skip, refuse, on, then, never, tok, a_mode, the_fields, fields_on, a_further, fielded, other, at_mode, taken, onto_stack, step}
use Rattle.grammar.proofs.Steps.{items_here, step_at, refuse_at, refuses, like_at, skip_at}
use Rattle.nodes.proofs.Build.{grown, not_on}
use Rattle.declarations.proofs.Modes.{ModeMade}
use Rattle.nodes.proofs.Keep.{keep_mode, keep_fields, agree_trans}
use Rattle.nodes.specs.Made.{at, Made, Way, Refused, FieldsWay}
use Rattle.nodes.specs.Nodes.{IsFields, Agree}
use Rattle.nodes.specs.declared.Node.{Node}
use Rattle.nodes.specs.declared.Node.TheVariants as node
use Rattle.nodes.specs.declared.Parsed.{Parsed}
use Rattle.nodes.specs.declared.Fault.{Fault}
use Rattle.nodes.specs.declared.Fault.TheVariants.{Syntax}

-- a move that is no skip
abbrev Sure : {T : Type 0} → Move T → Type 0
Sure (shift push build) = Unit {0}
Sure (skip t) = ⊥
Sure refuse = Unit {0}

sure_on : {T : Type 0} (c k : Symbol) (push : List Goal → List Goal) (build : ℕ → (α : List Goal) → Forest (push α) → T × Forest α) (m : Move T) → Sure m → Sure (on c k push build m)
sure_on c k push build m h = by (same c k)
  where
    by : (b : Bool) → Sure (cond b (shift push build) m)
    by true = tt
    by false = h

sure_mode : (c : Symbol) → Sure (at_mode c)
sure_mode c = sure_on c INT _ _ _ (sure_on c BYTE _ _ _ (sure_on c REF _ _ refuse tt))

-- a goal that begins with a mode
pub mode_first : (x : Goal) (after : List Goal → List Goal) (join : Mode → (α : List Goal) → Forest (after α) → Tree x × Forest α) (α : List Goal) (m : Move Mode) (o : Opt (LeftStack α)) (p : Opt (LeftStack (after α))) → Sure m → onto_stack (x ∷ α) (taken x α (then m after join never) o) ≡ onto_stack (a_mode ∷ after α) (taken a_mode (after α) m p)
mode_first x after join α (shift push build) o p h = refl
mode_first x after join α (skip t) o p h = absurd h
mode_first x after join α refuse o p h = refl

pub begins_mode : (x : Goal) (after : List Goal → List Goal) (join : Mode → (α : List Goal) → Forest (after α) → Tree x × Forest α) (α : List Goal) (c : Symbol) → onto_stack (x ∷ α) (taken x α (then (at_mode c) after join never) (step α c)) ≡ onto_stack (a_mode ∷ after α) (taken a_mode (after α) (at_mode c) (step (after α) c))
begins_mode x after join α c = mode_first x after join α (at_mode c) (step α c) (step (after α) c) (sure_mode c)

abbrev pub FieldsMade : ℕ → List Symbol → ℕ → ℕ → List Node → List Node → Parsed → Type 0
FieldsMade d s i used ns ms p = Made 0 Fields IsFields of_fields (FieldsWay d s i) s i used ns ms p

module _ (d : ℕ) (s : List Symbol) (i used : ℕ) where
  fields_begin : (α : List Goal) → at d (the_fields ∷ α) s i ≡ at d (a_mode ∷ tok NAME ∷ fields_on ∷ α) s i
  fields_begin α = like_at d (the_fields ∷ α) (a_mode ∷ tok NAME ∷ fields_on ∷ α) s i refl (begins_mode the_fields (λ α. tok NAME ∷ fields_on ∷ α) (λ m α g. (fielded (field m g.0) g.1.0, g.1.1)) α (get_or s i STOP))

  pub first_mode_refused : (f : Fault) → Refused (a_mode ∷ []) d s i f → Refused (the_fields ∷ []) d s i f
  first_mode_refused f r α = fields_begin α ∙ r (tok NAME ∷ fields_on ∷ α)

  module _ (ns ms : List Node) (p : Parsed) (m : ModeMade d s i used ns ms p) where
    pub first_no_name : (get_or s p.next STOP ≡ NAME → ⊥) → Refused (the_fields ∷ []) d s i (Syntax p.next)
    first_no_name n α = fields_begin α ∙ m.met (tok NAME ∷ fields_on ∷ α) ∙ refuse_at d (tok NAME ∷ fields_on ∷ α) s p.next refl (refuses (tok NAME) (fields_on ∷ α) (get_or s p.next STOP) (not_on (get_or s p.next STOP) NAME _ _ refuse n))

    pub made_field : p.next < length s → get_or s p.next STOP ≡ NAME → p.used < length ms → FieldsMade d s i used ns (set ms p.used (node.Field p.root p.next)) (record { next = p.next + 1; used = p.used + 1; root = p.used })
    made_field h q r = grown 0 IsFields of_fields (FieldsWay d s i) s i used ns ms p.used (p.next + 1) (node.Field p.root p.next) r (field m.tree p.next) (omega arith) m.more (omega (arith, m.few)) m.kept (λ g a. (p.root, m.below, a, keep_mode p.used ms _ g m.tree p.root m.below m.is)) (m.text ∙ ap (of_mode m.tree) (items_here s p.next NAME h q)) (λ α. fields_begin α ∙ m.met (tok NAME ∷ fields_on ∷ α) ∙ step_at d (tok NAME ∷ fields_on ∷ α) (fields_on ∷ α) s p.next d NAME h q refl refl)

  module _ (es ns : List Node) (p : Parsed) (m : FieldsMade d s i used es ns p) where
    pub fields_end : (os : List Node) → Agree used os es → (get_or s p.next STOP ≡ COMMA → ⊥) → Made 0 Fields IsFields of_fields (Way (the_fields ∷ []) d s i) s i used os ns p
    fields_end os a n = record { within = m.within; more = m.more; few = m.few; below = m.below; kept = agree_trans used used os es ns (omega arith) a m.kept; tree = m.tree; is = m.is; text = m.text; met = λ α. m.met α ∙ skip_at d fields_on α s p.next [] [] refl (not_on (get_or s p.next STOP) COMMA _ _ _ n) }

    module _ (h : p.next < length s) (q : get_or s p.next STOP ≡ COMMA) where
      further_way : (α : List Goal) → at d (the_fields ∷ α) s i ≡ at d (a_further ∷ α) s (p.next + 1)
      further_way α = m.met α ∙ step_at d (fields_on ∷ α) (a_further ∷ α) s p.next d COMMA h q refl refl

      pub made_also : p.next + 1 < length s → get_or s (p.next + 1) STOP ≡ NAME → p.used < length ns → FieldsMade d s i used es (set ns p.used (node.AlsoField p.root (p.next + 1))) (record { next = p.next + 2; used = p.used + 1; root = p.used })
      made_also h' q' r =
          let two : p.next + 1 + 1 ≡ p.next + 2 = omega arith in
          grown 0 IsFields of_fields (FieldsWay d s i) s i used es ns p.used (p.next + 2) (node.AlsoField p.root (p.next + 1)) r (also m.tree (p.next + 1)) (omega arith) m.more (omega (arith, m.few)) m.kept
          (λ g a. (p.root, m.below, a, keep_fields p.used ns _ g m.tree p.root m.below m.is))
          (m.text ∙ ap (of_fields m.tree) (items_here s p.next COMMA h q ∙ ap (λ (v : List Token). key COMMA ∷ v) (items_here s (p.next + 1) NAME h' q' ∙ ap (λ (j : ℕ). token NAME (p.next + 1) ∷ items j (drop j s)) two)))
          (λ α. further_way α ∙ step_at d (a_further ∷ α) (fields_on ∷ α) s (p.next + 1) d NAME h' q' refl refl ∙ ap (λ (j : ℕ). at d (fields_on ∷ α) s j) two)

      module _ (n : get_or s (p.next + 1) STOP ≡ NAME → ⊥) where
        moded_way : (α : List Goal) → at d (the_fields ∷ α) s i ≡ at d (a_mode ∷ tok NAME ∷ fields_on ∷ α) s (p.next + 1)
        moded_way α = let k : Symbol = get_or s (p.next + 1) STOP in further_way α ∙ like_at d (a_further ∷ α) (a_mode ∷ tok NAME ∷ fields_on ∷ α) s (p.next + 1) refl (ap (λ (m : Move _). onto_stack (a_further ∷ α) (taken a_further α m (step α k))) (not_on k NAME _ _ _ n) ∙ begins_mode a_further (λ α. tok NAME ∷ fields_on ∷ α) (λ m α g. ((other m g.0, g.1.0), g.1.1)) α k)

        pub further_refused : (f : Fault) → Refused (a_mode ∷ []) d s (p.next + 1) f → Refused (the_fields ∷ []) d s i f
        further_refused f r α = moded_way α ∙ r (tok NAME ∷ fields_on ∷ α)

        module _ (ms : List Node) (e : Parsed) (b : ModeMade d s (p.next + 1) p.used ns ms e) where
          pub further_no_name : (get_or s e.next STOP ≡ NAME → ⊥) → Refused (the_fields ∷ []) d s i (Syntax e.next)
          further_no_name x α = moded_way α ∙ b.met (tok NAME ∷ fields_on ∷ α) ∙ refuse_at d (tok NAME ∷ fields_on ∷ α) s e.next refl (refuses (tok NAME) (fields_on ∷ α) (get_or s e.next STOP) (not_on (get_or s e.next STOP) NAME _ _ refuse x))

          pub made_next : e.next < length s → get_or s e.next STOP ≡ NAME → e.used < length ms → FieldsMade d s i used es (set ms e.used (node.NextField p.root e.root e.next)) (record { next = e.next + 1; used = e.used + 1; root = e.used })
          made_next h' q' r =
              grown 0 IsFields of_fields (FieldsWay d s i) s i used es ms e.used (e.next + 1) (node.NextField p.root e.root e.next) r (next m.tree b.tree e.next) (omega arith) (omega (arith, m.more, b.more)) (omega (arith, m.few, b.few))
              (agree_trans used p.used es ns ms m.more m.kept b.kept)
              (λ g a. (p.root, e.root, omega (arith, m.below, b.more), b.below, a, keep_fields e.used ms _ g m.tree p.root (omega (arith, m.below, b.more)) (keep_fields p.used ns ms b.kept m.tree p.root m.below m.is), keep_mode e.used ms _ g b.tree e.root b.below b.is))
              (m.text ∙ ap (of_fields m.tree) (items_here s p.next COMMA h q ∙ ap (λ (v : List Token). key COMMA ∷ v) (b.text ∙ ap (of_mode b.tree) (items_here s e.next NAME h' q'))))
              (λ α. moded_way α ∙ b.met (tok NAME ∷ fields_on ∷ α) ∙ step_at d (tok NAME ∷ fields_on ∷ α) (fields_on ∷ α) s e.next d NAME h' q' refl refl)
