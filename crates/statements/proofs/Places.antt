-- Forms that begin with a name, first in a statement and behind ':=', step by step. Assumes nothing.
use Rattle.std.proofs.Common.{◌≡◌, ℕ, ◌+◌, ◌*◌, ◌<◌, List, [], ◌∷◌, length, get_or, drop, sym, refl, ap, ◌∙◌, subst, arith}
use Rattle.grammar.specs.Symbols.{STOP, NAME, VAL, LEFT, DOT, BECOMES}
use Rattle.grammar.specs.declared.Symbol.{Symbol}
use Rattle.grammar.specs.Trees.{none, some, Primary, integer, text, variable, call, call_on, paren, Variable, name, element, of_primary, of_variable, Destination, place}
use Rattle.grammar.specs.Sentences.{items, bad}
use Rattle.grammar.specs.Machine.{Goal, Tree, Move, shift, skip, refuse, mapped, optional, Link, links, goes, no_parts, named, closed_on, parts, start, right, a_source, a_statement, an_expr, a_term, a_primary, links_on, at_links, at_expr, at_dots, final, Seen, just_name, one_index, longer, seen, next_goal, taken, onto_stack, step, void, move}
use Rattle.grammar.proofs.Steps.{items_here, step_at, refuse_at, refuses, like_at, skip_at, may_skip, mapped_on, expr_at}
use Rattle.nodes.proofs.Build.{not_on, alike}
use Rattle.nodes.specs.Made.{at, Refused, Ended, FormWay, FormRefused, by_name}
use Rattle.nodes.specs.Nodes.{IsPrimary}
use Rattle.nodes.specs.declared.Node.{Node}
use Rattle.nodes.specs.declared.Parsed.{Parsed}
use Rattle.nodes.specs.declared.Fault.{Fault}
use Rattle.expressions.proofs.Forms.{VariableEnded, FormMade, made_form}
use Rattle.nodes.proofs.Build.{inside}
use Rattle.statements.specs.Assigning.{Form, NotIndexed, Shows, IsPlace, TargetWay, TargetsWay}
use Rattle.statements.specs.declared.assignments.Shape.{Shape}
use Rattle.statements.specs.declared.assignments.Shape.TheVariants.{Place, Indexed, Called, CalledOn}
use Rattle.statements.proofs.Targets.{Destined, TargetsMade, first_target}

mapped_twice : {A B C : Type 0} (f : B → C) (g : A → B) (m : Move A) → mapped f (mapped g m) ≡ mapped (λ a. f (g a)) m
mapped_twice f g (shift push build) = refl
mapped_twice f g (skip a) = refl
mapped_twice f g refuse = refl

-- behind a variable
module _ (d : ℕ) (s : List Symbol) (j : ℕ) (α : List Goal) where
  start_on : (x : Seen) → j < length s → get_or s j STOP ≡ BECOMES → at d (next_goal x start ∷ α) s j ≡ at d (a_source ∷ α) s (j + 1)
  start_on (just_name n) h q = step_at d (named start ∷ α) (a_source ∷ α) s j d BECOMES h q refl refl
  start_on (one_index n i e) h q = step_at d (closed_on start ∷ α) (a_source ∷ α) s j d BECOMES h q refl refl
  start_on (longer x) h q = step_at d (parts start ∷ α) (a_source ∷ α) s j d BECOMES h q refl refl

  right_on : (x : Seen) → j < length s → get_or s j STOP ≡ BECOMES → at d (next_goal x right ∷ α) s j ≡ at d (a_source ∷ α) s (j + 1)
  right_on (just_name n) h q = step_at d (named right ∷ α) (a_source ∷ α) s j d BECOMES h q refl refl
  right_on (one_index n i e) h q = step_at d (closed_on right ∷ α) (a_source ∷ α) s j d BECOMES h q refl refl
  right_on (longer x) h q = step_at d (parts right ∷ α) (a_source ∷ α) s j d BECOMES h q refl refl

  module _ (e : Ended s j) (n : get_or s j STOP ≡ BECOMES → ⊥) where
    start_dots : at_dots start (get_or s j STOP) ≡ refuse
    start_dots = not_on (get_or s j STOP) DOT _ _ _ e.1 ∙ ap (mapped no_parts) (not_on (get_or s j STOP) BECOMES _ _ refuse n)

    pub start_off : (x : Seen) → NotIndexed x → at d (next_goal x start ∷ α) s j ≡ bad j
    start_off (just_name m) i = refuse_at d (named start ∷ α) s j refl (refuses (named start) α (get_or s j STOP) (not_on (get_or s j STOP) LEFT _ _ _ e.0 ∙ ap (mapped goes) start_dots))
    start_off (one_index m k x) i = absurd i
    start_off (longer x) i = refuse_at d (parts start ∷ α) s j refl (refuses (parts start) α (get_or s j STOP) (not_on (get_or s j STOP) LEFT _ _ _ e.0 ∙ start_dots))

    pub start_called : at d (closed_on start ∷ α) s j ≡ at d α s j
    start_called = skip_at d (closed_on start) α s j none none refl (ap optional (not_on (get_or s j STOP) LEFT _ _ _ e.0 ∙ start_dots))

    as_links : (x : Goal) (f : List Link → Tree x) (t : Tree x) → void x ≡ some t → move x (get_or s j STOP) ≡ mapped f (at_links (get_or s j STOP)) → at d (x ∷ α) s j ≡ at d (links_on ∷ α) s j
    as_links x f t v m =
        let k : Symbol = get_or s j STOP in
        like_at d (x ∷ α) (links_on ∷ α) s j (may_skip x α t v ∙ sym (may_skip links_on α [] refl)) (ap (λ (y : Move (Tree x)). onto_stack (x ∷ α) (taken x α y (step α k))) m ∙ mapped_on x links_on f α (at_links k) (step α k))

    right_dots : at_dots right (get_or s j STOP) ≡ mapped (λ ls. ([], links ls)) (at_links (get_or s j STOP))
    right_dots = not_on (get_or s j STOP) DOT _ _ _ e.1 ∙ ap (mapped no_parts) (not_on (get_or s j STOP) BECOMES _ _ _ n) ∙ mapped_twice no_parts links (at_links (get_or s j STOP))

    right_off : (x : Seen) → at d (next_goal x right ∷ α) s j ≡ at d (links_on ∷ α) s j
    right_off (just_name m) = as_links (named right) (λ ls. goes ([], links ls)) (goes ([], links [])) refl (not_on (get_or s j STOP) LEFT _ _ _ e.0 ∙ ap (mapped goes) right_dots ∙ mapped_twice goes (λ ls. ([], links ls)) (at_links (get_or s j STOP)))
    right_off (one_index m k x) = as_links (closed_on right) (λ ls. ([], links ls)) ([], links []) refl (not_on (get_or s j STOP) LEFT _ _ _ e.0 ∙ right_dots)
    right_off (longer x) = as_links (parts right) (λ ls. ([], links ls)) ([], links []) refl (not_on (get_or s j STOP) LEFT _ _ _ e.0 ∙ right_dots)

-- which forms are variables
pub form_is : (d : ℕ) (s : List Symbol) (i : ℕ) (t : Primary) (j : ℕ) → FormWay d s i t j → Form t
form_is d s i (variable x) j m = tt
form_is d s i (call n k) j m = tt
form_is d s i (call_on n k es e) j m = tt
form_is d s i (integer n) j m = m
form_is d s i (text n) j m = m
form_is d s i (paren n e) j m = m

placed : (h : Shape) (ns : List Node) (k : ℕ) (t : Primary) → Shows h ns k t → IsPlace h → (x : Variable) × (t ≡ variable x)
placed Place ns k t v p = (v.0, v.1)
placed (Indexed n i r) ns k t v p = (element (name n) i v.0, v.1)
placed (Called n i) ns k t v p = absurd p
placed (CalledOn n i m) ns k t v p = absurd p

unplaced : (h : Shape) (ns : List Node) (k : ℕ) (t : Primary) {P : Type 0} → Shows h ns k t → (IsPlace h × P → ⊥) → (x : Variable) → t ≡ variable x → P → ⊥
unplaced Place ns k t v n x e p = n (tt, p)
unplaced (Indexed m i r) ns k t v n x e p = n (tt, p)
unplaced (Called m i) ns k t v n x e p = let z : ◌≡◌ {A = ℕ} 0 1 = cc in omega arith
unplaced (CalledOn m i g) ns k t v n x e p = let z : ◌≡◌ {A = ℕ} 0 1 = cc v.2 in omega arith

module _ (d : ℕ) (s : List Symbol) (i used : ℕ) where
  -- neither VAL nor a name behind ':='
  pub source_other : (get_or s i STOP ≡ VAL → ⊥) → (get_or s i STOP ≡ NAME → ⊥) → (α : List Goal) → at d (a_source ∷ α) s i ≡ at d (an_expr ∷ α) s i
  source_other a b α =
      let k : Symbol = get_or s i STOP in
      like_at d (a_source ∷ α) (an_expr ∷ α) s i refl (ap (λ (m : Move _). onto_stack (a_source ∷ α) (taken a_source α m (step α k))) (not_on k VAL _ _ _ a ∙ not_on k NAME _ _ _ b) ∙ mapped_on a_source an_expr final α (at_expr k) (step α k))

  module _ (h : i < length s) (q : get_or s i STOP ≡ NAME) where
    source_way : (α : List Goal) → at d (a_source ∷ α) s i ≡ at d (named right ∷ α) s (i + 1)
    source_way α = step_at d (a_source ∷ α) (named right ∷ α) s i d NAME h q refl refl

    pub statement_way : (α : List Goal) → at d (a_statement ∷ α) s i ≡ at d (named start ∷ α) s (i + 1)
    statement_way α = step_at d (a_statement ∷ α) (named start ∷ α) s i d NAME h q refl refl

    pub source_refused : (f : Fault) → FormRefused d s i f → Refused (a_source ∷ []) d s i f
    source_refused f r α = source_way α ∙ r right α

    pub named_refused : (f : Fault) → FormRefused d s i f → Refused (a_statement ∷ []) d s i f
    named_refused f r α = statement_way α ∙ r start α

    source_ends : (t : Primary) (j : ℕ) → FormWay d s i t j → ((x : Variable) → t ≡ variable x → get_or s j STOP ≡ BECOMES → ⊥) → (α : List Goal) → at d (named right ∷ α) s (i + 1) ≡ at d (links_on ∷ α) s j
    source_ends (variable x) j m n α = m.0 right α ∙ right_off d s j α m.1 (n x refl) (seen x)
    source_ends (call k b) j m n α = m right α
    source_ends (call_on k b es e) j m n α = m right α
    source_ends (integer k) j m n α = absurd m
    source_ends (text k) j m n α = absurd m
    source_ends (paren k e) j m n α = absurd m

    module _ (ns ms : List Node) (p : Parsed) (m : FormMade d s i used ns ms p) where
      -- what is known of the form's tree, of a tree that it is
      pub text_as : (t : Primary) → m.tree ≡ t → items i (drop i s) ≡ of_primary t (items p.next (drop p.next s))
      text_as t e = subst (λ (x : Primary). items i (drop i s) ≡ of_primary x (items p.next (drop p.next s))) e m.text

      pub met_as : (t : Primary) → m.tree ≡ t → FormWay d s i t p.next
      met_as t e = subst (λ (x : Primary). FormWay d s i x p.next) e m.met

      variable_of : (x : Variable) → m.tree ≡ variable x → VariableEnded by_name d s i used ns ms p
      variable_of x e =
          record {
            within = m.within;
            more = m.more;
            few = m.few;
            below = m.below;
            kept = m.kept;
            tree = x;
            is = subst (λ (t : Primary). IsPrimary t ms p.root) e m.is;
            text = text_as (variable x) e;
            met = met_as (variable x) e;
          }

      destined_as : (M : Destination → ℕ → Type 0) (v : VariableEnded by_name d s i used ns ms p) → p.next < length s → get_or s p.next STOP ≡ BECOMES → M (place v.tree) (p.next + 1) → Destined M s i used ns ms (record { next = p.next + 1; used = p.used; root = p.root })
      destined_as M v h' q' w = (
        record {
          within = omega arith;
          more = v.more;
          few = omega (arith, v.few);
          below = v.below;
          kept = v.kept;
          tree = place v.tree;
          is = v.is;
          text = v.text ∙ ap (of_variable v.tree) (items_here s p.next BECOMES h' q');
          met = w;
        },
        omega (arith, v.few),
      )

      module _ (k : Shape) (y : Shows k ms p.root m.tree) where
        pub source_expr : (IsPlace k × (get_or s p.next STOP ≡ BECOMES) → ⊥) → (α : List Goal) → at d (a_source ∷ α) s i ≡ at d (an_expr ∷ α) s i
        source_expr n α =
            source_way α ∙ source_ends m.tree p.next m.met (unplaced k ms p.root m.tree y n) α
            ∙ sym (expr_at d α s i ∙ alike d (a_term ∷ links_on ∷ α) (a_primary ∷ links_on ∷ α) s i NAME h q refl ∙ (made_form d s i used ns h q ms p m).met (links_on ∷ α))

        module _ (o : IsPlace k × (get_or s p.next STOP ≡ BECOMES)) where
          there : p.next < length s
          there = inside s p.next BECOMES refl o.1

          found : VariableEnded by_name d s i used ns ms p
          found = let x = placed k ms p.root m.tree y o.0 in variable_of x.0 x.1

          pub place_onward : Destined (TargetWay d s i) s i used ns ms (record { next = p.next + 1; used = p.used; root = p.root })
          place_onward = destined_as (TargetWay d s i) found there o.1 (λ α. source_way α ∙ found.met.0 right α ∙ right_on d s p.next α (seen found.tree) there o.1)

          pub place_first : TargetsMade d s i used ns ms (record { next = p.next + 1; used = p.used; root = p.root }) × (p.used + 2 * i < 2 * (p.next + 1) + used)
          place_first =
              let a = destined_as (TargetsWay d s i) found there o.1 (λ α. statement_way α ∙ found.met.0 start α ∙ start_on d s p.next α (seen found.tree) there o.1) in
              (first_target d s i used ns ms _ a, a.1)
