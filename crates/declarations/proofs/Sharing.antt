-- Declared names with their initial values, step by step. Assumes nothing.
use Rattle.std.proofs.Common.{◌≡◌, ℕ, ◌+◌, ◌<◌, Bool, true, false, List, [], ◌∷◌, length, get_or, drop, set, sym, refl, ap, ◌∙◌, arith}
use Rattle.grammar.specs.Symbols.{same, same_true, STOP, NAME, BECOMES}
use Rattle.grammar.specs.declared.Symbol.{Symbol}
use Rattle.grammar.specs.Trees.{Token, token, key, Opt, none, some, Many, one, more, Init, plain, given, of_init, of_many, of_name}
use Rattle.grammar.specs.Sentences.{items}
use Rattle.grammar.specs.Machine.{Goal, Forest, Move, each, declareds, unset, set as set_sort, Setting, stored, inblock, Initial, given_on, chain, linked, uses, value, a_value, an_expr, a_term, links_on, named, inner, at_value, at_expr, taken, onto_stack, step, done, is_some, pair, void, of_initial}
use Rattle.grammar.proofs.Expressions.{on_not}
use Rattle.grammar.proofs.Steps.{items_here, step_at, like_at, skip_at, followed_at, expr_at, mapped_on}
use Rattle.nodes.proofs.Build.{grown, not_on, inside}
use Rattle.nodes.proofs.Keep.{keep_name, keep_many, agree_set, at_set, agree_trans}
use Rattle.nodes.specs.Made.{Fewer, at, Made, Way, Refused, Shares, of_shared, NamesWay}
use Rattle.nodes.specs.Nodes.{Agree, IsMany, IsName, IsInit}
use Rattle.declarations.specs.Declaring.{goal_of}
use Rattle.nodes.specs.Lists.{IsInitial}
use Rattle.nodes.proofs.Repeat.{keep_initial}
use Rattle.nodes.specs.declared.Node.{Node}
use Rattle.nodes.specs.declared.Node.TheVariants as node
use Rattle.nodes.specs.declared.Parsed.{Parsed}
use Rattle.nodes.specs.declared.Fault.{Fault}

abbrev pub NamesMade : List Symbol → ℕ → ℕ → List Node → List Node → Parsed → Type 0
NamesMade s i used ns ms p = Made 0 (Many ℕ) (IsMany IsName) of_shared (NamesWay s i) s i used ns ms p

two_items : (s : List Symbol) (i : ℕ) → Shares s i → items i (drop i s) ≡ token NAME i ∷ key BECOMES ∷ items (i + 2) (drop (i + 2) s)
two_items s i q =
    let h : i < length s = omega (arith, q.2) in
    let two : i + 1 + 1 ≡ i + 2 = omega arith in
    items_here s i NAME h q.0 ∙ ap (λ (v : List Token). token NAME i ∷ v) (items_here s (i + 1) BECOMES q.2 q.1 ∙ ap (λ (j : ℕ). key BECOMES ∷ items j (drop j s)) two)

becomes_way : (d : ℕ) (v : Setting) (α : List Goal) (s : List Symbol) (i : ℕ) (γ : List Goal) → Shares s i → at d γ s (i + 1) ≡ at d (given_on v ∷ α) s (i + 1) → at d γ s (i + 1) ≡ at d (chain v ∷ α) s (i + 2)
becomes_way d v α s i γ q e = let two : i + 1 + 1 ≡ i + 2 = omega arith in e ∙ step_at d (given_on v ∷ α) (chain v ∷ α) s (i + 1) d BECOMES q.2 q.1 refl refl ∙ ap (λ (j : ℕ). at d (chain v ∷ α) s j) two

more_way : (d : ℕ) (v : Setting) (α : List Goal) (s : List Symbol) (i : ℕ) → Shares s i → at d (chain v ∷ α) s i ≡ at d (chain v ∷ α) s (i + 2)
more_way d stored α s i q = let h : i < length s = omega (arith, q.2) in step_at d (chain stored ∷ α) (given_on stored ∷ α) s i d NAME h q.0 refl refl ∙ becomes_way d stored α s i (given_on stored ∷ α) q refl
more_way d inblock α s i q =
    let h : i < length s = omega (arith, q.2) in
    let two : i + 1 + 1 ≡ i + 2 = omega arith in
    step_at d (chain inblock ∷ α) (linked ∷ α) s i d NAME h q.0 refl refl ∙ step_at d (linked ∷ α) (chain inblock ∷ α) s (i + 1) d BECOMES q.2 q.1 refl refl ∙ ap (λ (j : ℕ). at d (chain inblock ∷ α) s j) two

pub first_name : (s : List Symbol) (i used : ℕ) (ns : List Node) → Shares s i → used < length ns → NamesMade s i used ns (set ns used (node.Name i)) (record { next = i + 2; used = used + 1; root = used })
first_name s i used ns q r =
    let h : i < length s = omega (arith, q.2) in
    grown 0 (IsMany IsName) of_shared (NamesWay s i) s i used ns ns used (i + 2) (node.Name i) r (one i) (omega (arith, q.2)) (omega arith) (omega arith) (λ j l. refl) (λ g a. a) (two_items s i q)
    (λ d v α. step_at d (each (declareds (set_sort v)) ∷ α) (given_on v ∷ α) s i d NAME h q.0 refl refl ∙ becomes_way d v α s i (given_on v ∷ α) q refl)

pub more_names : (s : List Symbol) (i used : ℕ) (es ns : List Node) (p : Parsed) → NamesMade s i used es ns p → Shares s p.next → p.used + 1 < length ns → NamesMade s i used es (set (set ns p.used (node.Name p.next)) (p.used + 1) (node.Also p.root p.used)) (record { next = p.next + 2; used = p.used + 1 + 1; root = p.used + 1 })
more_names s i used es ns p m q r =
    let ms : List Node = set ns p.used (node.Name p.next) in
    let g₁ : Agree p.used ns ms = agree_set p.used p.used ns _ (omega arith) in
    grown 0 (IsMany IsName) of_shared (NamesWay s i) s i used es ms (p.used + 1) (p.next + 2) (node.Also p.root p.used) (simp lib.ListN.length-set r) (more m.tree p.next) (omega (arith, q.2)) (omega (arith, m.more)) (omega (arith, m.few))
    (agree_trans used p.used es ns ms m.more m.kept g₁)
    (λ g a. (p.root, p.used, omega (arith, m.below), omega arith, a, keep_many (p.used + 1) ms _ g IsName (keep_name (p.used + 1) ms _ g) m.tree p.root (omega (arith, m.below)) (keep_many p.used ns ms g₁ IsName (keep_name p.used ns ms g₁) m.tree p.root m.below m.is), g p.used (omega arith) ∙ at_set p.used ns _ (omega arith)))
    (m.text ∙ ap (λ (w : List Token). of_many of_name BECOMES m.tree (key BECOMES ∷ w)) (two_items s p.next q))
    (λ d v α. m.met d v α ∙ more_way d v α s p.next q)

linked_end : (α : List Goal) (o : Opt (Forest α)) → is_some (pair (void linked) o) ≡ is_some (pair (void (named inner)) (pair (void links_on) o))
linked_end α none = refl
linked_end α (some f) = refl

chain_way : (v : Setting) (d : ℕ) (α : List Goal) (s : List Symbol) (j : ℕ) → (Shares s j → ⊥) → at d (chain v ∷ α) s j ≡ at d (goal_of v ∷ α) s j
chain_way v d α s j n = by v (same (get_or s j STOP) NAME) refl
  where
    no_becomes : get_or s j STOP ≡ NAME → get_or s (j + 1) STOP ≡ BECOMES → ⊥
    no_becomes q e = n (q, e, inside s (j + 1) BECOMES refl e)

    by : (v : Setting) (b : Bool) → same (get_or s j STOP) NAME ≡ b → at d (chain v ∷ α) s j ≡ at d (goal_of v ∷ α) s j
    by stored true e =
        let q : get_or s j STOP ≡ NAME = same_true (get_or s j STOP) NAME e in
        let h : j < length s = inside s j NAME refl q in
        step_at d (chain stored ∷ α) (given_on stored ∷ α) s j d NAME h q refl refl ∙ skip_at d (given_on stored) α s (j + 1) none none refl (not_on (get_or s (j + 1) STOP) BECOMES _ _ _ (no_becomes q)) ∙ sym (step_at d (a_value ∷ α) α s j d NAME h q refl refl)
    by inblock true e =
        let q : get_or s j STOP ≡ NAME = same_true (get_or s j STOP) NAME e in
        let h : j < length s = inside s j NAME refl q in
        step_at d (chain inblock ∷ α) (linked ∷ α) s j d NAME h q refl refl
        ∙ followed_at d linked (named inner) links_on α s (j + 1) uses (linked_end α (done α)) (not_on (get_or s (j + 1) STOP) BECOMES _ _ _ (no_becomes q))
        ∙ sym (expr_at d α s j ∙ step_at d (a_term ∷ links_on ∷ α) (named inner ∷ links_on ∷ α) s j d NAME h q refl refl)
    by stored false e = let k : Symbol = get_or s j STOP in like_at d (chain stored ∷ α) (a_value ∷ α) s j refl (ap (λ (m : Move _). onto_stack (chain stored ∷ α) (taken (chain stored) α m (step α k))) (on_not k NAME _ _ _ e) ∙ mapped_on (chain stored) a_value value α (at_value k) (step α k))
    by inblock false e = let k : Symbol = get_or s j STOP in like_at d (chain inblock ∷ α) (an_expr ∷ α) s j refl (ap (λ (m : Move _). onto_stack (chain inblock ∷ α) (taken (chain inblock) α m (step α k))) (on_not k NAME _ _ _ e) ∙ mapped_on (chain inblock) an_expr value α (at_expr k) (step α k))

abbrev pub InitMade : (v : Setting) → ℕ → List Symbol → ℕ → ℕ → List Node → List Node → Parsed → Type 0
InitMade v d s i used ns ms p = Made 0 (Init (Initial v)) (IsInit (IsInitial v)) (of_init (of_initial v)) (Way (each (declareds (set_sort v)) ∷ []) d s i) s i used ns ms p

module _ (v : Setting) (d : ℕ) (s : List Symbol) (i used : ℕ) where
  pub made_plain : (ns : List Node) → i < length s → get_or s i STOP ≡ NAME → (get_or s (i + 1) STOP ≡ BECOMES → ⊥) → used < length ns → InitMade v d s i used ns (set ns used (node.Plain i)) (record { next = i + 1; used = used + 1; root = used })
  made_plain ns h q n r = grown 0 (IsInit (IsInitial v)) (of_init (of_initial v)) (Way (each (declareds (set_sort v)) ∷ []) d s i) s i used ns ns used (i + 1) (node.Plain i) r (plain i) (omega arith) (omega arith) (omega arith) (λ j l. refl) (λ g a. a) (items_here s i NAME h q) (λ α. step_at d (each (declareds (set_sort v)) ∷ α) (given_on v ∷ α) s i d NAME h q refl refl ∙ skip_at d (given_on v) α s (i + 1) none none refl (not_on (get_or s (i + 1) STOP) BECOMES _ _ _ n))

  module _ (ns ms : List Node) (p : Parsed) (m : NamesMade s i used ns ms p) (n : Shares s p.next → ⊥) (strict : Fewer i used p) where
    init_way : (α : List Goal) → at d (each (declareds (set_sort v)) ∷ α) s i ≡ at d (goal_of v ∷ α) s p.next
    init_way α = m.met d v α ∙ chain_way v d α s p.next n

    pub init_refused : (f : Fault) → Refused (goal_of v ∷ []) d s p.next f → Refused (each (declareds (set_sort v)) ∷ []) d s i f
    init_refused f r α = init_way α ∙ r α

    pub made_given : (os : List Node) (e : Parsed) → e.used < length os → Made 0 (Initial v) (IsInitial v) (of_initial v) (Way (goal_of v ∷ []) d s p.next) s p.next p.used ms os e → InitMade v d s i used ns (set os e.used (node.Given p.root e.root)) (record { next = e.next; used = e.used + 1; root = e.used })
    made_given os e r b =
        grown 0 (IsInit (IsInitial v)) (of_init (of_initial v)) (Way (each (declareds (set_sort v)) ∷ []) d s i) s i used ns os e.used e.next (node.Given p.root e.root) r (given m.tree b.tree) b.within (omega (arith, m.more, b.more)) (omega (arith, strict, b.few))
        (agree_trans used p.used ns ms os m.more m.kept b.kept)
        (λ g a. (p.root, e.root, omega (arith, m.below, b.more), b.below, a, keep_many e.used os _ g IsName (keep_name e.used os _ g) m.tree p.root (omega (arith, m.below, b.more)) (keep_many p.used ms os b.kept IsName (keep_name p.used ms os b.kept) m.tree p.root m.below m.is), keep_initial v e.used os _ g b.tree e.root b.below b.is))
        (m.text ∙ ap (of_shared m.tree) b.text)
        (λ α. init_way α ∙ b.met α)

-- a name without a value
module _ (d : ℕ) (s : List Symbol) (i used : ℕ) where
  pub made_bare : (ns : List Node) → i < length s → get_or s i STOP ≡ NAME → used < length ns → Made 0 ℕ IsName of_name (Way (each (declareds unset) ∷ []) d s i) s i used ns (set ns used (node.Name i)) (record { next = i + 1; used = used + 1; root = used })
  made_bare ns h q r = grown 0 IsName of_name (Way (each (declareds unset) ∷ []) d s i) s i used ns ns used (i + 1) (node.Name i) r i (omega arith) (omega arith) (omega arith) (λ j l. refl) (λ g a. a) (items_here s i NAME h q) (λ α. step_at d (each (declareds unset) ∷ α) α s i d NAME h q refl refl)
