-- Comparisons, step by step. Assumes nothing.
use Rattle.std.proofs.Common.{◌≡◌, ℕ, ◌+◌, ◌<◌, true, false, List, [], ◌∷◌, length, get_or, drop, set, refl, ap, ◌∙◌, arith}
use Rattle.grammar.specs.Symbols.{among, STOP, EQUAL, HASH, LESS, ATMOST, MORE, ATLEAST, IS, ISNT}
use Rattle.grammar.specs.declared.Symbol.{Symbol}
use Rattle.grammar.specs.Trees.{Token, key, mark, some, Comparison, compare, Comparator, equal, unequal, less, at_most, greater, at_least, same_place, other_place, spell_comparator, of_expr, of_comparison}
use Rattle.grammar.specs.Sentences.{items}
use Rattle.grammar.specs.Machine.{Goal, refuse, each, ands, an_expr, compared, at_comparator, level, step_to}
use Rattle.grammar.proofs.Expressions.{on_not}
use Rattle.grammar.proofs.Steps.{items_here, step_at, refuse_at, refuses, followed_at}
use Rattle.nodes.proofs.Build.{grown}
use Rattle.expressions.proofs.Forms.{ExprMade}
use Rattle.grammar.proofs.Right.{clash, among_but as found_in}
use Rattle.expressions.proofs.Levels.{none_of, no_such}
use Rattle.nodes.proofs.Keep.{keep_expr, agree_trans}
use Rattle.nodes.specs.Made.{at, Made, Way, Refused, comparators}
use Rattle.nodes.specs.Nodes.{IsComparison}
use Rattle.nodes.specs.declared.Node.{Node}
use Rattle.nodes.specs.declared.Node.TheVariants.{Compare}
use Rattle.nodes.specs.declared.Parsed.{Parsed}
use Rattle.nodes.specs.declared.Fault.{Fault}
use Rattle.nodes.specs.declared.Fault.TheVariants.{Syntax}

abbrev IsComparator : Symbol → Type 0
IsComparator c = (o : Comparator) × (c ≡ spell_comparator o)

comparator_of : (c : Symbol) → among comparators c ≡ true → IsComparator c
comparator_of c h =
    found_in EQUAL (HASH ∷ LESS ∷ ATMOST ∷ MORE ∷ ATLEAST ∷ IS ∷ ISNT ∷ []) IsComparator c (equal, refl)
    (found_in HASH (LESS ∷ ATMOST ∷ MORE ∷ ATLEAST ∷ IS ∷ ISNT ∷ []) IsComparator c (unequal, refl)
    (found_in LESS (ATMOST ∷ MORE ∷ ATLEAST ∷ IS ∷ ISNT ∷ []) IsComparator c (less, refl)
    (found_in ATMOST (MORE ∷ ATLEAST ∷ IS ∷ ISNT ∷ []) IsComparator c (at_most, refl)
    (found_in MORE (ATLEAST ∷ IS ∷ ISNT ∷ []) IsComparator c (greater, refl)
    (found_in ATLEAST (IS ∷ ISNT ∷ []) IsComparator c (at_least, refl)
    (found_in IS (ISNT ∷ []) IsComparator c (same_place, refl)
    (found_in ISNT [] IsComparator c (other_place, refl) (no_such c (IsComparator c))))))))) h

comparator_none : (c : Symbol) → among comparators c ≡ false → at_comparator c ≡ refuse
comparator_none c h =
    let a = none_of EQUAL (HASH ∷ LESS ∷ ATMOST ∷ MORE ∷ ATLEAST ∷ IS ∷ ISNT ∷ []) c h in
    let b = none_of HASH (LESS ∷ ATMOST ∷ MORE ∷ ATLEAST ∷ IS ∷ ISNT ∷ []) c a.1 in
    let e = none_of LESS (ATMOST ∷ MORE ∷ ATLEAST ∷ IS ∷ ISNT ∷ []) c b.1 in
    let f = none_of ATMOST (MORE ∷ ATLEAST ∷ IS ∷ ISNT ∷ []) c e.1 in
    let g = none_of MORE (ATLEAST ∷ IS ∷ ISNT ∷ []) c f.1 in
    let i = none_of ATLEAST (IS ∷ ISNT ∷ []) c g.1 in
    let j = none_of IS (ISNT ∷ []) c i.1 in
    let k = none_of ISNT [] c j.1 in
    on_not c EQUAL _ _ _ a.0 ∙ on_not c HASH _ _ _ b.0 ∙ on_not c LESS _ _ _ e.0 ∙ on_not c ATMOST _ _ _ f.0 ∙ on_not c MORE _ _ _ g.0 ∙ on_not c ATLEAST _ _ _ i.0 ∙ on_not c IS _ _ _ j.0 ∙ on_not c ISNT _ _ _ k.0

pub comparator_there : (c : Symbol) → among comparators c ≡ true → c ≡ STOP → ⊥
comparator_there c h e = clash h (ap (among comparators) e)

compare_step : (o : Comparator) (α : List Goal) → step_to (compared ∷ α) (spell_comparator o) ≡ some (an_expr ∷ α)
compare_step equal α = refl
compare_step unequal α = refl
compare_step less α = refl
compare_step at_most α = refl
compare_step greater α = refl
compare_step at_least α = refl
compare_step same_place α = refl
compare_step other_place α = refl

compare_level : (o : Comparator) (d : ℕ) → level d (spell_comparator o) ≡ some d
compare_level equal d = refl
compare_level unequal d = refl
compare_level less d = refl
compare_level at_most d = refl
compare_level greater d = refl
compare_level at_least d = refl
compare_level same_place d = refl
compare_level other_place d = refl

compare_mark : (o : Comparator) (i : ℕ) → mark (spell_comparator o) i ≡ key (spell_comparator o)
compare_mark equal i = refl
compare_mark unequal i = refl
compare_mark less i = refl
compare_mark at_most i = refl
compare_mark greater i = refl
compare_mark at_least i = refl
compare_mark same_place i = refl
compare_mark other_place i = refl

module _ (d : ℕ) (s : List Symbol) (i used : ℕ) where
  compare_begins : (α : List Goal) → at d (each ands ∷ α) s i ≡ at d (an_expr ∷ compared ∷ α) s i
  compare_begins α = followed_at d (each ands) an_expr compared α s i (λ a p. compare a p.0 p.1) refl refl

  pub left_refused : (f : Fault) → Refused (an_expr ∷ []) d s i f → Refused (each ands ∷ []) d s i f
  left_refused f r α = compare_begins α ∙ r (compared ∷ α)

  module _ (ns ms : List Node) (a : Parsed) (m : ExprMade d s i used ns ms a) where
    pub no_comparator : among comparators (get_or s a.next STOP) ≡ false → Refused (each ands ∷ []) d s i (Syntax a.next)
    no_comparator n α = compare_begins α ∙ m.met (compared ∷ α) ∙ refuse_at d (compared ∷ α) s a.next refl (refuses compared α (get_or s a.next STOP) (comparator_none (get_or s a.next STOP) n))

    module _ (h : a.next < length s) (q : among comparators (get_or s a.next STOP) ≡ true) where
      compare_way : (α : List Goal) → at d (each ands ∷ α) s i ≡ at d (an_expr ∷ α) s (a.next + 1)
      compare_way α = let o = comparator_of (get_or s a.next STOP) q in compare_begins α ∙ m.met (compared ∷ α) ∙ step_at d (compared ∷ α) (an_expr ∷ α) s a.next d (spell_comparator o.0) h o.1 (compare_step o.0 α) (compare_level o.0 d)

      pub right_refused : (f : Fault) → Refused (an_expr ∷ []) d s (a.next + 1) f → Refused (each ands ∷ []) d s i f
      right_refused f r α = compare_way α ∙ r α

      pub made_comparison : (c : Symbol) → c ≡ get_or s a.next STOP → (os : List Node) (b : Parsed) → b.used < length os → ExprMade d s (a.next + 1) a.used ms os b → Made 0 Comparison IsComparison of_comparison (Way (each ands ∷ []) d s i) s i used ns (set os b.used (Compare c a.root b.root)) (record { next = b.next; used = b.used + 1; root = b.used })
      made_comparison c w os b r e =
          let o = comparator_of (get_or s a.next STOP) q in
          grown 0 IsComparison of_comparison (Way (each ands ∷ []) d s i) s i used ns os b.used b.next (Compare c a.root b.root) r (compare m.tree o.0 e.tree) e.within (omega (arith, m.more, e.more)) (omega (arith, m.few, e.few))
          (agree_trans used a.used ns ms os m.more m.kept e.kept)
          (λ g k. (a.root, b.root, omega (arith, m.below, e.more), e.below, k ∙ ap (λ (x : Symbol). Compare x a.root b.root) (w ∙ o.1), keep_expr b.used os _ g m.tree a.root (omega (arith, m.below, e.more)) (keep_expr a.used ms os e.kept m.tree a.root m.below m.is), keep_expr b.used os _ g e.tree b.root e.below e.is))
          (m.text ∙ ap (of_expr m.tree) (items_here s a.next (spell_comparator o.0) h o.1 ∙ ap (λ (x : Token). x ∷ items (a.next + 1) (drop (a.next + 1) s)) (compare_mark o.0 a.next) ∙ ap (λ (v : List Token). key (spell_comparator o.0) ∷ v) e.text))
          (λ α. compare_way α ∙ e.met α)
