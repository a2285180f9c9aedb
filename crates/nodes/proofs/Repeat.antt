-- A repetition, one and then a separator and one any number of times, that a loop reads into a list of nodes linked backwards. Assumes nothing.
use Rattle.std.proofs.Common.{◌≡◌, eqb, false, ℕ, ◌+◌, ◌<◌, ◌≤◌, List, [], ◌∷◌, length, get_or, drop, set, sym, refl, ap, ◌∙◌, arith}
use Rattle.grammar.specs.Symbols.{STOP, code}
use Rattle.grammar.specs.declared.Symbol.{Symbol}
use Rattle.grammar.specs.Trees.{Token, key, mark, Opt, none, some, Many}
use Rattle.grammar.specs.Sentences.{items}
use Rattle.grammar.specs.Machine.{Goal, Forest, Repetition, exprs, ors, ands, statements, modes, entries, moditems, declareds, decs, Sort, unset, set as set_sort, stored, inblock, Single, Whole, begun, added, adds, all, each, rest, separator, level, step_to, is_some, pair, done, void_each, void, of_single, of_whole, Setting, Initial, Declared}
use Rattle.grammar.proofs.Spell.{begun_of, added_of}
use Rattle.grammar.proofs.Steps.{items_here, step_at, skip_at, followed_at}
use Rattle.nodes.proofs.Build.{grown, not_on}
use Rattle.nodes.proofs.Keep.{agree_trans, keep_expr, keep_exprs, keep_many, keep_comparison, keep_subcondition, keep_condition, keep_statement, keep_sequence, keep_mode, keep_entry, keep_values, keep_name, keep_init, keep_value, keep_dec, keep_moditem}
use Rattle.nodes.specs.Made.{at, Made, Way, Refused}
use Rattle.nodes.specs.Nodes.{At, Agree, IsMany, IsMode, IsDec, IsModitem}
use Rattle.nodes.specs.Lists.{IsInitial, IsDeclared, IsSingle, IsWhole, Begins}
use Rattle.nodes.specs.declared.Node.{Node}
use Rattle.nodes.specs.declared.Node.TheVariants.{Also}
use Rattle.nodes.specs.declared.Parsed.{Parsed}
use Rattle.nodes.specs.declared.Fault.{Fault}

-- what is said of nodes stays where they stay
pub keep_initial : (v : Setting) (n : ℕ) (ns ms : List Node) → Agree n ns ms → (t : Initial v) (k : ℕ) → k < n → IsInitial v t ns k → IsInitial v t ms k
keep_initial stored n ns ms a t k h is = keep_value n ns ms a t k h is
keep_initial inblock n ns ms a t k h is = keep_expr n ns ms a t k h is

pub keep_declared : (t : Sort) (n : ℕ) (ns ms : List Node) → Agree n ns ms → (u : Declared t) (k : ℕ) → k < n → IsDeclared t u ns k → IsDeclared t u ms k
keep_declared unset n ns ms a u k h is = keep_name n ns ms a u k h is
keep_declared (set_sort v) n ns ms a u k h is = keep_init n ns ms a (IsInitial v) (keep_initial v n ns ms a) u k h is

pub keep_declareds : (t : Sort) (n : ℕ) (ns ms : List Node) → Agree n ns ms → (u : Many (Declared t)) (k : ℕ) → k < n → IsMany (IsDeclared t) u ns k → IsMany (IsDeclared t) u ms k
keep_declareds t n ns ms a u k h is = keep_many n ns ms a (IsDeclared t) (keep_declared t n ns ms a) u k h is

is_begun : (r : Repetition) (u : Single r) (ns : List Node) (k : ℕ) → IsSingle r u ns k → IsWhole r (begun r u) ns k
is_begun exprs u ns k is = is
is_begun ors u ns k is = is
is_begun ands u ns k is = is
is_begun statements u ns k is = is
is_begun modes u ns k is = is
is_begun entries u ns k is = is
is_begun moditems u ns k is = is
is_begun (declareds t) u ns k is = is
is_begun (decs t) u ns k is = is

is_added : (r : Repetition) (a : Whole r) (u : Single r) (ns : List Node) (k l m : ℕ) → l < k → m < k → At ns k (Also l m) → IsWhole r a ns l → IsSingle r u ns m → IsWhole r (added r a u) ns k
is_added exprs a u ns k l m x y z is js = (l, m, x, y, z, is, js)
is_added ors a u ns k l m x y z is js = (l, m, x, y, z, is, js)
is_added ands a u ns k l m x y z is js = (l, m, x, y, z, is, js)
is_added statements a u ns k l m x y z is js = (l, m, x, y, z, is, js)
is_added modes a u ns k l m x y z is js = (l, m, x, y, z, is, js)
is_added entries a u ns k l m x y z is js = (l, m, x, y, z, is, js)
is_added moditems a u ns k l m x y z is js = (l, m, x, y, z, is, js)
is_added (declareds t) a u ns k l m x y z is js = (l, m, x, y, z, is, js)
is_added (decs t) a u ns k l m x y z is js = (l, m, x, y, z, is, js)

keep_single : (r : Repetition) (n : ℕ) (ns ms : List Node) → Agree n ns ms → (u : Single r) (k : ℕ) → k < n → IsSingle r u ns k → IsSingle r u ms k
keep_single exprs n ns ms a u k h is = keep_expr n ns ms a u k h is
keep_single ors n ns ms a u k h is = keep_subcondition n ns ms a u k h is
keep_single ands n ns ms a u k h is = keep_comparison n ns ms a u k h is
keep_single statements n ns ms a u k h is = keep_statement n ns ms a u k h is
keep_single modes n ns ms a u k h is = keep_mode n ns ms a u k h is
keep_single entries n ns ms a u k h is = keep_entry n ns ms a u k h is
keep_single moditems n ns ms a u k h is = keep_moditem n ns ms a u k h is
keep_single (declareds t) n ns ms a u k h is = keep_declared t n ns ms a u k h is
keep_single (decs t) n ns ms a u k h is = keep_dec n ns ms a (IsMany (IsDeclared t)) (keep_declareds t n ns ms a) u k h is

keep_whole : (r : Repetition) (n : ℕ) (ns ms : List Node) → Agree n ns ms → (u : Whole r) (k : ℕ) → k < n → IsWhole r u ns k → IsWhole r u ms k
keep_whole exprs n ns ms a u k h is = keep_exprs n ns ms a u k h is
keep_whole ors n ns ms a u k h is = keep_condition n ns ms a u k h is
keep_whole ands n ns ms a u k h is = keep_subcondition n ns ms a u k h is
keep_whole statements n ns ms a u k h is = keep_sequence n ns ms a u k h is
keep_whole modes n ns ms a u k h is = keep_many n ns ms a IsMode (keep_mode n ns ms a) u k h is
keep_whole entries n ns ms a u k h is = keep_values n ns ms a u k h is
keep_whole moditems n ns ms a u k h is = keep_many n ns ms a IsModitem (keep_moditem n ns ms a) u k h is
keep_whole (declareds t) n ns ms a u k h is = keep_declareds t n ns ms a u k h is
keep_whole (decs t) n ns ms a u k h is = keep_many n ns ms a (IsDec (IsMany (IsDeclared t))) (keep_single (decs t) n ns ms a) u k h is

sep_step : (r : Repetition) (α : List Goal) → step_to (rest r ∷ α) (separator r) ≡ some (each r ∷ rest r ∷ α)
sep_step exprs α = refl
sep_step ors α = refl
sep_step ands α = refl
sep_step statements α = refl
sep_step modes α = refl
sep_step entries α = refl
sep_step moditems α = refl
sep_step (declareds t) α = refl
sep_step (decs t) α = refl

sep_level : (r : Repetition) (d : ℕ) → level d (separator r) ≡ some d
sep_level exprs d = refl
sep_level ors d = refl
sep_level ands d = refl
sep_level statements d = refl
sep_level modes d = refl
sep_level entries d = refl
sep_level moditems d = refl
sep_level (declareds t) d = refl
sep_level (decs t) d = refl

sep_mark : (r : Repetition) (i : ℕ) → mark (separator r) i ≡ key (separator r)
sep_mark exprs i = refl
sep_mark ors i = refl
sep_mark ands i = refl
sep_mark statements i = refl
sep_mark modes i = refl
sep_mark entries i = refl
sep_mark moditems i = refl
sep_mark (declareds t) i = refl
sep_mark (decs t) i = refl

-- a separator is not the mark past the end
pub sep_far : (r : Repetition) → eqb (code (separator r)) 0 ≡ false
sep_far exprs = refl
sep_far ors = refl
sep_far ands = refl
sep_far statements = refl
sep_far modes = refl
sep_far entries = refl
sep_far moditems = refl
sep_far (declareds t) = refl
sep_far (decs t) = refl

abbrev RestWay : (r : Repetition) → Goal → ℕ → List Symbol → ℕ → Whole r → ℕ → Type 0
RestWay r h d s i t j = (α : List Goal) → at d (h ∷ α) s i ≡ at d (rest r ∷ α) s j

abbrev pub OneMade : ℕ → Repetition → ℕ → List Symbol → ℕ → ℕ → List Node → List Node → Parsed → Type 0
OneMade x r d s i used ns ms p = Made x (Single r) (IsSingle r) (of_single r) (Way (each r ∷ []) d s i) s i used ns ms p

abbrev pub SomeMade : ℕ → Repetition → Goal → ℕ → List Symbol → ℕ → ℕ → List Node → List Node → Parsed → Type 0
SomeMade x r h d s i used ns ms p = Made x (Whole r) (IsWhole r) (of_whole r) (RestWay r h d s i) s i used ns ms p

abbrev pub AllMade : ℕ → Repetition → Goal → ℕ → List Symbol → ℕ → ℕ → List Node → List Node → Parsed → Type 0
AllMade x r h d s i used ns ms p = Made x (Whole r) (IsWhole r) (of_whole r) (Way (h ∷ []) d s i) s i used ns ms p

module _ (x : ℕ) (small : x ≤ 1) (r : Repetition) (h : Goal) (begins : Begins r h) (d : ℕ) (s : List Symbol) (i used : ℕ) where
  pub first_refused : (f : Fault) → Refused (each r ∷ []) d s i f → Refused (h ∷ []) d s i f
  first_refused f z α = begins d α s i ∙ z (rest r ∷ α)

  pub starts : (ns ms : List Node) (p : Parsed) → OneMade x r d s i used ns ms p → SomeMade x r h d s i used ms ms p
  starts ns ms p m = record { within = m.within; more = m.more; few = m.few; below = m.below; kept = λ j l. refl; tree = begun r m.tree; is = is_begun r m.tree ms p.root m.is; text = m.text ∙ sym (begun_of r m.tree _); met = λ α. begins d α s i ∙ m.met (rest r ∷ α) }

  module _ (es ns : List Node) (p : Parsed) (m : SomeMade x r h d s i used es ns p) where
    pub ends : (os : List Node) → Agree used os es → (get_or s p.next STOP ≡ separator r → ⊥) → AllMade x r h d s i used os ns p
    ends os a n = record { within = m.within; more = m.more; few = m.few; below = m.below; kept = agree_trans used used os es ns (omega arith) a m.kept; tree = m.tree; is = m.is; text = m.text; met = λ α. m.met α ∙ skip_at d (rest r) α s p.next [] [] refl (not_on (get_or s p.next STOP) (separator r) _ _ _ n) }

    module _ (b : p.next < length s) (q : get_or s p.next STOP ≡ separator r) where
      way : (α : List Goal) → at d (h ∷ α) s i ≡ at d (each r ∷ rest r ∷ α) s (p.next + 1)
      way α = m.met α ∙ step_at d (rest r ∷ α) (each r ∷ rest r ∷ α) s p.next d (separator r) b q (sep_step r α) (sep_level r d)

      pub refused : (f : Fault) → Refused (each r ∷ []) d s (p.next + 1) f → Refused (h ∷ []) d s i f
      refused f z α = way α ∙ z (rest r ∷ α)

      pub goes : (ms : List Node) (t : Parsed) → t.used < length ms → OneMade x r d s (p.next + 1) p.used ns ms t → SomeMade x r h d s i used es (set ms t.used (Also p.root t.root)) (record { next = t.next; used = t.used + 1; root = t.used })
      goes ms t room o =
          grown x (IsWhole r) (of_whole r) (RestWay r h d s i) s i used es ms t.used t.next (Also p.root t.root) room (added r m.tree o.tree) o.within (omega (arith, m.more, o.more)) (omega (arith, m.few, o.few))
          (agree_trans used p.used es ns ms m.more m.kept o.kept)
          (λ g a. is_added r m.tree o.tree _ t.used p.root t.root (omega (arith, m.below, o.more)) o.below a (keep_whole r t.used ms _ g m.tree p.root (omega (arith, m.below, o.more)) (keep_whole r p.used ns ms o.kept m.tree p.root m.below m.is)) (keep_single r t.used ms _ g o.tree t.root o.below o.is))
          (m.text ∙ ap (of_whole r m.tree) (items_here s p.next (separator r) b q ∙ ap (λ (y : Token). y ∷ items (p.next + 1) (drop (p.next + 1) s)) (sep_mark r p.next) ∙ ap (λ (v : List Token). key (separator r) ∷ v) o.text) ∙ sym (added_of r m.tree o.tree _))
          (λ α. way α ∙ o.met (rest r ∷ α))

-- how they begin
pub ors_begin : Begins ands (each ors)
ors_begin d α s i = followed_at d (each ors) (each ands) (rest ands) α s i (λ u us. adds ands (begun ands u) us) refl refl

pub conditions_begin : Begins ors (all ors)
conditions_begin d α s i = followed_at d (all ors) (each ors) (rest ors) α s i (λ u us. adds ors (begun ors u) us) refl refl

pub modes_begin : Begins modes (all modes)
modes_begin d α s i = followed_at d (all modes) (each modes) (rest modes) α s i (λ u us. adds modes (begun modes u) us) refl refl

pub entries_begin : Begins entries (all entries)
entries_begin d α s i = followed_at d (all entries) (each entries) (rest entries) α s i (λ u us. adds entries (begun entries u) us) refl refl

statements_end : (α : List Goal) (o : Opt (Forest α)) → is_some (pair (void (all statements)) o) ≡ is_some (pair (void_each statements) (pair (void (rest statements)) o))
statements_end α none = refl
statements_end α (some f) = refl

pub statements_begin : Begins statements (all statements)
statements_begin d α s i = followed_at d (all statements) (each statements) (rest statements) α s i (λ u us. adds statements (begun statements u) us) (statements_end α (done α)) refl

pub declareds_begin : (t : Sort) (d : ℕ) (α : List Goal) (s : List Symbol) (i : ℕ) → at d (all (declareds t) ∷ α) s i ≡ at d (each (declareds t) ∷ rest (declareds t) ∷ α) s i
declareds_begin t d α s i = followed_at d (all (declareds t)) (each (declareds t)) (rest (declareds t)) α s i (λ u us. adds (declareds t) (begun (declareds t) u) us) refl refl

decs_end : (t : Sort) (α : List Goal) (o : Opt (Forest α)) → is_some (pair (void (all (decs t))) o) ≡ is_some (pair (void_each (decs t)) (pair (void (rest (decs t))) o))
decs_end t α none = refl
decs_end t α (some f) = refl

pub decs_begin : (t : Sort) (d : ℕ) (α : List Goal) (s : List Symbol) (i : ℕ) → at d (all (decs t) ∷ α) s i ≡ at d (each (decs t) ∷ rest (decs t) ∷ α) s i
decs_begin t d α s i = followed_at d (all (decs t)) (each (decs t)) (rest (decs t)) α s i (λ u us. adds (decs t) (begun (decs t) u) us) (decs_end t α (done α)) refl

moditems_end : (α : List Goal) (o : Opt (Forest α)) → is_some (pair (void (all moditems)) o) ≡ is_some (pair (void_each moditems) (pair (void (rest moditems)) o))
moditems_end α none = refl
moditems_end α (some f) = refl

pub moditems_begin : Begins moditems (all moditems)
moditems_begin d α s i = followed_at d (all moditems) (each moditems) (rest moditems) α s i (λ u us. adds moditems (begun moditems u) us) (moditems_end α (done α)) refl
