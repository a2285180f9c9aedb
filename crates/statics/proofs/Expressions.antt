-- Expressions and conditions are judged right, construct by construct. Assumes nothing.
use Rattle.std.proofs.Common.{◌≡◌, ℕ, suc, ◌+◌, ◌<◌, ◌≤◌, List, [], length, Some, None, slice_get, Ok, Err, Option, Result, sym, refl, subst, inl, inr, arith}
use Rattle.std.specs.Bool.{Decides}
use Rattle.std.proofs.lemmas.Bool.Decides.{Decides-eqb}
use Rattle.statics.specs.declared.Refusal.{Refusal}
use Rattle.statics.specs.declared.Refusal.TheVariants.{WrongName, Misfit}
use Rattle.grammar.specs.Trees.{Dyadic, Expr, term, up, dyadic, Term, monadic, primary, Primary, integer, text, variable, call, call_on, paren, Variable, name, element, component, Exprs, first, comma, Comparator, same_place, other_place, Comparison, compare, Condition, Many, one, more}
use Rattle.statics.specs.Modes.{Mode, INT, Thing, value, Need, mode, elements, components, Fits, subscript, referred_record}
use Rattle.statics.specs.Laws.{Wrongs, Never, Both, Lacks, Clean}
use Rattle.statics.specs.Scopes.{Env, Class, Signature, Head, thing, signature, Called, Stands, Runs, Heads}
use Rattle.statics.specs.Fronts.{front, front_term, front_primary, front_variable, spot, spot_term, spot_primary}
use Rattle.statics.specs.Expressions.{Rule, Form, Gives, Off, fixed, named, subscripted, selected, operand, result, operated, argument, outcome, passed, applied, Yields, called, headed, bracketed, count, figure, string_thing, expr, a_term, a_primary, a_use, a_variable, args, compared, Agree, Operands, comparison, each, condition}
use Rattle.statics.specs.Order.{Span, In, InTerm, InPrimary, InVariable, InExprs, InComparison, InMany, InCondition}
use Rattle.statics.specs.JudgeExpressions.{then, check, bring, look, pass, stands, runs, heads, yields, apply, judge_call, judge_head, judge_bracketed, judge_subscript, judge_select, judge, judge_term, judge_primary, judge_use, judge_variable, judge_args, agree, judge_comparison, judge_each, judge_condition}
use Rattle.statics.proofs.Decide.{Tells, found, none, Within, Also, Judged, sure, lacking, like, cleaned, wider, chain, alone, two, turn, plainly, next, nothing}
use Rattle.statics.proofs.Fit.{yes, same_mode_decides, tells_unit, tells_cond, fit_tells}
use Rattle.statics.proofs.Names.{look_judged, stands_tells, runs_tells, heads_tells, selects_tells}

-- Where the first item, and that of a misfit, lie.
mutual
  pub front_in : {n : ℕ} (e : Expr n) (lo hi : ℕ) → In lo e hi → Span lo hi (front e)
  front_in (term t) lo hi i = front_term_in t lo hi i
  front_in (up e) lo hi i = front_in e lo hi i
  front_in (dyadic a o k b) lo hi i =
      let f = front_in a lo i.0 i.1 in
      let g = front_in b i.0 hi i.2 in
      (omega arith, omega arith)

  pub front_term_in : (t : Term) (lo hi : ℕ) → InTerm lo t hi → Span lo hi (front_term t)
  front_term_in (monadic o k t) lo hi i = let f = front_term_in t (k + 1) hi i.1 in (i.0, omega arith)
  front_term_in (primary p) lo hi i = front_primary_in p lo hi i

  pub front_primary_in : (p : Primary) (lo hi : ℕ) → InPrimary lo p hi → Span lo hi (front_primary p)
  front_primary_in (integer k) lo hi i = i
  front_primary_in (text k) lo hi i = i
  front_primary_in (variable v) lo hi i = front_variable_in v lo hi i
  front_primary_in (call n k) lo hi i = i
  front_primary_in (call_on n k es e) lo hi i =
      let f = exprs_le es (n + 1) i.1.0 i.1.1 in
      let g = front_in e i.1.0 hi i.1.2 in
      (i.0, omega arith)
  front_primary_in (paren k e) lo hi i = let f = front_in e (k + 1) hi i.1 in (i.0, omega arith)

  pub front_variable_in : (v : Variable) (lo hi : ℕ) → InVariable lo v hi → Span lo hi (front_variable v)
  front_variable_in (name n) lo hi i = i
  front_variable_in (element v k e) lo hi i =
      let f = front_variable_in v lo i.0 i.1 in
      let g = front_in e i.0 hi i.2 in
      (omega arith, omega arith)
  front_variable_in (component v c) lo hi i =
      let f = front_variable_in v lo i.0 i.1 in
      let g = i.2 in
      (omega arith, omega arith)

  pub exprs_le : (es : Exprs) (lo hi : ℕ) → InExprs lo es hi → lo < hi
  exprs_le (first e) lo hi i = let f = front_in e lo hi i in omega arith
  exprs_le (comma es e) lo hi i =
      let f = exprs_le es lo i.0 i.1 in
      let g = front_in e i.0 hi i.2 in
      omega arith

mutual
  pub spot_in : {n : ℕ} (e : Expr n) (lo hi : ℕ) → In lo e hi → Span lo hi (spot e)
  spot_in (term t) lo hi i = spot_term_in t lo hi i
  spot_in (up e) lo hi i = spot_in e lo hi i
  spot_in (dyadic a o k b) lo hi i = front_in (dyadic a o k b) lo hi i

  pub spot_term_in : (t : Term) (lo hi : ℕ) → InTerm lo t hi → Span lo hi (spot_term t)
  spot_term_in (monadic o k t) lo hi i = front_term_in (monadic o k t) lo hi i
  spot_term_in (primary p) lo hi i = spot_primary_in p lo hi i

  pub spot_primary_in : (p : Primary) (lo hi : ℕ) → InPrimary lo p hi → Span lo hi (spot_primary p)
  spot_primary_in (paren k e) lo hi i = let f = spot_in e (k + 1) hi i.1 in (omega arith, omega arith)
  spot_primary_in p lo hi i = front_primary_in p lo hi i

abbrev pub Right : {A : Type 0} → ℕ → ℕ → Rule A → Result A Refusal → Type 0
Right lo hi x r = Judged lo hi x.has x.wrong r

-- what is brought to a need
pub brought : (lo hi s : ℕ) (x : Form) (n : Need) (r : Result Thing Refusal) → Span lo hi s → Right lo hi x r → Judged lo hi (Gives x n) (Off x s n) (bring n s r)
brought lo hi s x n r i j = chain (Fits n) _ _ j (λ t h. lacking lo hi (Misfit s) i (fit_tells n t))

-- a name, and the construct that goes by it
named_right :
    {A B : Type 0} (Γ : Env) (n lo hi : ℕ) (P : Class → A → Type 0) (E : Wrongs) (pick : Class → Option A) (x : A → Rule B) (f : A → Result B Refusal)
    → ((c : Class) → Tells (P c) (pick c))
    → Span lo hi n
    → Within (n + 1) hi E
    → ((a : A) → Also E (x a).wrong)
    → ((a : A) → Right lo hi (x a) (f a))
    → Right lo hi (named Γ n P E x) (then (look Γ n pick) f)
named_right Γ n lo hi P E pick x f t s far inc g = alone _ _ E f (look_judged Γ n P pick lo (n + 1) t (s.0, omega arith)) (omega (arith, s.1)) far inc (λ a h. g a)

name_right : (Γ : Env) (n lo hi : ℕ) → Span lo hi n → Right lo hi (named Γ n Stands Never fixed) (look Γ n stands)
name_right Γ n lo hi s =
    like _ _ (λ t h. (t, h, refl)) (λ t h. subst (Called Γ n Stands) (sym h.2) h.1) (λ f w. inl w) back (look_judged Γ n Stands stands lo hi stands_tells s)
  where
    back : Also (named Γ n Stands Never fixed).wrong (Lacks (Called Γ n Stands) (WrongName n))
    back f (inl x) = x
    back f (inr (inl x)) = absurd x
    back f (inr (inr x)) = absurd x.2

subscripted_right : (lo mid hi s z : ℕ) (b e : Form) (r q : Result Thing Refusal) → Span lo mid s → Span mid hi z → Right lo mid b r → Right mid hi e q → Right lo hi (subscripted b s e z) (judge_subscript r s q z)
subscripted_right lo mid hi s z b e r q i k x y = two (λ m k. subscript m) (brought lo mid s b elements r i x) (brought mid hi z e (mode INT) q k y)

selected_right : (Γ : Env) (lo mid hi s c : ℕ) (b : Form) (r : Result Thing Refusal) → Span lo mid s → Span mid hi c → Right lo mid b r → Right lo hi (selected Γ b s c) (judge_select Γ r s c)
selected_right Γ lo mid hi s c b r i k x =
    chain _ _ _ (wider lo hi (omega arith) (omega arith) (brought lo mid s b components r i x))
    (λ m h. lacking lo hi (WrongName c) (omega arith, omega arith) (selects_tells Γ (referred_record m) c))

operated_right : {n : ℕ} (o : Dyadic n) (lo mid hi s z : ℕ) (a b : Form) (r q : Result Thing Refusal) → Span lo mid s → Span mid hi z → Right lo mid a r → Right mid hi b q → Right lo hi (operated o a s b z) (then (bring (operand o) s r) (λ m. then (bring (operand o) z q) (λ k. Ok (value (result o m k)))))
operated_right o lo mid hi s z a b r q i k x y = two (λ m k. value (result o m k)) (brought lo mid s a (operand o) r i x) (brought mid hi z b (operand o) q k y)

-- Calls.
abbrev pub Checks : ℕ → ℕ → Wrongs → Result (Unit {0}) Refusal → Type 0
Checks lo hi W r = Judged lo hi (Clean W) W r

pub passed_right : (lo hi s : ℕ) (x : Form) (r : Result Thing Refusal) (o : Option Mode) → Span lo hi s → Right lo hi x r → Checks lo hi (passed x s o) (pass r s o)
passed_right lo hi s x r None i j = plainly j
passed_right lo hi s x r (Some m) i j = plainly (brought lo hi s x (mode m) r i j)

yields_tells : (o : Option Mode) → Tells (Yields o) (yields o)
yields_tells None = none (λ t x. x)
yields_tells (Some m) = found refl (λ t x. x)

pub applied_right :
    {B : Type 0} (lo hi n k : ℕ) (W : List Mode → Wrongs) (f : List Mode → Result (Unit {0}) Refusal) (R : Option Mode → B → Type 0) (g : Option Mode → Option B) (s : Signature)
    → Span lo hi n
    → ((o : Option Mode) → Tells (R o) (g o))
    → ((ms : List Mode) → Checks lo hi (W ms) (f ms))
    → Right lo hi (applied n W k R s) (apply n f k g s)
applied_right lo hi n k W f R g s i t c = chain _ _ _ (c s.takes) (λ u h. lacking lo hi (Misfit n) i (tells_cond _ (Decides-eqb k (length s.takes)) (t s.gives)))

pub called_right :
    {B : Type 0} (Γ : Env) (lo hi n k : ℕ) (W : List Mode → Wrongs) (f : List Mode → Result (Unit {0}) Refusal) (R : Option Mode → B → Type 0) (g : Option Mode → Option B)
    → Span lo hi n
    → ((o : Option Mode) → Tells (R o) (g o))
    → ((ms : List Mode) → Also (W []) (W ms))
    → ((ms : List Mode) → Checks (n + 1) hi (W ms) (f ms))
    → Right lo hi (called Γ n W k R) (judge_call Γ n f k g)
called_right Γ lo hi n k W f R g i t inc c =
    named_right Γ n lo hi Runs (W []) runs _ _ runs_tells i (c []).within (λ s f w. inl (inc s.takes f w)) (λ s. applied_right lo hi n k W f R g s i t (λ ms. wider lo hi (omega (arith, i.0)) (omega arith) (c ms)))

-- what is wrong with no environment is wrong
passed_inner : (x : Form) (s : ℕ) (o : Option Mode) → Also x.wrong (passed x s o)
passed_inner x s None f w = w
passed_inner x s (Some m) f w = inl w

pub args_inner : (Γ : Env) (ms : List Mode) (es : Exprs) → Also (args Γ [] es) (args Γ ms es)
args_inner Γ ms (first e) f w = passed_inner (expr Γ e) (spot e) (slice_get ms 0) f w
args_inner Γ ms (comma es e) f (inl w) = inl (args_inner Γ ms es f w)
args_inner Γ ms (comma es e) f (inr w) = inr (passed_inner (expr Γ e) (spot e) (slice_get ms (count es)) f w)

calls_inner : (Γ : Env) (es : Exprs) (e : Expr 5) (ms : List Mode) → Also (Both (args Γ [] es) (expr Γ e).wrong) (Both (args Γ ms es) (passed (expr Γ e) (spot e) (slice_get ms (count es))))
calls_inner Γ es e ms f w = args_inner Γ ms (comma es e) f w

headed_inner : (n z : ℕ) (e : Form) (h : Head) → Also e.wrong (headed n e z h).wrong
headed_inner n z e (thing t) f w = inr (inl w)
headed_inner n z e (signature s) f w = inl (passed_inner e z (slice_get s.takes 0) f w)

headed_right : (lo hi n z : ℕ) (e : Form) (r : Result Thing Refusal) (h : Head) → lo ≤ n → Span (n + 1) hi z → Right (n + 1) hi e r → Right lo hi (headed n e z h) (judge_head n r z h)
headed_right lo hi n z e r (thing t) i k x = subscripted_right lo (n + 1) hi n z (fixed t) e (Ok t) r (i, omega arith) k (sure t (omega (arith, i))) x
headed_right lo hi n z e r (signature s) i k x =
    applied_right lo hi n 1 _ _ Yields yields s (i, omega arith) yields_tells (λ ms. wider lo hi (omega arith) (omega arith) (passed_right (n + 1) hi z e r (slice_get ms 0) k x))

bracketed_right :
    (Γ : Env) (v : Variable) (lo mid hi z : ℕ) (b e : Form) (r q : Result Thing Refusal)
    → InVariable lo v mid → Span mid hi z → Right lo mid b r → Right mid hi e q
    → Right lo hi (bracketed Γ v b e z) (judge_bracketed Γ v r q z)
bracketed_right Γ (name n) lo mid hi z b e r q i k x y =
    named_right Γ n lo hi Heads e.wrong heads _ _ heads_tells (i.0, omega arith) (λ f v. let s = y.within f v in (omega (arith, i.1), s.1)) (headed_inner n z e) (λ h. headed_right lo hi n z e q h i.0 (omega arith, k.1) (wider (n + 1) hi (omega arith) (omega arith) y))
bracketed_right Γ (element v j d) lo mid hi z b e r q i k x y = subscripted_right lo mid hi _ z b e r q (front_variable_in (element v j d) lo mid i) k x y
bracketed_right Γ (component v c) lo mid hi z b e r q i k x y = subscripted_right lo mid hi _ z b e r q (front_variable_in (component v c) lo mid i) k x y

mutual
  pub expr_right : {n : ℕ} (Γ : Env) (e : Expr n) (lo hi : ℕ) → In lo e hi → Right lo hi (expr Γ e) (judge Γ e)
  expr_right Γ (term t) lo hi i = term_right Γ t lo hi i
  expr_right Γ (up e) lo hi i = expr_right Γ e lo hi i
  expr_right Γ (dyadic a o k b) lo hi i =
      operated_right o lo i.0 hi (spot a) (spot b) (expr Γ a) (expr Γ b) (judge Γ a) (judge Γ b) (spot_in a lo i.0 i.1) (spot_in b i.0 hi i.2) (expr_right Γ a lo i.0 i.1) (expr_right Γ b i.0 hi i.2)

  pub term_right : (Γ : Env) (t : Term) (lo hi : ℕ) → InTerm lo t hi → Right lo hi (a_term Γ t) (judge_term Γ t)
  term_right Γ (monadic o k t) lo hi i =
      let s = spot_term_in t (k + 1) hi i.1 in
      turn (λ m. value (outcome o)) (wider lo hi (omega arith) (omega arith) (brought (k + 1) hi (spot_term t) (a_term Γ t) (argument o) (judge_term Γ t) s (term_right Γ t (k + 1) hi i.1)))
  term_right Γ (primary p) lo hi i = primary_right Γ p lo hi i

  pub primary_right : (Γ : Env) (p : Primary) (lo hi : ℕ) → InPrimary lo p hi → Right lo hi (a_primary Γ p) (judge_primary Γ p)
  primary_right Γ (integer k) lo hi i = sure (figure (Γ.text.value k)) (omega (arith, i.0, i.1))
  primary_right Γ (text k) lo hi i = sure string_thing (omega (arith, i.0, i.1))
  primary_right Γ (variable v) lo hi i = use_right Γ v lo hi i
  primary_right Γ (call n k) lo hi i = called_right Γ lo hi n 0 _ _ Yields yields i yields_tells (λ ms f v. v) (λ ms. nothing (omega (arith, i.1)))
  primary_right Γ (call_on n k es e) lo hi i =
      let m = i.1.0 in
      let g = spot_in e m hi i.1.2 in
      called_right Γ lo hi n (suc (count es)) _ _ Yields yields (front_primary_in (call_on n k es e) lo hi i) yields_tells (calls_inner Γ es e)
      (λ ms. next (args_right Γ ms es (n + 1) m i.1.1) (passed_right m hi (spot e) (expr Γ e) (judge Γ e) (slice_get ms (count es)) g (expr_right Γ e m hi i.1.2)))
  primary_right Γ (paren k e) lo hi i = wider lo hi (omega (arith, i.0)) (omega arith) (expr_right Γ e (k + 1) hi i.1)

  pub use_right : (Γ : Env) (v : Variable) (lo hi : ℕ) → InVariable lo v hi → Right lo hi (a_use Γ v) (judge_use Γ v)
  use_right Γ (name n) lo hi i = name_right Γ n lo hi i
  use_right Γ (element v k e) lo hi i =
      bracketed_right Γ v lo i.0 hi (spot e) (a_variable Γ v) (expr Γ e) (judge_variable Γ v) (judge Γ e) i.1 (spot_in e i.0 hi i.2) (variable_right Γ v lo i.0 i.1) (expr_right Γ e i.0 hi i.2)
  use_right Γ (component v c) lo hi i = selected_right Γ lo i.0 hi (front_variable v) c (a_variable Γ v) (judge_variable Γ v) (front_variable_in v lo i.0 i.1) i.2 (variable_right Γ v lo i.0 i.1)

  pub variable_right : (Γ : Env) (v : Variable) (lo hi : ℕ) → InVariable lo v hi → Right lo hi (a_variable Γ v) (judge_variable Γ v)
  variable_right Γ (name n) lo hi i = name_right Γ n lo hi i
  variable_right Γ (element v k e) lo hi i =
      subscripted_right lo i.0 hi (front_variable v) (spot e) (a_variable Γ v) (expr Γ e) (judge_variable Γ v) (judge Γ e) (front_variable_in v lo i.0 i.1) (spot_in e i.0 hi i.2) (variable_right Γ v lo i.0 i.1) (expr_right Γ e i.0 hi i.2)
  variable_right Γ (component v c) lo hi i = selected_right Γ lo i.0 hi (front_variable v) c (a_variable Γ v) (judge_variable Γ v) (front_variable_in v lo i.0 i.1) i.2 (variable_right Γ v lo i.0 i.1)

  pub args_right : (Γ : Env) (ms : List Mode) (es : Exprs) (lo hi : ℕ) → InExprs lo es hi → Checks lo hi (args Γ ms es) (judge_args Γ ms es)
  args_right Γ ms (first e) lo hi i = passed_right lo hi (spot e) (expr Γ e) (judge Γ e) (slice_get ms 0) (spot_in e lo hi i) (expr_right Γ e lo hi i)
  args_right Γ ms (comma es e) lo hi i =
      let m = i.0 in
      let g = spot_in e m hi i.2 in
      next (args_right Γ ms es lo m i.1) (passed_right m hi (spot e) (expr Γ e) (judge Γ e) (slice_get ms (count es)) g (expr_right Γ e m hi i.2))

-- Comparisons and conditions.
agree_decides : (o : Comparator) (m k : Mode) → Decides (agree o m k) (Agree o m k)
agree_decides same_place m k = same_mode_decides m k
agree_decides other_place m k = same_mode_decides m k
agree_decides _ m k = yes tt

then_pair : {A B C : Type 0} (r : Result A Refusal) (s : Result B Refusal) (h : A → B → Result C Refusal) → then {A = A × B} (then r (λ a. then s (λ b. Ok (a, b)))) (λ x. h x.0 x.1) ≡ then r (λ a. then s (λ b. h a b))
then_pair (Ok a) (Ok b) h = refl
then_pair (Ok a) (Err f) h = refl
then_pair (Err f) s h = refl

pub comparison_right : (Γ : Env) (c : Comparison) (lo hi : ℕ) → InComparison lo c hi → Checks lo hi (comparison Γ c) (judge_comparison Γ c)
comparison_right Γ (compare a o b) lo hi i =
    let s = spot_in a lo i.0 i.1 in
    let z = spot_in b i.0 hi i.2 in
    let f = front_in a lo i.0 i.1 in
    let n = compared o in
    let both = two {C = Mode × Mode} (λ m k. (m, k)) (brought lo i.0 (spot a) (expr Γ a) n (judge Γ a) s (expr_right Γ a lo i.0 i.1)) (brought i.0 hi (spot b) (expr Γ b) n (judge Γ b) z (expr_right Γ b i.0 hi i.2)) in
    subst (Checks lo hi (comparison Γ (compare a o b))) (then_pair (bring n (spot a) (judge Γ a)) (bring n (spot b) (judge Γ b)) (λ m k. check (agree o m k) (Misfit (front a))))
    (cleaned
    (chain (λ mk u. Agree o mk.0 mk.1) _ (λ mk. check (agree o mk.0 mk.1) (Misfit (front a)))
    (like (Operands (expr Γ a) (expr Γ b) n) _ (λ mk h. (rw h.4 h.1, rw h.4 h.3)) (λ mk h. (mk.0, h.0, mk.1, h.1, refl)) (λ f w. w) (λ f w. w) both)
    (λ mk h. lacking lo hi (Misfit (front a)) (f.0, omega arith) (tells_unit _ (agree_decides o mk.0 mk.1)))))

pub many_le : {A : Type 0} (I : ℕ → A → ℕ → Type 0) → ((a : A) (lo hi : ℕ) → I lo a hi → lo ≤ hi) → (m : Many A) (lo hi : ℕ) → InMany I lo m hi → lo ≤ hi
many_le I le (one a) lo hi i = le a lo hi i
many_le I le (more m a) lo hi i =
    let f = many_le I le m lo i.0 i.1 in
    let g = le a i.0 hi i.2 in
    omega arith

pub each_right :
    {A : Type 0} (W : A → Wrongs) (f : A → Result (Unit {0}) Refusal) (I : ℕ → A → ℕ → Type 0)
    → ((a : A) (lo hi : ℕ) → I lo a hi → Checks lo hi (W a) (f a))
    → (m : Many A) (lo hi : ℕ) → InMany I lo m hi → Checks lo hi (each W m) (judge_each f m)
each_right W f I g (one a) lo hi i = g a lo hi i
each_right W f I g (more m a) lo hi i = next (each_right W f I g m lo i.0 i.1) (g a i.0 hi i.2)

pub condition_right : (Γ : Env) (c : Condition) (lo hi : ℕ) → InCondition lo c hi → Checks lo hi (condition Γ c) (judge_condition Γ c)
condition_right Γ c lo hi i = each_right _ _ _ (each_right _ _ _ (comparison_right Γ)) c lo hi i
