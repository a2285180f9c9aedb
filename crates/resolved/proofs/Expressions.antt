-- Expressions and conditions are resolved where they are judged right, construct by construct. Assumes nothing.
use Rattle.std.proofs.Common.{ℕ, suc, List, Some, None, slice_get, Ok, Err, Option, Result, ok_or, option_map, option_and_then}
use Rattle.statics.specs.declared.Refusal.{Refusal}
use Rattle.statics.specs.declared.Refusal.TheVariants.{WrongName, Misfit}
use Rattle.grammar.specs.Trees.{Expr, term, up, dyadic, Term, monadic, primary, Primary, integer, text, variable, call, call_on, paren, Variable, name, element, component, Exprs, first, comma, Comparison, compare, Condition, Many, one, more}
use Rattle.statics.specs.Modes.{Mode, INT, Thing, Need, mode, elements, components, referred_record}
use Rattle.statics.specs.Scopes.{Env, Class, Signature, Head, thing, signature, class_at}
use Rattle.statics.specs.Fronts.{front, spot, spot_term, front_variable}
use Rattle.statics.specs.Expressions.{operand, argument, count, compared}
use Rattle.statics.specs.JudgeExpressions.{then, check, done, bring, look, fit, called_at, stands, runs, heads, yields, agree, pass, apply, judge_call, judge_head, judge_bracketed, judge_subscript, judge_select, judge, judge_term, judge_primary, judge_use, judge_variable, judge_args, judge_comparison, judge_each, judge_condition}
use Rattle.resolved.specs.Forms.{Callee, Form, Forms, Test}
use Rattle.resolved.specs.Forms as form
use Rattle.resolved.specs.Grounds.{Ground, home_at}
use Rattle.resolved.specs.Reads.{brought_form}
use Rattle.resolved.specs.ResolveExpressions.{Known, with, bring_form, bring_as, beside_mode, find, resolve_name, resolve_subscript, component_called, selected_form, resolve_select, resolve_pass, add, resolve_apply, resolve_call, resolve_head, resolve_bracketed, resolve, resolve_term, resolve_primary, resolve_use, resolve_variable, resolve_args, resolve_comparison, resolve_each, resolve_condition}
use Rattle.resolved.proofs.Same.{Same, right, wrong, same_then, same_made, same_option, same_with}

-- an expression, and what has no value
abbrev pub Stands : Result Known Refusal → Result Thing Refusal → Type 0
Stands r s = Same (λ t. t.0) r s

abbrev pub Alike : {A : Type 0} → Result A Refusal → Result (Unit {0}) Refusal → Type 0
Alike r s = Same (λ a. tt) r s

pub same_bring : (n : Need) (p : ℕ) {r : Result Known Refusal} {s : Result Thing Refusal} → Stands r s → Same (λ k. k.0) (bring_form n p r) (bring n p s)
same_bring n p h = same_then _ h (λ t. same_with (brought_form n t.0 t.1) (fit n t.0) (Misfit p))

pub same_as : (m : Mode) (p : ℕ) {r : Result Known Refusal} {s : Result Thing Refusal} → Stands r s → Alike (bring_as m p r) (then (bring (mode m) p s) done)
same_as m p h = same_then _ (same_bring (mode m) p h) (λ k. right)

pub same_find : {A : Type 0} (Γ : Env) (n : ℕ) (pick : Class → Option A) → Same (λ t. t.0) (find Γ n pick) (look Γ n pick)
same_find {A} Γ n pick = go (called_at Γ n)
  where
    go : (o : Option ℕ) → Same (λ t. t.0) (ok_or (option_and_then (λ i. option_map (with i) (pick (class_at Γ i))) o) (WrongName n)) (ok_or (option_and_then (λ i. pick (class_at Γ i)) o) (WrongName n))
    go None = wrong
    go (Some i) = same_with i (pick (class_at Γ i)) (WrongName n)

same_name : (G : Ground) (Γ : Env) (n : ℕ) → Stands (resolve_name G Γ n) (look Γ n stands)
same_name G Γ n = same_made _ (same_find Γ n stands)

same_subscript : (p i z : ℕ) {b e : Result Known Refusal} {c f : Result Thing Refusal} → Stands b c → Stands e f → Stands (resolve_subscript b p i e z) (judge_subscript c p f z)
same_subscript p i z h k = same_then _ (same_bring elements p h) (λ m. same_then _ (same_bring (mode INT) z k) (λ l. right))

same_select : (Γ : Env) (p c : ℕ) {b : Result Known Refusal} {d : Result Thing Refusal} → Stands b d → Stands (resolve_select Γ b p c) (judge_select Γ d p c)
same_select Γ p c h = same_then _ (same_bring components p h) (λ m. same_option (selected_form Γ m) (component_called Γ (referred_record m.0) c) (WrongName c))

same_pass : (p : ℕ) (o : Option Mode) {r : Result Known Refusal} {s : Result Thing Refusal} → Stands r s → Alike (resolve_pass r p o) (pass s p o)
same_pass p None h = same_then _ h (λ t. right)
same_pass p (Some m) h = same_as m p h

same_add : {r : Result Forms Refusal} {q : Result Form Refusal} {s p : Result (Unit {0}) Refusal} → Alike r s → Alike q p → Alike (add r q) (then s (λ u. p))
same_add h k = same_then _ h (λ xs. same_made _ k)

same_apply :
    {A F : Type 0} (n k : ℕ) (R : Option Mode → Option A) (make : Forms → F) (s : Signature) {W : List Mode → Result Forms Refusal} {V : List Mode → Result (Unit {0}) Refusal}
    → ((ms : List Mode) → Alike (W ms) (V ms))
    → Same (λ t. t.0) (resolve_apply n W k R make s) (apply n V k R s)
same_apply n k R make s h = same_then _ (h s.takes) (λ xs. same_with (make xs) _ (Misfit n))

pub same_call :
    {A F : Type 0} (G : Ground) (Γ : Env) (n k : ℕ) (R : Option Mode → Option A) (make : Callee → Forms → F) {W : List Mode → Result Forms Refusal} {V : List Mode → Result (Unit {0}) Refusal}
    → ((ms : List Mode) → Alike (W ms) (V ms))
    → Same (λ t. t.0) (resolve_call G Γ n W k R make) (judge_call Γ n V k R)
same_call G Γ n k R make h = same_then _ (same_find Γ n runs) (λ s. same_apply n k R (make (home_at G s.1).callee) s.0 h)

same_head : (G : Ground) (Γ : Env) (n i z k : ℕ) (h : Head) {e : Result Known Refusal} {f : Result Thing Refusal} → Stands e f → Stands (resolve_head G Γ n i e z k h) (judge_head n f z h)
same_head G Γ n i z k (thing t) s = same_subscript n i z right s
same_head G Γ n i z k (signature g) s = same_apply n 1 yields (form.call n (home_at G k).callee) g (λ ms. same_made (form.beside form.nothing) (same_pass z (slice_get ms 0) s))

same_bracketed : (G : Ground) (Γ : Env) (v : Variable) (i z : ℕ) {b e : Result Known Refusal} {c f : Result Thing Refusal} → Stands b c → Stands e f → Stands (resolve_bracketed G Γ v b i e z) (judge_bracketed Γ v c f z)
same_bracketed G Γ (name n) i z h k = same_then _ (same_find Γ n heads) (λ t. same_head G Γ n i z t.1 t.0 k)
same_bracketed G Γ (element v j d) i z h k = same_subscript (front_variable v) i z h k
same_bracketed G Γ (component v c) i z h k = same_subscript (front_variable v) i z h k

mutual
  pub same_expr : {n : ℕ} (G : Ground) (Γ : Env) (e : Expr n) → Stands (resolve G Γ e) (judge Γ e)
  same_expr G Γ (term t) = same_term G Γ t
  same_expr G Γ (up e) = same_expr G Γ e
  same_expr G Γ (dyadic a o i b) = same_then _ (same_bring (operand o) (spot a) (same_expr G Γ a)) (λ m. same_then _ (same_bring (operand o) (spot b) (same_expr G Γ b)) (λ k. right))

  same_term : (G : Ground) (Γ : Env) (t : Term) → Stands (resolve_term G Γ t) (judge_term Γ t)
  same_term G Γ (monadic o i t) = same_then _ (same_bring (argument o) (spot_term t) (same_term G Γ t)) (λ m. right)
  same_term G Γ (primary p) = same_primary G Γ p

  same_primary : (G : Ground) (Γ : Env) (p : Primary) → Stands (resolve_primary G Γ p) (judge_primary Γ p)
  same_primary G Γ (integer i) = right
  same_primary G Γ (text i) = right
  same_primary G Γ (variable v) = same_use G Γ v
  same_primary G Γ (call n i) = same_call G Γ n 0 yields (form.call n) (λ ms. right)
  same_primary G Γ (call_on n i es e) = same_call G Γ n (suc (count es)) yields (form.call n) (λ ms. same_add (same_args G Γ ms es) (same_pass (spot e) (slice_get ms (count es)) (same_expr G Γ e)))
  same_primary G Γ (paren i e) = same_expr G Γ e

  same_use : (G : Ground) (Γ : Env) (v : Variable) → Stands (resolve_use G Γ v) (judge_use Γ v)
  same_use G Γ (name n) = same_name G Γ n
  same_use G Γ (element v i e) = same_bracketed G Γ v i (spot e) (same_variable G Γ v) (same_expr G Γ e)
  same_use G Γ (component v c) = same_select Γ (front_variable v) c (same_variable G Γ v)

  pub same_variable : (G : Ground) (Γ : Env) (v : Variable) → Stands (resolve_variable G Γ v) (judge_variable Γ v)
  same_variable G Γ (name n) = same_name G Γ n
  same_variable G Γ (element v i e) = same_subscript (front_variable v) i (spot e) (same_variable G Γ v) (same_expr G Γ e)
  same_variable G Γ (component v c) = same_select Γ (front_variable v) c (same_variable G Γ v)

  pub same_args : (G : Ground) (Γ : Env) (ms : List Mode) (es : Exprs) → Alike (resolve_args G Γ ms es) (judge_args Γ ms es)
  same_args G Γ ms (first e) = same_made _ (same_pass (spot e) (slice_get ms 0) (same_expr G Γ e))
  same_args G Γ ms (comma es e) = same_add (same_args G Γ ms es) (same_pass (spot e) (slice_get ms (count es)) (same_expr G Γ e))

-- a test that is only passed or not
pub same_test : (r : Result (Unit {0}) Refusal) → Alike r r
same_test (Ok u) = right
same_test (Err e) = wrong

same_comparison : (G : Ground) (Γ : Env) (c : Comparison) → Alike (resolve_comparison G Γ c) (judge_comparison Γ c)
same_comparison G Γ (compare a o b) =
    same_then _ (same_bring (compared o) (spot a) (same_expr G Γ a))
    (λ m. same_then _ (same_bring (compared o) (spot b) (same_expr G Γ b)) (λ k. same_made (λ u. form.compare o (beside_mode m k.0) (beside_mode k m.0)) (same_test (check (agree o m.0 k.0) (Misfit (front a))))))

pub same_each : {A B : Type 0} {f : A → Result B Refusal} {g : A → Result (Unit {0}) Refusal} → ((a : A) → Alike (f a) (g a)) → (m : Many A) → Alike (resolve_each f m) (judge_each g m)
same_each h (one a) = same_made _ (h a)
same_each h (more m a) = same_then _ (same_each h m) (λ bs. same_made _ (h a))

pub same_condition : (G : Ground) (Γ : Env) (c : Condition) → Alike (resolve_condition G Γ c) (judge_condition Γ c)
same_condition G Γ c = same_each (same_each (same_comparison G Γ)) c
