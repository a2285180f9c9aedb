-- The resolving of expressions and conditions: the judging, which also gives the form. Theorems says that it is right.
use Rattle.std.specs.Prelude.{ℕ, suc, cond, not, ◌&&◌, List, length, take, true, Some, None, Ok, Option, Result, ok_or, option_map, option_and_then, ◌==◌, nat_lt, slice_get}
use Rattle.statics.specs.declared.Refusal.{Refusal}
use Rattle.statics.specs.declared.Refusal.TheVariants.{WrongName, Misfit}
use Rattle.grammar.specs.Trees.{Expr, term, up, dyadic, Term, monadic, primary, Primary, integer, text, variable, call, call_on, paren, Variable, name, element, component, Exprs, first, comma, Comparison, compare, Condition, Many, one, more}
use Rattle.statics.specs.Modes.{Word, int, byte, Mode, INT, Thing, value, place, Need, mode, elements, components, subscript, referred_record}
use Rattle.statics.specs.Scopes.{Env, same_word, Class, Signature, Head, thing, signature, class_at, component_at, record_modes}
use Rattle.statics.specs.Fronts.{front, spot, spot_term, front_variable}
use Rattle.statics.specs.Expressions.{is_byte, operand, result, argument, outcome, count, figure, string_thing, compared}
use Rattle.statics.specs.JudgeExpressions.{then, check, fit, seek, called_at, stands, runs, heads, yields, agree}
use Rattle.resolved.specs.Forms.{Callee, Form, Forms, Test, Tests}
use Rattle.resolved.specs.Forms as form
use Rattle.resolved.specs.Grounds.{Ground, home_at, variable_form}
use Rattle.resolved.specs.Reads.{brought_form}

-- what an expression stands for, and its form
abbrev pub Known : Type 0
Known = Thing × Form

abbrev pub with : {A B : Type 0} → B → A → A × B
with b a = (a, b)

-- what is right, brought to what is needed: the mode at hand, and the form
abbrev pub bring_form : Need → ℕ → Result Known Refusal → Result (Mode × Form) Refusal
bring_form n p r = then r (λ t. ok_or (option_map (with (brought_form n t.0 t.1)) (fit n t.0)) (Misfit p))

-- brought to a mode
abbrev pub bring_as : Mode → ℕ → Result Known Refusal → Result Form Refusal
bring_as m p r = then (bring_form (mode m) p r) (λ k. Ok k.1)

-- beside an operand of mode k: a BYTE beside an INT is widened
abbrev pub beside_mode : Mode × Form → Mode → Form
beside_mode m k = cond (is_byte m.0 && not (is_byte k)) (form.widened m.1) m.1

-- the name at n, picked by its class, and which of the names it is
abbrev pub find : {A : Type 0} → Env → ℕ → (Class → Option A) → Result (A × ℕ) Refusal
find Γ n pick = ok_or (option_and_then (λ i. option_map (with i) (pick (class_at Γ i))) (called_at Γ n)) (WrongName n)

abbrev pub resolve_name : Ground → Env → ℕ → Result Known Refusal
resolve_name G Γ n = then (find Γ n stands) (λ t. Ok (t.0, variable_form G t.1 (class_at Γ t.1)))

abbrev pub resolve_subscript : Result Known Refusal → ℕ → ℕ → Result Known Refusal → ℕ → Result Known Refusal
resolve_subscript b s i e z = then (bring_form elements s b) (λ m. then (bring_form (mode INT) z e) (λ k. Ok (subscript m.0, form.element m.1 i k.1)))

-- the component of the record mode r that has the name at n, among all components; and its number among those of r
abbrev pub component_called : Env → Word → ℕ → Option ℕ
component_called Γ r n = seek (length Γ.parts) (λ k. same_word (component_at Γ k).owner r && same_word (component_at Γ k).word (Γ.text.word n))

abbrev pub component_number : Env → Word → ℕ → ℕ
component_number Γ r k = length (record_modes (take k Γ.parts) r)

abbrev pub selected_form : Env → Mode × Form → ℕ → Known
selected_form Γ m k = (place true (component_at Γ k).mode, form.component m.1 (component_number Γ (referred_record m.0) k))

abbrev pub resolve_select : Env → Result Known Refusal → ℕ → ℕ → Result Known Refusal
resolve_select Γ b s c = then (bring_form components s b) (λ m. ok_or (option_map (selected_form Γ m) (component_called Γ (referred_record m.0) c)) (WrongName c))

-- what is handed over: one that has a parameter is brought to its mode
abbrev pub resolve_pass : Result Known Refusal → ℕ → Option Mode → Result Form Refusal
resolve_pass r s None = then r (λ t. Ok t.1)
resolve_pass r s (Some m) = bring_as m s r

abbrev pub add : Result Forms Refusal → Result Form Refusal → Result Forms Refusal
add r q = then r (λ xs. then q (λ x. Ok (form.beside xs x)))

-- a call of what has the signature; `make` makes it of what is handed over
abbrev pub resolve_apply : {A F : Type 0} → ℕ → (List Mode → Result Forms Refusal) → ℕ → (Option Mode → Option A) → (Forms → F) → Signature → Result (A × F) Refusal
resolve_apply n W k R make s = then (W s.takes) (λ xs. ok_or (option_map (with (make xs)) (cond (k == length s.takes) (R s.gives) None)) (Misfit n))

abbrev pub resolve_call : {A F : Type 0} → Ground → Env → ℕ → (List Mode → Result Forms Refusal) → ℕ → (Option Mode → Option A) → (Callee → Forms → F) → Result (A × F) Refusal
resolve_call G Γ n W k R make = then (find Γ n runs) (λ s. resolve_apply n W k R (make (home_at G s.1).callee) s.0)

abbrev pub resolve_head : Ground → Env → ℕ → ℕ → Result Known Refusal → ℕ → ℕ → Head → Result Known Refusal
resolve_head G Γ n i e z k (thing t) = resolve_subscript (Ok (t, variable_form G k (class_at Γ k))) n i e z
resolve_head G Γ n i e z k (signature s) = resolve_apply n (λ ms. add (Ok form.nothing) (resolve_pass e z (slice_get ms 0))) 1 yields (form.call n (home_at G k).callee) s

abbrev pub resolve_bracketed : Ground → Env → Variable → Result Known Refusal → ℕ → Result Known Refusal → ℕ → Result Known Refusal
resolve_bracketed G Γ (name n) b i e z = then (find Γ n heads) (λ h. resolve_head G Γ n i e z h.1 h.0)
resolve_bracketed G Γ (element v j d) b i e z = resolve_subscript b (front_variable v) i e z
resolve_bracketed G Γ (component v c) b i e z = resolve_subscript b (front_variable v) i e z

abbrev mutual
  pub resolve : {n : ℕ} → Ground → Env → Expr n → Result Known Refusal
  resolve G Γ (term t) = resolve_term G Γ t
  resolve G Γ (up e) = resolve G Γ e
  resolve G Γ (dyadic a o i b) = then (bring_form (operand o) (spot a) (resolve G Γ a)) (λ m. then (bring_form (operand o) (spot b) (resolve G Γ b)) (λ k. Ok (value (result o m.0 k.0), form.dyadic o i (beside_mode m k.0) (beside_mode k m.0))))

  pub resolve_term : Ground → Env → Term → Result Known Refusal
  resolve_term G Γ (monadic o i t) = then (bring_form (argument o) (spot_term t) (resolve_term G Γ t)) (λ m. Ok (value (outcome o), form.monadic o i m.1))
  resolve_term G Γ (primary p) = resolve_primary G Γ p

  pub resolve_primary : Ground → Env → Primary → Result Known Refusal
  resolve_primary G Γ (integer i) = let v = Γ.text.value i in Ok (figure v, form.figure (cond (nat_lt v 256) byte int) v)
  resolve_primary G Γ (text i) = Ok (string_thing, form.string i)
  resolve_primary G Γ (variable v) = resolve_use G Γ v
  resolve_primary G Γ (call n i) = resolve_call G Γ n (λ ms. Ok form.nothing) 0 yields (form.call n)
  resolve_primary G Γ (call_on n i es e) = resolve_call G Γ n (λ ms. add (resolve_args G Γ ms es) (resolve_pass (resolve G Γ e) (spot e) (slice_get ms (count es)))) (suc (count es)) yields (form.call n)
  resolve_primary G Γ (paren i e) = resolve G Γ e

  pub resolve_use : Ground → Env → Variable → Result Known Refusal
  resolve_use G Γ (name n) = resolve_name G Γ n
  resolve_use G Γ (element v i e) = resolve_bracketed G Γ v (resolve_variable G Γ v) i (resolve G Γ e) (spot e)
  resolve_use G Γ (component v c) = resolve_select Γ (resolve_variable G Γ v) (front_variable v) c

  pub resolve_variable : Ground → Env → Variable → Result Known Refusal
  resolve_variable G Γ (name n) = resolve_name G Γ n
  resolve_variable G Γ (element v i e) = resolve_subscript (resolve_variable G Γ v) (front_variable v) i (resolve G Γ e) (spot e)
  resolve_variable G Γ (component v c) = resolve_select Γ (resolve_variable G Γ v) (front_variable v) c

  pub resolve_args : Ground → Env → List Mode → Exprs → Result Forms Refusal
  resolve_args G Γ ms (first e) = add (Ok form.nothing) (resolve_pass (resolve G Γ e) (spot e) (slice_get ms 0))
  resolve_args G Γ ms (comma es e) = add (resolve_args G Γ ms es) (resolve_pass (resolve G Γ e) (spot e) (slice_get ms (count es)))

-- Conditions.
abbrev pub resolve_comparison : Ground → Env → Comparison → Result Test Refusal
resolve_comparison G Γ (compare a o b) =
    then (bring_form (compared o) (spot a) (resolve G Γ a))
    (λ m. then (bring_form (compared o) (spot b) (resolve G Γ b)) (λ k. then (check (agree o m.0 k.0) (Misfit (front a))) (λ u. Ok (form.compare o (beside_mode m k.0) (beside_mode k m.0)))))

abbrev pub resolve_each : {A B : Type 0} → (A → Result B Refusal) → Many A → Result (Many B) Refusal
resolve_each f (one a) = then (f a) (λ b. Ok (one b))
resolve_each f (more m a) = then (resolve_each f m) (λ bs. then (f a) (λ b. Ok (more bs b)))

abbrev pub resolve_condition : Ground → Env → Condition → Result Tests Refusal
resolve_condition G Γ c = resolve_each (resolve_each (resolve_comparison G Γ)) c
