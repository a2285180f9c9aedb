-- The judging of expressions and conditions as functions: the first wrong met from left to right. Theorems says that it is right.
use Rattle.std.specs.Prelude.{ℕ, zero, suc, Bool, true, false, cond, ◌&&◌, List, length, Some, None, Ok, Err, Option, Result, ok_or, option_map, option_and_then, ◌==◌, nat_lt, slice_get, slice_index_or}
use Rattle.std.specs.Bool.{then_some}
use Rattle.statics.specs.declared.Refusal.{Refusal}
use Rattle.statics.specs.declared.Refusal.TheVariants.{WrongName, Misfit}
use Rattle.grammar.specs.Trees.{Expr, term, up, dyadic, Term, monadic, primary, Primary, integer, text, variable, call, call_on, paren, Variable, name, element, component, Exprs, first, comma, Comparator, same_place, other_place, Comparison, compare, Condition, Many, one, more}
use Rattle.statics.specs.Modes.{Word, Plain, int, byte, Mode, plain, ref, ref_record, ref_array, Element, simple, records, INT, Thing, value, place, array, structure, Need, mode, number, reference, elements, components, scalar, pointed, subscript, referred_record}
use Rattle.statics.specs.Scopes.{Env, same_word, Class, record_mode, stored, local, routine, Signature, Head, thing, signature, nobody, class_at, component_at}
use Rattle.statics.specs.Fronts.{front, spot, spot_term, front_variable}
use Rattle.statics.specs.Expressions.{operand, result, argument, outcome, count, figure, string_thing, compared}

-- f of what is right
abbrev pub then : {A B : Type 0} → Result A Refusal → (A → Result B Refusal) → Result B Refusal
then (Ok a) f = f a
then (Err r) f = Err r

-- nothing, if the test passes, and else f
abbrev pub check : Bool → Refusal → Result (Unit {0}) Refusal
check b f = ok_or (then_some b tt) f

-- Equality of modes.
abbrev pub same_plain : Plain → Plain → Bool
same_plain int int = true
same_plain byte byte = true
same_plain _ _ = false

abbrev mutual
  pub same_mode : Mode → Mode → Bool
  same_mode (plain k) (plain l) = same_plain k l
  same_mode (ref k) (ref l) = same_plain k l
  same_mode (ref_record r) (ref_record s) = same_word r s
  same_mode (ref_array e) (ref_array f) = same_element e f
  same_mode _ _ = false

  pub same_element : Element → Element → Bool
  same_element (simple m) (simple k) = same_mode m k
  same_element (records r) (records s) = same_word r s
  same_element _ _ = false

-- the plain mode, and the REF mode, that something offers
abbrev pub plain_of : Mode → Option Plain
plain_of (plain k) = Some k
plain_of (ref k) = Some k
plain_of _ = None

abbrev pub number_of : Thing → Option Plain
number_of (value m) = plain_of m
number_of (place b m) = plain_of m
number_of _ = None

abbrev pub ref_of : Thing → Option Mode
ref_of (value (plain k)) = None
ref_of (value m) = Some m
ref_of (place b (plain k)) = then_some b (ref k)
ref_of (place b m) = Some m
ref_of (array e) = Some (ref_array e)
ref_of (structure r) = Some (ref_record r)

abbrev pub widens : Plain → Plain → Bool
widens int byte = false
widens _ _ = true

abbrev pub only_array : Mode → Option Mode
only_array (ref_array e) = Some (ref_array e)
only_array _ = None

abbrev pub only_record : Mode → Option Mode
only_record (ref_record r) = Some (ref_record r)
only_record _ = None

abbrev pub fit_ref : Mode → Thing → Option Mode
fit_ref m t = option_and_then (λ k. then_some (same_mode k m) m) (ref_of t)

abbrev pub fit_mode : Mode → Thing → Option Mode
fit_mode (plain l) t = option_and_then (λ k. then_some (widens k l) (plain l)) (number_of t)
fit_mode m t = fit_ref m t

abbrev pub pointed_at : Mode → Option Mode
pointed_at (ref k) = Some (plain k)
pointed_at _ = None

abbrev pub fit : Need → Thing → Option Mode
fit (mode m) t = fit_mode m t
fit number t = option_map plain (number_of t)
fit reference t = ref_of t
fit elements t = option_and_then only_array (ref_of t)
fit components t = option_and_then only_record (ref_of t)
fit scalar (place b m) = Some m
fit pointed (place b m) = pointed_at m
fit _ _ = None

-- what is right, brought to what is needed
abbrev pub bring : Need → ℕ → Result Thing Refusal → Result Mode Refusal
bring n p r = then r (λ t. ok_or (fit n t) (Misfit p))

-- the last below n that passes
abbrev pub seek : ℕ → (ℕ → Bool) → Option ℕ
seek zero t = None
seek (suc n) t = cond (t n) (Some n) (seek n t)

abbrev pub called_at : Env → ℕ → Option ℕ
called_at Γ n = option_and_then (λ i. then_some (nat_lt i Γ.ready) i) (seek (length Γ.names) (λ k. same_word (slice_index_or Γ.names k nobody).word (Γ.text.word n)))

-- the name at n, picked by its class
abbrev pub look : {A : Type 0} → Env → ℕ → (Class → Option A) → Result A Refusal
look Γ n pick = ok_or (option_and_then (λ i. pick (class_at Γ i)) (called_at Γ n)) (WrongName n)

abbrev pub stands : Class → Option Thing
stands (stored t) = Some t
stands (local m) = Some (place false m)
stands _ = None

abbrev pub keeps : Class → Option Thing
keeps (stored t) = Some t
keeps _ = None

abbrev pub runs : Class → Option Signature
runs (routine s) = Some s
runs _ = None

abbrev pub heads : Class → Option Head
heads (stored t) = Some (thing t)
heads (local m) = Some (thing (place false m))
heads (routine s) = Some (signature s)
heads _ = None

abbrev pub shapes : Class → Option (Unit {0})
shapes record_mode = Some tt
shapes _ = None

abbrev pub selects : Env → Word → ℕ → Option Thing
selects Γ r n = option_map (λ i. place true (component_at Γ i).mode) (seek (length Γ.parts) (λ k. same_word (component_at Γ k).owner r && same_word (component_at Γ k).word (Γ.text.word n)))

abbrev pub judge_subscript : Result Thing Refusal → ℕ → Result Thing Refusal → ℕ → Result Thing Refusal
judge_subscript b s e z = then (bring elements s b) (λ m. then (bring (mode INT) z e) (λ k. Ok (subscript m)))

abbrev pub judge_select : Env → Result Thing Refusal → ℕ → ℕ → Result Thing Refusal
judge_select Γ b s c = then (bring components s b) (λ m. ok_or (selects Γ (referred_record m) c) (WrongName c))

abbrev pub done : {A : Type 0} → A → Result (Unit {0}) Refusal
done a = Ok tt

abbrev pub pass : Result Thing Refusal → ℕ → Option Mode → Result (Unit {0}) Refusal
pass r s None = then r done
pass r s (Some m) = then (bring (mode m) s r) done

abbrev pub yields : Option Mode → Option Thing
yields None = None
yields (Some m) = Some (value m)

abbrev pub apply : {A : Type 0} → ℕ → (List Mode → Result (Unit {0}) Refusal) → ℕ → (Option Mode → Option A) → Signature → Result A Refusal
apply n W k R s = then (W s.takes) (λ u. ok_or (cond (k == length s.takes) (R s.gives) None) (Misfit n))

abbrev pub judge_call : {A : Type 0} → Env → ℕ → (List Mode → Result (Unit {0}) Refusal) → ℕ → (Option Mode → Option A) → Result A Refusal
judge_call Γ n W k R = then (look Γ n runs) (apply n W k R)

abbrev pub judge_head : ℕ → Result Thing Refusal → ℕ → Head → Result Thing Refusal
judge_head n e z (thing t) = judge_subscript (Ok t) n e z
judge_head n e z (signature s) = apply n (λ ms. pass e z (slice_get ms 0)) 1 yields s

abbrev pub judge_bracketed : Env → Variable → Result Thing Refusal → Result Thing Refusal → ℕ → Result Thing Refusal
judge_bracketed Γ (name n) b e z = then (look Γ n heads) (judge_head n e z)
judge_bracketed Γ (element v i d) b e z = judge_subscript b (front_variable v) e z
judge_bracketed Γ (component v c) b e z = judge_subscript b (front_variable v) e z

abbrev mutual
  pub judge : {n : ℕ} → Env → Expr n → Result Thing Refusal
  judge Γ (term t) = judge_term Γ t
  judge Γ (up e) = judge Γ e
  judge Γ (dyadic a o i b) = then (bring (operand o) (spot a) (judge Γ a)) (λ m. then (bring (operand o) (spot b) (judge Γ b)) (λ k. Ok (value (result o m k))))

  pub judge_term : Env → Term → Result Thing Refusal
  judge_term Γ (monadic o i t) = then (bring (argument o) (spot_term t) (judge_term Γ t)) (λ m. Ok (value (outcome o)))
  judge_term Γ (primary p) = judge_primary Γ p

  pub judge_primary : Env → Primary → Result Thing Refusal
  judge_primary Γ (integer i) = Ok (figure (Γ.text.value i))
  judge_primary Γ (text i) = Ok string_thing
  judge_primary Γ (variable v) = judge_use Γ v
  judge_primary Γ (call n i) = judge_call Γ n (λ ms. Ok tt) 0 yields
  judge_primary Γ (call_on n i es e) = judge_call Γ n (λ ms. then (judge_args Γ ms es) (λ u. pass (judge Γ e) (spot e) (slice_get ms (count es)))) (suc (count es)) yields
  judge_primary Γ (paren i e) = judge Γ e

  pub judge_use : Env → Variable → Result Thing Refusal
  judge_use Γ (name n) = look Γ n stands
  judge_use Γ (element v i e) = judge_bracketed Γ v (judge_variable Γ v) (judge Γ e) (spot e)
  judge_use Γ (component v c) = judge_select Γ (judge_variable Γ v) (front_variable v) c

  pub judge_variable : Env → Variable → Result Thing Refusal
  judge_variable Γ (name n) = look Γ n stands
  judge_variable Γ (element v i e) = judge_subscript (judge_variable Γ v) (front_variable v) (judge Γ e) (spot e)
  judge_variable Γ (component v c) = judge_select Γ (judge_variable Γ v) (front_variable v) c

  pub judge_args : Env → List Mode → Exprs → Result (Unit {0}) Refusal
  judge_args Γ ms (first e) = pass (judge Γ e) (spot e) (slice_get ms 0)
  judge_args Γ ms (comma es e) = then (judge_args Γ ms es) (λ u. pass (judge Γ e) (spot e) (slice_get ms (count es)))

abbrev pub agree : Comparator → Mode → Mode → Bool
agree same_place m k = same_mode m k
agree other_place m k = same_mode m k
agree _ m k = true

abbrev pub judge_comparison : Env → Comparison → Result (Unit {0}) Refusal
judge_comparison Γ (compare a o b) = then (bring (compared o) (spot a) (judge Γ a)) (λ m. then (bring (compared o) (spot b) (judge Γ b)) (λ k. check (agree o m k) (Misfit (front a))))

abbrev pub judge_each : {A : Type 0} → (A → Result (Unit {0}) Refusal) → Many A → Result (Unit {0}) Refusal
judge_each f (one a) = f a
judge_each f (more m a) = then (judge_each f m) (λ u. f a)

abbrev pub judge_condition : Env → Condition → Result (Unit {0}) Refusal
judge_condition Γ c = judge_each (judge_each (judge_comparison Γ)) c
