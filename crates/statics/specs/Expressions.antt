-- The rules of expressions and conditions: what a form stands for, and what is wrong with it. Assumes nothing.
use Rattle.std.specs.Prelude.{◌≡◌, ℕ, suc, Bool, true, false, cond, ◌&&◌, List, [], length, Some, None, Option, slice_get, nat_lt}
use Rattle.statics.specs.declared.Refusal.TheVariants.{WrongName, Misfit}
use Rattle.grammar.specs.Trees.{Dyadic, land, lor, nev, Monadic, narrow, size, Expr, term, up, dyadic, Term, monadic, primary, Primary, integer, text, variable, call, call_on, paren, Variable, name, element, component, Exprs, first, comma, Comparator, equal, unequal, same_place, other_place, Comparison, compare, Condition, Many, one, more}
use Rattle.statics.specs.Modes.{int, byte, Mode, plain, ref_array, simple, INT, BYTE, Thing, value, Need, mode, number, reference, elements, components, Fits, subscript, referred_record}
use Rattle.statics.specs.Laws.{Wrongs, Never, Both, Under, Lacks, Clean, Pair}
use Rattle.statics.specs.Scopes.{Env, Class, Signature, Head, thing, signature, Called, Stands, Runs, Heads, Selects}
use Rattle.statics.specs.Fronts.{front, spot, spot_term, front_variable}

-- the rule of a construct: what it is if all of it is right, and what is wrong with it
pub record Rule (A : Type 0) : Type 1 where
  pub has : A → Type 0
  pub wrong : Wrongs

-- a form stands for something
abbrev pub Form : Type 1
Form = Rule Thing

-- The form, brought to what is needed, gives a mode; or something of it is wrong, or it is itself a misfit, at s.
abbrev pub Gives : Form → Need → Mode → Type 0
Gives x n = Pair x.has (Fits n)

abbrev pub Off : Form → ℕ → Need → Wrongs
Off x s n = Both x.wrong (Under x.has (λ t. Lacks (Fits n t) (Misfit s)))

-- what stands for t
abbrev pub fixed : Thing → Form
fixed t = record { has = λ u. u ≡ t; wrong = Never }

-- A name at n, which must be of a class of which P says something; the construct goes by that. E are the wrongs of what stands in its brackets,
-- with no environment.
abbrev pub named : {A B : Type 0} → Env → ℕ → (Class → A → Type 0) → Wrongs → (A → Rule B) → Rule B
named Γ n P E x = record {
  has = Pair (Called Γ n P) (λ a. (x a).has);
  wrong = Both (Lacks (Called Γ n P) (WrongName n)) (Both E (Under (Called Γ n P) (λ a. (x a).wrong)));
}

-- a base with a subscript
abbrev pub subscripted : Form → ℕ → Form → ℕ → Form
subscripted b s e z = record {
  has = λ t. (m : Mode) × Gives b elements m × (k : Mode) × Gives e (mode INT) k × (t ≡ subscript m);
  wrong = Both (Off b s elements) (Off e z (mode INT));
}

-- a base with the component at c
abbrev pub selected : Env → Form → ℕ → ℕ → Form
selected Γ b s c = record {
  has = Pair (Gives b components) (λ m. Selects Γ (referred_record m) c);
  wrong = Both (Off b s components) (Under (Gives b components) (λ m. Lacks (Selects Γ (referred_record m) c) (WrongName c)));
}

-- INT for arithmetic; INT or BYTE for the logical operators, which give BYTE on two BYTEs
abbrev pub operand : {n : ℕ} → Dyadic n → Need
operand land = number
operand lor = number
operand nev = number
operand _ = mode INT

abbrev pub is_byte : Mode → Bool
is_byte (plain byte) = true
is_byte _ = false

abbrev pub result : {n : ℕ} → Dyadic n → Mode → Mode → Mode
result land m k = cond (is_byte m && is_byte k) BYTE INT
result lor m k = cond (is_byte m && is_byte k) BYTE INT
result nev m k = cond (is_byte m && is_byte k) BYTE INT
result _ m k = INT

abbrev pub operated : {n : ℕ} → Dyadic n → Form → ℕ → Form → ℕ → Form
operated o a s b z = record {
  has = λ t. (m : Mode) × Gives a (operand o) m × (k : Mode) × Gives b (operand o) k × (t ≡ value (result o m k));
  wrong = Both (Off a s (operand o)) (Off b z (operand o));
}

-- LENGTH takes an array or a reference to one, the others INT; BYTE gives BYTE, the others INT
abbrev pub argument : Monadic → Need
argument size = elements
argument _ = mode INT

abbrev pub outcome : Monadic → Mode
outcome narrow = BYTE
outcome _ = INT

abbrev pub altered : Monadic → Form → ℕ → Form
altered o a s = record {
  has = λ t. (m : Mode) × Gives a (argument o) m × (t ≡ value (outcome o));
  wrong = Off a s (argument o);
}

-- The expressions of a call: one that has a parameter is brought to its mode, a further one to nothing.
abbrev pub passed : Form → ℕ → Option Mode → Wrongs
passed x s None = x.wrong
passed x s (Some m) = Off x s (mode m)

-- A call of what has the signature, at n: W are the wrongs of its k expressions. As a whole it is right where k is the number of parameters and R
-- holds of what the procedure gives.
abbrev pub Suits : {B : Type 0} → Signature → ℕ → (Option Mode → B → Type 0) → B → Type 0
Suits s k R t = (k ≡ length s.takes) × R s.gives t

abbrev pub applied : {B : Type 0} → ℕ → (List Mode → Wrongs) → ℕ → (Option Mode → B → Type 0) → Signature → Rule B
applied n W k R s = record {
  has = Pair (Clean (W s.takes)) (λ u. Suits s k R);
  wrong = Both (W s.takes) (Under (Clean (W s.takes)) (λ u. Lacks (Suits s k R) (Misfit n)));
}

-- in an expression a call has a result
abbrev pub Yields : Option Mode → Thing → Type 0
Yields None t = ⊥
Yields (Some m) t = t ≡ value m

abbrev pub called : {B : Type 0} → Env → ℕ → (List Mode → Wrongs) → ℕ → (Option Mode → B → Type 0) → Rule B
called Γ n W k R = named Γ n Runs (W []) (applied n W k R)

-- A name with one expression in brackets: an element or a call, by what the name is.
abbrev pub headed : ℕ → Form → ℕ → Head → Form
headed n e z (thing t) = subscripted (fixed t) n e z
headed n e z (signature s) = applied n (λ ms. passed e z (slice_get ms 0)) 1 Yields s

abbrev pub bracketed : Env → Variable → Form → Form → ℕ → Form
bracketed Γ (name n) b e z = named Γ n Heads e.wrong (headed n e z)
bracketed Γ (element v i d) b e z = subscripted b (front_variable v) e z
bracketed Γ (component v c) b e z = subscripted b (front_variable v) e z

abbrev pub count : Exprs → ℕ
count (first e) = 1
count (comma es e) = suc (count es)

-- an integer up to 255 is a BYTE
abbrev pub figure : ℕ → Thing
figure v = value (plain (cond (nat_lt v 256) byte int))

abbrev pub string_thing : Thing
string_thing = value (ref_array (simple BYTE))

abbrev mutual
  pub expr : {n : ℕ} → Env → Expr n → Form
  expr Γ (term t) = a_term Γ t
  expr Γ (up e) = expr Γ e
  expr Γ (dyadic a o i b) = operated o (expr Γ a) (spot a) (expr Γ b) (spot b)

  pub a_term : Env → Term → Form
  a_term Γ (monadic o i t) = altered o (a_term Γ t) (spot_term t)
  a_term Γ (primary p) = a_primary Γ p

  -- brackets change nothing
  pub a_primary : Env → Primary → Form
  a_primary Γ (integer i) = fixed (figure (Γ.text.value i))
  a_primary Γ (text i) = fixed string_thing
  a_primary Γ (variable v) = a_use Γ v
  a_primary Γ (call n i) = called Γ n (λ ms. Never) 0 Yields
  a_primary Γ (call_on n i es e) = called Γ n (λ ms. Both (args Γ ms es) (passed (expr Γ e) (spot e) (slice_get ms (count es)))) (suc (count es)) Yields
  a_primary Γ (paren i e) = expr Γ e

  -- a variable, or a call with one expression
  pub a_use : Env → Variable → Form
  a_use Γ (name n) = named Γ n Stands Never fixed
  a_use Γ (element v i e) = bracketed Γ v (a_variable Γ v) (expr Γ e) (spot e)
  a_use Γ (component v c) = selected Γ (a_variable Γ v) (front_variable v) c

  pub a_variable : Env → Variable → Form
  a_variable Γ (name n) = named Γ n Stands Never fixed
  a_variable Γ (element v i e) = subscripted (a_variable Γ v) (front_variable v) (expr Γ e) (spot e)
  a_variable Γ (component v c) = selected Γ (a_variable Γ v) (front_variable v) c

  pub args : Env → List Mode → Exprs → Wrongs
  args Γ ms (first e) = passed (expr Γ e) (spot e) (slice_get ms 0)
  args Γ ms (comma es e) = Both (args Γ ms es) (passed (expr Γ e) (spot e) (slice_get ms (count es)))

-- Comparisons: of INTs, of two BYTEs or else INTs, or of references of one mode.
abbrev pub compared : Comparator → Need
compared equal = number
compared unequal = number
compared same_place = reference
compared other_place = reference
compared _ = mode INT

abbrev pub Agree : Comparator → Mode → Mode → Type 0
Agree same_place m k = m ≡ k
Agree other_place m k = m ≡ k
Agree _ m k = Unit {0}

abbrev pub Operands : Form → Form → Need → Mode × Mode → Type 0
Operands a b n mk = Gives a n mk.0 × Gives b n mk.1

abbrev pub comparison : Env → Comparison → Wrongs
comparison Γ (compare a o b) =
    Both (Both (Off (expr Γ a) (spot a) (compared o)) (Off (expr Γ b) (spot b) (compared o)))
    (Under (Operands (expr Γ a) (expr Γ b) (compared o)) (λ mk. Lacks (λ (u : Unit {0}). Agree o mk.0 mk.1) (Misfit (front a))))

-- the wrongs of each of many
abbrev pub each : {A : Type 0} → (A → Wrongs) → Many A → Wrongs
each W (one a) = W a
each W (more m a) = Both (each W m) (W a)

abbrev pub condition : Env → Condition → Wrongs
condition Γ c = each (each (comparison Γ)) c
