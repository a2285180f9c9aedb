-- What an expression names is known: P holds of each thing that it names. Assumes nothing.
use Rattle.std.proofs.Common.{◌≡◌, ℕ, zero, suc, ◌+◌, ◌<◌, ◌≤◌, Bool, true, false, cond, List, ◌++◌, length, Some, None, slice_get, Option, Result, ok_or, option_map, option_and_then, nat_lt, refl, inl, inr, subst, arith}
use Rattle.std.specs.Prelude.{All}
use Rattle.std.specs.Bool.{then_some}
use Rattle.std.proofs.lemmas.Bool.{cases_lt}
use Rattle.statics.specs.declared.Refusal.{Refusal}
use Rattle.statics.specs.declared.Refusal.TheVariants.{WrongName, Misfit}
use Rattle.grammar.specs.Trees.{Expr, term, up, dyadic, Term, monadic, primary, Primary, integer, text, variable, call, call_on, paren, Variable, name, element, component, Exprs, first, comma, Comparison, compare, Condition, Many, one, more}
use Rattle.statics.specs.Modes.{Mode, INT, Thing, Need, mode, elements, components, referred_record}
use Rattle.statics.specs.Scopes.{Env, Class, stored, local, routine, Signature, Head, thing, signature, class_at}
use Rattle.statics.specs.Fronts.{spot, spot_term, front, front_variable}
use Rattle.statics.specs.Expressions.{operand, argument, compared, count}
use Rattle.statics.specs.Written.{gather}
use Rattle.statics.specs.Space.{expr_strings, term_strings, primary_strings, variable_strings, exprs_strings, comparison_strings, condition_strings}
use Rattle.statics.specs.JudgeExpressions.{fit, number_of, agree, seek, called_at, stands, runs, heads, yields}
use Rattle.resolved.specs.Forms.{Callee, Form, Forms, Test}
use Rattle.resolved.specs.Forms as form
use Rattle.resolved.specs.Grounds.{Home, Ground, home_at, variable_form}
use Rattle.resolved.specs.Grounds as grounds
use Rattle.resolved.specs.Reads.{widens_for, reads, read_times, brought_form}
use Rattle.resolved.specs.ResolveExpressions.{Known, with, bring_form, bring_as, beside_mode, find, resolve_name, resolve_subscript, component_called, selected_form, resolve_select, resolve_pass, add, resolve_apply, resolve_call, resolve_head, resolve_bracketed, resolve, resolve_term, resolve_primary, resolve_use, resolve_variable, resolve_args, resolve_comparison, resolve_each, resolve_condition}
use Rattle.resolved.specs.Parts.{Named, slot, datum, string}
use Rattle.resolved.specs.Naming.{InsideCallee, Inside, InsideForms, Every, InsideTest, InsideTests}
use Rattle.resolved.proofs.Holding.{Of, holds, refused, all_left, all_right, of_then, of_check}

-- What a name of the module means is known; and it is no local.
abbrev pub Outer : (Named → Type 0) → Home → Class → Type 0
Outer P h (local m) = ⊥
Outer P h (stored t) = P (datum h.item)
Outer P h (routine s) = InsideCallee P h.callee
Outer P h _ = Unit {0}

abbrev pub IsLocal : Class → Type 0
IsLocal (local m) = Unit {0}
IsLocal _ = ⊥

-- Where the names of the module end and the locals begin, with k slots, each of which is known.
pub record Room (P : Named → Type 0) (G : Ground) (k : ℕ) (Γ : Env) : Type 0 where
  pub below : length G ≤ length Γ.names
  pub used : length G ≤ Γ.ready
  pub enough : length Γ.names ≤ length G + k
  pub outer : (i : ℕ) → i < length G → Outer P (home_at G i) (class_at Γ i)
  pub inner : (i : ℕ) → length G ≤ i → i < length Γ.names → IsLocal (class_at Γ i)
  pub free : (s : ℕ) → s < k → P (slot s)

-- the strings are known
abbrev pub Strung : (Named → Type 0) → List ℕ → Type 0
Strung P ns = All (λ i. P (string i)) ns

pub strung_left : (P : Named → Type 0) (xs ys : List ℕ) → Strung P (xs ++ ys) → Strung P xs
strung_left P xs ys h = all_left (λ i. P (string i)) xs ys h

pub strung_right : (P : Named → Type 0) (xs ys : List ℕ) → Strung P (xs ++ ys) → Strung P ys
strung_right P xs ys h = all_right (λ i. P (string i)) xs ys h

-- What is found is in scope, and passes the test.
pub seek_found : (n : ℕ) (t : ℕ → Bool) (i : ℕ) → seek n t ≡ Some i → (i < n) × (t i ≡ true)
seek_found zero t i e = grind arith
seek_found (suc n) t i e = go (t n) refl (seek n t) (seek_found n t) e
  where
    go : (b : Bool) → t n ≡ b → (o : Option ℕ) → ((j : ℕ) → o ≡ Some j → (j < n) × (t j ≡ true)) → cond b (Some n) o ≡ Some i → (i < suc n) × (t i ≡ true)
    go true p o h q = let s : n ≡ i = grind arith in (omega arith, subst (λ j. t j ≡ true) s p)
    go false p o h q = let l = h i q in (let b = l.0 in omega arith, l.1)

called_below : (Γ : Env) (n i : ℕ) → called_at Γ n ≡ Some i → i < length Γ.names
called_below Γ n i e = go _ (λ j q. (seek_found (length Γ.names) _ j q).0) e
  where
    test : (b : Bool) (j : ℕ) → then_some b j ≡ Some i → j ≡ i
    test true j q = grind arith
    test false j q = grind arith

    go : (o : Option ℕ) → ((j : ℕ) → o ≡ Some j → j < length Γ.names) → option_and_then (λ j. then_some (nat_lt j Γ.ready) j) o ≡ Some i → i < length Γ.names
    go None h q = grind arith
    go (Some j) h q = let l = h j refl in let p = test (nat_lt j Γ.ready) j q in omega arith

abbrev pub Found : {A : Type 0} → Env → (Class → Option A) → A × ℕ → Type 0
Found Γ pick t = (t.1 < length Γ.names) × (pick (class_at Γ t.1) ≡ Some t.0)

pub find_found : {A : Type 0} (Γ : Env) (n : ℕ) (pick : Class → Option A) → Of (Found Γ pick) (find Γ n pick)
find_found {A} Γ n pick = go (called_at Γ n) (called_below Γ n)
  where
    picked : (i : ℕ) (p : Option A) → pick (class_at Γ i) ≡ p → i < length Γ.names → Of (Found Γ pick) (ok_or (option_map (with i) p) (WrongName n))
    picked i None e l = refused
    picked i (Some a) e l = holds (l, e)

    go : (o : Option ℕ) → ((i : ℕ) → o ≡ Some i → i < length Γ.names) → Of (Found Γ pick) (ok_or (option_and_then (λ i. option_map (with i) (pick (class_at Γ i))) o) (WrongName n))
    go None h = refused
    go (Some i) h = picked i (pick (class_at Γ i)) refl (h i refl)

-- What a name in scope means, is known.
abbrev Sound : (Named → Type 0) → Ground → ℕ → Class → Type 0
Sound P G i (stored t) = P (datum (home_at G i).item)
Sound P G i (local m) = P (slot (grounds.slot G i))
Sound P G i (routine s) = InsideCallee P (home_at G i).callee
Sound P G i _ = Unit {0}

name_sound : (P : Named → Type 0) (G : Ground) (k : ℕ) (Γ : Env) → Room P G k Γ → (i : ℕ) → i < length Γ.names → Sound P G i (class_at Γ i)
name_sound P G k Γ r i l = elim (cases_lt i (length G)) [ inl a ↦ near (class_at Γ i) (r.outer i a) | inr b ↦ far (class_at Γ i) (r.inner i b l) (let e = r.enough in omega arith) ]
  where
    near : (c : Class) → Outer P (home_at G i) c → Sound P G i c
    near (local m) h = absurd h
    near (stored t) h = h
    near (routine s) h = h
    near c h = tt

    far : (c : Class) → IsLocal c → grounds.slot G i < k → Sound P G i c
    far (local m) h q = r.free _ q
    far c h q = absurd h

variable_sound : (P : Named → Type 0) (G : Ground) (i : ℕ) (c : Class) (t : Thing) → heads c ≡ Some (thing t) → Sound P G i c → Inside P (variable_form G i c)
variable_sound P G i (stored u) t e h = h
variable_sound P G i (local m) t e h = h
variable_sound P G i c t e h = grind arith

stands_heads : (c : Class) (t : Thing) → stands c ≡ Some t → heads c ≡ Some (thing t)
stands_heads (stored u) t e = grind arith
stands_heads (local m) t e = grind arith
stands_heads c t e = grind arith

callee_sound : (P : Named → Type 0) (G : Ground) (i : ℕ) (c : Class) (s : Signature) → runs c ≡ Some s → Sound P G i c → InsideCallee P (home_at G i).callee
callee_sound P G i (routine u) s e h = h
callee_sound P G i c s e h = grind arith

head_runs : (c : Class) (s : Signature) → heads c ≡ Some (signature s) → runs c ≡ Some s
head_runs (routine u) s e = grind arith
head_runs c s e = grind arith

-- Bringing to a need.
read_inside : (P : Named → Type 0) (l : ℕ) (x : Form) → Inside P x → Inside P (read_times l x)
read_inside P zero x h = h
read_inside P (suc l) x h = read_inside P l x h

widened_inside : (P : Named → Type 0) (b : Bool) (x : Form) → Inside P x → Inside P (cond b (form.widened x) x)
widened_inside P true x h = h
widened_inside P false x h = h

brought_inside : (P : Named → Type 0) (n : Need) (t : Thing) (x : Form) → Inside P x → Inside P (brought_form n t x)
brought_inside P n t x h = widened_inside P (widens_for n (number_of t)) _ (read_inside P (reads n t) x h)

abbrev pub FormIn : {A : Type 0} → (Named → Type 0) → A × Form → Type 0
FormIn P t = Inside P t.1

of_made : {A B : Type 0} {P : B → Type 0} (g : A → B) (o : Option A) (e : Refusal) → ((a : A) → P (g a)) → Of P (ok_or (option_map g o) e)
of_made g None e h = refused
of_made g (Some a) e h = holds (h a)

pub bring_inside : (P : Named → Type 0) (n : Need) (p : ℕ) {r : Result Known Refusal} → Of (FormIn P) r → Of (FormIn P) (bring_form n p r)
bring_inside P n p h = of_then h (λ t q. of_made (with (brought_form n t.0 t.1)) (fit n t.0) (Misfit p) (λ m. brought_inside P n t.0 t.1 q))

pub as_inside : (P : Named → Type 0) (m : Mode) (p : ℕ) {r : Result Known Refusal} → Of (FormIn P) r → Of (Inside P) (bring_as m p r)
as_inside P m p h = of_then (bring_inside P (mode m) p h) (λ t q. holds q)

widened_beside : (P : Named → Type 0) (m : Mode × Form) (j : Mode) → Inside P m.1 → Inside P (beside_mode m j)
widened_beside P m j h = widened_inside P _ m.1 h

-- Expressions.
name_inside : (P : Named → Type 0) (G : Ground) (k : ℕ) (Γ : Env) → Room P G k Γ → (n : ℕ) → Of (FormIn P) (resolve_name G Γ n)
name_inside P G k Γ r n = of_then (find_found Γ n stands) (λ t f. holds (variable_sound P G t.1 (class_at Γ t.1) t.0 (stands_heads (class_at Γ t.1) t.0 f.1) (name_sound P G k Γ r t.1 f.0)))

subscript_inside : (P : Named → Type 0) (s i z : ℕ) {b e : Result Known Refusal} → Of (FormIn P) b → Of (FormIn P) e → Of (FormIn P) (resolve_subscript b s i e z)
subscript_inside P s i z h l = of_then (bring_inside P elements s h) (λ m p. of_then (bring_inside P (mode INT) z l) (λ n q. holds (p, q)))

select_inside : (Γ : Env) (P : Named → Type 0) (s c : ℕ) {b : Result Known Refusal} → Of (FormIn P) b → Of (FormIn P) (resolve_select Γ b s c)
select_inside Γ P s c h = of_then (bring_inside P components s h) (λ m p. of_made (selected_form Γ m) (component_called Γ (referred_record m.0) c) (WrongName c) (λ l. p))

pass_inside : (P : Named → Type 0) (s : ℕ) (o : Option Mode) {r : Result Known Refusal} → Of (FormIn P) r → Of (Inside P) (resolve_pass r s o)
pass_inside P s None h = of_then h (λ t p. holds p)
pass_inside P s (Some m) h = as_inside P m s h

add_inside : (P : Named → Type 0) {r : Result Forms Refusal} {q : Result Form Refusal} → Of (InsideForms P) r → Of (Inside P) q → Of (InsideForms P) (add r q)
add_inside P h l = of_then h (λ xs p. of_then l (λ x q. holds (p, q)))

apply_inside :
    {A F : Type 0} (P : Named → Type 0) (Q : F → Type 0) (n l : ℕ) (R : Option Mode → Option A) (make : Forms → F) (s : Signature) {W : List Mode → Result Forms Refusal}
    → ((xs : Forms) → InsideForms P xs → Q (make xs))
    → ((ms : List Mode) → Of (InsideForms P) (W ms))
    → Of (λ t. Q t.1) (resolve_apply n W l R make s)
apply_inside P Q n l R make s m h = of_then (h s.takes) (λ xs p. of_made (with (make xs)) _ (Misfit n) (λ a. m xs p))

pub call_inside :
    {A F : Type 0} (P : Named → Type 0) (G : Ground) (k : ℕ) (Γ : Env) → Room P G k Γ → (Q : F → Type 0) (n l : ℕ) (R : Option Mode → Option A) (make : Callee → Forms → F) {W : List Mode → Result Forms Refusal}
    → ((c : Callee) (xs : Forms) → InsideCallee P c → InsideForms P xs → Q (make c xs))
    → ((ms : List Mode) → Of (InsideForms P) (W ms))
    → Of (λ t. Q t.1) (resolve_call G Γ n W l R make)
call_inside P G k Γ r Q n l R make m h =
    of_then (find_found Γ n runs)
    (λ s f. apply_inside P Q n l R (make (home_at G s.1).callee) s.0 (λ xs. m (home_at G s.1).callee xs (callee_sound P G s.1 (class_at Γ s.1) s.0 f.1 (name_sound P G k Γ r s.1 f.0))) h)

head_inside : (P : Named → Type 0) (G : Ground) (k : ℕ) (Γ : Env) → Room P G k Γ → (n i z j : ℕ) (h : Head) {e : Result Known Refusal} → j < length Γ.names → heads (class_at Γ j) ≡ Some h → Of (FormIn P) e → Of (FormIn P) (resolve_head G Γ n i e z j h)
head_inside P G k Γ r n i z j (thing t) l f s = subscript_inside P n i z (holds (variable_sound P G j (class_at Γ j) t f (name_sound P G k Γ r j l))) s
head_inside P G k Γ r n i z j (signature g) l f s =
    apply_inside P (Inside P) n 1 yields (form.call n (home_at G j).callee) g
    (λ xs p. (callee_sound P G j (class_at Γ j) g (head_runs (class_at Γ j) g f) (name_sound P G k Γ r j l), p))
    (λ ms. add_inside P (holds {a = form.nothing} tt) (pass_inside P z (slice_get ms 0) s))

bracketed_inside : (P : Named → Type 0) (G : Ground) (k : ℕ) (Γ : Env) → Room P G k Γ → (v : Variable) (i z : ℕ) {b e : Result Known Refusal} → Of (FormIn P) b → Of (FormIn P) e → Of (FormIn P) (resolve_bracketed G Γ v b i e z)
bracketed_inside P G k Γ r (name n) i z h l = of_then (find_found Γ n heads) (λ t f. head_inside P G k Γ r n i z t.1 t.0 f.0 f.1 l)
bracketed_inside P G k Γ r (element v j d) i z h l = subscript_inside P (front_variable v) i z h l
bracketed_inside P G k Γ r (component v c) i z h l = subscript_inside P (front_variable v) i z h l

mutual
  pub expr_inside : {n : ℕ} (P : Named → Type 0) (G : Ground) (k : ℕ) (Γ : Env) → Room P G k Γ → (e : Expr n) → Strung P (expr_strings e) → Of (FormIn P) (resolve G Γ e)
  expr_inside P G k Γ r (term t) h = term_inside P G k Γ r t h
  expr_inside P G k Γ r (up e) h = expr_inside P G k Γ r e h
  expr_inside P G k Γ r (dyadic a o i b) h =
      of_then (bring_inside P (operand o) (spot a) (expr_inside P G k Γ r a (strung_left P (expr_strings a) (expr_strings b) h)))
      (λ m p. of_then (bring_inside P (operand o) (spot b) (expr_inside P G k Γ r b (strung_right P (expr_strings a) (expr_strings b) h))) (λ n q. holds (widened_beside P m n.0 p, widened_beside P n m.0 q)))

  term_inside : (P : Named → Type 0) (G : Ground) (k : ℕ) (Γ : Env) → Room P G k Γ → (t : Term) → Strung P (term_strings t) → Of (FormIn P) (resolve_term G Γ t)
  term_inside P G k Γ r (monadic o i t) h = of_then (bring_inside P (argument o) (spot_term t) (term_inside P G k Γ r t h)) (λ m p. holds p)
  term_inside P G k Γ r (primary p) h = primary_inside P G k Γ r p h

  primary_inside : (P : Named → Type 0) (G : Ground) (k : ℕ) (Γ : Env) → Room P G k Γ → (p : Primary) → Strung P (primary_strings p) → Of (FormIn P) (resolve_primary G Γ p)
  primary_inside P G k Γ r (integer i) h = holds tt
  primary_inside P G k Γ r (text i) h = holds (h 0 0 (omega arith))
  primary_inside P G k Γ r (variable v) h = use_inside P G k Γ r v h
  primary_inside P G k Γ r (call n i) h = call_inside P G k Γ r (Inside P) n 0 yields (form.call n) (λ c xs q p. (q, p)) (λ ms. holds {a = form.nothing} tt)
  primary_inside P G k Γ r (call_on n i es e) h =
      call_inside P G k Γ r (Inside P) n (suc (count es)) yields (form.call n) (λ c xs q p. (q, p))
      (λ ms. add_inside P (args_inside P G k Γ r ms es (strung_left P (exprs_strings es) (expr_strings e) h)) (pass_inside P (spot e) (slice_get ms (count es)) (expr_inside P G k Γ r e (strung_right P (exprs_strings es) (expr_strings e) h))))
  primary_inside P G k Γ r (paren i e) h = expr_inside P G k Γ r e h

  use_inside : (P : Named → Type 0) (G : Ground) (k : ℕ) (Γ : Env) → Room P G k Γ → (v : Variable) → Strung P (variable_strings v) → Of (FormIn P) (resolve_use G Γ v)
  use_inside P G k Γ r (name n) h = name_inside P G k Γ r n
  use_inside P G k Γ r (element v i e) h = bracketed_inside P G k Γ r v i (spot e) (place_inside P G k Γ r v (strung_left P (variable_strings v) (expr_strings e) h)) (expr_inside P G k Γ r e (strung_right P (variable_strings v) (expr_strings e) h))
  use_inside P G k Γ r (component v c) h = select_inside Γ P (front_variable v) c (place_inside P G k Γ r v h)

  pub place_inside : (P : Named → Type 0) (G : Ground) (k : ℕ) (Γ : Env) → Room P G k Γ → (v : Variable) → Strung P (variable_strings v) → Of (FormIn P) (resolve_variable G Γ v)
  place_inside P G k Γ r (name n) h = name_inside P G k Γ r n
  place_inside P G k Γ r (element v i e) h =
      subscript_inside P (front_variable v) i (spot e) (place_inside P G k Γ r v (strung_left P (variable_strings v) (expr_strings e) h)) (expr_inside P G k Γ r e (strung_right P (variable_strings v) (expr_strings e) h))
  place_inside P G k Γ r (component v c) h = select_inside Γ P (front_variable v) c (place_inside P G k Γ r v h)

  pub args_inside : (P : Named → Type 0) (G : Ground) (k : ℕ) (Γ : Env) → Room P G k Γ → (ms : List Mode) (es : Exprs) → Strung P (exprs_strings es) → Of (InsideForms P) (resolve_args G Γ ms es)
  args_inside P G k Γ r ms (first e) h = add_inside P (holds {a = form.nothing} tt) (pass_inside P (spot e) (slice_get ms 0) (expr_inside P G k Γ r e h))
  args_inside P G k Γ r ms (comma es e) h =
      add_inside P (args_inside P G k Γ r ms es (strung_left P (exprs_strings es) (expr_strings e) h)) (pass_inside P (spot e) (slice_get ms (count es)) (expr_inside P G k Γ r e (strung_right P (exprs_strings es) (expr_strings e) h)))

comparison_inside : (P : Named → Type 0) (G : Ground) (k : ℕ) (Γ : Env) → Room P G k Γ → (c : Comparison) → Strung P (comparison_strings c) → Of (InsideTest P) (resolve_comparison G Γ c)
comparison_inside P G k Γ r (compare a o b) h =
    of_then (bring_inside P (compared o) (spot a) (expr_inside P G k Γ r a (strung_left P (expr_strings a) (expr_strings b) h)))
    (λ m p. of_then (bring_inside P (compared o) (spot b) (expr_inside P G k Γ r b (strung_right P (expr_strings a) (expr_strings b) h)))
    (λ n q. of_check (agree o m.0 n.0) (Misfit (front a)) (λ u e. holds (widened_beside P m n.0 p, widened_beside P n m.0 q))))

every_inside : {A B : Type 0} {f : A → Result B Refusal} (P : Named → Type 0) (Q : B → Type 0) (g : A → List ℕ) → ((a : A) → Strung P (g a) → Of Q (f a)) → (m : Many A) → Strung P (gather g m) → Of (Every Q) (resolve_each f m)
every_inside P Q g h (one a) l = of_then (h a l) (λ b p. holds p)
every_inside P Q g h (more m a) l = of_then (every_inside P Q g h m (strung_left P (gather g m) (g a) l)) (λ bs p. of_then (h a (strung_right P (gather g m) (g a) l)) (λ b q. holds (p, q)))

pub condition_inside : (P : Named → Type 0) (G : Ground) (k : ℕ) (Γ : Env) → Room P G k Γ → (c : Condition) → Strung P (condition_strings c) → Of (InsideTests P) (resolve_condition G Γ c)
condition_inside P G k Γ r c h = every_inside P (Every (InsideTest P)) (gather comparison_strings) (every_inside P (InsideTest P) comparison_strings (comparison_inside P G k Γ r)) c h
