-- The stages with one number, and their order. Assumes nothing.
use Rattle.std.proofs.Common.{◌≡◌, ℕ, ◌+◌, ◌<◌, ◌≤◌, Bool, true, false, cond, ◌⊎◌, List, [], ◌∷◌, ◌++◌, Some, None, Ok, Err, Option, Result, sym, refl, ap, ◌∙◌, inl, inr, arith}
use Rattle.std.specs.Prelude.{flat_map, option_to_list, slice_get, ltb}
use Rattle.std.proofs.Math.Nat.{eq-or-lt_of_le}
use Rattle.std.proofs.lemmas.Bool.{ltb-true, ltb-false}
use Rattle.std.proofs.lemmas.Slice.Eq.{bytes_eq-Decides}
use Rattle.statics.specs.declared.Refusal.{Refusal}
use Rattle.statics.specs.declared.Refusal.TheVariants.{DeclaredTwice, WrongName, Misfit, NoValue, TooManyPlaces, TooManyLocals}
use Rattle.statics.specs.Refusals.{place_of, shift}
use Rattle.grammar.specs.Trees.{Module}
use Rattle.statics.specs.Laws.{Wrongs, At, Wherever, Clean, Any, Earliest, Verdict}
use Rattle.statics.specs.Scopes.{Text}
use Rattle.statics.specs.Written.{gather}
use Rattle.statics.specs.Modules.{module_wrongs}
use Rattle.statics.specs.DeclaredTwice.{scopes, Twice, twice_wrongs}
use Rattle.statics.specs.Space.{Charge, charges, Passes, space_wrongs}
use Rattle.statics.specs.Crowds.{moditem_allowances, Beyond, locals_wrongs}
use Rattle.statics.specs.Stages.{Staged, Static, Moved, all_moved, moved}
use Rattle.statics.specs.Order.{InModule}
use Rattle.statics.specs.JudgeExpressions.{then}
use Rattle.statics.specs.JudgeModules.{judge_module}
use Rattle.statics.specs.JudgeLimits.{report, lower, least, alike_in, doubles, passing, beyond, judge_twice, judge_space, judge_locals, judge_static}
use Rattle.statics.proofs.Decide.{Tells, found, none, verdict}
use Rattle.statics.proofs.Modules.{module_right}

abbrev Among : ℕ → List ℕ → Type 0
Among p l = Any (λ q. p ≡ q) l

any_more : {A : Type 0} (P : A → Type 0) (l k : List A) → Any P l ⊎ Any P k → Any P (l ++ k)
any_more P [] k x = grind arith
any_more P (a ∷ l) k x = grind (arith, any_more P l k)

any_parts : {A : Type 0} (P : A → Type 0) (l k : List A) → Any P (l ++ k) → Any P l ⊎ Any P k
any_parts P [] k x = grind arith
any_parts P (a ∷ l) k x = grind (arith, any_parts P l k)

-- each of what f lists of some a, where P a says the same
to_flat : {A : Type 0} (P : A → ℕ → Type 0) (f : A → List ℕ) → ((a : A) (p : ℕ) → P a p → Among p (f a)) → (l : List A) (p : ℕ) → Any (λ a. P a p) l → Among p (flat_map f l)
to_flat P f g [] p x = x
to_flat P f g (a ∷ l) p x = grind (arith, g a p, to_flat P f g l p, any_more (λ q. p ≡ q) (f a) (flat_map f l))

of_flat : {A : Type 0} (P : A → ℕ → Type 0) (f : A → List ℕ) → ((a : A) (p : ℕ) → Among p (f a) → P a p) → (l : List A) (p : ℕ) → Among p (flat_map f l) → Any (λ a. P a p) l
of_flat P f g [] p x = x
of_flat P f g (a ∷ l) p x = grind (arith, g a p, of_flat P f g l p, any_parts (λ q. p ≡ q) (f a) (flat_map f l))

-- the least
pub data Least (l : List ℕ) : Option ℕ → Type 0 where
  nowhere : ((p : ℕ) → Among p l → ⊥) → Least l None
  there : {a : ℕ} → Among a l → ((p : ℕ) → Among p l → a ≤ p) → Least l (Some a)

least_is : (l : List ℕ) → Least l (least l)
least_is [] = nowhere (λ p x. x)
least_is (a ∷ l) = go (least_is l)
  where
    go : {o : Option ℕ} → Least l o → Least (a ∷ l) (Some (lower a o))
    go (nowhere n) = there (inl refl) (λ p x. elim x [ inl e ↦ omega arith | inr y ↦ absurd (n p y) ])
    go (there {a = b} h low) = pick (ltb a b) refl
      where
        pick : (t : Bool) → ltb a b ≡ t → Least (a ∷ l) (Some (cond t a b))
        pick true e = let lt = ltb-true a b e in there (inl refl) (λ p x. elim x [ inl q ↦ omega arith | inr y ↦ let k = low p y in omega arith ])
        pick false e = let le = ltb-false a b e in there (inr h) (λ p x. elim x [ inl q ↦ omega arith | inr y ↦ low p y ])

-- one kind of refusal, at the least of a list
pub least_verdict :
    (k : ℕ → Refusal) → ((p : ℕ) → place_of (k p) ≡ p) → (P : ℕ → Type 0) (l : List ℕ)
    → ((p : ℕ) → P p → Among p l)
    → ((p : ℕ) → Among p l → P p)
    → Verdict (Clean (Wherever k P)) (Wherever k P) (report k (least l))
least_verdict k place P l to back = go (least_is l)
  where
    go : {o : Option ℕ} → Least l o → Verdict (Clean (Wherever k P)) (Wherever k P) (report k o)
    go (nowhere n) = let clean : Clean (Wherever k P) tt = λ f w. n w.0 (to w.0 w.1) in (clean, clean)
    go (there {a} h low) = ((a, back a h, refl), λ f w. elim (eq-or-lt_of_le (low w.0 (to w.0 w.1))) [ inl x ↦ inr (rw x w.2) | inr x ↦ inl (rw (w.2, place w.0, place a) x) ])

-- one kind of refusal, at one place
pub one_verdict : (k : ℕ → Refusal) (P : ℕ → Type 0) {o : Option ℕ} → Tells P o → Verdict (Clean (Wherever k P)) (Wherever k P) (report k o)
one_verdict k P (none t) = let clean : Clean (Wherever k P) tt = λ f w. t w.0 w.1 in (clean, clean)
one_verdict k P (found {a} t one) = ((a, t, refl), λ f w. inr (rw (← (one w.0 w.1)) w.2))

-- Declared twice.
abbrev Alike : Text → ℕ → List ℕ → ℕ → Type 0
Alike x n l p = Any (λ q. (p ≡ q) × (x.word q ≡ x.word n)) l

alike_to : (x : Text) (n : ℕ) (l : List ℕ) (p : ℕ) → Alike x n l p → Among p (alike_in x n l)
alike_to x n [] p h = h
alike_to x n (q ∷ l) p h = grind (arith, bytes_eq-Decides (x.word q) (x.word n), alike_to x n l p)

alike_of : (x : Text) (n : ℕ) (l : List ℕ) (p : ℕ) → Among p (alike_in x n l) → Alike x n l p
alike_of x n [] p h = h
alike_of x n (q ∷ l) p h = grind (arith, bytes_eq-Decides (x.word q) (x.word n), alike_of x n l p)

doubles_to : (x : Text) (l : List ℕ) (p : ℕ) → Twice x l p → Among p (doubles x l)
doubles_to x [] p h = h
doubles_to x (n ∷ l) p h = grind (arith, alike_to x n l p, doubles_to x l p, any_more (λ q. p ≡ q) (alike_in x n l) (doubles x l))

doubles_of : (x : Text) (l : List ℕ) (p : ℕ) → Among p (doubles x l) → Twice x l p
doubles_of x [] p h = h
doubles_of x (n ∷ l) p h = grind (arith, alike_of x n l p, doubles_of x l p, any_parts (λ q. p ≡ q) (alike_in x n l) (doubles x l))

pub twice_right : (x : Text) (m : Module) → Verdict (Clean (twice_wrongs x m)) (twice_wrongs x m) (judge_twice x m)
twice_right x m = least_verdict DeclaredTwice (λ p. refl) _ _ (to_flat (Twice x) (doubles x) (doubles_to x) (scopes x m)) (of_flat (Twice x) (doubles x) (doubles_of x) (scopes x m))

-- Places of data and strings.
passing_tells : (limit used : ℕ) (cs : List Charge) → Tells (Passes limit used cs) (passing limit used cs)
passing_tells limit used [] = none (λ p x. x)
passing_tells limit used (c ∷ cs) = go (ltb limit (used + c.amount)) refl (passing_tells limit (used + c.amount) cs)
  where
    go : (b : Bool) {o : Option ℕ} → ltb limit (used + c.amount) ≡ b → Tells (Passes limit (used + c.amount) cs) o → Tells (Passes limit used (c ∷ cs)) (cond b (Some c.item) o)
    go true e t = let h = ltb-true limit (used + c.amount) e in found (inl (h, refl)) (λ p x. elim x [ inl y ↦ y.1 | inr y ↦ absurd (let z : ⊥ = omega (arith, y.0) in z) ])
    go false e (none t) = let h = ltb-false limit (used + c.amount) e in none (λ p x. elim x [ inl y ↦ omega (arith, y.0) | inr y ↦ t p y.1 ])
    go false e (found t one) = let h = ltb-false limit (used + c.amount) e in found (inr (h, t)) (λ p x. elim x [ inl y ↦ absurd (let z : ⊥ = omega (arith, y.0) in z) | inr y ↦ one p y.1 ])

pub space_right : (x : Text) (m : Module) → Verdict (Clean (space_wrongs x m)) (space_wrongs x m) (judge_space x m)
space_right x m = one_verdict TooManyPlaces _ (passing_tells 4096 0 (charges x m))

-- Locals.
option_to : (o : Option ℕ) (p : ℕ) → o ≡ Some p → Among p (option_to_list o)
option_to o p e = grind arith

option_of : (o : Option ℕ) (p : ℕ) → Among p (option_to_list o) → o ≡ Some p
option_of o p x = grind arith

pub locals_right : (x : Text) (m : Module) → Verdict (Clean (locals_wrongs x m)) (locals_wrongs x m) (judge_locals x m)
locals_right x m =
    least_verdict TooManyLocals (λ p. refl) _ _ (to_flat Beyond beyond (λ a p e. option_to (slice_get a.names a.most) p e) (gather (moditem_allowances x) m))
    (of_flat Beyond beyond (λ a p h. option_of (slice_get a.names a.most) p h) (gather (moditem_allowances x) m))

-- Stages.
stage : (W : Wrongs) (rest : List Wrongs) (r s : Result (Unit {0}) Refusal) → Verdict (Clean W) W r → Staged rest s → Staged (W ∷ rest) (then r (λ u. s))
stage W rest (Ok u) s v t = inr (v.1, t)
stage W rest (Err f) s v t = inl (f, v, refl)

last_stage : (W : Wrongs) (r : Result (Unit {0}) Refusal) → Verdict (Clean W) W r → Staged (W ∷ []) r
last_stage W (Ok u) v = inr (v.1, refl)
last_stage W (Err f) v = inl (f, v, refl)

pub static_right_lem : (x : Text) (m : Module) (lo hi : ℕ) → InModule lo m hi → Static x m (judge_static x m)
static_right_lem x m lo hi i =
    let last = last_stage (locals_wrongs x m) (judge_locals x m) (locals_right x m) in
    let third = stage (space_wrongs x m) (locals_wrongs x m ∷ []) (judge_space x m) (judge_locals x m) (space_right x m) last in
    let second = stage (module_wrongs x m) (space_wrongs x m ∷ locals_wrongs x m ∷ []) (judge_module x m) (then (judge_space x m) (λ c. judge_locals x m)) (verdict (module_right x m lo hi i).decided) third in
    stage (twice_wrongs x m) (module_wrongs x m ∷ space_wrongs x m ∷ locals_wrongs x m ∷ []) (judge_twice x m) (then (judge_module x m) (λ b. then (judge_space x m) (λ c. judge_locals x m))) (twice_right x m) second

earliest_one : (W : Wrongs) (f g : Refusal) → Earliest W f → Earliest W g → f ≡ g
earliest_one W f g a b = let x = a.1 g b.0 in let y = b.1 f a.0 in grind arith

pub staged_one : (ws : List Wrongs) (r s : Result (Unit {0}) Refusal) → Staged ws r → Staged ws s → s ≡ r
staged_one [] r s a b = b ∙ sym a
staged_one (W ∷ ws) r s (inl a) (inl b) = b.2 ∙ (ap Err (earliest_one W b.0 a.0 b.1 a.1) ∙ sym a.2)
staged_one (W ∷ ws) r s (inl a) (inr b) = absurd (b.0 _ a.1.0)
staged_one (W ∷ ws) r s (inr a) (inl b) = absurd (a.0 _ b.1.0)
staged_one (W ∷ ws) r s (inr a) (inr b) = staged_one ws r s a.1 b.1

-- Other places.
shifted_place : (g : ℕ → ℕ) (f : Refusal) → place_of (shift g f) ≡ g (place_of f)
shifted_place g (DeclaredTwice p) = refl
shifted_place g (WrongName p) = refl
shifted_place g (Misfit p) = refl
shifted_place g (NoValue p) = refl
shifted_place g (TooManyPlaces p) = refl
shifted_place g (TooManyLocals p) = refl

moved_earliest : (g : ℕ → ℕ) → ((a b : ℕ) → a < b → g a < g b) → (W : Wrongs) (f : Refusal) → Earliest W f → Earliest (Moved g W) (shift g f)
moved_earliest g inc W f e = ((f, e.0, refl), λ h m. go h m (e.1 m.0 m.1))
  where
    go : (h : Refusal) (m : Moved g W h) → (place_of f < place_of m.0) ⊎ At f m.0 → (place_of (shift g f) < place_of h) ⊎ At (shift g f) h
    go h m (inl l) = inl (rw (m.2, shifted_place g f, shifted_place g m.0) (inc (place_of f) (place_of m.0) l))
    go h m (inr x) = inr (rw x at m.2)

pub moved_staged : (g : ℕ → ℕ) → ((a b : ℕ) → a < b → g a < g b) → (ws : List Wrongs) (r : Result (Unit {0}) Refusal) → Staged ws r → Staged (all_moved g ws) (moved g r)
moved_staged g inc [] r s = ap (moved g) s
moved_staged g inc (W ∷ ws) r (inl x) = inl (shift g x.0, moved_earliest g inc W x.0 x.1, ap (moved g) x.2)
moved_staged g inc (W ∷ ws) r (inr x) = inr ((λ f m. x.0 m.0 m.1), moved_staged g inc ws r x.1)
