-- What follows something judged. Assumes nothing.
use Rattle.std.proofs.Common.{◌≡◌, ℕ, Ok, Err, Result, IfOk, MatchResult, sym, refl, ap, ◌∙◌, subst}
use Rattle.std.specs.Result.{result_and}
use Rattle.statics.specs.declared.Refusal.{Refusal}
use Rattle.statics.specs.JudgeExpressions.{then}
use Rattle.scopes.specs.Meanings.{Answers}

-- what follows something refused, and something right
pub stops : {A B : Type 0} (r : Result A Refusal) (g : A → Result B Refusal) (f : Refusal) → r ≡ Err f → then r g ≡ Err f
stops {A = A} r g f h = ap (λ (s : Result A Refusal). then s g) h

pub goes : {A B : Type 0} (r : Result A Refusal) (g : A → Result B Refusal) (a : A) → r ≡ Ok a → then r g ≡ g a
goes {A = A} r g a h = ap (λ (s : Result A Refusal). then s g) h

pub answered : {A B : Type 0} (f : A → B) (r : Result A Refusal) (i j : Result B Refusal) → i ≡ j → Answers f r j → Answers f r i
answered {B = B} f r i j e h = subst (λ (x : Result B Refusal). Answers f r x) (sym e) h

-- Two results of which the first that is wrong is answered.
pub joined : {A B C D : Type 0} (f : A → B) (g : C → D) (p : Result A Refusal) (q : Result C Refusal) (x : Result B Refusal) (y : Result D Refusal) → Answers f p x → Answers g q y → Answers g (result_and p q) (then x (λ m. y))
joined {B = B} f g (Ok a) q x y h k = answered g q _ y (goes x (λ m. y) (f a) h) k
joined f g (Err e) q x y h k = stops x (λ m. y) e h

pub counted : (n : ℕ) (p : Result (Unit {0}) Refusal) (x : Result (Unit {0}) Refusal) (q : Result ℕ Refusal) (y : Result (Unit {0}) Refusal) → Answers (λ (u : Unit {0}). tt) p x → MatchResult q (λ m. (m ≡ n) × (y ≡ Ok tt)) (λ f. y ≡ Err f) → MatchResult (result_and p q) (λ m. (m ≡ n) × (then x (λ u. y) ≡ Ok tt)) (λ f. then x (λ u. y) ≡ Err f)
counted n (Ok u) x (Ok m) y h k = (k.0, goes x (λ v. y) tt h ∙ k.1)
counted n (Ok u) x (Err f) y h k = goes x (λ v. y) tt h ∙ k
counted n (Err f) x q y h k = stops x (λ v. y) f h

pub kept : {A B : Type 0} (P : B → Type 0) (p : Result A Refusal) (q : Result B Refusal) → IfOk q P → IfOk (result_and p q) P
kept P (Ok a) q h = h
kept P (Err f) q h = tt

pub regrouped : (x y r : Result (Unit {0}) Refusal) → then (then x (λ u. y)) (λ u. r) ≡ then x (λ u. then y (λ v. r))
regrouped (Ok u) y r = refl
regrouped (Err f) y r = refl

pub whole : (x : Result (Unit {0}) Refusal) → x ≡ then x (λ u. Ok tt)
whole (Ok u) = refl
whole (Err f) = refl
