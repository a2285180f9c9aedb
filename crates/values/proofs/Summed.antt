-- The values of a list, one more in front of those behind it. Assumes nothing.
use Rattle.std.proofs.Common.{◌≡◌, ℕ, ◌+◌, Ok, Err, Result, IfOk, MatchResult, length, suc, refl, ap, ◌∙◌, arith}
use Rattle.grammar.specs.Trees.{Values, only, and}
use Rattle.statics.specs.declared.Refusal.{Refusal}
use Rattle.statics.specs.Values.{how_many}
use Rattle.statics.specs.JudgeExpressions.{then}
use Rattle.lists.specs.Lists.{of_values}
use Rattle.scopes.proofs.Following.{stops, goes}

pub as_many : (vs : Values) → length (of_values vs) ≡ how_many vs
as_many (only e) = refl
as_many (and vs e) = ap suc (as_many vs)

pub loosened : {A : Type 0} (P Q : A → Type 0) → ((a : A) → P a → Q a) → (r : Result A Refusal) → IfOk r P → IfOk r Q
loosened P Q f (Ok a) h = f a h
loosened P Q f (Err e) h = tt

-- the value and its n places, and those behind it; s are in front of both
pub summed : (s n a w : ℕ) → a ≡ s + n → (x y : Result (Unit {0}) Refusal) (t q : Result ℕ Refusal) → MatchResult t (λ k. (k ≡ n) × (x ≡ Ok tt)) (λ f. x ≡ Err f) → MatchResult q (λ p. (a + p ≡ w) × (y ≡ Ok tt)) (λ f. y ≡ Err f) → MatchResult (then t (λ k. then q (λ p. Ok (p + k)))) (λ p. (s + p ≡ w) × (then x (λ u. y) ≡ Ok tt)) (λ f. then x (λ u. y) ≡ Err f)
summed s n a w e x y (Ok k) (Ok p) h g = (omega (arith, e, h.0, g.0), goes x (λ u. y) tt h.1 ∙ g.1)
summed s n a w e x y (Ok k) (Err f) h g = goes x (λ u. y) tt h.1 ∙ g
summed s n a w e x y (Err f) q h g = stops x (λ u. y) f h
