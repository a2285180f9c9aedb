-- What comes of the parts of a condition, a sequence or a branch, in their order. Assumes nothing.
use Rattle.std.proofs.Common.{◌≡◌, List, Ok, Err, Result, refl, sym, ap, ◌∙◌}
use Rattle.std.specs.Result.{result_and}
use Rattle.grammar.specs.Trees.{Condition, Sequence, Arms}
use Rattle.statics.specs.declared.Refusal.{Refusal}
use Rattle.statics.specs.Scopes.{Env}
use Rattle.statics.specs.JudgeExpressions.{then, judge_comparison, judge_each, judge_condition}
use Rattle.statics.specs.JudgeStatements.{judge_sequence, judge_statement, judge_arms}
use Rattle.scopes.specs.Meanings.{Answers}
use Rattle.lists.specs.Lists.{comparisons, of_sequence, of_arms, from_last, in_order}
use Rattle.lists.proofs.Loops.{worked_out, from_last_in_order, many_in_order, condition_in_order, sequence_in_order, arms_in_order}

-- what is judged before, and what is judged behind it
abbrev pub both : Result (Unit {0}) Refusal → Result (Unit {0}) Refusal → Result (Unit {0}) Refusal
both a b = then a (λ u. b)

pub both_assoc : (a b c : Result (Unit {0}) Refusal) → both (both a b) c ≡ both a (both b c)
both_assoc (Ok u) b c = refl
both_assoc (Err f) b c = refl

pub both_before : (b : Result (Unit {0}) Refusal) → both (Ok tt) b ≡ b
both_before b = refl

pub both_behind : (b : Result (Unit {0}) Refusal) → both b (Ok tt) ≡ b
both_behind (Ok u) = refl
both_behind (Err f) = refl

-- an answer that says nothing more is itself what the rules have
pub answers_same : (r j : Result (Unit {0}) Refusal) → r ≡ j → Answers (λ u. tt) r j
answers_same (Ok u) j h = sym h
answers_same (Err f) j h = sym h

pub answer_same : (r j : Result (Unit {0}) Refusal) → Answers (λ u. tt) r j → r ≡ j
answer_same (Ok u) j h = sym h
answer_same (Err f) j h = sym h

-- and so is what `and` gives
pub stepped : (r j b a : Result (Unit {0}) Refusal) → Answers (λ u. tt) r j → a ≡ result_and r b → both j b ≡ a
stepped (Ok u) j b a h e = ap (λ (i : Result (Unit {0}) Refusal). both i b) h ∙ sym e
stepped (Err f) j b a h e = ap (λ (i : Result (Unit {0}) Refusal). both i b) h ∙ sym e

module _ {A : Type 0} (f : A → Result (Unit {0}) Refusal) where
  pub in_their_order : (ts : List A) → from_last (λ t c. both (f t) c) (Ok tt) ts ≡ in_order both (Ok tt) f ts
  in_their_order ts = from_last_in_order both (Ok tt) both_assoc both_before both_behind f ts

  -- what a loop goes on with, behind all of these
  pub carried : (b : Result (Unit {0}) Refusal) (ts : List A) → from_last (λ t c. both (f t) c) b ts ≡ both (in_order both (Ok tt) f ts) b
  carried b ts = worked_out both (Ok tt) both_assoc both_before both_behind f b ts

pub condition_judged : (Γ : Env) (c : Condition) → judge_condition Γ c ≡ from_last (λ t r. both (judge_comparison Γ t) r) (Ok tt) (comparisons c)
condition_judged Γ c =
    condition_in_order both (Ok tt) both_assoc both_before both_behind (judge_comparison Γ) (judge_each (judge_comparison Γ)) (judge_condition Γ)
    (many_in_order both (Ok tt) both_assoc both_before both_behind (judge_comparison Γ) (judge_each (judge_comparison Γ)) (λ t. refl) (λ m t. refl))
    (λ s. refl)
    (λ d s. refl)
    c
    ∙ sym (in_their_order (judge_comparison Γ) (comparisons c))

pub sequence_judged : (Γ : Env) (ss : Sequence) → judge_sequence Γ ss ≡ from_last (λ t r. both (judge_statement Γ t) r) (Ok tt) (of_sequence ss)
sequence_judged Γ ss = sequence_in_order both (Ok tt) both_assoc both_before both_behind (judge_statement Γ) (judge_sequence Γ) (λ t. refl) (λ m t. refl) ss ∙ sym (in_their_order (judge_statement Γ) (of_sequence ss))

pub arms_judged : (Γ : Env) (ws : Arms) → judge_arms Γ ws ≡ from_last (λ w r. both (judge_arms Γ w) r) (Ok tt) (of_arms ws)
arms_judged Γ ws = arms_in_order both (Ok tt) both_assoc both_before both_behind (judge_arms Γ) (λ m c s. refl) ws ∙ sym (in_their_order (judge_arms Γ) (of_arms ws))
