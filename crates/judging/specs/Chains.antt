-- A chain of dyadic operators, cut at an operator. Assumes nothing.
use Rattle.std.specs.Prelude.{◌≡◌, ℕ, Ok, IfOk, Result}
use Rattle.grammar.specs.Trees.{land}
use Rattle.statics.specs.declared.Refusal.{Refusal}
use Rattle.statics.specs.Modes.{Mode, INT, Thing, value, Need, mode, number}
use Rattle.statics.specs.Expressions.{result}
use Rattle.statics.specs.JudgeExpressions.{then, bring}

-- What the chain gives whose part before the operator stands for j, with its misfit at s: w is what the whole gives if that part is a BYTE, or
-- the first that is wrong behind it. If that part is an INT the whole is one.
abbrev pub before : Need → ℕ → Result Thing Refusal → Result Mode Refusal → Result Thing Refusal
before n s j w = then (bring n s j) (λ m. then w (λ k. Ok (value (result land m k))))

-- the operator takes numbers, or an INT and then gives one
abbrev pub Apt : Need → Result Mode Refusal → Type 0
Apt number w = Unit {0}
Apt (mode m) w = (m ≡ INT) × IfOk w (λ k. k ≡ INT)
Apt n w = ⊥
