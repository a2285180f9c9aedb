-- The line of a verdict, and what the call `judge` does. Assumes nothing.
use Rattle.std.specs.Prelude.{◌≡◌, ℕ, ◌<◌, ◌≤◌, List, [], ◌∷◌, ◌++◌, length, take, drop, Ok, Err, codes, Result}
use Rattle.answers.specs.Said.{Says}
use Rattle.answers.specs.declared.Decline.{Decline}
use Rattle.verdicts.specs.Verdicts.{Verdict}
use Rattle.verdicts.specs.declared.BufferTooShort.{BufferTooShort}

abbrev pub accepted : List ℕ
accepted = codes "accepted" ++ (10 ∷ [])

-- the line says what is answered on the text: `accepted`, or the decline's line, column and number; and then a byte 10
abbrev pub Tells : List ℕ → Result (Unit {0}) Decline → List ℕ → Type 0
Tells text (Ok u) line = line ≡ accepted
Tells text (Err d) line = Says d text line

-- the line says the verdict on the text
pub record VerdictLine (text line : List ℕ) : Type 0 where
  pub answer : Result (Unit {0}) Decline
  pub meets : Verdict text answer
  pub tells : Tells text answer line

-- What a call is declined by whose buffer is shorter than the longest line: there is only the one number, with no value beside it, since the
-- caller knows the buffer's length.
abbrev pub number_of : BufferTooShort → ℕ
number_of e = 19

-- THE CALL `judge`. The buffer is shorter than 16 bytes, and nothing of it changed; or its first n bytes are the line of the verdict on the
-- text, and nothing else of it changed.
abbrev pub JudgeOf : List ℕ → List ℕ → List ℕ → Result ℕ BufferTooShort → Type 0
JudgeOf text before after (Err e) = (length before < 16) × (after ≡ before)
JudgeOf text before after (Ok n) =
    (16 ≤ length before) × (n ≤ 16) × VerdictLine text (take n after) × (drop n after ≡ drop n before)

-- THE THEOREM. Every text has exactly one line.
abbrev pub OneLine : Type 0
OneLine = (text : List ℕ) → (line : List ℕ) × VerdictLine text line × ((l : List ℕ) → VerdictLine text l → l ≡ line)
