-- What a check answers, where its test is known otherwise. Assumes nothing.
use Rattle.std.proofs.Common.{◌≡◌, Bool, Result, subst}
use Rattle.statics.specs.declared.Refusal.{Refusal}
use Rattle.statics.specs.JudgeExpressions.{check}
use Rattle.scopes.specs.Meanings.{Answers}

pub checked : (r : Result (Unit {0}) Refusal) (f : Refusal) (a b : Bool) → a ≡ b → Answers (λ (u : Unit {0}). tt {0}) r (check a f) → Answers (λ (u : Unit {0}). tt {0}) r (check b f)
checked r f a b e h = subst (λ (x : Bool). Answers (λ (u : Unit {0}). tt {0}) r (check x f)) e h
