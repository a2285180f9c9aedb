-- What a described procedure takes and gives, and what is judged at the last of some components or parameters. Assumes nothing.
use Rattle.std.specs.Prelude.{Ok, Result}
use Rattle.statics.specs.declared.Refusal.{Refusal}
use Rattle.grammar.specs.Trees.{Many, Mode, Opt, Fields, field, also, next}
use Rattle.statics.specs.Scopes.{Text, Env, Signature}
use Rattle.statics.specs.Modules.{maybe_mode, modes}
use Rattle.statics.specs.JudgeStatements.{judge_written}

abbrev pub description : Text → Opt (Many Mode) → Opt Mode → Signature
description x ms m = record { takes = modes x ms; gives = maybe_mode x m }

-- the mode of the last one, if it is written there
abbrev pub judge_last : Env → Fields → Result (Unit {0}) Refusal
judge_last Γ (field m n) = judge_written Γ m
judge_last Γ (also fs n) = Ok tt
judge_last Γ (next fs m n) = judge_written Γ m
