-- Statements that have no statements in them, the first of many, and where in a block names begin to be usable. Assumes nothing.
use Rattle.std.specs.Prelude.{ℕ}
use Rattle.statics.specs.Scopes.{Env}
use Rattle.grammar.specs.Trees.{Many, one, more, Statement, block, branch, branch_else, repeat, loop}

abbrev pub Simple : Statement → Type 0
Simple (block b) = ⊥
Simple (branch ws) = ⊥
Simple (branch_else ws s) = ⊥
Simple (repeat e b) = ⊥
Simple (loop c s) = ⊥
Simple s = Unit {0}

-- the same where the first n of the names can be used
abbrev pub with_ready : Env → ℕ → Env
with_ready Γ n = record { text = Γ.text; names = Γ.names; ready = n; parts = Γ.parts; result = Γ.result }

abbrev pub first_of : {A : Type 0} → Many A → A
first_of (one a) = a
first_of (more m a) = first_of m
