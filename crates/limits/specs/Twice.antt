-- Of some scopes, the earliest name that stands behind one of the same word. Assumes nothing.
use Rattle.std.specs.Prelude.{ℕ, List, [], ◌∷◌, Option, flat_map}
use Rattle.grammar.specs.Trees.{Locals}
use Rattle.statics.specs.Scopes.{Text}
use Rattle.statics.specs.DeclaredTwice.{block_names}
use Rattle.statics.specs.JudgeLimits.{doubles, least}

-- the scope of a block
abbrev pub block_scope : Text → Locals → List (List ℕ)
block_scope x ls = block_names x ls ∷ []

abbrev pub earliest_double : Text → List (List ℕ) → Option ℕ
earliest_double x ss = least (flat_map (doubles x) ss)
