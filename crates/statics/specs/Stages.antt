-- The order of the stages, and the one answer. Assumes nothing.
use Rattle.std.specs.Prelude.{◌≡◌, ℕ, ◌⊎◌, List, [], ◌∷◌, Ok, Err, Result}
use Rattle.statics.specs.declared.Refusal.{Refusal}
use Rattle.grammar.specs.Trees.{Module}
use Rattle.statics.specs.Refusals.{shift}
use Rattle.statics.specs.Laws.{Wrongs, Wherever, Clean, Earliest}
use Rattle.statics.specs.Scopes.{Text}
use Rattle.statics.specs.Modules.{module_wrongs}
use Rattle.statics.specs.DeclaredTwice.{twice_wrongs}
use Rattle.statics.specs.Space.{space_wrongs}
use Rattle.statics.specs.Crowds.{locals_wrongs}

-- The answer to something that has stages of wrongs: the earliest of the first stage that has any, or that there are none.
abbrev pub Staged : List Wrongs → Result (Unit {0}) Refusal → Type 0
Staged [] r = r ≡ Ok tt
Staged (W ∷ rest) r = ((f : Refusal) × Earliest W f × (r ≡ Err f)) ⊎ (Clean W tt × Staged rest r)

-- THE STATIC VERDICT on a module: declared twice; then names, misfits and references without a value; then too many places; then too many locals.
abbrev pub stages : Text → Module → List Wrongs
stages x m = twice_wrongs x m ∷ module_wrongs x m ∷ space_wrongs x m ∷ locals_wrongs x m ∷ []

abbrev pub Static : Text → Module → Result (Unit {0}) Refusal → Type 0
Static x m = Staged (stages x m)

-- The same with other places: g p for the item p, as the byte at which it begins.
abbrev pub Moved : (ℕ → ℕ) → Wrongs → Wrongs
Moved g W = Wherever (shift g) W

abbrev pub all_moved : (ℕ → ℕ) → List Wrongs → List Wrongs
all_moved g [] = []
all_moved g (W ∷ rest) = Moved g W ∷ all_moved g rest

abbrev pub moved : (ℕ → ℕ) → Result (Unit {0}) Refusal → Result (Unit {0}) Refusal
moved g (Ok u) = Ok u
moved g (Err f) = Err (shift g f)
