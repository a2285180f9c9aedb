-- How many names fit a table beside those of a module's part, and what else is put into tables. Assumes nothing.
use Rattle.std.specs.Prelude.{ℕ, ◌+◌, ◌≤◌, List, [], map, length}
use Rattle.grammar.specs.Trees.{Brick, store, procedure, Moditem, external_procs, own, entry}
use Rattle.statics.specs.Modes.{Mode}
use Rattle.statics.specs.Scopes.{Text}
use Rattle.statics.specs.Order.{InModitem}
use Rattle.statics.specs.Modules.{modes, parameters, moditem_names}

-- The items of a lie from lo up to hi, and beside as many names a table of n has room for `count`.
abbrev pub Room : {A : Type 0} → (ℕ → A → ℕ → Type 0) → A → ℕ → ℕ → Type 0
Room I a count n = (lo : ℕ) × (hi : ℕ) × I lo a hi × (count + hi ≤ lo + n)

-- the same of a module's item, where its own names are among those that count
abbrev pub Roomy : Text → ℕ → ℕ → Moditem → Type 0
Roomy x count n a = (lo : ℕ) × (hi : ℕ) × InModitem lo a hi × (count + hi ≤ lo + n + length (moditem_names x a))

-- the modes that an item of a module has in the table of all that procedures take: those of a procedure's parameters, or those described
abbrev pub brick_takes : Text → Brick → List Mode
brick_takes x (store n ds) = []
brick_takes x (procedure n i ps m b e) = map (λ f. f.mode) (parameters x ps)

abbrev pub moditem_takes : Text → Moditem → List Mode
moditem_takes x (external_procs i ms m ns) = modes x ms
moditem_takes x (own b) = brick_takes x b
moditem_takes x (entry b) = brick_takes x b
moditem_takes x _ = []
