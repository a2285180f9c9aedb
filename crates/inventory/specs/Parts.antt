-- A component of a record mode. Assumes nothing.
use Rattle.std.specs.Prelude.{ℕ}
use Rattle.statics.specs.Scopes.{Text, Component}
use Rattle.statics.specs.Modules.{Field}

-- the field, of the record mode that the item o names
abbrev pub part_of : Text → ℕ → Field → Component
part_of x o f = record { owner = x.word o; word = x.word f.item; mode = f.mode }
