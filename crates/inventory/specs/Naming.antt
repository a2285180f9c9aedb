-- What the names of a module are put into two tables for. Assumes nothing.
use Rattle.std.specs.Prelude.{◌≡◌, ◌≤◌, List, drop, length, map, Option}
use Rattle.statics.specs.Scopes.{Text, Signature}
use Rattle.statics.specs.Modes as rules
use Rattle.statics.specs.Written.{Site}
use Rattle.modes.specs.declared.Mode.{Mode}
use Rattle.modes.specs.Meanings.{mode_means}
use Rattle.scopes.specs.declared.Declared.{Declared}
use Rattle.frames.specs.Frames.{Ahead, site_means}
use Rattle.inventory.specs.declared.module_names.Starts.{Starts}

abbrev pub signature_of : List rules.Mode → Option rules.Mode → Signature
signature_of us g = record { takes = us; gives = g }

-- The table of what procedures take stands for ms more. The table of names stands for ss more, by any table of modes that stands for the
-- same as this from there on: so also when more is put in front.
abbrev pub Fills : Text → List rules.Mode → List Site → Starts → List Declared → List Mode → Starts → List Declared → List Mode → Type 0
Fills x us ss before names takes after new_names new_takes =
    Ahead (mode_means x) us before.takes takes after.takes new_takes
    × (length us ≤ before.takes → before.takes ≤ length takes → (ms : List Mode) → map (mode_means x) (drop after.takes ms) ≡ map (mode_means x) (drop after.takes new_takes) → Ahead (site_means x ms) ss before.names names after.names new_names)
