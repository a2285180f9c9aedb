use Rattle.std.proofs.Common.{ap, ◌∙◌}
use Rattle.statics.specs.Modes.{element_thing}
use Rattle.statics.specs.Written.{mode_of}
use Rattle.grammar.specs.Trees.{simple}
use Rattle.modes.proofs.Places.{place_mode, no_place}
use Rattle.modes.proofs.written.mode_at.Goals as goal

pub returns-in-Place : goal.returns-in-Place
returns-in-Place c = λ m h x. place_mode x c.in-Place.field-0 c.in-Place.mode (mode_of x m) (c.in-Place.ensures x ∙ ap element_thing (c.element_at.ensures (simple m) h x))

pub returns-in_default : goal.returns-in_default
returns-in_default c = λ m h x. absurd (no_place x c.thing.result (mode_of x m) c.in_default.not-Place (c.thing.ensures x ∙ ap element_thing (c.element_at.ensures (simple m) h x)))
