use Rattle.std.proofs.Common.{◌≤◌}
use Rattle.statics.specs.Space.{string_charges}
use Rattle.texts.specs.Facts.{facts}
use Rattle.frames.specs.Frames.{Kept}
use Rattle.space.specs.Charges.{charge_means}
use Rattle.space.specs.Strings.{strings_at}
use Rattle.space.proofs.Leading.{Leading}
use Rattle.space.proofs.strings.+put_strings.Given as goal

abbrev pub decreases-put_strings : goal.decreases-put_strings
decreases-put_strings l = l.k

abbrev pub invariant-loop-item : goal.invariant-loop-item
invariant-loop-item l =
    (l.at ≤ l.k)
    × Kept l.fn.start l.fn.charges l.start l.charges
    × Leading charge_means (string_charges (facts l.text) (strings_at l.nodes l.k)) (string_charges (facts l.text) (strings_at l.nodes l.at)) l.fn.start l.fn.charges l.start l.charges

abbrev pub decreases-loop-item : goal.decreases-loop-item
decreases-loop-item l = l.at
