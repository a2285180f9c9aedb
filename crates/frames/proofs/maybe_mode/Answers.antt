use Rattle.std.proofs.Common.{sym}
use Rattle.frames.proofs.Listing.{no_mode}
use Rattle.frames.proofs.maybe_mode.Goals as goal

pub returns-in-Absent : goal.returns-in-Absent
returns-in-Absent c = λ m is x. no_mode _ _ m is (sym c.in-Absent.ensures) x
