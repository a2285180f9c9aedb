use Rattle.std.proofs.Common.{◌≡◌, map, length}
use Rattle.statics.specs.JudgeLimits.{least}
use Rattle.statics.specs.JudgeLimits.{doubles as doubles_of}
use Rattle.texts.specs.Facts.{facts}
use Rattle.limits.proofs.Least.{meet}
use Rattle.limits.proofs.doubles.doubled.Given as goal

abbrev pub invariant-loop-first : goal.invariant-loop-first
invariant-loop-first l = meet l.found (least (doubles_of (facts l.text) (map (λ d. d.item) l.rest))) ≡ least (doubles_of (facts l.text) (map (λ d. d.item) l.names))

abbrev pub decreases-loop-first : goal.decreases-loop-first
decreases-loop-first l = length l.rest
