use Rattle.std.proofs.Common.{◌≡◌, map, drop}
use Rattle.statics.specs.JudgeLimits.{alike_in, least}
use Rattle.texts.specs.Facts.{facts}
use Rattle.limits.proofs.Least.{meet}
use Rattle.limits.proofs.doubles.alike.Given as goal

abbrev pub invariant-loop-name : goal.invariant-loop-name
invariant-loop-name l = meet l.found (least (alike_in (facts l.text) l.item (map (λ d. d.item) (drop l.name-index l.names)))) ≡ least (alike_in (facts l.text) l.item (map (λ d. d.item) l.names))
