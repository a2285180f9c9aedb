use Rattle.std.proofs.Common.{refl}
use Rattle.statics.specs.declared.Refusal.TheVariants.{TooManyPlaces}
use Rattle.statics.specs.Space.{charges}
use Rattle.resolved.proofs.Places.{laid_below}
use Rattle.resolved.proofs.places_below.Goals as goal

pub returns : goal.returns
returns c = λ x m clean. laid_below 4096 0 (charges x m) (λ q h. clean (TooManyPlaces q) (q, h, refl))
