use Rattle.statics.specs.Space.{charges}
use Rattle.resolved.proofs.Places.{laid_apart}
use Rattle.resolved.proofs.places_apart.Goals as goal

pub returns : goal.returns
returns c = λ x m. laid_apart (charges x m) 0
