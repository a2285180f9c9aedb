use Rattle.statics.specs.Space.{charges}
use Rattle.resolved.proofs.Places.{each_laid}
use Rattle.resolved.proofs.each_placed.Goals as goal

pub returns : goal.returns
returns c = λ x m. each_laid (charges x m) 0
