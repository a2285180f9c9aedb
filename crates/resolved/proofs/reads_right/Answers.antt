use Rattle.resolved.proofs.Reading.{reads_give}
use Rattle.resolved.proofs.reads_right.Goals as goal

pub returns : goal.returns
returns c = λ n t m f. reads_give f
