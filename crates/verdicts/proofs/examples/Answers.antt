use Rattle.verdicts.proofs.Shown.{examples_lem}
use Rattle.verdicts.proofs.examples.Goals as goal

pub returns : goal.returns
returns c = examples_lem
