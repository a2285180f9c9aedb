use Rattle.resolved.proofs.Numbered.{numbered}
use Rattle.resolved.proofs.component_right.Goals as goal

pub returns : goal.returns
returns c = numbered
