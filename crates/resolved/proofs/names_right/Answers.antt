use Rattle.resolved.proofs.WellNamed.{tree_named}
use Rattle.resolved.proofs.names_right.Goals as goal

pub returns : goal.returns
returns c = tree_named
