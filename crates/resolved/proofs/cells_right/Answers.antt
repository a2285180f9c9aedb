use Rattle.resolved.proofs.Stored.{tree_filled}
use Rattle.resolved.proofs.cells_right.Goals as goal

pub returns : goal.returns
returns c = tree_filled
