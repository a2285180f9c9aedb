use Rattle.resolved.proofs.Declared.{tree_these}
use Rattle.resolved.proofs.parts_right.Goals as goal

pub returns : goal.returns
returns c = tree_these
