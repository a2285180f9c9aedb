use Rattle.resolved.proofs.Stored.{ground_items}
use Rattle.resolved.proofs.ground_right.Goals as goal

pub returns : goal.returns
returns c = ground_items
