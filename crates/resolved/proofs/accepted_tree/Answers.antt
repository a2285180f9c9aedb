use Rattle.resolved.proofs.Modules.{accepted_one}
use Rattle.resolved.proofs.accepted_tree.Goals as goal

pub returns : goal.returns
returns c = accepted_one
