use Rattle.grammar.proofs.Right.{accepted}
use Rattle.grammar.proofs.accepted.Goals as goal

pub returns : goal.returns
returns c = accepted
