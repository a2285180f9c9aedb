use Rattle.grammar.proofs.Right.{nothing_after_lem}
use Rattle.grammar.proofs.nothing_after.Goals as goal

pub returns : goal.returns
returns c = nothing_after_lem
