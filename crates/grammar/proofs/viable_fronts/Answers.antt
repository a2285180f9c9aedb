use Rattle.grammar.proofs.Right.{viable_fronts_lem}
use Rattle.grammar.proofs.viable_fronts.Goals as goal

pub returns : goal.returns
returns c = viable_fronts_lem
