use Rattle.grammar.proofs.Right.{unique}
use Rattle.grammar.proofs.unique.Goals as goal

pub returns : goal.returns
returns c = unique
