use Rattle.grammar.proofs.Depth.{balanced}
use Rattle.grammar.proofs.balanced_depth.Goals as goal

pub returns : goal.returns
returns c = balanced
