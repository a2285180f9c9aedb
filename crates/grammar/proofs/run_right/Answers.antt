use Rattle.grammar.proofs.Right.{run_right_lem}
use Rattle.grammar.proofs.run_right.Goals as goal

pub returns : goal.returns
returns c = run_right_lem
