use Rattle.grammar.proofs.Right.{one_tree_lem}
use Rattle.grammar.proofs.one_tree.Goals as goal

pub returns : goal.returns
returns c = one_tree_lem
