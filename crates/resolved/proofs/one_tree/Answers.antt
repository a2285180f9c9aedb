use Rattle.resolved.proofs.Modules.{judged_tree, tree_judged}
use Rattle.resolved.proofs.one_tree.Goals as goal

pub returns : goal.returns
returns c = λ x m. (judged_tree x m, tree_judged x m)
