use Rattle.statics.proofs.Decide.{verdict}
use Rattle.statics.proofs.Expressions.{condition_right}
use Rattle.statics.proofs.conditions_right.Goals as goal

pub returns : goal.returns
returns c = λ Γ d lo hi i. verdict (condition_right Γ d lo hi i).decided
