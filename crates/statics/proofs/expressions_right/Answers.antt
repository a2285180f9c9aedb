use Rattle.statics.proofs.Decide.{verdict}
use Rattle.statics.proofs.Expressions.{expr_right}
use Rattle.statics.proofs.expressions_right.Goals as goal

pub returns : goal.returns
returns c = λ n Γ e lo hi i. verdict (expr_right Γ e lo hi i).decided
