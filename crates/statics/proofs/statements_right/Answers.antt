use Rattle.statics.proofs.Decide.{verdict}
use Rattle.statics.proofs.Statements.{body_right}
use Rattle.statics.proofs.statements_right.Goals as goal

pub returns : goal.returns
returns c = λ Γ b lo hi i. verdict (body_right Γ b lo hi i).decided
