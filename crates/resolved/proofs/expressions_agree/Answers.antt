use Rattle.resolved.proofs.Same.{agreed}
use Rattle.resolved.proofs.Expressions.{same_expr}
use Rattle.resolved.proofs.expressions_agree.Goals as goal

pub returns : goal.returns
returns c = λ n G Γ e. agreed (same_expr G Γ e)
