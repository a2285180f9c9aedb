use Rattle.resolved.proofs.Same.{agreed}
use Rattle.resolved.proofs.Expressions.{same_condition}
use Rattle.resolved.proofs.conditions_agree.Goals as goal

pub returns : goal.returns
returns c = λ G Γ d. agreed (same_condition G Γ d)
