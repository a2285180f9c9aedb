use Rattle.resolved.proofs.Same.{agreed}
use Rattle.resolved.proofs.Statements.{same_body}
use Rattle.resolved.proofs.statements_agree.Goals as goal

pub returns : goal.returns
returns c = λ G Γ b. agreed (same_body G Γ b)
