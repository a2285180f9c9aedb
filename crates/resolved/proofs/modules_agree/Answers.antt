use Rattle.resolved.proofs.Same.{agreed}
use Rattle.resolved.proofs.Modules.{same_module}
use Rattle.resolved.proofs.modules_agree.Goals as goal

pub returns : goal.returns
returns c = λ x m. agreed (same_module x m)
