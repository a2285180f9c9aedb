use Rattle.statics.proofs.Decide.{verdict}
use Rattle.statics.proofs.Modules.{module_right}
use Rattle.statics.proofs.modules_right.Goals as goal

pub returns : goal.returns
returns c = λ x m lo hi i. verdict (module_right x m lo hi i).decided
