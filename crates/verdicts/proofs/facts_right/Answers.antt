use Rattle.verdicts.proofs.Items.{facts_right_lem}
use Rattle.verdicts.proofs.facts_right.Goals as goal

pub returns : goal.returns
returns c = facts_right_lem
