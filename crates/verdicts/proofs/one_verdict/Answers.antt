use Rattle.verdicts.proofs.Verdicts.{one_verdict_lem}
use Rattle.verdicts.proofs.one_verdict.Goals as goal

pub returns : goal.returns
returns c = one_verdict_lem
