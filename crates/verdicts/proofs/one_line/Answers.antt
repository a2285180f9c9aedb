use Rattle.verdicts.proofs.Verdicts.{one_line_lem}
use Rattle.verdicts.proofs.one_line.Goals as goal

pub returns : goal.returns
returns c = one_line_lem
