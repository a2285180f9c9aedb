use Rattle.std.proofs.Common.{◌∙◌}
use Rattle.judging.proofs.Spelled.{logical_result, arithmetic_result}
use Rattle.judging.proofs.operators.result.Goals as goal

pub returns-in-Land : goal.returns-in-Land
returns-in-Land c n o e x = c.combined.ensures x ∙ logical_result c.args.operator c.in-Land.is o _ _ e

pub returns-in_default : goal.returns-in_default
returns-in_default c n o e x = arithmetic_result c.args.operator c.in_default.not-Land c.in_default.not-Lor c.in_default.not-Nev o _ _ e
