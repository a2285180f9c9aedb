use Rattle.judging.proofs.Spelled.{logical_operand, arithmetic_operand}
use Rattle.judging.proofs.operators.operand.Goals as goal

pub returns-in-Land : goal.returns-in-Land
returns-in-Land c n o e x = logical_operand c.args.operator c.in-Land.is o e

pub returns-in_default : goal.returns-in_default
returns-in_default c n o e x = arithmetic_operand c.args.operator c.in_default.not-Land c.in_default.not-Lor c.in_default.not-Nev o e
