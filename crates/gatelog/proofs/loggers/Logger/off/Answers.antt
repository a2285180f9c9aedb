use Rattle.std.proofs.Common.{rules}
use Rattle.gatelog.proofs.Accepting.{stands_closed}
use Rattle.gatelog.proofs.loggers.Logger.off.Goals as goal

pub returns : goal.returns
returns g c = search (rules, stands_closed)
