use Rattle.gatelog.proofs.Accepting.{stands_written}
use Rattle.gatelog.proofs.loggers.Logger.survivors.Goals as goal

pub returns : goal.returns
returns g c = λ _ n es a. stands_written n es _ _ c.restore.result c.text.ensures c.restore.ensures a
