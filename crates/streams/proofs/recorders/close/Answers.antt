use Rattle.std.proofs.Common.{rules}
use Rattle.streams.proofs.recorders.close.Goals as goal
use Rattle.streams.proofs.Laws.{closed_kept}

pub returns : goal.returns
returns g c = search (rules, closed_kept)
