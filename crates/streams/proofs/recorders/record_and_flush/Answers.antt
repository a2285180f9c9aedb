use Rattle.std.proofs.Common.{rules}
use Rattle.streams.proofs.recorders.record_and_flush.Goals as goal
use Rattle.streams.proofs.Laws.{recorded_then_closed}

pub returns : goal.returns
returns g c = search (rules, recorded_then_closed)
