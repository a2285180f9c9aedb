use Rattle.streams.proofs.recorders.nothing_is_lost.Goals as goal
use Rattle.streams.proofs.Laws.{nothing_lost}

pub returns : goal.returns
returns c = nothing_lost
