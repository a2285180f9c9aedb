use Rattle.streams.proofs.buffered.Buffered.end.Goals as goal
use Rattle.streams.proofs.Layers.{ended}

pub returns : goal.returns
returns g c = ended _ _ _ _ c.flush.ensures
