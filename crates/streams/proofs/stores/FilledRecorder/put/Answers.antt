use Rattle.std.proofs.Common.{length, ap, arith}
use Rattle.streams.proofs.stores.FilledRecorder.put.Goals as goal
use Rattle.streams.proofs.Layers.{stored_put}

pub returns-clause-puts : goal.returns-clause-puts
returns-clause-puts g c =
    rw c.overwrite.ensures.bytes (stored_put c.args.b (g.S.AsSlice.items c.args.self.now.bytes) c.args.self.now.used (omega (arith, ap length c.as_slice.ensures)) c.overwrite.ensures.lent)
