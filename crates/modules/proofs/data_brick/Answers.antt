use Rattle.std.proofs.Common.{arith}
use Rattle.modules.proofs.Bricks.{made_data}
use Rattle.modules.proofs.data_brick.Goals as goal

pub returns : goal.returns
returns c =
    let m = c.in_ok-d.ensures in
    rw (c.put.ensures.written, c.put.ensures.is) (made_data c.args.from.depth c.args.from.symbols.now c.args.from.next c.args.from.used c.requires.there c.requires.opening _ _ c.in_ok-d.d (omega (arith, m.few, m.within, c.requires.room)) m)
