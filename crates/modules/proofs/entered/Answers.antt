use Rattle.std.proofs.Common.{arith}
use Rattle.nodes.proofs.Results.{passed}
use Rattle.modules.proofs.Moditems.{ent_refused, made_entry}
use Rattle.modules.proofs.entered.Goals as goal

pub returns-in_err-b : goal.returns-in_err-b
returns-in_err-b c =
    passed _ _ c.from_residual.result c.from_residual.ensures.1 (ent_refused c.args.from.depth c.args.from.symbols.now c.args.from.next c.args.from.used c.requires.there c.requires.opening _ c.in_err-b.ensures)

pub returns : goal.returns
returns c =
    let m = c.in_ok-b.ensures in
    rw (c.put.ensures.written, c.put.ensures.is) (made_entry c.args.from.depth c.args.from.symbols.now c.args.from.next c.args.from.used c.requires.there c.requires.opening _ _ c.in_ok-b.b (omega (arith, m.1, m.0.within, c.requires.room)) m.0)
