use Rattle.std.proofs.Common.{arith}
use Rattle.nodes.proofs.Results.{passed}
use Rattle.declarations.proofs.Storage.{records_refused, made_structures}
use Rattle.declarations.proofs.bricks.structures.Goals as goal

pub returns-in_err-n : goal.returns-in_err-n
returns-in_err-n g c =
    passed _ _ c.from_residual.result c.from_residual.ensures.1 (records_refused g.D.Declares.sort c.args.from.depth c.args.from.symbols.now c.args.from.next c.args.from.used c.requires.there c.requires.name _ c.in_err-n.ensures)

pub returns : goal.returns
returns g c = rw (c.put.ensures.written, c.put.ensures.is) (made_structures g.D.Declares.sort c.args.from.depth c.args.from.symbols.now c.args.from.next c.args.from.used c.requires.there c.requires.name _ _ c.in_ok-n.n (omega (arith, c.in_ok-n.ensures)) c.in_ok-n.ensures)
