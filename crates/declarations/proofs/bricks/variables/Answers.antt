use Rattle.std.proofs.Common.{arith}
use Rattle.nodes.proofs.Results.{passed}
use Rattle.declarations.proofs.Storage.{mode_refused, variables_refused, made_variables}
use Rattle.declarations.proofs.bricks.variables.Goals as goal

pub returns-in_err-m : goal.returns-in_err-m
returns-in_err-m g c =
    passed _ _ c.from_residual.result c.from_residual.ensures.1 (mode_refused g.D.Declares.sort c.args.from.depth c.args.from.symbols.now c.args.from.next c.args.from.used c.requires.there c.requires.begins _ c.in_err-m.ensures)

pub returns-in_err-n : goal.returns-in_err-n
returns-in_err-n g c =
    passed _ _ c.from_residual-in_err-n.result c.from_residual-in_err-n.ensures.1 (variables_refused g.D.Declares.sort c.args.from.depth c.args.from.symbols.now c.args.from.next c.args.from.used c.requires.there c.requires.begins _ _ c.in_ok-m.m c.in_ok-m.ensures _ (rw c.after.ensures at c.in_err-n.ensures))

pub returns : goal.returns
returns g c =
    let m = c.in_ok-m.ensures in
    let l = rw c.after.ensures at c.in_ok-n.ensures in
    rw (c.put.ensures.written, c.put.ensures.is) (made_variables g.D.Declares.sort c.args.from.depth c.args.from.symbols.now c.args.from.next c.args.from.used c.requires.there c.requires.begins _ _ c.in_ok-m.m m _ c.in_ok-n.n (omega (arith, m.few, l.few, l.within)) l)
