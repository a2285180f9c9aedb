use Rattle.std.proofs.Common.{refl, arith}
use Rattle.nodes.proofs.Results.{passed}
use Rattle.grammar.specs.Symbols.{LEFT, INTEGER, RIGHT}
use Rattle.nodes.proofs.Build.{inside}
use Rattle.declarations.proofs.Storage.{element_refused, arrays_refused, made_arrays}
use Rattle.declarations.proofs.bricks.arrays.Goals as goal

pub returns-in_err-m : goal.returns-in_err-m
returns-in_err-m g c =
    let e = c.in_ok-expect.ensures in
    let h = inside _ _ LEFT refl e in
    let x = c.in_ok-expect-2.ensures in
    let k = inside _ _ INTEGER refl x in
    let y = c.in_ok-expect-3.ensures in
    let l = inside _ _ RIGHT refl y in
    passed _ _ c.from_residual-in_err-m.result c.from_residual-in_err-m.ensures.1 (element_refused g.D.Declares.sort c.args.from.depth c.args.from.symbols.now c.args.from.next c.args.from.used c.requires.there c.requires.array h e c.in_ok-deeper.ensures.1 k x l y _ c.in_err-m.ensures)

pub returns-in_err-n : goal.returns-in_err-n
returns-in_err-n g c =
    let e = c.in_ok-expect.ensures in
    let h = inside _ _ LEFT refl e in
    let x = c.in_ok-expect-2.ensures in
    let k = inside _ _ INTEGER refl x in
    let y = c.in_ok-expect-3.ensures in
    let l = inside _ _ RIGHT refl y in
    passed _ _ c.from_residual-in_err-n.result c.from_residual-in_err-n.ensures.1 (arrays_refused g.D.Declares.sort c.args.from.depth c.args.from.symbols.now c.args.from.next c.args.from.used c.requires.there c.requires.array h e c.in_ok-deeper.ensures.1 k x l y _ _ c.in_ok-m.m c.in_ok-m.ensures _ (rw c.after.ensures at c.in_err-n.ensures))

pub returns : goal.returns
returns g c =
    let e = c.in_ok-expect.ensures in
    let h = inside _ _ LEFT refl e in
    let x = c.in_ok-expect-2.ensures in
    let k = inside _ _ INTEGER refl x in
    let y = c.in_ok-expect-3.ensures in
    let l = inside _ _ RIGHT refl y in
    let m = c.in_ok-m.ensures in
    let n = rw c.after.ensures at c.in_ok-n.ensures in
    rw (c.put.ensures.written, c.put.ensures.is) (made_arrays g.D.Declares.sort c.args.from.depth c.args.from.symbols.now c.args.from.next c.args.from.used c.requires.there c.requires.array h e c.in_ok-deeper.ensures.1 k x l y _ _ c.in_ok-m.m m _ c.in_ok-n.n (omega (arith, m.few, n.few, n.within)) n)
