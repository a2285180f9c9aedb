use Rattle.std.proofs.Common.{refl, arith}
use Rattle.grammar.specs.Symbols.{ENDPROC}
use Rattle.nodes.proofs.Build.{inside}
use Rattle.nodes.proofs.Results.{passed}
use Rattle.modules.proofs.Bricks.{no_endproc, made_procedure}
use Rattle.modules.proofs.procedure.Goals as goal

pub returns-in_err-expect : goal.returns-in_err-expect
returns-in_err-expect c =
    let m = c.in_ok-h.ensures in
    let e = c.in_err-expect.ensures in
    passed _ _ c.from_residual-in_err-expect.result c.from_residual-in_err-expect.ensures.1 (rw e.0 (no_endproc c.args.from.depth c.args.from.symbols.now c.args.from.next c.args.from.used _ _ c.in_ok-h.h m.0 m.1 _ c.in_ok-b.b (rw c.after.ensures at c.in_ok-b.ensures) e.1))

pub returns : goal.returns
returns c =
    let uq = c.in_ok-expect.ensures in
    let uh = inside _ _ ENDPROC refl uq in
    let m = c.in_ok-h.ensures in
    let o = rw c.after.ensures at c.in_ok-b.ensures in
    rw (c.put.ensures.written, c.put.ensures.is) (made_procedure c.args.from.depth c.args.from.symbols.now c.args.from.next c.args.from.used _ _ c.in_ok-h.h m.0 m.1 _ c.in_ok-b.b o uh uq (omega (arith, m.1, o.few, uh, c.requires.room)))
