use Rattle.std.proofs.Common.{refl}
use Rattle.grammar.specs.Symbols.{NAME, SEMI, ENDDATA}
use Rattle.nodes.proofs.Build.{inside}
use Rattle.nodes.proofs.Results.{passed}
use Rattle.modules.proofs.Bricks.{decs_refused, no_enddata, made_storing}
use Rattle.modules.proofs.storing.Goals as goal

pub returns-in_err-d : goal.returns-in_err-d
returns-in_err-d g c =
    let uq = c.in_ok-expect.ensures in
    let wq = c.in_ok-expect-2.ensures in
    passed _ _ c.from_residual-in_err-d.result c.from_residual-in_err-d.ensures.1 (decs_refused g.D.Declares.sort c.args.from.depth c.args.from.symbols.now c.args.from.next c.args.from.used (inside _ _ NAME refl uq) uq (inside _ _ SEMI refl wq) wq _ c.in_err-d.ensures)

pub returns-in_err-expect-3 : goal.returns-in_err-expect-3
returns-in_err-expect-3 g c =
    let uq = c.in_ok-expect.ensures in
    let wq = c.in_ok-expect-2.ensures in
    let x = c.in_err-expect-3.ensures in
    passed _ _ c.from_residual-in_err-expect-3.result c.from_residual-in_err-expect-3.ensures.1 (rw x.0 (no_enddata g.D.Declares.sort c.args.from.depth c.args.from.symbols.now c.args.from.next c.args.from.used (inside _ _ NAME refl uq) uq (inside _ _ SEMI refl wq) wq _ _ c.in_ok-d.d c.in_ok-d.ensures x.1))

pub returns : goal.returns
returns g c =
    let uq = c.in_ok-expect.ensures in
    let wq = c.in_ok-expect-2.ensures in
    let xq = c.in_ok-expect-3.ensures in
    made_storing g.D.Declares.sort c.args.from.depth c.args.from.symbols.now c.args.from.next c.args.from.used (inside _ _ NAME refl uq) uq (inside _ _ SEMI refl wq) wq _ _ c.in_ok-d.d c.in_ok-d.ensures (inside _ _ ENDDATA refl xq) xq
