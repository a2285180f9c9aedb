use Rattle.std.proofs.Common.{refl, arith}
use Rattle.grammar.specs.Symbols.{NAME, LEFT, RIGHT}
use Rattle.nodes.proofs.Build.{inside}
use Rattle.nodes.proofs.Results.{passed}
use Rattle.modules.proofs.Moditems.{components_refused, no_record_right, made_record}
use Rattle.modules.proofs.record_mode.Goals as goal

pub returns-in_err-f : goal.returns-in_err-f
returns-in_err-f c =
    let uq = c.in_ok-expect.ensures in
    let wq = c.in_ok-expect-2.ensures in
    let z = c.in_ok-inside.ensures in
    passed _ _ c.from_residual-in_err-f.result c.from_residual-in_err-f.ensures.1 (components_refused c.args.from.depth c.args.from.symbols.now c.args.from.next c.args.from.used c.requires.there c.requires.opening (inside _ _ NAME refl uq) uq (inside _ _ LEFT refl wq) wq z.1 _ (rw z.0 at c.in_err-f.ensures))

pub returns-in_err-expect-3 : goal.returns-in_err-expect-3
returns-in_err-expect-3 c =
    let uq = c.in_ok-expect.ensures in
    let wq = c.in_ok-expect-2.ensures in
    let z = c.in_ok-inside.ensures in
    let m = rw z.0 at c.in_ok-f.ensures in
    let e = c.in_err-expect-3.ensures in
    passed _ _ c.from_residual-in_err-expect-3.result c.from_residual-in_err-expect-3.ensures.1 (rw e.0 (no_record_right c.args.from.depth c.args.from.symbols.now c.args.from.next c.args.from.used c.requires.there c.requires.opening (inside _ _ NAME refl uq) uq (inside _ _ LEFT refl wq) wq z.1 _ _ c.in_ok-f.f m e.1))

pub returns : goal.returns
returns c =
    let uq = c.in_ok-expect.ensures in
    let wq = c.in_ok-expect-2.ensures in
    let z = c.in_ok-inside.ensures in
    let m = rw z.0 at c.in_ok-f.ensures in
    let xq = c.in_ok-expect-3.ensures in
    let xh = inside _ _ RIGHT refl xq in
    rw (c.put.ensures.written, c.put.ensures.is) (made_record c.args.from.depth c.args.from.symbols.now c.args.from.next c.args.from.used c.requires.there c.requires.opening (inside _ _ NAME refl uq) uq (inside _ _ LEFT refl wq) wq z.1 _ _ c.in_ok-f.f m xh xq (omega (arith, m.few, xh, c.requires.room)))
