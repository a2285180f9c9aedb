use Rattle.std.proofs.Common.{refl, arith}
use Rattle.grammar.specs.Symbols.{NAME, SEMI, LEFT, RIGHT}
use Rattle.nodes.proofs.Build.{inside}
use Rattle.nodes.proofs.Results.{passed}
use Rattle.modules.proofs.Bricks.{no_proc_left, parameters_refused, no_proc_right, result_refused, no_proc_semi, made_head}
use Rattle.modules.proofs.heading.Goals as goal

pub returns-in_err-expect-2 : goal.returns-in_err-expect-2
returns-in_err-expect-2 c =
    let uq = c.in_ok-expect.ensures in
    let e = c.in_err-expect-2.ensures in
    passed _ _ c.from_residual-in_err-expect-2.result c.from_residual-in_err-expect-2.ensures.1 (rw e.0 (no_proc_left c.args.from.depth c.args.from.symbols.now c.args.from.next c.args.from.used c.requires.there c.requires.opening (inside _ _ NAME refl uq) uq e.1))

pub returns-in_err-f : goal.returns-in_err-f
returns-in_err-f c =
    let uq = c.in_ok-expect.ensures in
    let wq = c.in_ok-expect-2.ensures in
    let z = c.in_ok-inside.ensures in
    passed _ _ c.from_residual-in_err-f.result c.from_residual-in_err-f.ensures.1 (parameters_refused c.args.from.depth c.args.from.symbols.now c.args.from.next c.args.from.used c.requires.there c.requires.opening (inside _ _ NAME refl uq) uq (inside _ _ LEFT refl wq) wq z.1 _ (rw z.0 at c.in_err-f.ensures))

pub returns-in_err-expect-3 : goal.returns-in_err-expect-3
returns-in_err-expect-3 c =
    let uq = c.in_ok-expect.ensures in
    let wq = c.in_ok-expect-2.ensures in
    let z = c.in_ok-inside.ensures in
    let m = rw z.0 at c.in_ok-f.ensures in
    let e = c.in_err-expect-3.ensures in
    passed _ _ c.from_residual-in_err-expect-3.result c.from_residual-in_err-expect-3.ensures.1 (rw e.0 (no_proc_right c.args.from.depth c.args.from.symbols.now c.args.from.next c.args.from.used c.requires.there c.requires.opening (inside _ _ NAME refl uq) uq (inside _ _ LEFT refl wq) wq z.1 _ _ c.in_ok-f.f m e.1))

pub returns-in_err-m : goal.returns-in_err-m
returns-in_err-m c =
    let uq = c.in_ok-expect.ensures in
    let wq = c.in_ok-expect-2.ensures in
    let z = c.in_ok-inside.ensures in
    let m = rw z.0 at c.in_ok-f.ensures in
    let xq = c.in_ok-expect-3.ensures in
    passed _ _ c.from_residual-in_err-m.result c.from_residual-in_err-m.ensures.1 (result_refused c.args.from.depth c.args.from.symbols.now c.args.from.next c.args.from.used c.requires.there c.requires.opening (inside _ _ NAME refl uq) uq (inside _ _ LEFT refl wq) wq z.1 _ _ c.in_ok-f.f m (inside _ _ RIGHT refl xq) xq _ (rw c.past.ensures.is at c.in_err-m.ensures))

pub returns-in_err-expect-4 : goal.returns-in_err-expect-4
returns-in_err-expect-4 c =
    let uq = c.in_ok-expect.ensures in
    let wq = c.in_ok-expect-2.ensures in
    let z = c.in_ok-inside.ensures in
    let m = rw z.0 at c.in_ok-f.ensures in
    let xq = c.in_ok-expect-3.ensures in
    let e = c.in_err-expect-4.ensures in
    passed _ _ c.from_residual-in_err-expect-4.result c.from_residual-in_err-expect-4.ensures.1 (rw e.0 (no_proc_semi c.args.from.depth c.args.from.symbols.now c.args.from.next c.args.from.used c.requires.there c.requires.opening (inside _ _ NAME refl uq) uq (inside _ _ LEFT refl wq) wq z.1 _ _ c.in_ok-f.f m (inside _ _ RIGHT refl xq) xq _ c.in_ok-m.m (rw c.past.ensures.is at c.in_ok-m.ensures) e.1))

pub returns : goal.returns
returns c =
    let uq = c.in_ok-expect.ensures in
    let wq = c.in_ok-expect-2.ensures in
    let z = c.in_ok-inside.ensures in
    let m = rw z.0 at c.in_ok-f.ensures in
    let xq = c.in_ok-expect-3.ensures in
    let o = rw c.past.ensures.is at c.in_ok-m.ensures in
    let yq = c.in_ok-expect-4.ensures in
    let yh = inside _ _ SEMI refl yq in
    rw (c.put.ensures.written, c.put.ensures.is) (made_head c.args.from.depth c.args.from.symbols.now c.args.from.next c.args.from.used c.requires.there c.requires.opening (inside _ _ NAME refl uq) uq (inside _ _ LEFT refl wq) wq z.1 _ _ c.in_ok-f.f m (inside _ _ RIGHT refl xq) xq _ c.in_ok-m.m o yh yq (omega (arith, m.few, o.few, yh, c.requires.room)))
