use Rattle.std.proofs.Common.{refl, arith}
use Rattle.grammar.specs.Symbols.{LEFT, RIGHT}
use Rattle.nodes.proofs.Build.{inside}
use Rattle.nodes.proofs.Results.{passed}
use Rattle.modules.proofs.Moditems.{ext_modes_refused, no_ext_right, ext_result_refused, ext_names_refused, made_ext_procs}
use Rattle.modules.proofs.external_procs.Goals as goal

pub returns-in_err-p : goal.returns-in_err-p
returns-in_err-p c =
    let uq = c.in_ok-expect.ensures in
    let z = c.in_ok-inside.ensures in
    passed _ _ c.from_residual-in_err-p.result c.from_residual-in_err-p.ensures.1 (ext_modes_refused c.args.from.depth c.args.from.symbols.now c.args.from.next c.args.from.used (omega (arith, c.requires.there)) c.requires.opening c.requires.there c.requires.second (inside _ _ LEFT refl uq) uq z.1 _ (rw z.0 at c.in_err-p.ensures))

pub returns-in_err-expect-2 : goal.returns-in_err-expect-2
returns-in_err-expect-2 c =
    let uq = c.in_ok-expect.ensures in
    let z = c.in_ok-inside.ensures in
    let m = rw z.0 at c.in_ok-p.ensures in
    let e = c.in_err-expect-2.ensures in
    passed _ _ c.from_residual-in_err-expect-2.result c.from_residual-in_err-expect-2.ensures.1 (rw e.0 (no_ext_right c.args.from.depth c.args.from.symbols.now c.args.from.next c.args.from.used (omega (arith, c.requires.there)) c.requires.opening c.requires.there c.requires.second (inside _ _ LEFT refl uq) uq z.1 _ _ c.in_ok-p.p m e.1))

pub returns-in_err-m : goal.returns-in_err-m
returns-in_err-m c =
    let uq = c.in_ok-expect.ensures in
    let z = c.in_ok-inside.ensures in
    let m = rw z.0 at c.in_ok-p.ensures in
    let wq = c.in_ok-expect-2.ensures in
    passed _ _ c.from_residual-in_err-m.result c.from_residual-in_err-m.ensures.1 (ext_result_refused c.args.from.depth c.args.from.symbols.now c.args.from.next c.args.from.used (omega (arith, c.requires.there)) c.requires.opening c.requires.there c.requires.second (inside _ _ LEFT refl uq) uq z.1 _ _ c.in_ok-p.p m (inside _ _ RIGHT refl wq) wq _ (rw c.past.ensures.is at c.in_err-m.ensures))

pub returns-in_err-n : goal.returns-in_err-n
returns-in_err-n c =
    let uq = c.in_ok-expect.ensures in
    let z = c.in_ok-inside.ensures in
    let m = rw z.0 at c.in_ok-p.ensures in
    let wq = c.in_ok-expect-2.ensures in
    passed _ _ c.from_residual-in_err-n.result c.from_residual-in_err-n.ensures.1 (ext_names_refused c.args.from.depth c.args.from.symbols.now c.args.from.next c.args.from.used (omega (arith, c.requires.there)) c.requires.opening c.requires.there c.requires.second (inside _ _ LEFT refl uq) uq z.1 _ _ c.in_ok-p.p m (inside _ _ RIGHT refl wq) wq _ c.in_ok-m.m (rw c.past.ensures.is at c.in_ok-m.ensures) _ (rw c.after.ensures at c.in_err-n.ensures))

pub returns : goal.returns
returns c =
    let uq = c.in_ok-expect.ensures in
    let z = c.in_ok-inside.ensures in
    let m = rw z.0 at c.in_ok-p.ensures in
    let wq = c.in_ok-expect-2.ensures in
    let o = rw c.past.ensures.is at c.in_ok-m.ensures in
    let b = rw c.after.ensures at c.in_ok-n.ensures in
    rw (c.put.ensures.written, c.put.ensures.is) (made_ext_procs c.args.from.depth c.args.from.symbols.now c.args.from.next c.args.from.used (omega (arith, c.requires.there)) c.requires.opening c.requires.there c.requires.second (inside _ _ LEFT refl uq) uq z.1 _ _ c.in_ok-p.p m (inside _ _ RIGHT refl wq) wq _ c.in_ok-m.m o _ c.in_ok-n.n (omega (arith, m.few, o.few, b.few, b.within, c.requires.room)) b)
