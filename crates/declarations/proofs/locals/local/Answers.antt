use Rattle.std.proofs.Common.{refl, arith}
use Rattle.nodes.proofs.Results.{passed}
use Rattle.grammar.specs.Symbols.{SEMI}
use Rattle.nodes.proofs.Build.{inside}
use Rattle.declarations.proofs.Bodies.{mode_refused, inits_refused, local_unended, made_local}
use Rattle.declarations.proofs.locals.local.Goals as goal

pub returns-in_err-m : goal.returns-in_err-m
returns-in_err-m c =
    passed _ _ c.from_residual.result c.from_residual.ensures.1 (mode_refused c.args.from.depth c.args.from.symbols.now c.args.from.next c.args.from.used c.requires.there c.requires.begins _ c.in_err-m.ensures)

pub returns-in_err-n : goal.returns-in_err-n
returns-in_err-n c =
    passed _ _ c.from_residual-in_err-n.result c.from_residual-in_err-n.ensures.1 (inits_refused c.args.from.depth c.args.from.symbols.now c.args.from.next c.args.from.used c.requires.there c.requires.begins _ _ c.in_ok-m.m c.in_ok-m.ensures _ (rw c.after.ensures at c.in_err-n.ensures))

pub returns-in_err-expect : goal.returns-in_err-expect
returns-in_err-expect c =
    passed _ _ c.from_residual-in_err-expect.result c.from_residual-in_err-expect.ensures.1 (rw c.in_err-expect.ensures.0 (local_unended c.args.from.depth c.args.from.symbols.now c.args.from.next c.args.from.used c.requires.there c.requires.begins _ _ c.in_ok-m.m c.in_ok-m.ensures _ c.in_ok-n.n (rw c.after.ensures at c.in_ok-n.ensures) c.in_err-expect.ensures.1))

pub returns : goal.returns
returns c =
    let e = c.in_ok-expect.ensures in
    let h = inside _ _ SEMI refl e in
    let m = c.in_ok-m.ensures in
    let l = rw c.after.ensures at c.in_ok-n.ensures in
    rw (c.put.ensures.written, c.put.ensures.is) ((made_local c.args.from.depth c.args.from.symbols.now c.args.from.next c.args.from.used c.requires.there c.requires.begins _ _ c.in_ok-m.m m _ c.in_ok-n.n l h e (omega (arith, h, m.few, l.few)), omega (arith, m.few, l.few)))
