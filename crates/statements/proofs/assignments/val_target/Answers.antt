use Rattle.std.proofs.Common.{refl, arith}
use Rattle.nodes.proofs.Results.{passed}
use Rattle.grammar.specs.Symbols.{NAME, BECOMES}
use Rattle.nodes.proofs.Build.{inside}
use Rattle.statements.proofs.Targets.{val_refused, val_no_becomes, made_val}
use Rattle.statements.proofs.assignments.val_target.Goals as goal

pub returns-in_err-v : goal.returns-in_err-v
returns-in_err-v c =
    let q = c.in_ok-expect.ensures in
    passed _ _ c.from_residual-in_err-v.result c.from_residual-in_err-v.ensures.1 (val_refused c.args.from.depth c.args.from.symbols.now c.args.from.next c.args.from.used (inside _ _ NAME refl q) q _ c.in_err-v.ensures)

pub returns-in_err-expect-2 : goal.returns-in_err-expect-2
returns-in_err-expect-2 c =
    let q = c.in_ok-expect.ensures in
    passed _ _ c.from_residual-in_err-expect-2.result c.from_residual-in_err-expect-2.ensures.1 (rw c.in_err-expect-2.ensures.0 (val_no_becomes c.args.from.depth c.args.from.symbols.now c.args.from.next c.args.from.used (inside _ _ NAME refl q) q _ _ c.in_ok-v.v c.in_ok-v.ensures c.in_err-expect-2.ensures.1))

pub returns : goal.returns
returns c =
    let q = c.in_ok-expect.ensures in
    let x = c.in_ok-expect-2.ensures in
    let h = inside _ _ BECOMES refl x in
    let m = c.in_ok-v.ensures in
    rw (c.put.ensures.written, c.put.ensures.is) (made_val c.args.from.depth c.args.from.symbols.now c.args.from.next c.args.from.used (inside _ _ NAME refl q) q _ _ c.in_ok-v.v m c.requires.there c.requires.valued h x (omega (arith, h, m.few)))
