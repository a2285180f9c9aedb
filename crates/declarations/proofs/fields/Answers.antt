use Rattle.std.proofs.Common.{refl, ◌∙◌, arith}
use Rattle.nodes.proofs.Results.{passed}
use Rattle.grammar.specs.Symbols.{NAME}
use Rattle.nodes.proofs.Build.{inside, rebased}
use Rattle.nodes.proofs.Keep.{agree_set, agree_trans}
use Rattle.declarations.proofs.Components.{first_mode_refused, first_no_name, made_field, fields_end}
use Rattle.grammar.proofs.Tests.{said}
use Rattle.declarations.proofs.fields.Goals as goal

pub returns-in_err-m : goal.returns-in_err-m
returns-in_err-m c =
    passed _ _ c.from_residual.result c.from_residual.ensures.1 (first_mode_refused c.args.from.depth c.args.from.symbols.now c.args.from.next c.args.from.used _ c.in_err-m.ensures)

pub returns-in_err-expect : goal.returns-in_err-expect
returns-in_err-expect c =
    passed _ _ c.from_residual-in_err-expect.result c.from_residual-in_err-expect.ensures.1 (rw c.in_err-expect.ensures.0 (first_no_name c.args.from.depth c.args.from.symbols.now c.args.from.next c.args.from.used _ _ c.in_ok-m.m c.in_ok-m.ensures c.in_err-expect.ensures.1))

pub loop-from-init : goal.loop-from-init
loop-from-init c =
    let e = c.in_ok-expect.ensures in
    let h = inside _ _ NAME refl e in
    rw (c.put-at.ensures.written, c.put-at.ensures.is) (rebased 0 _ _ _ _ _ _ _ _ _ _ (λ j l. refl) (made_field c.args.from.depth c.args.from.symbols.now c.args.from.next c.args.from.used _ _ c.in_ok-m.m c.in_ok-m.ensures h e (omega (arith, h, c.in_ok-m.ensures))))

pub returns : goal.returns
returns c =
    let m = c.in_ok-m.ensures in
    fields_end c.args.from.depth c.args.from.symbols.now c.args.from.next c.args.from.used _ _ c.loop-from.at c.loop-from.invariant _ (agree_trans c.args.from.used c.args.from.used _ _ _ (omega arith) m.kept (rw c.put-at.ensures.written (agree_set c.args.from.used c.in_ok-m.m.used _ _ (omega (arith, m.more))))) (λ e. (said _ _ _ c.loop-from-test.ensures) (c.peek.ensures.is ∙ e))
