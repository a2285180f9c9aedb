use Rattle.std.proofs.Common.{sym, refl, ◌∙◌, arith}
use Rattle.nodes.proofs.Results.{passed}
use Rattle.grammar.specs.Symbols.{NAME}
use Rattle.nodes.proofs.Build.{far, inside}
use Rattle.declarations.proofs.Components.{made_also, further_refused, further_no_name, made_next}
use Rattle.grammar.proofs.Tests.{said}
use Rattle.declarations.proofs.further.Goals as goal

pub returns-then-eq : goal.returns-then-eq
returns-then-eq c =
    let e = (said _ _ _ c.if-eq.ensures) in
    let h = c.peek.ensures.there (far NAME _ refl e) in
    rw (c.put.ensures.written, c.put.ensures.is) ((made_also c.args.from.depth c.args.from.symbols.now c.args.from.next c.args.from.used _ _ c.args.at c.requires.begun c.requires.there c.requires.comma h (sym c.peek.ensures.is ∙ e) (omega (arith, h, c.requires.begun.few)), omega arith))

pub returns-in_err-m : goal.returns-in_err-m
returns-in_err-m c =
    passed _ _ c.from_residual.result c.from_residual.ensures.1 (further_refused c.args.from.depth c.args.from.symbols.now c.args.from.next c.args.from.used _ _ c.args.at c.requires.begun c.requires.there c.requires.comma (λ e. (said _ _ _ c.if-eq.ensures) (c.peek.ensures.is ∙ e)) _ (rw c.past.ensures.is at c.in_err-m.ensures))

pub returns-in_err-expect : goal.returns-in_err-expect
returns-in_err-expect c =
    passed _ _ c.from_residual-in_err-expect.result c.from_residual-in_err-expect.ensures.1 (rw c.in_err-expect.ensures.0 (further_no_name c.args.from.depth c.args.from.symbols.now c.args.from.next c.args.from.used _ _ c.args.at c.requires.begun c.requires.there c.requires.comma (λ e. (said _ _ _ c.if-eq.ensures) (c.peek.ensures.is ∙ e)) _ c.in_ok-m.m (rw c.past.ensures.is at c.in_ok-m.ensures) c.in_err-expect.ensures.1))

pub returns : goal.returns
returns c =
    let e = c.in_ok-expect.ensures in
    let h = inside _ _ NAME refl e in
    let m = rw c.past.ensures.is at c.in_ok-m.ensures in
    rw (c.put-2.ensures.written, c.put-2.ensures.is) ((made_next c.args.from.depth c.args.from.symbols.now c.args.from.next c.args.from.used _ _ c.args.at c.requires.begun c.requires.there c.requires.comma (λ e. (said _ _ _ c.if-eq.ensures) (c.peek.ensures.is ∙ e)) _ c.in_ok-m.m m h e (omega (arith, h, m.few, c.requires.begun.few)), omega (arith, m.few, m.more)))
