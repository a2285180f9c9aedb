use Rattle.std.proofs.Common.{◌+◌, [], sym, refl, ◌∙◌, arith}
use Rattle.nodes.proofs.Results.{passed}
use Rattle.grammar.specs.Symbols.{LEFT}
use Rattle.nodes.proofs.Build.{far}
use Rattle.nodes.specs.declared.Fault.TheVariants.{Syntax, Deep}
use Rattle.declarations.specs.Referring.{bare, brackets}
use Rattle.declarations.proofs.Modes.{dims_deep, dims_unclosed}
use Rattle.declarations.proofs.Referring.{reference_refused}
use Rattle.grammar.proofs.Tests.{differs, agrees}
use Rattle.declarations.proofs.elements.Goals as goal

pub returns-then-ne : goal.returns-then-ne
returns-then-ne c =
    let u = c.if-ne.ensures in
    (bare c.args.i c.requires.reached c.requires.refers (λ e. differs _ _ u (c.peek.ensures.is ∙ e)), omega arith)

pub returns-in_err-deeper : goal.returns-in_err-deeper
returns-in_err-deeper c =
    let e = agrees _ _ c.if-ne.ensures in
    let h = c.peek.ensures.there (far LEFT _ refl e) in
    let r = c.requires.refers in
    passed _ _ c.from_residual.result c.from_residual.ensures.1 (rw c.in_err-deeper.ensures.0 (reference_refused c.args.from.depth c.args.from.symbols.now c.args.from.next c.args.i c.requires.reached r (Deep (c.args.i + 2)) (dims_deep c.args.from.depth c.args.from.symbols.now c.args.i 0 [] (omega (arith, r.2)) r.0 r.2 r.1 h (sym c.peek.ensures.is ∙ e) c.in_err-deeper.ensures.1)))

pub returns-in_err-expect : goal.returns-in_err-expect
returns-in_err-expect c =
    let e = agrees _ _ c.if-ne.ensures in
    let h = c.peek.ensures.there (far LEFT _ refl e) in
    let r = c.requires.refers in
    passed _ _ c.from_residual-in_err-expect.result c.from_residual-in_err-expect.ensures.1 (rw c.in_err-expect.ensures.0 (reference_refused c.args.from.depth c.args.from.symbols.now c.args.from.next c.args.i c.requires.reached r (Syntax (c.args.i + 3)) (dims_unclosed c.args.from.depth c.args.from.symbols.now c.args.i 0 [] (omega (arith, r.2)) r.0 r.2 r.1 h (sym c.peek.ensures.is ∙ e) c.in_ok-deeper.ensures.1 c.in_err-expect.ensures.1)))

pub returns : goal.returns
returns c =
    let e = agrees _ _ c.if-ne.ensures in
    (brackets c.args.i c.requires.reached c.requires.refers (sym c.peek.ensures.is ∙ e) c.in_ok-expect.ensures c.in_ok-deeper.ensures.1, omega arith)
