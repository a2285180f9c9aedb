use Rattle.std.proofs.Common.{sym, refl, ◌∙◌, arith}
use Rattle.nodes.proofs.Results.{passed}
use Rattle.grammar.specs.Symbols.{LEFT}
use Rattle.nodes.proofs.Build.{far}
use Rattle.statements.proofs.Blocks.{made_return, return_refused, made_return_with}
use Rattle.grammar.proofs.Tests.{differs, agrees}
use Rattle.statements.proofs.bodies.returning.Goals as goal

pub returns-then-ne : goal.returns-then-ne
returns-then-ne c =
    let u = c.if-ne.ensures in
    rw (c.put.ensures.written, c.put.ensures.is) (made_return c.args.from.depth c.args.from.symbols.now c.args.from.next c.args.from.used c.args.nodes.now c.requires.there c.requires.opening (λ e. differs _ _ u (c.peek.ensures.is ∙ e)) (omega arith))

pub returns-in_err-e : goal.returns-in_err-e
returns-in_err-e c =
    let u = c.if-ne.ensures in
    let e = agrees _ _ u in
    passed _ _ c.from_residual.result c.from_residual.ensures.1 (return_refused c.args.from.depth c.args.from.symbols.now c.args.from.next c.args.from.used c.args.nodes.now c.requires.there c.requires.opening (c.peek.ensures.there (far LEFT _ refl e)) (sym c.peek.ensures.is ∙ e) _ c.in_err-e.ensures)

pub returns : goal.returns
returns c =
    let u = c.if-ne.ensures in
    let e = agrees _ _ u in
    let m = c.in_ok-e.ensures in
    rw (c.put-2.ensures.written, c.put-2.ensures.is) (made_return_with c.args.from.depth c.args.from.symbols.now c.args.from.next c.args.from.used c.args.nodes.now c.requires.there c.requires.opening (c.peek.ensures.there (far LEFT _ refl e)) (sym c.peek.ensures.is ∙ e) _ c.in_ok-e.e (omega (arith, m)) m.0)
