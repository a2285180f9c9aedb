use Rattle.std.proofs.Common.{sym, refl, ◌∙◌, arith}
use Rattle.grammar.specs.Symbols.{INTEGER}
use Rattle.nodes.proofs.Build.{inside}
use Rattle.declarations.proofs.Initials.{made_plus, made_minus}
use Rattle.declarations.proofs.signed.Goals.{then-eq, else-eq}
use Rattle.grammar.proofs.Tests.{said}
use Rattle.declarations.proofs.signed.Goals as goal

pub returns : goal.returns
returns c =
    let e = c.in_ok-expect.ensures in
    let h = inside _ _ INTEGER refl e in
    elim c.if-eq.branch [
      | then-eq w ↦ rw (c.put.ensures.written, c.put.ensures.is, w.number-is) (made_plus c.args.from.depth c.args.from.symbols.now c.args.from.next c.args.from.used c.args.nodes.now c.requires.there c.requires.sign h e (omega (arith, h)) (sym c.peek.ensures.is ∙ (said _ _ _ w.if-eq.ensures)))
      | else-eq w ↦ rw (c.put.ensures.written, c.put.ensures.is, w.number-is) (made_minus c.args.from.depth c.args.from.symbols.now c.args.from.next c.args.from.used c.args.nodes.now c.requires.there c.requires.sign h e (omega (arith, h)) (λ x. (said _ _ _ w.if-eq.ensures) (c.peek.ensures.is ∙ x)))
    ]
