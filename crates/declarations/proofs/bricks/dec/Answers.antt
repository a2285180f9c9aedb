use Rattle.std.proofs.Common.{◌∙◌, arith}
use Rattle.declarations.proofs.Storage.{made_nothing}
use Rattle.declarations.proofs.bricks.dec.Goals as goal

pub returns-in_default : goal.returns-in_default
returns-in_default g c =
    let is = c.peek.ensures.is in
    rw (c.put.ensures.written, c.put.ensures.is) (made_nothing g.D.Declares.sort c.args.from.depth c.args.from.symbols.now c.args.from.next c.args.from.used c.args.nodes.now c.requires.within (λ e. c.in_default.not-Array (is ∙ e)) (λ e. c.in_default.not-Name (is ∙ e)) (λ e. c.in_default.not-Int (is ∙ e)) (λ e. c.in_default.not-Byte (is ∙ e)) (λ e. c.in_default.not-Ref (is ∙ e)) (omega arith))
