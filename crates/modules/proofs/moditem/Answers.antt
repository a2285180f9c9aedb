use Rattle.std.proofs.Common.{◌∙◌, arith}
use Rattle.modules.proofs.Moditems.{made_blank}
use Rattle.modules.proofs.moditem.Goals as goal

pub returns-in_default : goal.returns-in_default
returns-in_default c =
    let is = c.peek.ensures.is in
    rw (c.put.ensures.written, c.put.ensures.is) (made_blank c.args.from.depth c.args.from.symbols.now c.args.from.next c.args.from.used c.args.nodes.now c.requires.within (omega arith) (λ e. c.in_default.not-Ext (is ∙ e)) (λ e. c.in_default.not-Mode (is ∙ e)) (λ e. c.in_default.not-Ent (is ∙ e)) (λ e. c.in_default.not-Data (is ∙ e)) (λ e. c.in_default.not-Proc (is ∙ e)))
