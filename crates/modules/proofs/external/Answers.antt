use Rattle.std.proofs.Common.{◌∙◌}
use Rattle.modules.proofs.Moditems.{external_none}
use Rattle.modules.proofs.external.Goals as goal

pub returns-in_default : goal.returns-in_default
returns-in_default c =
    let is = c.peek.ensures.is in
    external_none c.args.from.depth c.args.from.symbols.now c.args.from.next c.args.from.used c.requires.there c.requires.opening (λ e. c.in_default.not-Proc (is ∙ e)) (λ e. c.in_default.not-Data (is ∙ e))
