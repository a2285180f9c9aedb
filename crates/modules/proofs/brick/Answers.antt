use Rattle.std.proofs.Common.{◌∙◌}
use Rattle.modules.proofs.Bricks.{brick_none}
use Rattle.modules.proofs.brick.Goals as goal

pub returns-in_default : goal.returns-in_default
returns-in_default c =
    let is = c.peek.ensures.is in
    brick_none c.args.from.depth c.args.from.symbols.now c.args.from.next (λ e. c.in_default.not-Data (is ∙ e)) (λ e. c.in_default.not-Proc (is ∙ e))
