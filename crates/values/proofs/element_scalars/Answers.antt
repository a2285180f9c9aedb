use Rattle.std.proofs.Common.{arith}
use Rattle.texts.specs.Facts.{facts}
use Rattle.values.proofs.Parts.{few_parts}
use Rattle.values.proofs.element_scalars.Goals as goal

pub returns-in-Record-clause-few : goal.returns-in-Record-clause-few
returns-in-Record-clause-few c =
    let x = facts c.args.env.text in
    omega (arith, few_parts x c.args.env.parts.now (x.word c.in-Record.name), c.components.ensures)
