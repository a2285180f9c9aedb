use Rattle.std.proofs.Common.{◌≡◌, length, ap, ◌∙◌, arith}
use Rattle.nodes.specs.Lists.{IsSingle}
use Rattle.lists.specs.Lists.{of_whole}
use Rattle.lists.proofs.Made.{as_many, short}
use Rattle.lists.proofs.how_many.Goals as goal

pub count-requires : goal.count-requires
count-requires c = omega (arith, short c.args.nodes.now c.args.list, ap length c.entries.ensures.listed, c.requires.small)

pub returns-clause-counted : goal.returns-clause-counted
returns-clause-counted c r t f is = c.count.ensures ∙ as_many (IsSingle r) (of_whole r t) c.args.nodes.now _ (c.entries.ensures.repeated r t f is)

pub returns-clause-few : goal.returns-clause-few
returns-clause-few c = omega (arith, short c.args.nodes.now c.args.list, ap length c.entries.ensures.listed, c.count.ensures)
