use Rattle.statics.specs.Statements.{entries as names_of_locals}
use Rattle.frames.specs.Frames.{site_means}
use Rattle.frames.proofs.Filled.{declared}
use Rattle.frames.proofs.naming.declare_locals.Goals as goal

pub returns-clause-behind : goal.returns-clause-behind
returns-clause-behind c = λ x ms t is. declared (site_means x ms) (names_of_locals x t) c.args.count c.args.names.now _ _ _ _ c.if-count-names.false c.put_locals-start.ensures.kept (c.put_locals-start.ensures.put x ms t is) c.move_to_front.ensures.length c.move_to_front.ensures.moved
