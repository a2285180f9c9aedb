use Rattle.std.proofs.Common.{map}
use Rattle.statics.specs.Modules.{fields}
use Rattle.frames.specs.Frames.{site_means, part_site}
use Rattle.frames.proofs.Filled.{declared}
use Rattle.frames.proofs.naming.declare_components.Goals as goal

pub returns-clause-behind : goal.returns-clause-behind
returns-clause-behind c = λ x ms t is. declared (site_means x ms) (map part_site (fields x t)) c.args.count c.args.names.now _ _ _ _ c.if-count-names.false c.put_components-start.ensures.kept (c.put_components-start.ensures.put x ms t is) c.move_to_front.ensures.length c.move_to_front.ensures.moved
