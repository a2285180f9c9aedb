use Rattle.std.proofs.Common.{map}
use Rattle.statics.specs.Modules.{parameters}
use Rattle.frames.specs.Frames.{site_means, parameter_site}
use Rattle.frames.proofs.Filled.{declared}
use Rattle.frames.proofs.naming.declare_parameters.Goals as goal

pub returns-clause-behind : goal.returns-clause-behind
returns-clause-behind c = λ x ms t is. declared (site_means x ms) (map parameter_site (parameters x t)) c.args.count c.args.names.now _ _ _ _ c.if-count-names.false c.put_parameters-start.ensures.kept (c.put_parameters-start.ensures.put x ms t is) c.move_to_front.ensures.length c.move_to_front.ensures.moved
