use Rattle.statics.specs.Blocks.{blocks}
use Rattle.statics.specs.DeclaredTwice.{block_names}
use Rattle.frames.proofs.Filled.{declared}
use Rattle.limits.proofs.crowds.declare_body.Goals as goal

pub returns-clause-behind : goal.returns-clause-behind
returns-clause-behind c = λ x b is. declared (λ d. d.item) (blocks (block_names x) b) c.args.count c.args.names.now _ _ _ _ c.if-count-names.false c.put_body-start.ensures.kept (c.put_body-start.ensures.put x b is) c.move_to_front.ensures.length c.move_to_front.ensures.moved
