use Rattle.statics.proofs.Places.{made_in_order}
use Rattle.statics.proofs.in_order.Goals as goal

pub returns : goal.returns
returns c = made_in_order
