use Rattle.resolved.proofs.Rising.{places_rise}
use Rattle.resolved.proofs.places_in_order.Goals as goal

pub returns : goal.returns
returns c = places_rise
