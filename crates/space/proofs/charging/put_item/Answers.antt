use Rattle.frames.proofs.Filled.{kept_on}
use Rattle.space.proofs.charging.put_item.Goals as goal

pub returns-in-Given-clause-kept : goal.returns-in-Given-clause-kept
returns-in-Given-clause-kept c = search kept_on
