use Rattle.frames.proofs.Listing.{same_field}
use Rattle.frames.proofs.fields.field_at.Goals as goal

pub returns : goal.returns
returns c = λ x fs is. same_field _ _ _ (c.field_item.ensures x fs is) (c.field_mode.ensures x fs is)
