use Rattle.std.proofs.Common.{map, take, ap, sym, ◌∙◌}
use Rattle.std.proofs.lemmas.Simd.{map-map}
use Rattle.frames.specs.Frames.{site_means}
use Rattle.resolved.proofs.Stored.{ground_items}
use Rattle.resolving.proofs.own_ground.Goals as goal

pub returns : goal.returns
returns c = λ x ms ds n m names. ground_items x m ∙ ap (map (λ s. s.item)) (sym names) ∙ map-map (λ s. s.item) (site_means x ms) (take n ds)
