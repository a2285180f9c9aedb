use Rattle.std.proofs.Common.{ℕ, List, [], ◌∷◌, map, sym, ap, subst}
use Rattle.nodes.specs.Nodes.{IsFields}
use Rattle.statics.specs.Modules.{fields}
use Rattle.lists.specs.Lists.{Stand, of_fields, left}
use Rattle.frames.specs.Frames.{site_means, part_site, last_field}
use Rattle.frames.proofs.Filled.{kept_all, kept_on, ahead_one, filling_in, filling_on, filling_out}
use Rattle.frames.proofs.Listing.{fields_together}
use Rattle.frames.proofs.naming.put_components.Goals as goal

pub loop-field-init : goal.loop-field-init
loop-field-init c = (
  kept_all _ _,
  λ x ms t is. filling_in (site_means x ms) (λ fs. part_site (last_field x fs) ∷ []) IsFields c.args.nodes.now (of_fields t) _ (map part_site (fields x t)) _ _
      (subst (λ (ks : List ℕ). Stand IsFields (of_fields t) c.args.nodes.now ks) (ap left (sym c.into_iter-field-iterator.ensures.into_iter_gives)) (c.entries-field-items.ensures.fields t is))
      (fields_together part_site x t),
)

pub loop-field-preserved : goal.loop-field-preserved
loop-field-preserved c = (
  kept_on _ _ _ _ _ _ c.loop-field.invariant.0 c.put-start.ensures.kept,
  λ x ms t is. filling_on (site_means x ms) (λ fs. part_site (last_field x fs) ∷ []) IsFields c.args.nodes.now _ _ _ _ _ _ _ _ _ _ c.in-Some.ensures.steps c.loop-field.invariant.0.length
      (λ fs at. ahead_one _ _ _ _ _ _ _ (ap (λ f. part_site f ∷ []) (c.field_at-item.ensures x fs at)) c.put-start.ensures.put)
      (c.loop-field.invariant.1 x ms t is),
)

pub returns-clause-put : goal.returns-clause-put
returns-clause-put c = λ x ms t is. filling_out (site_means x ms) (λ fs. part_site (last_field x fs) ∷ []) IsFields c.args.nodes.now _ _ _ _ _ _ c.in-None.ensures.steps.0 (c.loop-field.invariant.1 x ms t is)
