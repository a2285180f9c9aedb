use Rattle.std.proofs.Common.{ℕ, List, [], ◌∷◌, map, sym, ap, subst}
use Rattle.nodes.specs.Nodes.{IsFields}
use Rattle.statics.specs.Modules.{fields}
use Rattle.scopes.specs.Meanings.{component_means}
use Rattle.lists.specs.Lists.{Stand, of_fields, left}
use Rattle.frames.specs.Frames.{last_field}
use Rattle.frames.proofs.Filled.{kept_all, kept_on, ahead_one, filling_in, filling_on, filling_out}
use Rattle.frames.proofs.Listing.{fields_together}
use Rattle.inventory.specs.Parts.{part_of}
use Rattle.inventory.proofs.components.put_components.Goals as goal

pub loop-entry-init : goal.loop-entry-init
loop-entry-init c = (
  kept_all _ _,
  λ x t is. filling_in (component_means x) (λ fs. part_of x c.args.owner (last_field x fs) ∷ []) IsFields c.args.nodes.now (of_fields t) _ (map (part_of x c.args.owner) (fields x t)) _ _
      (subst (λ (ks : List ℕ). Stand IsFields (of_fields t) c.args.nodes.now ks) (ap left (sym c.into_iter-entry-iterator.ensures.into_iter_gives)) (c.entries-entry-items.ensures.fields t is))
      (fields_together (part_of x c.args.owner) x t),
)

pub loop-entry-preserved : goal.loop-entry-preserved
loop-entry-preserved c = (
  kept_on _ _ _ _ _ _ c.loop-entry.invariant.0 c.put-start.ensures.kept,
  λ x t is. filling_on (component_means x) (λ fs. part_of x c.args.owner (last_field x fs) ∷ []) IsFields c.args.nodes.now _ _ _ _ _ _ _ _ _ _ c.in-Some.ensures.steps c.loop-entry.invariant.0.length
      (λ fs at. ahead_one _ _ _ _ _ _ _ (ap (λ f. part_of x c.args.owner f ∷ []) (c.field_at-field.ensures x fs at)) c.put-start.ensures.put)
      (c.loop-entry.invariant.1 x t is),
)

pub returns-clause-put : goal.returns-clause-put
returns-clause-put c = λ x t is. filling_out (component_means x) (λ fs. part_of x c.args.owner (last_field x fs) ∷ []) IsFields c.args.nodes.now _ _ _ _ _ _ c.in-None.ensures.steps.0 (c.loop-entry.invariant.1 x t is)
