use Rattle.std.proofs.Common.{ℕ, List, [], ◌∷◌, map, sym, ap, subst}
use Rattle.nodes.specs.Nodes.{IsFields}
use Rattle.statics.specs.Modules.{Field, parameters}
use Rattle.modes.specs.Meanings.{mode_means}
use Rattle.lists.specs.Lists.{Stand, left}
use Rattle.frames.specs.Frames.{last_field}
use Rattle.frames.proofs.Filled.{kept_all, kept_on, ahead_one, filling_in, filling_on, filling_out}
use Rattle.frames.proofs.Listing.{parameters_together, of_opt, stand_opt}
use Rattle.inventory.proofs.takes.put_parameters.Goals as goal

pub loop-field-init : goal.loop-field-init
loop-field-init c = (
  kept_all _ _,
  λ x t is. filling_in (mode_means x) (λ fs. (last_field x fs).mode ∷ []) IsFields c.args.nodes.now (of_opt t) _ (map (λ (f : Field). f.mode) (parameters x t)) _ _
      (subst (λ (ks : List ℕ). Stand IsFields (of_opt t) c.args.nodes.now ks) (ap left (sym c.into_iter-field-iterator.ensures.into_iter_gives)) (stand_opt _ _ _ c.entries-field-items.ensures.fields c.entries-field-items.ensures.absent t is))
      (parameters_together (λ (f : Field). f.mode) x t),
)

pub loop-field-preserved : goal.loop-field-preserved
loop-field-preserved c = (
  kept_on _ _ _ _ _ _ c.loop-field.invariant.0 c.put-start.ensures.kept,
  λ x t is. filling_on (mode_means x) (λ fs. (last_field x fs).mode ∷ []) IsFields c.args.nodes.now _ _ _ _ _ _ _ _ _ _ c.in-Some.ensures.steps c.loop-field.invariant.0.length
      (λ fs at. ahead_one _ _ _ _ _ _ _ (ap (λ (f : Field). f.mode ∷ []) (c.field_at.ensures x fs at)) c.put-start.ensures.put)
      (c.loop-field.invariant.1 x t is),
)

pub returns-clause-put : goal.returns-clause-put
returns-clause-put c = λ x t is. filling_out (mode_means x) (λ fs. (last_field x fs).mode ∷ []) IsFields c.args.nodes.now _ _ _ _ _ _ c.in-None.ensures.steps.0 (c.loop-field.invariant.1 x t is)
