use Rattle.std.proofs.Common.{ℕ, List, sym, ap, subst}
use Rattle.grammar.specs.Machine.{moditems}
use Rattle.nodes.specs.Nodes.{IsModitem}
use Rattle.statics.specs.Written.{gather}
use Rattle.statics.specs.Modules.{moditem_parts}
use Rattle.scopes.specs.Meanings.{component_means}
use Rattle.lists.specs.Lists.{Stand, of_many, left}
use Rattle.frames.proofs.Filled.{kept_all, kept_on, gathered_plain, filling_in, filling_on, filling_out}
use Rattle.inventory.proofs.components.parts_of_module.Goals as goal

pub loop-item-init : goal.loop-item-init
loop-item-init c = (
  kept_all _ _,
  λ x m is. filling_in (component_means x) (moditem_parts x) IsModitem c.args.nodes.now (of_many m) _ (gather (moditem_parts x) m) _ _
      (subst (λ (ks : List ℕ). Stand IsModitem (of_many m) c.args.nodes.now ks) (ap left (sym c.into_iter-item-iterator.ensures.into_iter_gives)) (c.entries-item-items.ensures.repeated moditems m tt is))
      (gathered_plain (moditem_parts x) m),
)

pub loop-item-preserved : goal.loop-item-preserved
loop-item-preserved c = (
  kept_on _ _ _ _ _ _ c.loop-item.invariant.0 c.put_parts-start.ensures.kept,
  λ x m is. filling_on (component_means x) (moditem_parts x) IsModitem c.args.nodes.now _ _ _ _ _ _ _ _ _ _ c.in-Some.ensures.steps c.loop-item.invariant.0.length
      (λ a at. c.put_parts-start.ensures.put x a at)
      (c.loop-item.invariant.1 x m is),
)

pub returns-clause-put : goal.returns-clause-put
returns-clause-put c = λ x m is. filling_out (component_means x) (moditem_parts x) IsModitem c.args.nodes.now _ _ _ _ _ _ c.in-None.ensures.steps.0 (c.loop-item.invariant.1 x m is)
