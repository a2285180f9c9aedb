use Rattle.std.proofs.Common.{ℕ, List, sym, ap, subst}
use Rattle.grammar.specs.Machine.{declareds, set, stored}
use Rattle.nodes.specs.Nodes.{IsInit, IsValue}
use Rattle.statics.specs.Written.{gather}
use Rattle.statics.specs.Space.{item_charges}
use Rattle.texts.specs.Facts.{facts}
use Rattle.lists.specs.Lists.{Stand, of_many, left}
use Rattle.space.specs.Charges.{charge_means}
use Rattle.frames.proofs.Filled.{kept_all, kept_on, gathered_plain, filling_in, filling_on, filling_out}
use Rattle.space.proofs.charging.put_items.Goals as goal

pub loop-item-init : goal.loop-item-init
loop-item-init c = (
  kept_all _ _,
  λ is at. filling_in charge_means (item_charges (facts c.args.text) c.args.amount) (IsInit IsValue) c.args.nodes.now (of_many is) _ (gather (item_charges (facts c.args.text) c.args.amount) is) _ _
      (subst (λ (ks : List ℕ). Stand (IsInit IsValue) (of_many is) c.args.nodes.now ks) (ap left (sym c.into_iter-item-iterator.ensures.into_iter_gives)) (c.entries-item-items.ensures.repeated (declareds (set stored)) is tt at))
      (gathered_plain (item_charges (facts c.args.text) c.args.amount) is),
)

pub loop-item-preserved : goal.loop-item-preserved
loop-item-preserved c = (
  kept_on _ _ _ _ _ _ c.loop-item.invariant.0 c.put_item-start.ensures.kept,
  λ is at. filling_on charge_means (item_charges (facts c.args.text) c.args.amount) (IsInit IsValue) c.args.nodes.now _ _ _ _ _ _ _ _ _ _ c.in-Some.ensures.steps c.loop-item.invariant.0.length c.put_item-start.ensures.put (c.loop-item.invariant.1 is at),
)

pub returns-clause-put : goal.returns-clause-put
returns-clause-put c = λ is at. filling_out charge_means (item_charges (facts c.args.text) c.args.amount) (IsInit IsValue) c.args.nodes.now _ _ _ _ _ _ c.in-None.ensures.steps.0 (c.loop-item.invariant.1 is at)
