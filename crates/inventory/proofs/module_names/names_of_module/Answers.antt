use Rattle.std.proofs.Common.{ℕ, List, sym, ap, subst}
use Rattle.grammar.specs.Machine.{moditems}
use Rattle.nodes.specs.Nodes.{IsModitem}
use Rattle.lists.specs.Lists.{Stand, of_many, left}
use Rattle.frames.proofs.Filled.{kept_all, kept_on}
use Rattle.inventory.proofs.Pairs.{paired_in, paired_on, paired_out}
use Rattle.inventory.proofs.module_names.names_of_module.Goals as goal

pub loop-item-init : goal.loop-item-init
loop-item-init c = (
  kept_all _ _,
  kept_all _ _,
  λ x m is. paired_in x c.args.nodes.now _ m _ _ _
      (subst (λ (ks : List ℕ). Stand IsModitem (of_many m) c.args.nodes.now ks) (ap left (sym c.into_iter-item-iterator.ensures.into_iter_gives)) (c.entries-item-items.ensures.repeated moditems m tt is)),
)

pub loop-item-preserved : goal.loop-item-preserved
loop-item-preserved c = (
  kept_on _ _ _ _ _ _ c.loop-item.invariant.0 c.put_moditem-starts.ensures.names,
  kept_on _ _ _ _ _ _ c.loop-item.invariant.1 c.put_moditem-starts.ensures.takes,
  λ x m is. paired_on x c.args.nodes.now _ _ _ _ _ _ _ _ _ _ _ _ _ _ c.in-Some.ensures.steps c.loop-item.invariant.0.length c.loop-item.invariant.1.length
      (λ a at. c.put_moditem-starts.ensures.put x a at)
      (c.loop-item.invariant.2 x m is),
)

pub returns-clause-put : goal.returns-clause-put
returns-clause-put c = λ x m is. paired_out x c.args.nodes.now _ _ _ _ _ _ _ _ _ c.in-None.ensures.steps.0 (c.loop-item.invariant.2 x m is)
