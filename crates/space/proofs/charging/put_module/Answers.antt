use Rattle.std.proofs.Common.{ℕ, List, sym, ap, subst}
use Rattle.grammar.specs.Machine.{moditems}
use Rattle.nodes.specs.Nodes.{IsModitem}
use Rattle.statics.specs.Written.{gather}
use Rattle.statics.specs.Space.{moditem_charges}
use Rattle.texts.specs.Facts.{facts}
use Rattle.scopes.specs.Meanings.{env_means}
use Rattle.lists.specs.Lists.{Stand, of_many, left}
use Rattle.space.specs.Charges.{charge_means}
use Rattle.frames.proofs.Filled.{kept_all, kept_on, gathered_plain, filling_in, filling_on, filling_out}
use Rattle.space.proofs.charging.put_module.Goals as goal

pub loop-item-init : goal.loop-item-init
loop-item-init c = (
  kept_all _ _,
  λ m at. filling_in charge_means (moditem_charges (facts c.args.env.text) (env_means c.args.env).parts) (IsModitem) c.args.nodes.now (of_many m) _ (gather (moditem_charges (facts c.args.env.text) (env_means c.args.env).parts) m) _ _
      (subst (λ (ks : List ℕ). Stand (IsModitem) (of_many m) c.args.nodes.now ks) (ap left (sym c.into_iter-item-iterator.ensures.into_iter_gives)) (c.entries-item-items.ensures.repeated (moditems) m tt at))
      (gathered_plain (moditem_charges (facts c.args.env.text) (env_means c.args.env).parts) m),
)

pub loop-item-preserved : goal.loop-item-preserved
loop-item-preserved c = (
  kept_on _ _ _ _ _ _ c.loop-item.invariant.0 c.put_moditem-start.ensures.kept,
  λ m at. filling_on charge_means (moditem_charges (facts c.args.env.text) (env_means c.args.env).parts) (IsModitem) c.args.nodes.now _ _ _ _ _ _ _ _ _ _ c.in-Some.ensures.steps c.loop-item.invariant.0.length c.put_moditem-start.ensures.put (c.loop-item.invariant.1 m at),
)

pub returns-clause-put : goal.returns-clause-put
returns-clause-put c = λ m at. filling_out charge_means (moditem_charges (facts c.args.env.text) (env_means c.args.env).parts) (IsModitem) c.args.nodes.now _ _ _ _ _ _ c.in-None.ensures.steps.0 (c.loop-item.invariant.1 m at)
