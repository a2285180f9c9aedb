use Rattle.std.proofs.Common.{ℕ, List, sym, ap, subst}
use Rattle.grammar.specs.Machine.{decs, set, stored}
use Rattle.nodes.specs.Nodes.{IsDec, IsInit, IsMany, IsValue}
use Rattle.statics.specs.Written.{gather}
use Rattle.statics.specs.Space.{dec_charges}
use Rattle.texts.specs.Facts.{facts}
use Rattle.scopes.specs.Meanings.{env_means}
use Rattle.lists.specs.Lists.{Stand, of_many, left}
use Rattle.space.specs.Charges.{charge_means}
use Rattle.frames.proofs.Filled.{kept_all, kept_on, gathered_plain, filling_in, filling_on, filling_out}
use Rattle.space.proofs.charging.put_store.Goals as goal

pub loop-declaration-init : goal.loop-declaration-init
loop-declaration-init c = (
  kept_all _ _,
  λ ds at. filling_in charge_means (dec_charges (facts c.args.env.text) (env_means c.args.env).parts) (IsDec (IsMany (IsInit IsValue))) c.args.nodes.now (of_many ds) _ (gather (dec_charges (facts c.args.env.text) (env_means c.args.env).parts) ds) _ _
      (subst (λ (ks : List ℕ). Stand (IsDec (IsMany (IsInit IsValue))) (of_many ds) c.args.nodes.now ks) (ap left (sym c.into_iter-declaration-iterator.ensures.into_iter_gives)) (c.entries-declaration-items.ensures.repeated (decs (set stored)) ds tt at))
      (gathered_plain (dec_charges (facts c.args.env.text) (env_means c.args.env).parts) ds),
)

pub loop-declaration-preserved : goal.loop-declaration-preserved
loop-declaration-preserved c = (
  kept_on _ _ _ _ _ _ c.loop-declaration.invariant.0 c.put_dec-start.ensures.kept,
  λ ds at. filling_on charge_means (dec_charges (facts c.args.env.text) (env_means c.args.env).parts) (IsDec (IsMany (IsInit IsValue))) c.args.nodes.now _ _ _ _ _ _ _ _ _ _ c.in-Some.ensures.steps c.loop-declaration.invariant.0.length c.put_dec-start.ensures.put (c.loop-declaration.invariant.1 ds at),
)

pub returns-clause-put : goal.returns-clause-put
returns-clause-put c = λ ds at. filling_out charge_means (dec_charges (facts c.args.env.text) (env_means c.args.env).parts) (IsDec (IsMany (IsInit IsValue))) c.args.nodes.now _ _ _ _ _ _ c.in-None.ensures.steps.0 (c.loop-declaration.invariant.1 ds at)
