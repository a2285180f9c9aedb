use Rattle.std.proofs.Common.{sym, ap}
use Rattle.grammar.specs.Machine.{decs, set, stored}
use Rattle.nodes.specs.Nodes.{IsDec, IsInit, IsMany, IsValue}
use Rattle.statics.specs.JudgeModules.{judge_data_dec}
use Rattle.scopes.specs.Meanings.{env_means}
use Rattle.lists.specs.Lists.{left}
use Rattle.moditems.proofs.Each.{judging_each, judging_on, judging_out}
use Rattle.moditems.proofs.data.store.Goals as goal

pub loop-declaration-init : goal.loop-declaration-init
loop-declaration-init c ds are = judging_each _ (IsDec (IsMany (IsInit IsValue))) c.args.nodes.now ds _ _ (ap left (sym c.into_iter-declaration-iterator.ensures.into_iter_gives)) (c.entries-declaration-items.ensures.repeated (decs (set stored)) ds tt are)

pub loop-declaration-preserved : goal.loop-declaration-preserved
loop-declaration-preserved c ds are = judging_on (judge_data_dec (env_means c.args.env)) (IsDec (IsMany (IsInit IsValue))) c.args.nodes.now _ _ _ _ _ _ _ c.in-Some.ensures.steps (c.loop-declaration.invariant ds are) c.data_dec.ensures c.and-result.ensures

pub returns : goal.returns
returns c ds are = judging_out (judge_data_dec (env_means c.args.env)) (IsDec (IsMany (IsInit IsValue))) c.args.nodes.now _ _ _ c.in-None.ensures.steps.0 (c.loop-declaration.invariant ds are)
