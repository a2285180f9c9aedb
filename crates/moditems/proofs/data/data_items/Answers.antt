use Rattle.std.proofs.Common.{sym, ap}
use Rattle.grammar.specs.Machine.{declareds, set, stored}
use Rattle.nodes.specs.Nodes.{IsInit, IsValue}
use Rattle.statics.specs.JudgeModules.{judge_data_item}
use Rattle.texts.specs.Facts.{facts}
use Rattle.scopes.specs.Meanings.{env_means}
use Rattle.values.specs.Wants.{want_means}
use Rattle.lists.specs.Lists.{left}
use Rattle.moditems.proofs.Each.{judging_each, judging_on, judging_out}
use Rattle.moditems.proofs.data.data_items.Goals as goal

pub loop-item-init : goal.loop-item-init
loop-item-init c is there = judging_each _ (IsInit IsValue) c.args.nodes.now is _ _ (ap left (sym c.into_iter-item-iterator.ensures.into_iter_gives)) (c.entries-item-items.ensures.repeated (declareds (set stored)) is tt there)

pub loop-item-preserved : goal.loop-item-preserved
loop-item-preserved c is there = judging_on (judge_data_item (env_means c.args.env) (want_means (facts c.args.env.text) c.args.want)) (IsInit IsValue) c.args.nodes.now _ _ _ _ _ _ _ c.in-Some.ensures.steps (c.loop-item.invariant is there) c.data_item.ensures c.and-result.ensures

pub returns : goal.returns
returns c is there = judging_out (judge_data_item (env_means c.args.env) (want_means (facts c.args.env.text) c.args.want)) (IsInit IsValue) c.args.nodes.now _ _ _ c.in-None.ensures.steps.0 (c.loop-item.invariant is there)
