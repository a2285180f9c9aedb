use Rattle.std.proofs.Common.{sym, ap}
use Rattle.grammar.specs.Trees.{none, some}
use Rattle.grammar.specs.Machine.{modes}
use Rattle.nodes.specs.Nodes.{IsMode}
use Rattle.statics.specs.JudgeStatements.{judge_written}
use Rattle.scopes.specs.Meanings.{env_means}
use Rattle.lists.specs.Lists.{left}
use Rattle.moditems.proofs.Each.{judging_each, judging_none, judging_on, judging_out}
use Rattle.moditems.proofs.written.modes.Goals as goal

pub loop-mode-init : goal.loop-mode-init
loop-mode-init c none is = judging_none _ IsMode c.args.nodes.now _ _ (ap left (sym c.into_iter-mode-iterator.ensures.into_iter_gives)) (c.entries-mode-items.ensures.absent is)
loop-mode-init c (some ms) is = judging_each _ IsMode c.args.nodes.now ms _ _ (ap left (sym c.into_iter-mode-iterator.ensures.into_iter_gives)) (c.entries-mode-items.ensures.repeated modes ms tt is)

pub loop-mode-preserved : goal.loop-mode-preserved
loop-mode-preserved c ms is = judging_on (judge_written (env_means c.args.env)) IsMode c.args.nodes.now _ _ _ _ _ _ _ c.in-Some.ensures.steps (c.loop-mode.invariant ms is) c.written.ensures.mode c.and-result.ensures

pub returns : goal.returns
returns c ms is = judging_out (judge_written (env_means c.args.env)) IsMode c.args.nodes.now _ _ _ c.in-None.ensures.steps.0 (c.loop-mode.invariant ms is)
