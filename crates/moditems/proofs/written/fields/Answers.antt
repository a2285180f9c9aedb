use Rattle.std.proofs.Common.{sym, ap}
use Rattle.grammar.specs.Trees.{none, some}
use Rattle.nodes.specs.Nodes.{IsFields}
use Rattle.scopes.specs.Meanings.{env_means}
use Rattle.lists.specs.Lists.{left}
use Rattle.moditems.specs.Described.{judge_last}
use Rattle.moditems.proofs.Each.{judging_fields, judging_none, judging_on, judging_out}
use Rattle.moditems.proofs.written.fields.Goals as goal

pub loop-field-init : goal.loop-field-init
loop-field-init c none is = judging_none _ IsFields c.args.nodes.now _ _ (ap left (sym c.into_iter-field-iterator.ensures.into_iter_gives)) (c.entries-field-items.ensures.absent is)
loop-field-init c (some fs) is = judging_fields (env_means c.args.env) c.args.nodes.now fs _ _ (ap left (sym c.into_iter-field-iterator.ensures.into_iter_gives)) (c.entries-field-items.ensures.fields fs is)

pub loop-field-preserved : goal.loop-field-preserved
loop-field-preserved c ps is = judging_on (judge_last (env_means c.args.env)) IsFields c.args.nodes.now _ _ _ _ _ _ _ c.in-Some.ensures.steps (c.loop-field.invariant ps is) c.last_field.ensures c.and-result.ensures

pub returns-clause-some : goal.returns-clause-some
returns-clause-some c fs is = judging_out (judge_last (env_means c.args.env)) IsFields c.args.nodes.now _ _ _ c.in-None.ensures.steps.0 (c.loop-field.invariant (some fs) is)

pub returns-clause-maybe : goal.returns-clause-maybe
returns-clause-maybe c ps is = judging_out (judge_last (env_means c.args.env)) IsFields c.args.nodes.now _ _ _ c.in-None.ensures.steps.0 (c.loop-field.invariant ps is)
