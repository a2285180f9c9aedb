use Rattle.std.proofs.Common.{sym, ap}
use Rattle.grammar.specs.Machine.{declareds, unset}
use Rattle.nodes.specs.Nodes.{IsName}
use Rattle.statics.specs.declared.Refusal.TheVariants.{WrongName}
use Rattle.statics.specs.JudgeExpressions.{check}
use Rattle.statics.specs.JudgeModules.{admitted as admitted_of}
use Rattle.texts.specs.Facts.{facts}
use Rattle.lists.specs.Lists.{left}
use Rattle.moditems.specs.Described.{description}
use Rattle.moditems.proofs.Each.{judging_each, judging_on, judging_out}
use Rattle.moditems.proofs.externals.described.Goals as goal

pub loop-name-init : goal.loop-name-init
loop-name-init c ms m ns takes gives are = judging_each _ IsName c.args.nodes.now ns _ _ (ap left (sym c.into_iter-name-iterator.ensures.into_iter_gives)) (c.entries-name-items.ensures.repeated (declareds unset) ns tt are)

pub loop-name-preserved : goal.loop-name-preserved
loop-name-preserved c ms m ns takes gives are = judging_on (λ n. check (admitted_of ((facts c.args.text).word n) (description (facts c.args.text) ms m)) (WrongName n)) IsName c.args.nodes.now _ _ _ _ _ _ _ c.in-Some.ensures.steps (c.loop-name.invariant ms m ns takes gives are) (λ n is. c.one_described.ensures ms m n takes gives is) c.and-result.ensures

pub returns : goal.returns
returns c ms m ns takes gives are = judging_out (λ n. check (admitted_of ((facts c.args.text).word n) (description (facts c.args.text) ms m)) (WrongName n)) IsName c.args.nodes.now _ _ _ c.in-None.ensures.steps.0 (c.loop-name.invariant ms m ns takes gives are)
