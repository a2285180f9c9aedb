use Rattle.std.proofs.Common.{ℕ}
use Rattle.grammar.specs.Trees.{Many, Mode, Opt}
use Rattle.nodes.specs.Nodes.{IsMany, IsMode, IsName, IsOpt}
use Rattle.statics.specs.declared.Refusal.TheVariants.{WrongName}
use Rattle.statics.specs.JudgeExpressions.{check, judge_each}
use Rattle.statics.specs.JudgeModules.{admitted as admitted_of}
use Rattle.texts.specs.Facts.{facts}
use Rattle.lists.specs.Lists.{left}
use Rattle.moditems.specs.Described.{description}
use Rattle.moditems.proofs.Each.{Judging}
use Rattle.moditems.proofs.externals.described.Given as goal

abbrev pub invariant-loop-name : goal.invariant-loop-name
invariant-loop-name l = (ms : Opt (Many Mode)) (m : Opt Mode) (ns : Many ℕ) → IsOpt (IsMany IsMode) ms l.nodes l.takes → IsOpt IsMode m l.nodes l.gives → IsMany IsName ns l.nodes l.list → Judging (λ n. check (admitted_of ((facts l.text).word n) (description (facts l.text) ms m)) (WrongName n)) IsName l.nodes (left l.name-iterator) l.result (judge_each (λ n. check (admitted_of ((facts l.text).word n) (description (facts l.text) ms m)) (WrongName n)) ns)
