use Rattle.grammar.specs.Trees.{Many, Mode, Opt}
use Rattle.nodes.specs.Nodes.{IsMany, IsMode, IsOpt}
use Rattle.statics.specs.JudgeExpressions.{judge_each}
use Rattle.statics.specs.JudgeStatements.{judge_written}
use Rattle.statics.specs.JudgeModules.{judge_opt}
use Rattle.scopes.specs.Meanings.{env_means}
use Rattle.lists.specs.Lists.{left}
use Rattle.moditems.proofs.Each.{Judging}
use Rattle.moditems.proofs.written.modes.Given as goal

abbrev pub invariant-loop-mode : goal.invariant-loop-mode
invariant-loop-mode l = (ms : Opt (Many Mode)) → IsOpt (IsMany IsMode) ms l.nodes l.list → Judging (judge_written (env_means l.env)) IsMode l.nodes (left l.mode-iterator) l.result (judge_opt (judge_each (judge_written (env_means l.env))) ms)
