use Rattle.grammar.specs.Trees.{Fields, Opt}
use Rattle.nodes.specs.Nodes.{IsFields, IsOpt}
use Rattle.statics.specs.JudgeModules.{judge_fields, judge_opt}
use Rattle.scopes.specs.Meanings.{env_means}
use Rattle.lists.specs.Lists.{left}
use Rattle.moditems.specs.Described.{judge_last}
use Rattle.moditems.proofs.Each.{Judging}
use Rattle.moditems.proofs.written.fields.Given as goal

abbrev pub invariant-loop-field : goal.invariant-loop-field
invariant-loop-field l = (ps : Opt Fields) → IsOpt IsFields ps l.nodes l.list → Judging (judge_last (env_means l.env)) IsFields l.nodes (left l.field-iterator) l.result (judge_opt (judge_fields (env_means l.env)) ps)
