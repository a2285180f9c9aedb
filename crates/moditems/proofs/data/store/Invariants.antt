use Rattle.grammar.specs.Trees.{Dec, Init, Many, Value}
use Rattle.nodes.specs.Nodes.{IsDec, IsInit, IsMany, IsValue}
use Rattle.statics.specs.JudgeExpressions.{judge_each}
use Rattle.statics.specs.JudgeModules.{judge_data_dec}
use Rattle.scopes.specs.Meanings.{env_means}
use Rattle.lists.specs.Lists.{left}
use Rattle.moditems.proofs.Each.{Judging}
use Rattle.moditems.proofs.data.store.Given as goal

abbrev pub invariant-loop-declaration : goal.invariant-loop-declaration
invariant-loop-declaration l = (ds : Many (Dec (Many (Init Value)))) → IsMany (IsDec (IsMany (IsInit IsValue))) ds l.nodes l.list → Judging (judge_data_dec (env_means l.env)) (IsDec (IsMany (IsInit IsValue))) l.nodes (left l.declaration-iterator) l.result (judge_each (judge_data_dec (env_means l.env)) ds)
