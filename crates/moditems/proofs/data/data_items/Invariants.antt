use Rattle.grammar.specs.Trees.{Init, Many, Value}
use Rattle.nodes.specs.Nodes.{IsInit, IsMany, IsValue}
use Rattle.statics.specs.JudgeExpressions.{judge_each}
use Rattle.statics.specs.JudgeModules.{judge_data_item}
use Rattle.texts.specs.Facts.{facts}
use Rattle.scopes.specs.Meanings.{env_means}
use Rattle.values.specs.Wants.{want_means}
use Rattle.lists.specs.Lists.{left}
use Rattle.moditems.proofs.Each.{Judging}
use Rattle.moditems.proofs.data.data_items.Given as goal

abbrev pub invariant-loop-item : goal.invariant-loop-item
invariant-loop-item l = (is : Many (Init Value)) → IsMany (IsInit IsValue) is l.nodes l.list → Judging (judge_data_item (env_means l.env) (want_means (facts l.env.text) l.want)) (IsInit IsValue) l.nodes (left l.item-iterator) l.result (judge_each (judge_data_item (env_means l.env) (want_means (facts l.env.text) l.want)) is)
