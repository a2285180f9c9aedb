use Rattle.std.proofs.Common.{◌≡◌, length, take}
use Rattle.grammar.specs.Trees.{Module}
use Rattle.nodes.specs.Nodes.{IsModule}
use Rattle.statics.specs.Order.{InModule}
use Rattle.statics.specs.Written.{gather}
use Rattle.statics.specs.Modules.{moditem_names}
use Rattle.statics.specs.JudgeExpressions.{judge_each}
use Rattle.statics.specs.JudgeModules.{judge_moditem}
use Rattle.texts.specs.Facts.{facts}
use Rattle.lists.specs.Lists.{left}
use Rattle.frames.specs.Frames.{frame_means}
use Rattle.frames.specs.Rooms.{Room}
use Rattle.frames.proofs.Entering.{Roomed}
use Rattle.moditems.proofs.Each.{Judging}
use Rattle.moditems.proofs.module.Given as goal

abbrev pub invariant-loop-item : goal.invariant-loop-item
invariant-loop-item l = record {
  same : length l.names ≡ length l.fn.names;
  front : take l.frame.count l.names ≡ take l.frame.count l.fn.names;
  judged : (m : Module) → IsModule m l.nodes l.root → l.frame.ready ≡ l.frame.count → l.frame.count ≡ length (gather (moditem_names (facts l.frame.text)) m) → Room InModule m 0 (length l.fn.names) → Judging (judge_moditem (frame_means l.frame l.fn.names)) (Roomed (facts l.frame.text) l.frame.count (length l.fn.names)) l.nodes (left l.item-iterator) l.result (judge_each (judge_moditem (frame_means l.frame l.fn.names)) m);
}
