use Rattle.std.proofs.Common.{◌≡◌, ◌≤◌, flat_map, length, map, take}
use Rattle.grammar.specs.Trees.{Module}
use Rattle.nodes.specs.Nodes.{IsModule}
use Rattle.statics.specs.Order.{InModule}
use Rattle.statics.specs.Written.{gather, items}
use Rattle.statics.specs.Modules.{moditem_names}
use Rattle.statics.specs.DeclaredTwice.{moditem_scopes, scopes}
use Rattle.statics.specs.JudgeLimits.{doubles, least}
use Rattle.texts.specs.Facts.{facts}
use Rattle.lists.specs.Lists.{left}
use Rattle.frames.specs.Rooms.{Room}
use Rattle.frames.proofs.Entering.{Roomed}
use Rattle.limits.proofs.Looking.{Looking}
use Rattle.limits.proofs.twice.declared_twice.Given as goal

abbrev pub invariant-loop-item : goal.invariant-loop-item
invariant-loop-item l = record {
  same : length l.names ≡ length l.fn.names;
  front : take l.count l.names ≡ take l.count l.fn.names;
  left : (m : Module) → IsModule m l.nodes l.root → Room InModule m 0 (length l.fn.names) → l.count ≤ length l.fn.names → map (λ d. d.item) (take l.count l.fn.names) ≡ items (gather (moditem_names (facts l.text)) m) → Looking (doubles (facts l.text)) (moditem_scopes (facts l.text)) (Roomed (facts l.text) l.count (length l.fn.names)) l.nodes (left l.item-iterator) l.found (least (flat_map (doubles (facts l.text)) (scopes (facts l.text) m)));
}
