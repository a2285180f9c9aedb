use Rattle.statics.specs.Scopes.{Text as Facts}
use Rattle.std.proofs.Common.{◌≡◌, flat_map, length, take}
use Rattle.grammar.specs.Trees.{Module}
use Rattle.nodes.specs.Nodes.{IsModule}
use Rattle.statics.specs.Order.{InModule}
use Rattle.statics.specs.Written.{gather}
use Rattle.statics.specs.Crowds.{moditem_allowances}
use Rattle.statics.specs.Modules.{moditem_names}
use Rattle.statics.specs.JudgeLimits.{beyond, least}
use Rattle.lists.specs.Lists.{left}
use Rattle.frames.specs.Rooms.{Room}
use Rattle.frames.proofs.Entering.{Roomed}
use Rattle.limits.proofs.Looking.{Looking}
use Rattle.limits.proofs.crowds.crowds.Given as goal

abbrev pub invariant-loop-item : goal.invariant-loop-item
invariant-loop-item l =
    (length l.names ≡ length l.fn.names)
    × (take l.count l.names ≡ take l.count l.fn.names)
    × ((x : Facts) (m : Module) → IsModule m l.nodes l.root → Room InModule m 0 (length l.fn.names) → l.count ≡ length (gather (moditem_names x) m) → Looking beyond (moditem_allowances x) (Roomed x l.count (length l.fn.names)) l.nodes (left l.item-iterator) l.found (least (flat_map beyond (gather (moditem_allowances x) m))))
