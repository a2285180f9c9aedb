use Rattle.grammar.specs.Trees.{Module}
use Rattle.nodes.specs.Nodes.{IsModule}
use Rattle.statics.specs.Scopes.{Text as Facts}
use Rattle.statics.specs.Written.{gather}
use Rattle.statics.specs.Modules.{moditem_names}
use Rattle.lists.specs.Lists.{left}
use Rattle.frames.specs.Frames.{Kept}
use Rattle.frames.specs.Rooms.{moditem_takes}
use Rattle.inventory.proofs.Pairs.{Paired}
use Rattle.inventory.proofs.module_names.names_of_module.Given as goal

abbrev pub invariant-loop-item : goal.invariant-loop-item
invariant-loop-item l =
    Kept l.fn.starts.names l.fn.names l.starts.names l.names
    × Kept l.fn.starts.takes l.fn.takes l.starts.takes l.takes
    × ((x : Facts) (m : Module) → IsModule m l.nodes l.root → Paired x l.nodes (left l.item-iterator) (gather (moditem_takes x) m) (gather (moditem_names x) m) l.fn.starts l.fn.names l.fn.takes l.starts l.names l.takes)
