use Rattle.grammar.specs.Trees.{Module}
use Rattle.nodes.specs.Nodes.{IsModitem, IsModule}
use Rattle.statics.specs.Scopes.{Text as Facts}
use Rattle.statics.specs.Written.{gather}
use Rattle.statics.specs.Modules.{moditem_parts}
use Rattle.scopes.specs.Meanings.{component_means}
use Rattle.lists.specs.Lists.{left}
use Rattle.frames.specs.Frames.{Kept}
use Rattle.frames.proofs.Filled.{Filling}
use Rattle.inventory.proofs.components.parts_of_module.Given as goal

abbrev pub invariant-loop-item : goal.invariant-loop-item
invariant-loop-item l =
    Kept l.fn.start l.fn.parts l.start l.parts
    × ((x : Facts) (m : Module) → IsModule m l.nodes l.root → Filling (component_means x) (moditem_parts x) IsModitem l.nodes (left l.item-iterator) (gather (moditem_parts x) m) l.fn.start l.fn.parts l.start l.parts)
