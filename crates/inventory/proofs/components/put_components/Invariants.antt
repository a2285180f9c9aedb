use Rattle.std.proofs.Common.{[], ◌∷◌, map}
use Rattle.grammar.specs.Trees.{Fields}
use Rattle.nodes.specs.Nodes.{IsFields}
use Rattle.statics.specs.Scopes.{Text as Facts}
use Rattle.statics.specs.Modules.{fields}
use Rattle.scopes.specs.Meanings.{component_means}
use Rattle.lists.specs.Lists.{left}
use Rattle.frames.specs.Frames.{Kept, last_field}
use Rattle.frames.proofs.Filled.{Filling}
use Rattle.inventory.specs.Parts.{part_of}
use Rattle.inventory.proofs.components.put_components.Given as goal

abbrev pub invariant-loop-entry : goal.invariant-loop-entry
invariant-loop-entry l =
    Kept l.fn.start l.fn.parts l.start l.parts
    × ((x : Facts) (fs : Fields) → IsFields fs l.nodes l.list → Filling (component_means x) (λ t. part_of x l.owner (last_field x t) ∷ []) IsFields l.nodes (left l.entry-iterator) (map (part_of x l.owner) (fields x fs)) l.fn.start l.fn.parts l.start l.parts)
