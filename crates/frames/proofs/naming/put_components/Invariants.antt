use Rattle.std.proofs.Common.{List, [], ◌∷◌, map}
use Rattle.grammar.specs.Trees.{Fields}
use Rattle.nodes.specs.Nodes.{IsFields}
use Rattle.statics.specs.Scopes.{Text as Facts}
use Rattle.statics.specs.Modules.{fields}
use Rattle.modes.specs.declared.Mode.{Mode as ModeOf}
use Rattle.lists.specs.Lists.{left}
use Rattle.frames.specs.Frames.{Kept, site_means, part_site, last_field}
use Rattle.frames.proofs.Filled.{Filling}
use Rattle.frames.proofs.naming.put_components.Given as goal

abbrev pub invariant-loop-field : goal.invariant-loop-field
invariant-loop-field l =
    Kept l.fn.start l.fn.names l.start l.names
    × ((x : Facts) (ms : List ModeOf) (fs : Fields) → IsFields fs l.nodes l.list → Filling (site_means x ms) (λ t. part_site (last_field x t) ∷ []) IsFields l.nodes (left l.field-iterator) (map part_site (fields x fs)) l.fn.start l.fn.names l.start l.names)
