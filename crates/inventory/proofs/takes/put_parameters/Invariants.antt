use Rattle.std.proofs.Common.{[], ◌∷◌, map}
use Rattle.grammar.specs.Trees.{Fields, Opt}
use Rattle.nodes.specs.Nodes.{IsFields, IsOpt}
use Rattle.statics.specs.Scopes.{Text as Facts}
use Rattle.statics.specs.Modules.{parameters}
use Rattle.modes.specs.Meanings.{mode_means}
use Rattle.lists.specs.Lists.{left}
use Rattle.frames.specs.Frames.{Kept, last_field}
use Rattle.frames.proofs.Filled.{Filling}
use Rattle.inventory.proofs.takes.put_parameters.Given as goal

abbrev pub invariant-loop-field : goal.invariant-loop-field
invariant-loop-field l =
    Kept l.fn.start l.fn.takes l.start l.takes
    × ((x : Facts) (ps : Opt Fields) → IsOpt IsFields ps l.nodes l.list → Filling (mode_means x) (λ t. (last_field x t).mode ∷ []) IsFields l.nodes (left l.field-iterator) (map (λ f. f.mode) (parameters x ps)) l.fn.start l.fn.takes l.start l.takes)
