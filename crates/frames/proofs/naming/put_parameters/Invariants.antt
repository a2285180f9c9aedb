use Rattle.std.proofs.Common.{List, [], ◌∷◌, map}
use Rattle.grammar.specs.Trees.{Fields, Opt}
use Rattle.nodes.specs.Nodes.{IsFields, IsOpt}
use Rattle.statics.specs.Scopes.{Text as Facts}
use Rattle.statics.specs.Modules.{parameters}
use Rattle.modes.specs.declared.Mode.{Mode as ModeOf}
use Rattle.lists.specs.Lists.{left}
use Rattle.frames.specs.Frames.{Kept, site_means, parameter_site, last_field}
use Rattle.frames.proofs.Filled.{Filling}
use Rattle.frames.proofs.naming.put_parameters.Given as goal

abbrev pub invariant-loop-field : goal.invariant-loop-field
invariant-loop-field l =
    Kept l.fn.start l.fn.names l.start l.names
    × ((x : Facts) (ms : List ModeOf) (ps : Opt Fields) → IsOpt IsFields ps l.nodes l.list → Filling (site_means x ms) (λ t. parameter_site (last_field x t) ∷ []) IsFields l.nodes (left l.field-iterator) (map parameter_site (parameters x ps)) l.fn.start l.fn.names l.start l.names)
