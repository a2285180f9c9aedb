use Rattle.std.proofs.Common.{ℕ, List, [], ◌∷◌, map}
use Rattle.grammar.specs.Trees.{Many}
use Rattle.nodes.specs.Nodes.{IsMany, IsName}
use Rattle.statics.specs.Scopes.{Text as Facts}
use Rattle.statics.specs.Written.{site}
use Rattle.statics.specs.Modules.{names_of}
use Rattle.modes.specs.declared.Mode.{Mode as ModeOf}
use Rattle.scopes.specs.Meanings.{classed}
use Rattle.lists.specs.Lists.{left}
use Rattle.frames.specs.Frames.{Kept, site_means}
use Rattle.frames.proofs.Filled.{Filling}
use Rattle.frames.proofs.naming.put_names.Given as goal

abbrev pub invariant-loop-name : goal.invariant-loop-name
invariant-loop-name l =
    Kept l.fn.start l.fn.names l.start l.names
    × ((x : Facts) (ms : List ModeOf) (ns : Many ℕ) → IsMany IsName ns l.nodes l.list → Filling (site_means x ms) (λ n. site (classed x ms l.class) n ∷ []) IsName l.nodes (left l.name-iterator) (map (site (classed x ms l.class)) (names_of ns)) l.fn.start l.fn.names l.start l.names)
