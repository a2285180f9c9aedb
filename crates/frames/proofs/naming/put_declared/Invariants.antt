use Rattle.std.proofs.Common.{List, map}
use Rattle.grammar.specs.Trees.{Many}
use Rattle.grammar.specs.Machine.{Sort, Declared as Entry}
use Rattle.nodes.specs.Nodes.{IsMany}
use Rattle.nodes.specs.Lists.{IsDeclared}
use Rattle.statics.specs.Scopes.{Text as Facts}
use Rattle.statics.specs.Written.{site}
use Rattle.modes.specs.declared.Mode.{Mode as ModeOf}
use Rattle.scopes.specs.Meanings.{classed}
use Rattle.lists.specs.Lists.{left}
use Rattle.frames.specs.Frames.{Kept, declared_names, site_means}
use Rattle.frames.proofs.Filled.{Filling}
use Rattle.frames.proofs.Listing.{entry_names}
use Rattle.frames.proofs.naming.put_declared.Given as goal

abbrev pub invariant-loop-declared : goal.invariant-loop-declared
invariant-loop-declared l =
    Kept l.fn.start l.fn.names l.start l.names
    × ((x : Facts) (ms : List ModeOf) (s : Sort) (is : Many (Entry s)) → IsMany (IsDeclared s) is l.nodes l.list → Filling (site_means x ms) (λ t. map (site (classed x ms l.class)) (entry_names s t)) (IsDeclared s) l.nodes (left l.declared-iterator) (map (site (classed x ms l.class)) (declared_names s is)) l.fn.start l.fn.names l.start l.names)
