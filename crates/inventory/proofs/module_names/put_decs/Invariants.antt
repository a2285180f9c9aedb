use Rattle.std.proofs.Common.{List}
use Rattle.grammar.specs.Trees.{Dec, Many}
use Rattle.grammar.specs.Machine.{Sort, Declared as Entry}
use Rattle.nodes.specs.Nodes.{IsDec, IsMany}
use Rattle.nodes.specs.Lists.{IsDeclared}
use Rattle.statics.specs.Scopes.{Text as Facts}
use Rattle.statics.specs.Written.{gather}
use Rattle.statics.specs.Modules.{dec_names}
use Rattle.modes.specs.declared.Mode.{Mode as ModeOf}
use Rattle.lists.specs.Lists.{left}
use Rattle.frames.specs.Frames.{Kept, declared_names, site_means}
use Rattle.frames.proofs.Filled.{Filling}
use Rattle.inventory.proofs.module_names.put_decs.Given as goal

abbrev pub invariant-loop-declaration : goal.invariant-loop-declaration
invariant-loop-declaration l =
    Kept l.fn.start l.fn.names l.start l.names
    × ((x : Facts) (ms : List ModeOf) (s : Sort) (ds : Many (Dec (Many (Entry s)))) → IsMany (IsDec (IsMany (IsDeclared s))) ds l.nodes l.list → Filling (site_means x ms) (dec_names x (declared_names s)) (IsDec (IsMany (IsDeclared s))) l.nodes (left l.declaration-iterator) (gather (dec_names x (declared_names s)) ds) l.fn.start l.fn.names l.start l.names)
