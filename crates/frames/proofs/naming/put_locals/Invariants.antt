use Rattle.std.proofs.Common.{List}
use Rattle.grammar.specs.Trees.{Locals}
use Rattle.nodes.specs.Nodes.{IsLocal, IsLocals}
use Rattle.statics.specs.Scopes.{Text as Facts}
use Rattle.statics.specs.Statements.{entries as names_of_locals, local_names}
use Rattle.modes.specs.declared.Mode.{Mode as ModeOf}
use Rattle.lists.specs.Lists.{left}
use Rattle.frames.specs.Frames.{Kept, site_means}
use Rattle.frames.proofs.Filled.{Filling}
use Rattle.frames.proofs.naming.put_locals.Given as goal

abbrev pub invariant-loop-declaration : goal.invariant-loop-declaration
invariant-loop-declaration l =
    Kept l.fn.start l.fn.names l.start l.names
    × ((x : Facts) (ms : List ModeOf) (ls : Locals) → IsLocals ls l.nodes l.locals → Filling (site_means x ms) (local_names x) IsLocal l.nodes (left l.declaration-iterator) (names_of_locals x ls) l.fn.start l.fn.names l.start l.names)
