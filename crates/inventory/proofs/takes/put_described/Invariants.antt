use Rattle.std.proofs.Common.{[], ◌∷◌}
use Rattle.grammar.specs.Trees.{Many, Mode as TreeMode, Opt}
use Rattle.nodes.specs.Nodes.{IsMany, IsMode, IsOpt}
use Rattle.statics.specs.Scopes.{Text as Facts}
use Rattle.statics.specs.Written.{mode_of}
use Rattle.statics.specs.Modules.{modes}
use Rattle.modes.specs.Meanings.{mode_means}
use Rattle.lists.specs.Lists.{left}
use Rattle.frames.specs.Frames.{Kept}
use Rattle.frames.proofs.Filled.{Filling}
use Rattle.inventory.proofs.takes.put_described.Given as goal

abbrev pub invariant-loop-mode : goal.invariant-loop-mode
invariant-loop-mode l =
    Kept l.fn.start l.fn.takes l.start l.takes
    × ((x : Facts) (ms : Opt (Many TreeMode)) → IsOpt (IsMany IsMode) ms l.nodes l.list → Filling (mode_means x) (λ m. mode_of x m ∷ []) IsMode l.nodes (left l.mode-iterator) (modes x ms) l.fn.start l.fn.takes l.start l.takes)
