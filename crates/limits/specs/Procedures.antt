-- The procedures among the items of a module. Assumes nothing.
use Rattle.std.specs.Prelude.{◌≡◌, Option, None, Some, List}
use Rattle.grammar.specs.Trees.{Brick, store, procedure, Moditem, own, entry}
use Rattle.nodes.specs.Nodes.{IsBody, IsFields, IsOpt}
use Rattle.nodes.specs.declared.Node.{Node}
use Rattle.limits.specs.declared.Procedure.{Procedure}

-- the parameters and the body of a procedure; of a data brick nothing
abbrev pub FoundBrick : List Node → Brick → Option Procedure → Type 0
FoundBrick ns (store n ds) r = r ≡ None
FoundBrick ns (procedure n i ps m b e) None = ⊥
FoundBrick ns (procedure n i ps m b e) (Some p) = IsOpt IsFields ps ns p.parameters × IsBody b ns p.body

abbrev pub Found : List Node → Moditem → Option Procedure → Type 0
Found ns (own b) r = FoundBrick ns b r
Found ns (entry b) r = FoundBrick ns b r
Found ns _ r = r ≡ None
