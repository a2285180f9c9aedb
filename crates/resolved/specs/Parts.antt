-- Which data variables and procedures a module declares. Assumes nothing.
use Rattle.std.specs.Prelude.{ℕ, List, [], ◌∷◌, map}
use Rattle.grammar.specs.Trees.{Many, Init, Value, Dec, nothing, variables, arrays, structures, Brick, store, Moditem, own, entry}
use Rattle.grammar.specs.Trees as tree
use Rattle.statics.specs.Written.{gather, item_names}
use Rattle.resolved.specs.Forms.{Part}
use Rattle.resolved.specs.Forms as form

-- What can be named: a slot of a procedure; a data variable and a procedure, by the item that declares it; a string, by its item.
pub data Named : Type 0 where
  slot datum procedure string : ℕ → Named

abbrev pub of_part : Part → Named
of_part (form.datum d) = datum d.item
of_part (form.procedure p) = procedure p.item

abbrev pub item_declared : Init Value → List Named
item_declared i = map datum (item_names i)

abbrev pub dec_declared : Dec (Many (Init Value)) → List Named
dec_declared nothing = []
dec_declared (variables m is) = gather item_declared is
dec_declared (arrays b n m is) = gather item_declared is
dec_declared (structures n is) = gather item_declared is

abbrev pub brick_declared : Brick → List Named
brick_declared (store n ds) = gather dec_declared ds
brick_declared (tree.procedure n i ps m b e) = procedure n ∷ []

-- what an item of the module declares
abbrev pub declared : Moditem → List Named
declared (own b) = brick_declared b
declared (entry b) = brick_declared b
declared _ = []
