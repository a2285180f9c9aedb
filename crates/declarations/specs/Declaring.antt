-- What is declared: names alone where it is described, names with initial values in a data brick or in a block. Assumes nothing.
use Rattle.std.specs.Prelude.{List, [], ◌∷◌}
use Rattle.grammar.specs.Symbols.{INT, BYTE, REF, COMMA}
use Rattle.grammar.specs.declared.Symbol.{Symbol}
use Rattle.grammar.specs.Trees.{Spelling, Many, of_many}
use Rattle.grammar.specs.Machine.{Goal, Setting, stored, inblock, a_value, an_expr, Sort, Declared, of_declared}
use Rattle.nodes.specs.Nodes.{Reading, IsMany}
use Rattle.nodes.specs.Lists.{IsDeclared}

-- the terminals that a mode begins with
abbrev pub mode_firsts : List Symbol
mode_firsts = INT ∷ BYTE ∷ REF ∷ []

-- the names of one declaration, separated by commas
abbrev pub Listing : Sort → Type 0
Listing t = Many (Declared t)

abbrev pub IsListing : (t : Sort) → Reading (Listing t)
IsListing t = IsMany (IsDeclared t)

abbrev pub of_listing : (t : Sort) → Spelling (Listing t)
of_listing t = of_many (of_declared t) COMMA

-- the goal that an initial value meets
abbrev pub goal_of : Setting → Goal
goal_of stored = a_value
goal_of inblock = an_expr
