-- The nodes of the lists of a module: one entry, and further ones behind a separator. Assumes nothing.
use Rattle.std.specs.Prelude.{◌≡◌, ℕ, List, ◌∷◌}
use Rattle.grammar.specs.declared.Symbol.{Symbol}
use Rattle.grammar.specs.Machine.{Goal, Repetition, exprs, ors, ands, statements, modes, entries, moditems, declareds, decs, Setting, stored, inblock, Initial, Sort, unset, set, Declared, Single, Whole, each, rest}
use Rattle.nodes.specs.Made.{at}
use Rattle.nodes.specs.Nodes.{Reading, IsExpr, IsExprs, IsMany, IsComparison, IsSubcondition, IsCondition, IsStatement, IsSequence, IsMode, IsEntry, IsValues, IsName, IsInit, IsValue, IsDec, IsModitem, IsModule}

-- an initial value, and a declared name with or without one
abbrev pub IsInitial : (v : Setting) → Reading (Initial v)
IsInitial stored = IsValue
IsInitial inblock = IsExpr

abbrev pub IsDeclared : (t : Sort) → Reading (Declared t)
IsDeclared unset = IsName
IsDeclared (set v) = IsInit (IsInitial v)

-- an entry of a list, and the whole list
abbrev pub IsSingle : (r : Repetition) → Reading (Single r)
IsSingle exprs = IsExpr
IsSingle ors = IsSubcondition
IsSingle ands = IsComparison
IsSingle statements = IsStatement
IsSingle modes = IsMode
IsSingle entries = IsEntry
IsSingle moditems = IsModitem
IsSingle (declareds t) = IsDeclared t
IsSingle (decs t) = IsDec (IsMany (IsDeclared t))

abbrev pub IsWhole : (r : Repetition) → Reading (Whole r)
IsWhole exprs = IsExprs
IsWhole ors = IsCondition
IsWhole ands = IsSubcondition
IsWhole statements = IsSequence
IsWhole modes = IsMany IsMode
IsWhole entries = IsValues
IsWhole moditems = IsModule
IsWhole (declareds t) = IsMany (IsDeclared t)
IsWhole (decs t) = IsMany (IsDec (IsMany (IsDeclared t)))

-- Where the goal h is a list of the kind r, an entry comes first.
abbrev pub Begins : Repetition → Goal → Type 0
Begins r h = (d : ℕ) (α : List Goal) (s : List Symbol) (i : ℕ) → at d (h ∷ α) s i ≡ at d (each r ∷ rest r ∷ α) s i
