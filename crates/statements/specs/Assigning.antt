-- What the functions that read assignments and calls answer. Assumes nothing.
use Rattle.std.specs.Prelude.{◌≡◌, ℕ, ◌+◌, ◌<◌, List, ◌∷◌, Some, None, Option}
use Rattle.grammar.specs.Symbols.{BECOMES, NAME}
use Rattle.grammar.specs.declared.Symbol.{Symbol}
use Rattle.grammar.specs.Trees.{Token, key, Many, of_many, Destination, of_destination, Primary, integer, text, variable, call, call_on, paren, Variable, name, element, Expr, Exprs, comma}
use Rattle.grammar.specs.Machine.{Goal, tok, parts, start, a_statement, a_source, an_expr, Seen, just_name, one_index, longer, seen}
use Rattle.nodes.specs.Made.{Fewer, at, Made}
use Rattle.nodes.specs.Nodes.{Agree, IsDestination, IsExpr, IsExprs}
use Rattle.nodes.specs.declared.Node.{Node}
use Rattle.nodes.specs.declared.Node.TheVariants.{Invoke, InvokeOn}
use Rattle.nodes.specs.declared.Parsed.{Parsed}
use Rattle.statements.specs.declared.assignments.Shape.{Shape}
use Rattle.statements.specs.declared.assignments.Shape.TheVariants.{Place, Indexed, Called, CalledOn}

-- a primary that begins with a name
abbrev pub Form : Primary → Type 0
Form (variable x) = Unit {0}
Form (call n i) = Unit {0}
Form (call_on n i es e) = Unit {0}
Form (integer n) = ⊥
Form (text n) = ⊥
Form (paren n e) = ⊥

-- a variable that is not a name with one index
abbrev pub NotIndexed : Seen → Type 0
NotIndexed (just_name n) = Unit {0}
NotIndexed (one_index n i e) = ⊥
NotIndexed (longer x) = Unit {0}

-- a form has this shape, and the nodes that the shape names stand below k for its expressions
abbrev pub Shows : Shape → List Node → ℕ → Primary → Type 0
Shows Place ns k t = (x : Variable) × (t ≡ variable x) × NotIndexed (seen x)
Shows (Indexed n i r) ns k t = (e : Expr 5) × (t ≡ variable (element (name n) i e)) × (r < k) × IsExpr e ns r
Shows (Called n i) ns k t = t ≡ call n i
Shows (CalledOn n i m) ns k t = (es : Exprs) × (e : Expr 5) × (t ≡ call_on n i es e) × (m < k) × IsExprs (comma es e) ns m

-- a variable, whichever
abbrev pub IsPlace : Shape → Type 0
IsPlace Place = Unit {0}
IsPlace (Indexed n i r) = Unit {0}
IsPlace (Called n i) = ⊥
IsPlace (CalledOn n i m) = ⊥

-- the node of the call that a form of this shape is as a statement
abbrev pub invocation : Shape → Option Node
invocation Place = None
invocation (Indexed n i r) = Some (InvokeOn n i r)
invocation (Called n i) = Some (Invoke n i)
invocation (CalledOn n i m) = Some (InvokeOn n i m)

-- a destination and several, each with ':=' behind it
abbrev pub of_target : Destination → List Token → List Token
of_target t r = of_destination t (key BECOMES ∷ r)

abbrev pub of_targets : Many Destination → List Token → List Token
of_targets ts r = of_many of_destination BECOMES ts (key BECOMES ∷ r)

-- the statement that begins at i has destinations up to j; behind a destination that ends at i another one reaches up to j; behind VAL at i
-- a variable and ':=' do
abbrev pub TargetsWay : {T : Type 0} → ℕ → List Symbol → ℕ → T → ℕ → Type 0
TargetsWay d s i t j = (α : List Goal) → at d (a_statement ∷ α) s i ≡ at d (a_source ∷ α) s j

abbrev pub TargetWay : {T : Type 0} → ℕ → List Symbol → ℕ → T → ℕ → Type 0
TargetWay d s i t j = (α : List Goal) → at d (a_source ∷ α) s i ≡ at d (a_source ∷ α) s j

abbrev pub ValWay : {T : Type 0} → ℕ → List Symbol → ℕ → T → ℕ → Type 0
ValWay d s i t j = (α : List Goal) → at d (tok NAME ∷ parts start ∷ α) s (i + 1) ≡ at d (a_source ∷ α) s j

-- behind ':=', at i: one more destination with its ':=', or an expression
abbrev pub Onward : ℕ → List Symbol → ℕ → ℕ → List Node → List Node → Option Parsed → Type 0
Onward d s i used ns ms (Some p) = Made 0 Destination IsDestination of_target (TargetWay d s i) s i used ns ms p × Fewer i used p
Onward d s i used ns ms None = ((α : List Goal) → at d (a_source ∷ α) s i ≡ at d (an_expr ∷ α) s i) × Agree used ns ms
