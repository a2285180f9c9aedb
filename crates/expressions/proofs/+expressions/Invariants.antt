use Rattle.std.proofs.Common.{suc, ◌+◌, ◌-◌, ◌*◌, ◌≤◌, [], ◌∷◌, length}
use Rattle.grammar.specs.Trees.{Expr, Exprs, Term, of_expr, of_exprs, of_term}
use Rattle.grammar.specs.Machine.{a_term}
use Rattle.nodes.specs.Made.{Made, Way, LevelWay, Opening, Counted, ArgsWay}
use Rattle.nodes.specs.Nodes.{IsExpr, IsExprs, IsTerm}
use Rattle.expressions.proofs.Forms.{VariableMade}
use Rattle.expressions.proofs.+expressions.Given as goal

abbrev pub decreases-expr : goal.decreases-expr
decreases-expr l = 16 * l.from.depth + 15

abbrev pub decreases-level : goal.decreases-level
decreases-level l = 16 * l.from.depth + 9 + l.n

abbrev pub decreases-term : goal.decreases-term
decreases-term l = 16 * l.from.depth + 8

abbrev pub decreases-primary : goal.decreases-primary
decreases-primary l = 16 * l.from.depth + 7

abbrev pub decreases-form : goal.decreases-form
decreases-form l = 16 * l.from.depth + 6

abbrev pub decreases-applied : goal.decreases-applied
decreases-applied l = 16 * l.from.depth + 5

abbrev pub decreases-variable : goal.decreases-variable
decreases-variable l = 16 * l.from.depth + 4

abbrev pub decreases-calls : goal.decreases-calls
decreases-calls l = 16 * l.from.depth + 3

abbrev pub decreases-bracketed : goal.decreases-bracketed
decreases-bracketed l = 16 * l.from.depth + 2

abbrev pub invariant-calls-loop-further : goal.invariant-calls-loop-further
invariant-calls-loop-further l = Made 0 Exprs IsExprs of_exprs (ArgsWay l.from.depth l.from.symbols.now l.from.next) l.from.symbols.now (l.from.next + 2) (l.from.used + 1) l.initial.nodes l.nodes l.at

abbrev pub decreases-calls-loop-further : goal.decreases-calls-loop-further
decreases-calls-loop-further l = length l.from.symbols.now - l.at.next

abbrev pub invariant-level-loop-from : goal.invariant-level-loop-from
invariant-level-loop-from l = Made 0 (Expr (suc (l.n - 1))) IsExpr of_expr (LevelWay (l.n - 1) l.from.depth l.from.symbols.now l.from.next) l.from.symbols.now l.from.next l.from.used l.initial.nodes l.nodes l.at

abbrev pub decreases-level-loop-from : goal.decreases-level-loop-from
decreases-level-loop-from l = length l.from.symbols.now - l.at.next

abbrev pub invariant-term-loop-k : goal.invariant-term-loop-k
invariant-term-loop-k l = (l.from.next ≤ l.k) × Made 0 Term IsTerm of_term (Way (a_term ∷ []) l.from.depth l.from.symbols.now l.k) l.from.symbols.now l.k l.from.used l.initial.nodes l.nodes l.at

abbrev pub invariant-variable-loop-from : goal.invariant-variable-loop-from
invariant-variable-loop-from l = Counted l.from.symbols.now l.from.next l.from.used l.at × ((b : Opening) → VariableMade b l.from.depth l.from.symbols.now l.from.next l.from.used l.initial.nodes l.initial.nodes l.initial.at → VariableMade b l.from.depth l.from.symbols.now l.from.next l.from.used l.initial.nodes l.nodes l.at)

abbrev pub decreases-variable-loop-from : goal.decreases-variable-loop-from
decreases-variable-loop-from l = length l.from.symbols.now - l.at.next
