use Rattle.std.proofs.Common.{◌≡◌, ℕ}
use Rattle.grammar.specs.Trees.{Expr}
use Rattle.nodes.specs.Nodes.{IsExpr}
use Rattle.statics.specs.Fronts.{spot}
use Rattle.judging.proofs.fronts.spot.Given as goal

-- the misfit of what stands at k is that of what stands further inside
abbrev pub invariant-loop-inner : goal.invariant-loop-inner
invariant-loop-inner l = (n : ℕ) (e : Expr n) → IsExpr e l.nodes l.k → (m : ℕ) × (f : Expr m) × IsExpr f l.nodes l.at × (spot f ≡ spot e)

abbrev pub decreases-loop-inner : goal.decreases-loop-inner
decreases-loop-inner l = l.at
