use Rattle.std.proofs.Common.{ℕ}
use Rattle.judging.proofs.Beginnings.{Begins}
use Rattle.judging.proofs.fronts.front.Given as goal

-- what stands at k begins as what stands further left
abbrev pub invariant-loop-left : goal.invariant-loop-left
invariant-loop-left l = (i : ℕ) → Begins l.nodes i l.k → Begins l.nodes i l.at

abbrev pub decreases-loop-left : goal.decreases-loop-left
decreases-loop-left l = l.at
