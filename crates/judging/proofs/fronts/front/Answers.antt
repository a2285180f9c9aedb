use Rattle.std.proofs.Common.{◌≡◌, ℕ, ap, ◌∙◌, arith}
use Rattle.judging.specs.Openings.{left_of, item_of}
use Rattle.judging.proofs.Beginnings.{Begins, begins, begins_variable, opens, leans}
use Rattle.judging.proofs.fronts.front.Goals as goal
use Rattle.judging.proofs.fronts.front.Goals.{in_default-via-in-Some+else-left-at, in_default-via-in_default}

pub loop-left-preserved : goal.loop-left-preserved
loop-left-preserved c i b = (leans c.args.nodes.now (rw c.node_at.ensures at c.in-Some.ensures) (c.loop-left.invariant i b)).1

pub returns-in_default : goal.returns-in_default
returns-in_default c =
    let by : (i : ℕ) → Begins c.args.nodes.now i c.args.k → c.opening.result ≡ i = λ i b.
    let b : Begins c.args.nodes.now i c.loop-left.at = c.loop-left.invariant i b in
    elim c.in_default.branch [
      | in_default-via-in-Some+else-left-at w ↦ absurd (omega (arith, (leans c.args.nodes.now (rw c.node_at.ensures at w.in-Some.ensures) b).0))
      | in_default-via-in_default w ↦ c.opening.ensures ∙ ap item_of c.node_at-in_default.ensures ∙ opens c.args.nodes.now (λ j e. w.in_default.not-Some j (c.left.ensures ∙ ap left_of c.node_at.ensures ∙ e)) b
    ] in
    record {
      expression = λ n e is. by _ (begins c.args.nodes.now e c.args.k is);
      variable = λ v is. by _ (begins_variable c.args.nodes.now v c.args.k is);
    }
