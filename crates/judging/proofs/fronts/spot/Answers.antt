use Rattle.std.proofs.Common.{sym, ◌∙◌, arith}
use Rattle.judging.proofs.Beginnings.{inside, outside}
use Rattle.judging.proofs.fronts.spot.Goals as goal
use Rattle.judging.proofs.fronts.spot.Goals.{in_default-via-in-Paren+else-inner-at, in_default-via-in_default}

pub loop-inner-preserved : goal.loop-inner-preserved
loop-inner-preserved c n e is =
    let f = c.loop-inner.invariant n e is in
    let g = inside c.args.nodes.now c.loop-inner.at c.in-Paren.field-0 c.in-Paren.inner (sym c.in-Paren.ensures) f.1 f.2 in
    (5, g.1, g.2, g.3 ∙ f.3)

pub returns-in_default : goal.returns-in_default
returns-in_default c n e is =
    let f = c.loop-inner.invariant n e is in
    elim c.in_default.branch [
      | in_default-via-in-Paren+else-inner-at w ↦ absurd (omega (arith, (inside c.args.nodes.now c.loop-inner.at w.in-Paren.field-0 w.in-Paren.inner (sym w.in-Paren.ensures) f.1 f.2).0))
      | in_default-via-in_default w ↦ c.front.ensures.expression f.0 f.1 f.2 ∙ outside c.args.nodes.now c.loop-inner.at (λ j r e. w.in_default.not-Paren j r (c.node_at.ensures ∙ e)) f.1 f.2 ∙ f.3
    ]
