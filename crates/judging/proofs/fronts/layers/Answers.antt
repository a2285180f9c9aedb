use Rattle.std.proofs.Common.{◌≡◌, arith}
use Rattle.judging.proofs.Layers.{left_in, none_left}
use Rattle.judging.proofs.fronts.layers.Goals as goal

pub loop-left-preserved : goal.loop-left-preserved
loop-left-preserved c = (
  omega (arith, c.loop-left.invariant.0, c.if-left-at.true),
  λ v is.
      let w = c.loop-left.invariant.1 v is in
      let x = left_in c.args.nodes.now w.0 _ _ (rw c.node_at.ensures at c.in-Some.ensures) w.1 in
      (_, x.1, omega (arith, w.2, x.2)),
)

pub returns-in_default : goal.returns-in_default
returns-in_default c v is =
    let w = c.loop-left.invariant.1 v is in
    let x = none_left c.args.nodes.now w.0 _ (λ l e p. let q : c.in-Some.left ≡ l = cc (c.in-Some.is, c.left.ensures, c.node_at.ensures, e) in omega (arith, p, q, c.if-left-at.false)) w.1 in
    omega (arith, w.2, x.1)

pub returns-in_default-2 : goal.returns-in_default-2
returns-in_default-2 c v is =
    let w = c.loop-left.invariant.1 v is in
    let x = none_left c.args.nodes.now w.0 _ (λ l e p. absurd (cc (c.in_default.is, c.left.ensures, c.node_at.ensures, e))) w.1 in
    omega (arith, w.2, x.1)
