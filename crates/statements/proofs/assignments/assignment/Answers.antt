use Rattle.std.proofs.Common.{Option, subst, arith}
use Rattle.nodes.specs.declared.Parsed.{Parsed}
use Rattle.statements.specs.Assigning.{Onward}
use Rattle.statements.proofs.Sources.{targets_more, made_assign}
use Rattle.statements.proofs.assignments.assignment.Goals as goal

pub loop-d-preserved : goal.loop-d-preserved
loop-d-preserved c =
    let v = c.loop-d.invariant in
    let o = subst (λ (x : Option Parsed). Onward c.args.from.depth c.args.from.symbols.now c.loop-d.at.next c.loop-d.at.used c.loop-d.nodes c.destination.new.nodes x) c.in-Some.is (rw c.after.ensures at c.in_ok-d.ensures) in
    rw (c.put-at.ensures.written, c.put-at.ensures.is) (targets_more c.args.from.depth c.args.from.symbols.now c.args.from.next c.args.from.used _ _ c.loop-d.at v.0 v.1 _ c.in-Some.d (omega (arith, v.1, o.1, o.0.within)) o)

pub returns : goal.returns
returns c =
    let v = c.loop-d.invariant in
    let o = subst (λ (x : Option Parsed). Onward c.args.from.depth c.args.from.symbols.now c.loop-d.at.next c.loop-d.at.used c.loop-d.nodes c.destination.new.nodes x) c.in_default.is (rw c.after.ensures at c.in_ok-d.ensures) in
    let m = rw c.after-2.ensures at c.in_ok-e.ensures in
    rw (c.put.ensures.written, c.put.ensures.is) (made_assign c.args.from.depth c.args.from.symbols.now c.args.from.next c.args.from.used _ _ c.loop-d.at v.0 v.1 _ o.1 o.0 _ c.in_ok-e.e (omega (arith, v.1, m.few, m.within)) m)
