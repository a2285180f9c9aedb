use Rattle.std.proofs.Common.{◌<◌, length, refl, arith}
use Rattle.nodes.proofs.Build.{rebased}
use Rattle.nodes.proofs.Keep.{agree_set, agree_trans}
use Rattle.declarations.proofs.Sharing.{first_name, more_names}
use Rattle.declarations.proofs.shared.Goals as goal

pub loop-nodes-init : goal.loop-nodes-init
loop-nodes-init c =
    let r : c.args.from.used < length c.args.nodes.now = omega (arith, c.requires.first.2) in
    rw (c.put-at.ensures.written, c.put-at.ensures.is) ((rebased 0 _ _ _ _ _ _ _ _ _ _ (λ j l. refl) (first_name c.args.from.symbols.now c.args.from.next c.args.from.used c.args.nodes.now c.requires.first r), omega arith))

pub loop-nodes-preserved : goal.loop-nodes-preserved
loop-nodes-preserved c =
    let q = c.loop-nodes-test.ensures in
    let v = c.loop-nodes.invariant in
    rw (c.put-at-in-loop-nodes.ensures.written, c.put-at-in-loop-nodes.ensures.is, c.put-name.ensures.written, c.put-name.ensures.is) (more_names c.args.from.symbols.now c.args.from.next c.args.from.used _ c.loop-nodes.nodes c.loop-nodes.at v.0 q (omega (arith, q.2, v.1, c.requires.room)), omega (arith, v.1))

pub returns : goal.returns
returns c =
    let v = c.loop-nodes.invariant in
    (rebased 0 _ _ _ _ _ _ _ _ _ _ (agree_trans c.args.from.used c.args.from.used _ _ _ (omega arith) (rw c.put-at.ensures.written (agree_set c.args.from.used c.args.from.used c.args.nodes.now _ (omega arith))) v.0.kept) v.0, (λ q. c.loop-nodes-test.ensures q), v.1)
