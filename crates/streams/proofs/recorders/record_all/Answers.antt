use Rattle.std.proofs.Common.{refl, arith}
use Rattle.streams.proofs.recorders.record_all.Goals as goal
use Rattle.streams.proofs.Laws.{kept_then, kept_map, front_none, front_more, front_declined, front_all}

pub loop-i-init : goal.loop-i-init
loop-i-init g c = record { lent = refl; stays = λ h. h; does = λ h. front_none _ }

pub returns-in_default : goal.returns-in_default
returns-in_default g c =
    kept_then _ c.loop-i.invariant c.in_default.ensures (front_declined c.args.bytes.now c.loop-i.i _ _ _ (omega arith))

pub loop-i-preserved : goal.loop-i-preserved
loop-i-preserved g c =
    kept_then _ c.loop-i.invariant c.in-Ok.ensures (front_more c.args.bytes.now c.loop-i.i _ _ _ (omega arith))

pub returns : goal.returns
returns g c = kept_map _ c.loop-i.invariant (front_all c.args.bytes.now c.loop-i.i _ _ (omega arith))
