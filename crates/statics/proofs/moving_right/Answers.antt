use Rattle.std.proofs.Common.{length}
use Rattle.statics.specs.Stages.{stages, all_moved, moved}
use Rattle.statics.specs.JudgeLimits.{judge_static}
use Rattle.statics.proofs.Limits.{static_right_lem, staged_one, moved_staged}
use Rattle.statics.proofs.Places.{made_in_order}
use Rattle.statics.proofs.moving_right.Goals as goal

pub returns : goal.returns
returns c = λ g inc x m w e.
    let s = moved_staged g inc (stages x m) (judge_static x m) (static_right_lem x m 0 (length w) (made_in_order m w e)) in
    (s, λ r t. staged_one (all_moved g (stages x m)) (moved g (judge_static x m)) r s t)
