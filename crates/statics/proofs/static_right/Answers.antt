use Rattle.std.proofs.Common.{length}
use Rattle.statics.specs.Stages.{stages}
use Rattle.statics.specs.JudgeLimits.{judge_static}
use Rattle.statics.proofs.Limits.{static_right_lem, staged_one}
use Rattle.statics.proofs.Places.{made_in_order}
use Rattle.statics.proofs.static_right.Goals as goal

pub returns : goal.returns
returns c = λ x m w e.
    let s = static_right_lem x m 0 (length w) (made_in_order m w e) in
    (s, λ r t. staged_one (stages x m) (judge_static x m) r s t)
