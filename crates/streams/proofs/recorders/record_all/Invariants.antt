use Rattle.std.proofs.Common.{take}
use Rattle.streams.specs.Recorders.{Kept}
use Rattle.streams.proofs.Laws.{Front}
use Rattle.streams.proofs.recorders.record_all.Given as goal

abbrev pub invariant-loop-i : goal.invariant-loop-i
invariant-loop-i g l =
    Kept (Front (take l.i l.bytes)) (g.R.Recorder.state l.initial.r) (g.R.Recorder.state l.r)
