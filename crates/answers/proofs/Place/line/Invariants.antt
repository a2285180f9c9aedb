use Rattle.std.proofs.Common.{◌≡◌, ◌+◌, ◌≤◌, take, count_by}
use Rattle.answers.specs.Lines.{ends_line}
use Rattle.answers.proofs.Place.line.Given as goal

abbrev pub invariant-loop-b : goal.invariant-loop-b
invariant-loop-b l = (l.line ≡ 1 + count_by ends_line (take l.b-index l.b-items)) × (l.line ≤ 1 + l.b-index)
