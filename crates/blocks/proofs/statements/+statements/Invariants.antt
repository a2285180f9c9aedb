use Rattle.std.proofs.Common.{◌≡◌, ◌+◌, ◌*◌, length, take}
use Rattle.grammar.specs.Trees.{Arms, Sequence}
use Rattle.nodes.specs.Nodes.{IsArms, IsSequence}
use Rattle.statics.specs.Order.{InArms, InSequence}
use Rattle.statics.specs.JudgeStatements.{judge_sequence, judge_statement, judge_arms}
use Rattle.lists.specs.Lists.{left}
use Rattle.lists.proofs.Loops.{Going}
use Rattle.frames.specs.Frames.{frame_means}
use Rattle.frames.specs.Rooms.{Room}
use Rattle.frames.proofs.Entering.{Entered, Armed}
use Rattle.blocks.proofs.Joined.{both}
use Rattle.blocks.proofs.statements.+statements.Given as goal

abbrev pub decreases-arm : goal.decreases-arm
decreases-arm l = 4 * l.k

abbrev pub decreases-body : goal.decreases-body
decreases-body l = 4 * l.k

abbrev pub decreases-branches : goal.decreases-branches
decreases-branches l = 4 * l.k + 2

abbrev pub decreases-sequence : goal.decreases-sequence
decreases-sequence l = 4 * l.k + 1

abbrev pub decreases-statement : goal.decreases-statement
decreases-statement l = 4 * l.k

abbrev pub invariant-branches-loop-entry : goal.invariant-branches-loop-entry
invariant-branches-loop-entry l = record {
  frame : l.frame ≡ l.fn.frame;
  same : length l.names ≡ length l.fn.names;
  front : take l.fn.frame.count l.names ≡ take l.fn.frame.count l.fn.names;
  judged : (ws : Arms) → IsArms ws l.nodes l.k → l.fn.frame.ready ≡ l.fn.frame.count → Room InArms ws l.fn.frame.count (length l.fn.names) → Going (λ w r. both (judge_arms (frame_means l.fn.frame l.fn.names) w) r) (Armed l.k l.fn.frame.count (length l.fn.names)) l.nodes (left l.entry-iterator) l.rest (judge_arms (frame_means l.fn.frame l.fn.names) ws);
}

abbrev pub invariant-sequence-loop-entry : goal.invariant-sequence-loop-entry
invariant-sequence-loop-entry l = record {
  frame : l.frame ≡ l.fn.frame;
  same : length l.names ≡ length l.fn.names;
  front : take l.fn.frame.count l.names ≡ take l.fn.frame.count l.fn.names;
  judged : (ss : Sequence) → IsSequence ss l.nodes l.k → l.fn.frame.ready ≡ l.fn.frame.count → Room InSequence ss l.fn.frame.count (length l.fn.names) → Going (λ s r. both (judge_statement (frame_means l.fn.frame l.fn.names) s) r) (Entered l.k l.fn.frame.count (length l.fn.names)) l.nodes (left l.entry-iterator) l.rest (judge_sequence (frame_means l.fn.frame l.fn.names) ss);
}
