use Rattle.std.proofs.Common.{◌≡◌, ◌+◌, ◌*◌, length, take}
use Rattle.grammar.specs.Trees.{Arms, Sequence}
use Rattle.nodes.specs.Nodes.{IsArms, IsSequence}
use Rattle.statics.specs.Order.{InArms, InSequence}
use Rattle.statics.specs.Blocks.{arms_blocks, inner_blocks}
use Rattle.texts.specs.Facts.{facts}
use Rattle.lists.specs.Lists.{left}
use Rattle.frames.specs.Rooms.{Room}
use Rattle.limits.specs.Twice.{block_scope, earliest_double}
use Rattle.limits.proofs.Holding.{StatementsLeft, ArmsLeft}
use Rattle.limits.proofs.twice.+scopes.Given as goal

abbrev pub decreases-twice_in_body : goal.decreases-twice_in_body
decreases-twice_in_body l = 2 * l.k

abbrev pub decreases-twice_in_statement : goal.decreases-twice_in_statement
decreases-twice_in_statement l = 2 * l.k

abbrev pub decreases-twice_in_statements : goal.decreases-twice_in_statements
decreases-twice_in_statements l = 2 * l.k + 1

abbrev pub invariant-twice_in_statements-loop-entry : goal.invariant-twice_in_statements-loop-entry
invariant-twice_in_statements-loop-entry l = record {
  same : length l.names ≡ length l.fn.names;
  front : take l.base l.names ≡ take l.base l.fn.names;
  statements : (ss : Sequence) → IsSequence ss l.nodes l.k → Room InSequence ss l.base (length l.fn.names) → StatementsLeft (facts l.text) l.nodes l.k l.base (length l.fn.names) (left l.entry-iterator) l.found (earliest_double (facts l.text) (inner_blocks (block_scope (facts l.text)) ss));
  arms : (ws : Arms) → IsArms ws l.nodes l.k → Room InArms ws l.base (length l.fn.names) → ArmsLeft (facts l.text) l.nodes l.k l.base (length l.fn.names) (left l.entry-iterator) l.found (earliest_double (facts l.text) (arms_blocks (block_scope (facts l.text)) ws));
}
