use Rattle.std.proofs.Common.{◌+◌, ◌*◌}
use Rattle.grammar.specs.Trees.{Arms, Sequence}
use Rattle.nodes.specs.Nodes.{IsArms, IsSequence, IsStatement}
use Rattle.statics.specs.Scopes.{Text as Facts}
use Rattle.statics.specs.Blocks.{arms_blocks, inner_blocks, statement_blocks}
use Rattle.statics.specs.DeclaredTwice.{block_names}
use Rattle.lists.specs.Lists.{left}
use Rattle.frames.specs.Frames.{Kept}
use Rattle.frames.proofs.Filled.{Filling}
use Rattle.frames.proofs.Entering.{Within, IsArm}
use Rattle.limits.proofs.crowds.+locals.Given as goal

abbrev pub decreases-put_body : goal.decreases-put_body
decreases-put_body l = 2 * l.k

abbrev pub decreases-put_statement : goal.decreases-put_statement
decreases-put_statement l = 2 * l.k

abbrev pub decreases-put_statements : goal.decreases-put_statements
decreases-put_statements l = 2 * l.k + 1

abbrev pub invariant-put_statements-loop-entry : goal.invariant-put_statements-loop-entry
invariant-put_statements-loop-entry l =
    Kept l.fn.start l.fn.names l.start l.names
    × ((x : Facts) (ss : Sequence) → IsSequence ss l.nodes l.k → Filling (λ d. d.item) (statement_blocks (block_names x)) (Within l.k IsStatement) l.nodes (left l.entry-iterator) (inner_blocks (block_names x) ss) l.fn.start l.fn.names l.start l.names)
    × ((x : Facts) (ws : Arms) → IsArms ws l.nodes l.k → Filling (λ d. d.item) (arms_blocks (block_names x)) (Within l.k IsArm) l.nodes (left l.entry-iterator) (arms_blocks (block_names x) ws) l.fn.start l.fn.names l.start l.names)
