-- What the blocks of a body have, in the order of the text. Assumes nothing.
use Rattle.std.specs.Prelude.{List, [], ◌++◌}
use Rattle.grammar.specs.Trees.{Locals, Body, body, Sequence, single, sequel, Statement, block, branch, branch_else, repeat, loop, Arms, when, elsewhen}

-- f of the locals of each block: of a body, and of what stands in it
abbrev mutual
  pub blocks : {A : Type 0} → (Locals → List A) → Body → List A
  blocks f (body ls s) = f ls ++ inner_blocks f s

  pub inner_blocks : {A : Type 0} → (Locals → List A) → Sequence → List A
  inner_blocks f (single s) = statement_blocks f s
  inner_blocks f (sequel ss s) = inner_blocks f ss ++ statement_blocks f s

  pub statement_blocks : {A : Type 0} → (Locals → List A) → Statement → List A
  statement_blocks f (block b) = blocks f b
  statement_blocks f (branch ws) = arms_blocks f ws
  statement_blocks f (branch_else ws s) = arms_blocks f ws ++ inner_blocks f s
  statement_blocks f (repeat e b) = blocks f b
  statement_blocks f (loop c s) = inner_blocks f s
  statement_blocks f _ = []

  pub arms_blocks : {A : Type 0} → (Locals → List A) → Arms → List A
  arms_blocks f (when c s) = inner_blocks f s
  arms_blocks f (elsewhen ws c s) = arms_blocks f ws ++ inner_blocks f s
