-- What the blocks in the entries of a list come to together. Assumes nothing.
use Rattle.std.proofs.Common.{◌≡◌, List, [], ◌++◌, refl, append_assoc, append-nil}
use Rattle.grammar.specs.Trees.{Locals, Sequence, Arms}
use Rattle.statics.specs.Blocks.{inner_blocks, statement_blocks, arms_blocks}
use Rattle.lists.specs.Lists.{of_sequence, of_arms}
use Rattle.lists.proofs.Loops.{sequence_in_order, arms_in_order}
use Rattle.frames.proofs.Filled.{put_together}

module _ {U : Type 0} (f : Locals → List U) where
  pub statements_together : (ss : Sequence) → inner_blocks f ss ≡ put_together (statement_blocks f) (of_sequence ss)
  statements_together ss = sequence_in_order (λ us vs. us ++ vs) [] append_assoc (λ us. refl) append-nil (statement_blocks f) (inner_blocks f) (λ t. refl) (λ ss t. refl) ss

  pub arms_together : (ws : Arms) → arms_blocks f ws ≡ put_together (arms_blocks f) (of_arms ws)
  arms_together ws = arms_in_order (λ us vs. us ++ vs) [] append_assoc (λ us. refl) append-nil (arms_blocks f) (λ ws c s. refl) ws
