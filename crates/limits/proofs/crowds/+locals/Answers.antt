use Rattle.std.proofs.Common.{ℕ, List, [], sym, ap, subst, ◌∙◌, arith}
use Rattle.nodes.specs.Nodes.{IsStatement}
use Rattle.statics.specs.Blocks.{arms_blocks, inner_blocks, statement_blocks}
use Rattle.statics.specs.DeclaredTwice.{block_names}
use Rattle.lists.specs.Lists.{Stand, of_sequence, of_arms, left}
use Rattle.frames.proofs.Filled.{kept_all, kept_on, filling_in, filling_on, filling_out}
use Rattle.frames.specs.Frames.{Ahead}
use Rattle.frames.proofs.Entering.{Within, IsArm, any_arm, statements_within, arms_within}
use Rattle.limits.proofs.Entries.{statements_together, arms_together}
use Rattle.limits.proofs.Putting.{body_put}
use Rattle.limits.proofs.crowds.+locals.Goals as goal

pub put_body-returns-clause-kept : goal.put_body-returns-clause-kept
put_body-returns-clause-kept t c = kept_on _ _ _ _ _ _ c.put_statements-start.ensures.kept c.put_locals.ensures.kept

pub put_body-returns-clause-put : goal.put_body-returns-clause-put
put_body-returns-clause-put t c = λ x b is. body_put x _ _ _ _ _ _ _ _ _ _ b (sym c.in-Body.ensures) is c.put_statements-start.ensures.kept.length (λ ss. c.put_statements-start.ensures.statements x ss) (λ ls. c.put_locals.ensures.put x [] ls)

pub put_statement-returns-in-BranchElse-clause-kept : goal.put_statement-returns-in-BranchElse-clause-kept
put_statement-returns-in-BranchElse-clause-kept t c = kept_on _ _ _ _ _ _ c.put_statements-start.ensures.kept c.put_statements.ensures.kept

pub put_statements-loop-entry-init : goal.put_statements-loop-entry-init
put_statements-loop-entry-init t c =
    let same = ap left (sym c.into_iter-entry-iterator.ensures.into_iter_gives) in (
      kept_all _ _,
      λ x ss is. filling_in (λ d. d.item) (statement_blocks (block_names x)) (Within c.args.k IsStatement) c.args.nodes.now (of_sequence ss) _ (inner_blocks (block_names x) ss) _ _
          (subst (λ (ks : List ℕ). Stand (Within c.args.k IsStatement) (of_sequence ss) c.args.nodes.now ks) (sym c.entries-entry-items.ensures.listed ∙ same) (statements_within c.args.nodes.now c.args.k ss c.args.k (omega arith) is))
          (statements_together (block_names x) ss),
      λ x ws is. filling_in (λ d. d.item) (arms_blocks (block_names x)) (Within c.args.k IsArm) c.args.nodes.now (of_arms ws) _ (arms_blocks (block_names x) ws) _ _
          (subst (λ (ks : List ℕ). Stand (Within c.args.k IsArm) (of_arms ws) c.args.nodes.now ks) (sym c.entries-entry-items.ensures.listed ∙ same) (arms_within c.args.nodes.now c.args.k ws c.args.k (omega arith) is))
          (arms_together (block_names x) ws),
    )

pub put_statements-loop-entry-preserved-then-entry-k : goal.put_statements-loop-entry-preserved-then-entry-k
put_statements-loop-entry-preserved-then-entry-k t c = (
  kept_on _ _ _ _ _ _ c.loop-entry.invariant.0 c.put_statement-start.ensures.kept,
  λ x ss is. filling_on (λ d. d.item) (statement_blocks (block_names x)) (Within c.args.k IsStatement) c.args.nodes.now _ _ _ _ _ _ _ _ _ _ c.in-Some.ensures.steps c.loop-entry.invariant.0.length
      (λ s at. c.put_statement-start.ensures.statement x s at.1)
      (c.loop-entry.invariant.1 x ss is),
  λ x ws is. filling_on (λ d. d.item) (arms_blocks (block_names x)) (Within c.args.k IsArm) c.args.nodes.now _ _ _ _ _ _ _ _ _ _ c.in-Some.ensures.steps c.loop-entry.invariant.0.length
      (λ w at. any_arm (λ v. Ahead (λ d. d.item) (arms_blocks (block_names x) v) c.loop-entry.start c.loop-entry.names c.put_statement-start.result c.put_statement-start.new.names) c.args.nodes.now c.in-Some.entry w at.1 (λ cond ss. c.put_statement-start.ensures.arm x cond ss))
      (c.loop-entry.invariant.2 x ws is),
)

pub put_statements-loop-entry-preserved : goal.put_statements-loop-entry-preserved
put_statements-loop-entry-preserved t c = (
  c.loop-entry.invariant.0,
  λ x ss is. filling_on (λ d. d.item) (statement_blocks (block_names x)) (Within c.args.k IsStatement) c.args.nodes.now _ _ _ _ _ _ _ _ _ _ c.in-Some.ensures.steps c.loop-entry.invariant.0.length
      (λ s at. absurd (omega (arith, at.0, c.if-entry-k.false)))
      (c.loop-entry.invariant.1 x ss is),
  λ x ws is. filling_on (λ d. d.item) (arms_blocks (block_names x)) (Within c.args.k IsArm) c.args.nodes.now _ _ _ _ _ _ _ _ _ _ c.in-Some.ensures.steps c.loop-entry.invariant.0.length
      (λ w at. absurd (omega (arith, at.0, c.if-entry-k.false)))
      (c.loop-entry.invariant.2 x ws is),
)

pub put_statements-returns-clause-statements : goal.put_statements-returns-clause-statements
put_statements-returns-clause-statements t c = λ x ss is. filling_out (λ d. d.item) (statement_blocks (block_names x)) (Within c.args.k IsStatement) c.args.nodes.now _ _ _ _ _ _ c.in-None.ensures.steps.0 (c.loop-entry.invariant.1 x ss is)

pub put_statements-returns-clause-arms : goal.put_statements-returns-clause-arms
put_statements-returns-clause-arms t c = λ x ws is. filling_out (λ d. d.item) (arms_blocks (block_names x)) (Within c.args.k IsArm) c.args.nodes.now _ _ _ _ _ _ c.in-None.ensures.steps.0 (c.loop-entry.invariant.2 x ws is)
