-- Blocks and statements are resolved where they are judged right. Assumes nothing.
use Rattle.std.proofs.Common.{ℕ, Some, None, Err, Option, Result, ok_or}
use Rattle.statics.specs.declared.Refusal.{Refusal}
use Rattle.statics.specs.declared.Refusal.TheVariants.{Misfit, NoValue}
use Rattle.grammar.specs.Trees.{Expr, Many, one, more, Init, given, Local, Locals, no_locals, locals, Destination, Body, body, Sequence, single, sequel, Statement, dummy, block, assign, invoke, invoke_on, branch, branch_else, repeat, loop, return, return_with, Arms, when, elsewhen}
use Rattle.grammar.specs.Trees as tree
use Rattle.statics.specs.Modes.{Mode, INT, Thing}
use Rattle.statics.specs.Scopes.{Env}
use Rattle.statics.specs.Fronts.{spot, front_variable, front_destinations}
use Rattle.statics.specs.Expressions.{count}
use Rattle.statics.specs.Written.{mode_of}
use Rattle.statics.specs.Statements.{inside, ready_inside, aim, aimed}
use Rattle.statics.specs.JudgeExpressions.{then, check, done}
use Rattle.statics.specs.JudgeStatements.{judge_written, judge_into, is_plain, judge_local_item, judge_local_items, judge_local_dec, judge_local_decs, judge_target, judge_targets, silent, judge_body, judge_sequence, judge_statement, judge_arms}
use Rattle.resolved.specs.Forms.{Form}
use Rattle.resolved.specs.Forms as form
use Rattle.resolved.specs.Grounds.{Ground}
use Rattle.resolved.specs.ResolveExpressions.{Known}
use Rattle.resolved.specs.ResolveStatements.{resolve_into, resolve_local_item, resolve_local_items, resolve_local_dec, resolve_local_decs, resolve_target, resolve_targets, resolve_body, resolve_sequence, resolve_statement, resolve_arms}
use Rattle.resolved.proofs.Same.{Same, right, wrong, same_then, same_made}
use Rattle.resolved.proofs.Expressions.{Stands, Alike, same_bring, same_as, same_call, same_expr, same_variable, same_args, same_test, same_condition}

same_refused : (e : Refusal) {r : Result Known Refusal} {s : Result Thing Refusal} → Stands r s → Alike {A = Form} (then r (λ t. Err e)) (then (then s done) (λ u. Err e))
same_refused e right = wrong
same_refused e wrong = wrong

same_into : (o : Option Mode) (p z : ℕ) {r : Result Known Refusal} {s : Result Thing Refusal} → Stands r s → Alike (resolve_into o p r z) (judge_into o p s z)
same_into None p z h = same_refused (Misfit p) h
same_into (Some m) p z h = same_as m z h

same_local_item : (G : Ground) (Γ : Env) (m : Mode) (i : Init (Expr 5)) → Alike (resolve_local_item G Γ m i) (judge_local_item Γ m i)
same_local_item G Γ m (tree.plain n) = same_made _ (same_test (check (is_plain m) (NoValue n)))
same_local_item G Γ m (given ns e) = same_made _ (same_as m (spot e) (same_expr G Γ e))

same_local_items : (G : Ground) (Γ : Env) (m : Mode) (is : Many (Init (Expr 5))) → Alike (resolve_local_items G Γ m is) (judge_local_items Γ m is)
same_local_items G Γ m (one i) = same_made _ (same_local_item G Γ m i)
same_local_items G Γ m (more is i) = same_then _ (same_local_items G Γ m is) (λ fs. same_made _ (same_local_item G _ m i))

same_local_dec : (G : Ground) (Γ : Env) (l : Local) → Alike (resolve_local_dec G Γ l) (judge_local_dec Γ l)
same_local_dec G Γ (tree.local m is) = same_then _ (same_test (judge_written Γ m)) (λ u. same_local_items G Γ (mode_of Γ.text m) is)

same_local_decs : (G : Ground) (Γ : Env) (ls : Locals) → Alike (resolve_local_decs G Γ ls) (judge_local_decs Γ ls)
same_local_decs G Γ no_locals = right
same_local_decs G Γ (locals ls l) = same_then _ (same_local_decs G Γ ls) (λ fs. same_made _ (same_local_dec G _ l))

same_target : (G : Ground) (Γ : Env) (d : Destination) → Same (λ k. k.0) (resolve_target G Γ d) (judge_target Γ d)
same_target G Γ d = same_made _ (same_bring (aim d) (front_variable (aimed d)) (same_variable G Γ (aimed d)))

same_targets : (G : Ground) (Γ : Env) (ds : Many Destination) → Same (λ k. k.0) (resolve_targets G Γ ds) (judge_targets Γ ds)
same_targets G Γ (one d) = same_then _ (same_target G Γ d) (λ m. right)
same_targets G Γ (more ds d) = same_then _ (same_targets G Γ ds) (λ a. same_then _ (same_target G Γ d) (λ m. right))

mutual
  pub same_body : (G : Ground) (Γ : Env) (b : Body) → Alike (resolve_body G Γ b) (judge_body Γ b)
  same_body G Γ (body ls s) = same_then _ (same_local_decs G (inside Γ ls) ls) (λ fs. same_made _ (same_sequence G (ready_inside Γ ls) s))

  same_sequence : (G : Ground) (Γ : Env) (s : Sequence) → Alike (resolve_sequence G Γ s) (judge_sequence Γ s)
  same_sequence G Γ (single s) = same_made _ (same_statement G Γ s)
  same_sequence G Γ (sequel ss s) = same_then _ (same_sequence G Γ ss) (λ ts. same_made _ (same_statement G Γ s))

  same_statement : (G : Ground) (Γ : Env) (s : Statement) → Alike (resolve_statement G Γ s) (judge_statement Γ s)
  same_statement G Γ dummy = right
  same_statement G Γ (block b) = same_made _ (same_body G Γ b)
  same_statement G Γ (assign ds e) = same_then _ (same_targets G Γ ds) (λ c. same_made _ (same_into c.0 (front_destinations ds) (spot e) (same_expr G Γ e)))
  same_statement G Γ (invoke n i) = same_made _ (same_call G Γ n 0 silent (form.invoke n) (λ ms. right))
  same_statement G Γ (invoke_on n i es) = same_made _ (same_call G Γ n (count es) silent (form.invoke n) (λ ms. same_args G Γ ms es))
  same_statement G Γ (branch ws) = same_made _ (same_arms G Γ ws)
  same_statement G Γ (branch_else ws s) = same_then _ (same_arms G Γ ws) (λ a. same_made _ (same_sequence G Γ s))
  same_statement G Γ (repeat e b) = same_then _ (same_as INT (spot e) (same_expr G Γ e)) (λ x. same_made _ (same_body G Γ b))
  same_statement G Γ (loop c s) = same_then _ (same_condition G Γ c) (λ x. same_made _ (same_sequence G Γ s))
  same_statement G Γ (return i) = same_made _ (same_test (ok_or (silent Γ.result) (Misfit i)))
  same_statement G Γ (return_with i j e) = same_made _ (same_into Γ.result i (spot e) (same_expr G Γ e))

  same_arms : (G : Ground) (Γ : Env) (ws : Arms) → Alike (resolve_arms G Γ ws) (judge_arms Γ ws)
  same_arms G Γ (when c s) = same_then _ (same_condition G Γ c) (λ x. same_made _ (same_sequence G Γ s))
  same_arms G Γ (elsewhen ws c s) = same_then _ (same_arms G Γ ws) (λ a. same_then _ (same_condition G Γ c) (λ x. same_made _ (same_sequence G Γ s)))
