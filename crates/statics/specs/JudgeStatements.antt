-- The judging of blocks and statements as functions. Theorems says that it is right.
use Rattle.std.specs.Prelude.{ℕ, Bool, true, false, length, Some, None, Ok, Err, Option, Result, ok_or, option_and_then}
use Rattle.std.specs.Bool.{then_some}
use Rattle.statics.specs.declared.Refusal.{Refusal}
use Rattle.statics.specs.declared.Refusal.TheVariants.{Misfit, NoValue}
use Rattle.grammar.specs.Trees.{Expr, Variable, Exprs, Many, one, more, Init, given, Local, Locals, no_locals, locals, Destination, val, Body, body, Sequence, single, sequel, Statement, dummy, block, assign, invoke, invoke_on, branch, branch_else, repeat, loop, return, return_with, Arms, when, elsewhen}
use Rattle.grammar.specs.Trees as tree
use Rattle.statics.specs.Modes.{Mode, plain, INT, Thing, mode}
use Rattle.statics.specs.Scopes.{Env, after}
use Rattle.statics.specs.Fronts.{spot, front_variable, front_destinations}
use Rattle.statics.specs.Expressions.{count}
use Rattle.statics.specs.Written.{mode_of, list_names}
use Rattle.statics.specs.Statements.{entries, inside, ready_inside, aim, aimed}
use Rattle.statics.specs.JudgeExpressions.{then, check, same_mode, bring, look, shapes, done, judge, judge_variable, judge_args, judge_call, judge_condition}

abbrev pub judge_record_name : Env → ℕ → Result (Unit {0}) Refusal
judge_record_name Γ n = look Γ n shapes

abbrev mutual
  pub judge_written : Env → tree.Mode → Result (Unit {0}) Refusal
  judge_written Γ tree.int = Ok tt
  judge_written Γ (tree.byte i) = Ok tt
  judge_written Γ tree.ref_int = Ok tt
  judge_written Γ (tree.ref_byte i) = Ok tt
  judge_written Γ (tree.ref_record n) = judge_record_name Γ n
  judge_written Γ (tree.ref_array m) = judge_element Γ m
  judge_written Γ (tree.ref_array_brackets i m) = judge_element Γ m

  pub judge_element : Env → tree.Amode → Result (Unit {0}) Refusal
  judge_element Γ (tree.simple m) = judge_written Γ m
  judge_element Γ (tree.records n) = judge_record_name Γ n

abbrev pub judge_into : Option Mode → ℕ → Result Thing Refusal → ℕ → Result (Unit {0}) Refusal
judge_into None p r s = then (then r done) (λ u. Err (Misfit p))
judge_into (Some m) p r s = then (bring (mode m) s r) done

abbrev pub is_plain : Mode → Bool
is_plain (plain k) = true
is_plain _ = false

abbrev pub judge_local_item : Env → Mode → Init (Expr 5) → Result (Unit {0}) Refusal
judge_local_item Γ m (tree.plain n) = check (is_plain m) (NoValue n)
judge_local_item Γ m (given ns e) = then (bring (mode m) (spot e) (judge Γ e)) done

abbrev pub judge_local_items : Env → Mode → Many (Init (Expr 5)) → Result (Unit {0}) Refusal
judge_local_items Γ m (one i) = judge_local_item Γ m i
judge_local_items Γ m (more is i) = then (judge_local_items Γ m is) (λ u. judge_local_item (after Γ (length (list_names is))) m i)

abbrev pub judge_local_dec : Env → Local → Result (Unit {0}) Refusal
judge_local_dec Γ (tree.local m is) = then (judge_written Γ m) (λ u. judge_local_items Γ (mode_of Γ.text m) is)

abbrev pub judge_local_decs : Env → Locals → Result (Unit {0}) Refusal
judge_local_decs Γ no_locals = Ok tt
judge_local_decs Γ (locals ls l) = then (judge_local_decs Γ ls) (λ u. judge_local_dec (after Γ (length (entries Γ.text ls))) l)

abbrev pub join : Option Mode → Mode → Option Mode
join a m = option_and_then (λ k. then_some (same_mode k m) k) a

abbrev pub judge_target : Env → Destination → Result Mode Refusal
judge_target Γ d = bring (aim d) (front_variable (aimed d)) (judge_variable Γ (aimed d))

abbrev pub judge_targets : Env → Many Destination → Result (Option Mode) Refusal
judge_targets Γ (one d) = then (judge_target Γ d) (λ m. Ok (Some m))
judge_targets Γ (more ds d) = then (judge_targets Γ ds) (λ a. then (judge_target Γ d) (λ m. Ok (join a m)))

abbrev pub silent : Option Mode → Option (Unit {0})
silent None = Some tt
silent (Some m) = None

abbrev mutual
  pub judge_body : Env → Body → Result (Unit {0}) Refusal
  judge_body Γ (body ls s) = then (judge_local_decs (inside Γ ls) ls) (λ u. judge_sequence (ready_inside Γ ls) s)

  pub judge_sequence : Env → Sequence → Result (Unit {0}) Refusal
  judge_sequence Γ (single s) = judge_statement Γ s
  judge_sequence Γ (sequel ss s) = then (judge_sequence Γ ss) (λ u. judge_statement Γ s)

  pub judge_statement : Env → Statement → Result (Unit {0}) Refusal
  judge_statement Γ dummy = Ok tt
  judge_statement Γ (block b) = judge_body Γ b
  judge_statement Γ (assign ds e) = then (judge_targets Γ ds) (λ c. judge_into c (front_destinations ds) (judge Γ e) (spot e))
  judge_statement Γ (invoke n i) = judge_call Γ n (λ ms. Ok tt) 0 silent
  judge_statement Γ (invoke_on n i es) = judge_call Γ n (λ ms. judge_args Γ ms es) (count es) silent
  judge_statement Γ (branch ws) = judge_arms Γ ws
  judge_statement Γ (branch_else ws s) = then (judge_arms Γ ws) (λ u. judge_sequence Γ s)
  judge_statement Γ (repeat e b) = then (then (bring (mode INT) (spot e) (judge Γ e)) done) (λ u. judge_body Γ b)
  judge_statement Γ (loop c s) = then (judge_condition Γ c) (λ u. judge_sequence Γ s)
  judge_statement Γ (return i) = ok_or (silent Γ.result) (Misfit i)
  judge_statement Γ (return_with i j e) = judge_into Γ.result i (judge Γ e) (spot e)

  pub judge_arms : Env → Arms → Result (Unit {0}) Refusal
  judge_arms Γ (when c s) = then (judge_condition Γ c) (λ u. judge_sequence Γ s)
  judge_arms Γ (elsewhen ws c s) = then (judge_arms Γ ws) (λ u. then (judge_condition Γ c) (λ v. judge_sequence Γ s))
