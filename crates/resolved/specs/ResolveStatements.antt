-- The resolving of blocks and statements. Theorems says that it is right.
use Rattle.std.specs.Prelude.{ℕ, List, [], ◌∷◌, ◌++◌, length, Some, None, Ok, Err, Option, Result, ok_or}
use Rattle.statics.specs.declared.Refusal.{Refusal}
use Rattle.statics.specs.declared.Refusal.TheVariants.{Misfit, NoValue}
use Rattle.grammar.specs.Trees.{Expr, Many, one, more, Init, given, Local, Locals, no_locals, locals, Destination, Body, body, Sequence, single, sequel, Statement, dummy, block, assign, invoke, invoke_on, branch, branch_else, repeat, loop, return, return_with, Arms, when, elsewhen}
use Rattle.grammar.specs.Trees as tree
use Rattle.statics.specs.Modes.{Mode, INT}
use Rattle.statics.specs.Scopes.{Env, after}
use Rattle.statics.specs.Fronts.{spot, front_variable, front_destination, front_destinations}
use Rattle.statics.specs.Expressions.{count}
use Rattle.statics.specs.Written.{mode_of, list_names}
use Rattle.statics.specs.Statements.{entries, inside, ready_inside, aim, aimed}
use Rattle.statics.specs.Modules.{names_of}
use Rattle.statics.specs.JudgeExpressions.{then, check}
use Rattle.statics.specs.JudgeStatements.{judge_written, is_plain, join, silent}
use Rattle.resolved.specs.Forms.{Form, Aim, Fresh}
use Rattle.resolved.specs.Forms as form
use Rattle.resolved.specs.Grounds.{Ground, slot}
use Rattle.resolved.specs.ResolveExpressions.{Known, bring_form, bring_as, resolve_call, resolve, resolve_variable, resolve_args, resolve_condition}

-- an expression brought to a mode; where there is none, the construct is a misfit at p
abbrev pub resolve_into : Option Mode → ℕ → Result Known Refusal → ℕ → Result Form Refusal
resolve_into None p r s = then r (λ t. Err (Misfit p))
resolve_into (Some m) p r s = bring_as m s r

-- Locals. The names in front of a list item can be used, its own and those behind it cannot: so its first name is the first that cannot.
abbrev pub fresh : Ground → Env → ℕ → Mode → Option Form → Fresh
fresh G Γ k m o = record { first = slot G Γ.ready; count = k; mode = m; start = o }

abbrev pub resolve_local_item : Ground → Env → Mode → Init (Expr 5) → Result Fresh Refusal
resolve_local_item G Γ m (tree.plain n) = then (check (is_plain m) (NoValue n)) (λ u. Ok (fresh G Γ 1 m None))
resolve_local_item G Γ m (given ns e) = then (bring_as m (spot e) (resolve G Γ e)) (λ x. Ok (fresh G Γ (length (names_of ns)) m (Some x)))

abbrev pub resolve_local_items : Ground → Env → Mode → Many (Init (Expr 5)) → Result (List Fresh) Refusal
resolve_local_items G Γ m (one i) = then (resolve_local_item G Γ m i) (λ f. Ok (f ∷ []))
resolve_local_items G Γ m (more is i) = then (resolve_local_items G Γ m is) (λ fs. then (resolve_local_item G (after Γ (length (list_names is))) m i) (λ f. Ok (fs ++ f ∷ [])))

abbrev pub resolve_local_dec : Ground → Env → Local → Result (List Fresh) Refusal
resolve_local_dec G Γ (tree.local m is) = then (judge_written Γ m) (λ u. resolve_local_items G Γ (mode_of Γ.text m) is)

abbrev pub resolve_local_decs : Ground → Env → Locals → Result (List Fresh) Refusal
resolve_local_decs G Γ no_locals = Ok []
resolve_local_decs G Γ (locals ls l) = then (resolve_local_decs G Γ ls) (λ fs. then (resolve_local_dec G (after Γ (length (entries Γ.text ls))) l) (λ gs. Ok (fs ++ gs)))

-- Destinations: the common mode of all, and each.
abbrev pub resolve_target : Ground → Env → Destination → Result (Mode × Aim) Refusal
resolve_target G Γ d = then (bring_form (aim d) (front_variable (aimed d)) (resolve_variable G Γ (aimed d))) (λ k. Ok (k.0, record { item = front_destination d; mode = k.0; form = k.1 }))

abbrev pub resolve_targets : Ground → Env → Many Destination → Result (Option Mode × Many Aim) Refusal
resolve_targets G Γ (one d) = then (resolve_target G Γ d) (λ m. Ok (Some m.0, one m.1))
resolve_targets G Γ (more ds d) = then (resolve_targets G Γ ds) (λ a. then (resolve_target G Γ d) (λ m. Ok (join a.0 m.0, more a.1 m.1)))

abbrev mutual
  pub resolve_body : Ground → Env → Body → Result form.Body Refusal
  resolve_body G Γ (body ls s) = then (resolve_local_decs G (inside Γ ls) ls) (λ fs. then (resolve_sequence G (ready_inside Γ ls) s) (λ t. Ok (form.body fs t)))

  pub resolve_sequence : Ground → Env → Sequence → Result form.Sequence Refusal
  resolve_sequence G Γ (single s) = then (resolve_statement G Γ s) (λ t. Ok (form.single t))
  resolve_sequence G Γ (sequel ss s) = then (resolve_sequence G Γ ss) (λ ts. then (resolve_statement G Γ s) (λ t. Ok (form.sequel ts t)))

  pub resolve_statement : Ground → Env → Statement → Result form.Statement Refusal
  resolve_statement G Γ dummy = Ok form.dummy
  resolve_statement G Γ (block b) = then (resolve_body G Γ b) (λ c. Ok (form.block c))
  resolve_statement G Γ (assign ds e) = then (resolve_targets G Γ ds) (λ c. then (resolve_into c.0 (front_destinations ds) (resolve G Γ e) (spot e)) (λ x. Ok (form.assign c.1 x)))
  resolve_statement G Γ (invoke n i) = then (resolve_call G Γ n (λ ms. Ok form.nothing) 0 silent (form.invoke n)) (λ t. Ok t.1)
  resolve_statement G Γ (invoke_on n i es) = then (resolve_call G Γ n (λ ms. resolve_args G Γ ms es) (count es) silent (form.invoke n)) (λ t. Ok t.1)
  resolve_statement G Γ (branch ws) = then (resolve_arms G Γ ws) (λ a. Ok (form.branch a))
  resolve_statement G Γ (branch_else ws s) = then (resolve_arms G Γ ws) (λ a. then (resolve_sequence G Γ s) (λ t. Ok (form.branch_else a t)))
  resolve_statement G Γ (repeat e b) = then (bring_as INT (spot e) (resolve G Γ e)) (λ x. then (resolve_body G Γ b) (λ c. Ok (form.repeat x c)))
  resolve_statement G Γ (loop c s) = then (resolve_condition G Γ c) (λ x. then (resolve_sequence G Γ s) (λ t. Ok (form.loop x t)))
  resolve_statement G Γ (return i) = then (ok_or (silent Γ.result) (Misfit i)) (λ u. Ok form.return)
  resolve_statement G Γ (return_with i j e) = then (resolve_into Γ.result i (resolve G Γ e) (spot e)) (λ x. Ok (form.return_with x))

  pub resolve_arms : Ground → Env → Arms → Result form.Arms Refusal
  resolve_arms G Γ (when c s) = then (resolve_condition G Γ c) (λ x. then (resolve_sequence G Γ s) (λ t. Ok (form.when x t)))
  resolve_arms G Γ (elsewhen ws c s) = then (resolve_arms G Γ ws) (λ a. then (resolve_condition G Γ c) (λ x. then (resolve_sequence G Γ s) (λ t. Ok (form.elsewhen a x t))))
