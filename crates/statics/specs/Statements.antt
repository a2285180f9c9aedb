-- The rules of blocks and statements. Assumes nothing.
use Rattle.std.specs.Prelude.{◌≡◌, ℕ, ◌⊎◌, List, [], ◌++◌, map, length, Some, None, Option, ◌≢◌}
use Rattle.statics.specs.declared.Refusal.TheVariants.{Misfit, NoValue}
use Rattle.grammar.specs.Trees.{Expr, Variable, Exprs, Many, one, more, Init, given, Local, Locals, no_locals, locals, Destination, val, Body, body, Sequence, single, sequel, Statement, dummy, block, assign, invoke, invoke_on, branch, branch_else, repeat, loop, return, return_with, Arms, when, elsewhen}
use Rattle.grammar.specs.Trees as tree
use Rattle.statics.specs.Modes.{Mode, plain, INT, Need, mode, scalar, pointed}
use Rattle.statics.specs.Laws.{Wrongs, Never, At, Both, Under, Lacks, Clean}
use Rattle.statics.specs.Scopes.{Text, Env, local, after, inside_of}
use Rattle.statics.specs.Fronts.{spot, front_variable, front_destinations}
use Rattle.statics.specs.Expressions.{Rule, Form, Gives, Off, expr, a_variable, args, called, count, condition}
use Rattle.statics.specs.Written.{mode_of, written, list_names, Site, site, declare}

-- An expression brought to a mode; where there is none, it has no environment, and then the construct is a misfit at p.
abbrev pub into : Option Mode → ℕ → Form → ℕ → Wrongs
into None p x s = Both x.wrong (Under (Clean x.wrong) (λ u. At (Misfit p)))
into (Some m) p x s = Off x s (mode m)

-- A local without a value: wrong unless its mode is plain.
abbrev pub Starts : Mode → Unit {0} → Type 0
Starts (plain k) u = Unit {0}
Starts _ u = ⊥

-- A list item; before its value none of its names can be used, nor those behind it.
abbrev pub local_item : Env → Mode → Init (Expr 5) → Wrongs
local_item Γ m (tree.plain n) = Lacks (Starts m) (NoValue n)
local_item Γ m (given ns e) = Off (expr Γ e) (spot e) (mode m)

abbrev pub local_items : Env → Mode → Many (Init (Expr 5)) → Wrongs
local_items Γ m (one i) = local_item Γ m i
local_items Γ m (more is i) = Both (local_items Γ m is) (local_item (after Γ (length (list_names is))) m i)

abbrev pub local_dec : Env → Local → Wrongs
local_dec Γ (tree.local m is) = Both (written Γ m) (local_items Γ (mode_of Γ.text m) is)

-- the names that declarations of locals declare
abbrev pub local_names : Text → Local → List Site
local_names x (tree.local m is) = map (site (local (mode_of x m))) (list_names is)

abbrev pub entries : Text → Locals → List Site
entries x no_locals = []
entries x (locals ls l) = entries x ls ++ local_names x l

abbrev pub local_decs : Env → Locals → Wrongs
local_decs Γ no_locals = Never
local_decs Γ (locals ls l) = Both (local_decs Γ ls) (local_dec (after Γ (length (entries Γ.text ls))) l)

-- a block's names belong to all of it
abbrev pub inside : Env → Locals → Env
inside Γ ls = inside_of Γ (map (declare Γ.text) (entries Γ.text ls))

abbrev pub ready_inside : Env → Locals → Env
ready_inside Γ ls = after (inside Γ ls) (length (entries Γ.text ls))

-- Destinations: places of one mode; behind VAL a place that refers to one of a plain mode.
abbrev pub aim : Destination → Need
aim (tree.place v) = scalar
aim (val i v) = pointed

abbrev pub aimed : Destination → Variable
aimed (tree.place v) = v
aimed (val i v) = v

-- the common mode of several, None where they differ
abbrev pub Joined : Option Mode → Mode → Option Mode → Type 0
Joined None m c = c ≡ None
Joined (Some k) m c = ((k ≡ m) × (c ≡ Some k)) ⊎ ((k ≢ m) × (c ≡ None))

abbrev pub targets : Env → Many Destination → Rule (Option Mode)
targets Γ (one d) = record {
  has = λ c. (m : Mode) × Gives (a_variable Γ (aimed d)) (aim d) m × (c ≡ Some m);
  wrong = Off (a_variable Γ (aimed d)) (front_variable (aimed d)) (aim d);
}
targets Γ (more ds d) = record {
  has = λ c. (a : Option Mode) × (targets Γ ds).has a × (m : Mode) × Gives (a_variable Γ (aimed d)) (aim d) m × Joined a m c;
  wrong = Both (targets Γ ds).wrong (Off (a_variable Γ (aimed d)) (front_variable (aimed d)) (aim d));
}

-- no result
abbrev pub Silent : Option Mode → Unit {0} → Type 0
Silent None u = Unit {0}
Silent (Some m) u = ⊥

abbrev mutual
  pub a_body : Env → Body → Wrongs
  a_body Γ (body ls s) = Both (local_decs (inside Γ ls) ls) (sequence (ready_inside Γ ls) s)

  pub sequence : Env → Sequence → Wrongs
  sequence Γ (single s) = statement Γ s
  sequence Γ (sequel ss s) = Both (sequence Γ ss) (statement Γ s)

  pub statement : Env → Statement → Wrongs
  statement Γ dummy = Never
  statement Γ (block b) = a_body Γ b
  statement Γ (assign ds e) = Both (targets Γ ds).wrong (Both (expr Γ e).wrong (Under (targets Γ ds).has (λ c. into c (front_destinations ds) (expr Γ e) (spot e))))
  statement Γ (invoke n i) = (called Γ n (λ ms. Never) 0 Silent).wrong
  statement Γ (invoke_on n i es) = (called Γ n (λ ms. args Γ ms es) (count es) Silent).wrong
  statement Γ (branch ws) = arms Γ ws
  statement Γ (branch_else ws s) = Both (arms Γ ws) (sequence Γ s)
  statement Γ (repeat e b) = Both (Off (expr Γ e) (spot e) (mode INT)) (a_body Γ b)
  statement Γ (loop c s) = Both (condition Γ c) (sequence Γ s)
  statement Γ (return i) = Lacks (Silent Γ.result) (Misfit i)
  statement Γ (return_with i j e) = into Γ.result i (expr Γ e) (spot e)

  pub arms : Env → Arms → Wrongs
  arms Γ (when c s) = Both (condition Γ c) (sequence Γ s)
  arms Γ (elsewhen ws c s) = Both (arms Γ ws) (Both (condition Γ c) (sequence Γ s))
