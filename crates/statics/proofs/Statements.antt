-- Blocks and statements are judged right. Assumes nothing.
use Rattle.std.proofs.Common.{◌≡◌, ℕ, ◌+◌, ◌<◌, ◌≤◌, Bool, length, Some, None, Err, Option, refl, inl, arith}
use Rattle.std.specs.Bool.{Decides}
use Rattle.statics.specs.declared.Refusal.{Refusal}
use Rattle.statics.specs.Refusals.{place_of}
use Rattle.statics.specs.declared.Refusal.TheVariants.{Misfit, NoValue}
use Rattle.grammar.specs.Trees.{Expr, Variable, Exprs, Many, one, more, Init, given, Local, Locals, no_locals, locals, Destination, val, Body, body, Sequence, single, sequel, Statement, dummy, block, assign, invoke, invoke_on, branch, branch_else, repeat, loop, return, return_with, Arms, when, elsewhen}
use Rattle.grammar.specs.Trees as tree
use Rattle.statics.specs.Modes.{Mode, plain, INT, mode}
use Rattle.statics.specs.Laws.{At, Lacks, Clean}
use Rattle.statics.specs.Scopes.{Env, Shapes, after}
use Rattle.statics.specs.Fronts.{spot, front_variable, front_destination, front_destinations}
use Rattle.statics.specs.Expressions.{Form, Gives, Off, expr, a_variable, count}
use Rattle.statics.specs.Written.{mode_of, record_name, written, written_element, list_names}
use Rattle.statics.specs.Statements.{into, Starts, local_item, local_items, local_dec, local_decs, entries, inside, ready_inside, aim, aimed, Joined, targets, Silent, a_body, sequence, statement, arms}
use Rattle.statics.specs.Order.{Span, In, InVariable, InMany, InMode, InElement, InName, InInit, InLocal, InLocals, InDestination, InBody, InSequence, InStatement, InArms}
use Rattle.statics.specs.JudgeExpressions.{then, check, bring, done, shapes, judge, judge_variable}
use Rattle.statics.specs.JudgeStatements.{judge_record_name, judge_written, judge_element, judge_into, is_plain, judge_local_item, judge_local_items, judge_local_dec, judge_local_decs, join, judge_target, judge_targets, silent, judge_body, judge_sequence, judge_statement, judge_arms}
use Rattle.statics.proofs.Decide.{Tells, found, none, Also, Judged, lacking, like, cleaned, wider, chain, alone, two, turn, plainly, next, nothing}
use Rattle.statics.proofs.Fit.{yes, no, tells_unit, same_mode_decides}
use Rattle.statics.proofs.Names.{look_judged, shapes_tells}
use Rattle.statics.proofs.Expressions.{Right, Checks, brought, front_in, spot_in, front_variable_in, exprs_le, many_le, expr_right, variable_right, args_right, args_inner, called_right, condition_right}

-- a test, and f where it fails
pub tested : {P : Type 0} {b : Bool} (lo hi : ℕ) (f : Refusal) → Span lo hi (place_of f) → Decides b P → Checks lo hi (Lacks (λ (u : Unit {0}). P) f) (check b f)
tested lo hi f i d = cleaned (lacking lo hi f i (tells_unit _ d))

pub brought_check : (Γ : Env) (m : Mode) (e : Expr 5) (lo hi : ℕ) → In lo e hi → Checks lo hi (Off (expr Γ e) (spot e) (mode m)) (then (bring (mode m) (spot e) (judge Γ e)) done)
brought_check Γ m e lo hi i = plainly (brought lo hi (spot e) (expr Γ e) (mode m) (judge Γ e) (spot_in e lo hi i) (expr_right Γ e lo hi i))

-- Modes.
pub record_name_right : (Γ : Env) (n lo hi : ℕ) → Span lo hi n → Checks lo hi (record_name Γ n) (judge_record_name Γ n)
record_name_right Γ n lo hi i = cleaned (look_judged Γ n Shapes shapes lo hi shapes_tells i)

-- a written mode has an item at least
mutual
  pub mode_lt : (m : tree.Mode) (lo hi : ℕ) → InMode lo m hi → lo < hi
  mode_lt tree.int lo hi i = i
  mode_lt (tree.byte k) lo hi i = i
  mode_lt tree.ref_int lo hi i = i
  mode_lt (tree.ref_byte k) lo hi i = i
  mode_lt (tree.ref_record n) lo hi i = omega arith
  mode_lt (tree.ref_array m) lo hi i = element_lt m lo hi i
  mode_lt (tree.ref_array_brackets k m) lo hi i = element_lt m lo hi i

  pub element_lt : (m : tree.Amode) (lo hi : ℕ) → InElement lo m hi → lo < hi
  element_lt (tree.simple m) lo hi i = mode_lt m lo hi i
  element_lt (tree.records n) lo hi i = omega arith

mutual
  pub written_right : (Γ : Env) (m : tree.Mode) (lo hi : ℕ) → InMode lo m hi → Checks lo hi (written Γ m) (judge_written Γ m)
  written_right Γ tree.int lo hi i = nothing (omega arith)
  written_right Γ (tree.byte k) lo hi i = nothing (omega arith)
  written_right Γ tree.ref_int lo hi i = nothing (omega arith)
  written_right Γ (tree.ref_byte k) lo hi i = nothing (omega arith)
  written_right Γ (tree.ref_record n) lo hi i = record_name_right Γ n lo hi i
  written_right Γ (tree.ref_array m) lo hi i = element_right Γ m lo hi i
  written_right Γ (tree.ref_array_brackets k m) lo hi i = element_right Γ m lo hi i

  pub element_right : (Γ : Env) (m : tree.Amode) (lo hi : ℕ) → InElement lo m hi → Checks lo hi (written_element Γ m) (judge_element Γ m)
  element_right Γ (tree.simple m) lo hi i = written_right Γ m lo hi i
  element_right Γ (tree.records n) lo hi i = record_name_right Γ n lo hi i

-- Locals.
pub starts_decides : (m : Mode) → Decides (is_plain m) (Starts m tt)
starts_decides (plain k) = yes tt
starts_decides _ = no (λ x. x)

pub name_le : (n lo hi : ℕ) → InName lo n hi → lo ≤ hi
name_le n lo hi i = omega arith

local_item_right : (Γ : Env) (m : Mode) (x : Init (Expr 5)) (lo hi : ℕ) → InInit In lo x hi → Checks lo hi (local_item Γ m x) (judge_local_item Γ m x)
local_item_right Γ m (tree.plain n) lo hi i = tested lo hi (NoValue n) i (starts_decides m)
local_item_right Γ m (given ns e) lo hi i =
    let f = many_le InName name_le ns lo i.0 i.1 in
    wider lo hi (omega arith) (omega arith) (brought_check Γ m e i.0 hi i.2)

local_items_right : (Γ : Env) (m : Mode) (is : Many (Init (Expr 5))) (lo hi : ℕ) → InMany (InInit In) lo is hi → Checks lo hi (local_items Γ m is) (judge_local_items Γ m is)
local_items_right Γ m (one x) lo hi i = local_item_right Γ m x lo hi i
local_items_right Γ m (more is x) lo hi i =
    next (local_items_right Γ m is lo i.0 i.1) (local_item_right (after Γ (length (list_names is))) m x i.0 hi i.2)

local_dec_right : (Γ : Env) (l : Local) (lo hi : ℕ) → InLocal lo l hi → Checks lo hi (local_dec Γ l) (judge_local_dec Γ l)
local_dec_right Γ (tree.local m is) lo hi i =
    next (written_right Γ m lo i.0 i.1) (local_items_right Γ (mode_of Γ.text m) is i.0 hi i.2)

pub local_decs_right : (Γ : Env) (ls : Locals) (lo hi : ℕ) → InLocals lo ls hi → Checks lo hi (local_decs Γ ls) (judge_local_decs Γ ls)
local_decs_right Γ no_locals lo hi i = nothing i
local_decs_right Γ (locals ls l) lo hi i =
    next (local_decs_right Γ ls lo i.0 i.1) (local_dec_right (after Γ (length (entries Γ.text ls))) l i.0 hi i.2)

-- Destinations.
joined_to : (a : Option Mode) (m : Mode) (c : Option Mode) → c ≡ join a m → Joined a m c
joined_to None m c e = e
joined_to (Some k) m c e = grind (arith, same_mode_decides k m)

joined_back : (a : Option Mode) (m : Mode) (c : Option Mode) → Joined a m c → c ≡ join a m
joined_back None m c x = x
joined_back (Some k) m c x = grind (arith, same_mode_decides k m)

aimed_in : (d : Destination) (lo hi : ℕ) → InDestination lo d hi → InVariable lo (aimed d) hi
aimed_in (tree.place v) lo hi i = i
aimed_in (val k v) lo hi i = lower v (k + 1) lo hi (omega (arith, i.0)) i.1
  where
    lower : (v : Variable) (lo lo' hi : ℕ) → lo' ≤ lo → InVariable lo v hi → InVariable lo' v hi
    lower (tree.name n) lo lo' hi l i = (omega (arith, i.0), i.1)
    lower (tree.element v k e) lo lo' hi l i = (i.0, lower v lo lo' i.0 l i.1, i.2)
    lower (tree.component v c) lo lo' hi l i = (i.0, lower v lo lo' i.0 l i.1, i.2)

target_right : (Γ : Env) (d : Destination) (lo hi : ℕ) → InDestination lo d hi → Judged lo hi (Gives (a_variable Γ (aimed d)) (aim d)) (Off (a_variable Γ (aimed d)) (front_variable (aimed d)) (aim d)) (judge_target Γ d)
target_right Γ d lo hi i =
    let k = aimed_in d lo hi i in
    brought lo hi (front_variable (aimed d)) (a_variable Γ (aimed d)) (aim d) (judge_variable Γ (aimed d)) (front_variable_in (aimed d) lo hi k) (variable_right Γ (aimed d) lo hi k)

destination_le : (d : Destination) (lo hi : ℕ) → InDestination lo d hi → lo ≤ hi
destination_le d lo hi i = let f = front_variable_in (aimed d) lo hi (aimed_in d lo hi i) in omega arith

targets_right : (Γ : Env) (ds : Many Destination) (lo hi : ℕ) → InMany InDestination lo ds hi → Right lo hi (targets Γ ds) (judge_targets Γ ds)
targets_right Γ (one d) lo hi i = turn Some (target_right Γ d lo hi i)
targets_right Γ (more ds d) lo hi i =
    like _ _
    (λ c h. (h.0, h.1, h.2, h.3, joined_to h.0 h.2 c h.4))
    (λ c h. (h.0, h.1, h.2, h.3, joined_back h.0 h.2 c h.4))
    (λ f w. w) (λ f w. w)
    (two join (targets_right Γ ds lo i.0 i.1) (target_right Γ d i.0 hi i.2))

front_destination_in : (d : Destination) (lo hi : ℕ) → InDestination lo d hi → Span lo hi (front_destination d)
front_destination_in (tree.place v) lo hi i = front_variable_in v lo hi i
front_destination_in (val k v) lo hi i = let f = front_variable_in v (k + 1) hi i.1 in (i.0, omega arith)

front_destinations_in : (ds : Many Destination) (lo hi : ℕ) → InMany InDestination lo ds hi → Span lo hi (front_destinations ds)
front_destinations_in (one d) lo hi i = front_destination_in d lo hi i
front_destinations_in (more ds d) lo hi i =
    let f = front_destinations_in ds lo i.0 i.1 in
    let g = destination_le d i.0 hi i.2 in
    (f.0, omega arith)

-- at p in any case
pub refusing : (lo hi : ℕ) (f : Refusal) → Span lo hi (place_of f) → Judged lo hi (λ (u : Unit {0}). ⊥) (At f) (Err f)
refusing lo hi f i = like _ _ (λ u x. x) (λ u x. x) (λ g w. w.1) (λ g w. ((λ u x. x), w)) (lacking lo hi f i (none (λ u x. x)))

into_right : (Γ : Env) (o : Option Mode) (p : ℕ) (e : Expr 5) (lo mid hi : ℕ) → lo ≤ mid → Span lo hi p → In mid e hi → Checks lo hi (into o p (expr Γ e) (spot e)) (judge_into o p (judge Γ e) (spot e))
into_right Γ None p e lo mid hi l i k =
    cleaned (chain (λ u v. ⊥) _ _ (wider lo hi l (omega arith) (plainly (expr_right Γ e mid hi k))) (λ u h. refusing lo hi (Misfit p) i))
into_right Γ (Some m) p e lo mid hi l i k = wider lo hi l (omega arith) (brought_check Γ m e mid hi k)

into_inner : (p : ℕ) (x : Form) (s : ℕ) (o : Option Mode) → Also x.wrong (into o p x s)
into_inner p x s None f w = inl w
into_inner p x s (Some m) f w = inl w

silent_tells : (o : Option Mode) → Tells (Silent o) (silent o)
silent_tells None = found tt (λ u x. refl)
silent_tells (Some m) = none (λ u x. x)

mutual
  pub body_right : (Γ : Env) (b : Body) (lo hi : ℕ) → InBody lo b hi → Checks lo hi (a_body Γ b) (judge_body Γ b)
  body_right Γ (body ls s) lo hi i =
      next (local_decs_right (inside Γ ls) ls lo i.0 i.1) (sequence_right (ready_inside Γ ls) s i.0 hi i.2)

  pub sequence_right : (Γ : Env) (s : Sequence) (lo hi : ℕ) → InSequence lo s hi → Checks lo hi (sequence Γ s) (judge_sequence Γ s)
  sequence_right Γ (single s) lo hi i = statement_right Γ s lo hi i
  sequence_right Γ (sequel ss s) lo hi i =
      next (sequence_right Γ ss lo i.0 i.1) (statement_right Γ s i.0 hi i.2)

  pub statement_right : (Γ : Env) (s : Statement) (lo hi : ℕ) → InStatement lo s hi → Checks lo hi (statement Γ s) (judge_statement Γ s)
  statement_right Γ dummy lo hi i = nothing i
  statement_right Γ (block b) lo hi i = body_right Γ b lo hi i
  statement_right Γ (assign ds e) lo hi i =
      let k = i.0 in
      let t = targets_right Γ ds lo k i.1 in
      let x = expr_right Γ e k hi i.2 in
      let g = x.order in
      let f = front_destinations_in ds lo k i.1 in
      cleaned
      (alone (λ c. Clean (into c (front_destinations ds) (expr Γ e) (spot e))) _ (expr Γ e).wrong _ t g x.within (into_inner (front_destinations ds) (expr Γ e) (spot e))
      (λ c h. into_right Γ c (front_destinations ds) e lo k hi t.order (f.0, omega arith) i.2))
  statement_right Γ (invoke n k) lo hi i = cleaned (called_right Γ lo hi n 0 _ _ Silent silent i silent_tells (λ ms f v. v) (λ ms. nothing (omega (arith, i.1))))
  statement_right Γ (invoke_on n k es) lo hi i =
      let f = exprs_le es (n + 1) hi i.1 in
      cleaned (called_right Γ lo hi n (count es) _ _ Silent silent (i.0, omega arith) silent_tells (λ ms. args_inner Γ ms es) (λ ms. args_right Γ ms es (n + 1) hi i.1))
  statement_right Γ (branch ws) lo hi i = arms_right Γ ws lo hi i
  statement_right Γ (branch_else ws s) lo hi i = next (arms_right Γ ws lo i.0 i.1) (sequence_right Γ s i.0 hi i.2)
  statement_right Γ (repeat e b) lo hi i = next (brought_check Γ INT e lo i.0 i.1) (body_right Γ b i.0 hi i.2)
  statement_right Γ (loop c s) lo hi i = next (condition_right Γ c lo i.0 i.1) (sequence_right Γ s i.0 hi i.2)
  statement_right Γ (return k) lo hi i = cleaned (lacking lo hi (Misfit k) i (silent_tells Γ.result))
  statement_right Γ (return_with k j e) lo hi i =
      let f = front_in e (k + 1) hi i.1 in
      into_right Γ Γ.result k e lo (k + 1) hi (omega (arith, i.0)) (i.0, omega arith) i.1

  pub arms_right : (Γ : Env) (ws : Arms) (lo hi : ℕ) → InArms lo ws hi → Checks lo hi (arms Γ ws) (judge_arms Γ ws)
  arms_right Γ (when c s) lo hi i = next (condition_right Γ c lo i.0 i.1) (sequence_right Γ s i.0 hi i.2)
  arms_right Γ (elsewhen ws c s) lo hi i =
      let j = i.2 in
      next (arms_right Γ ws lo i.0 i.1) (next (condition_right Γ c i.0 j.0 j.1) (sequence_right Γ s j.0 hi j.2))
