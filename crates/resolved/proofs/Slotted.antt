-- What blocks and statements name is known: P holds of each thing that they name. Assumes nothing.
use Rattle.std.proofs.Common.{◌≡◌, ℕ, zero, suc, ◌+◌, ◌-◌, ◌<◌, ◌≤◌, List, [], ◌∷◌, ◌++◌, map, length, get_or, Some, None, Option, Result, ok_or, refl, sym, ap, ◌∙◌, subst, inl, inr, arith, length-append}
use Rattle.std.proofs.lemmas.List.{length-map, get_or_append_left, get_or-append_right}
use Rattle.std.proofs.lemmas.List.Elements.{All-nil, All-cons, All-tail, All-append}
use Rattle.std.proofs.lemmas.Bool.{cases_lt}
use Rattle.std.specs.Prelude.{All}
use Rattle.statics.specs.declared.Refusal.{Refusal}
use Rattle.statics.specs.declared.Refusal.TheVariants.{Misfit, NoValue}
use Rattle.grammar.specs.Trees.{Expr, Many, one, more, Opt, Fields, Init, given, Local, Locals, no_locals, locals, Destination, Body, body, Sequence, single, sequel, Statement, dummy, block, assign, invoke, invoke_on, branch, branch_else, repeat, loop, return, return_with, Arms, when, elsewhen}
use Rattle.grammar.specs.Trees as tree
use Rattle.statics.specs.Modes.{Mode, INT}
use Rattle.statics.specs.Scopes.{Text, Env, Declared, local, nobody, class_at, after, inside_of}
use Rattle.statics.specs.Fronts.{spot, front_variable, front_destinations}
use Rattle.statics.specs.Expressions.{count}
use Rattle.statics.specs.Written.{mode_of, gather, list_names, item_names, Site, site, declare}
use Rattle.statics.specs.Space.{expr_strings, variable_strings, init_strings, locals_strings, destination_strings, condition_strings, body_strings, sequence_strings, statement_strings, arms_strings}
use Rattle.statics.specs.Blocks.{blocks, inner_blocks, statement_blocks, arms_blocks}
use Rattle.statics.specs.DeclaredTwice.{block_names}
use Rattle.statics.specs.Statements.{entries, local_names, inside, ready_inside, aim, aimed}
use Rattle.statics.specs.JudgeStatements.{judge_written, is_plain, silent}
use Rattle.resolved.specs.Forms.{Form, Aim, Fresh}
use Rattle.resolved.specs.Forms as form
use Rattle.resolved.specs.Grounds.{Ground, home_at}
use Rattle.resolved.specs.ResolveExpressions.{Known}
use Rattle.resolved.specs.ResolveStatements.{resolve_into, resolve_local_item, resolve_local_items, resolve_local_dec, resolve_local_decs, resolve_target, resolve_targets, resolve_body, resolve_sequence, resolve_statement, resolve_arms}
use Rattle.resolved.specs.Parts.{Named, slot}
use Rattle.resolved.specs.Naming.{Inside, Every, InsideLocals, InsideBody, InsideSequence, InsideStatement, InsideArms}
use Rattle.resolved.proofs.Holding.{Of, holds, refused, of_then, of_check, of_any}
use Rattle.resolved.proofs.Rooms.{Outer, IsLocal, Strung, strung_left, strung_right, Room, FormIn, bring_inside, as_inside, call_inside, expr_inside, place_inside, args_inside, condition_inside}

into_inside : (P : Named → Type 0) (o : Option Mode) (p s : ℕ) {r : Result Known Refusal} → Of (FormIn P) r → Of (Inside P) (resolve_into o p r s)
into_inside P None p s h = of_then h (λ t q. refused)
into_inside P (Some m) p s h = as_inside P m s h

-- Locals.
room_after : (P : Named → Type 0) (G : Ground) (k : ℕ) (Γ : Env) (n : ℕ) → Room P G k Γ → Room P G k (after Γ n)
room_after P G k Γ n r = record { below = r.below; used = (let u = r.used in omega arith); enough = r.enough; outer = r.outer; inner = r.inner; free = r.free }

-- the slots of so many locals, from the first name that cannot be used
in_room : (P : Named → Type 0) (G : Ground) (k : ℕ) (Γ : Env) (n : ℕ) → Room P G k Γ → Γ.ready + n ≤ length Γ.names → (s : ℕ) → Γ.ready - length G ≤ s → s < (Γ.ready - length G) + n → P (slot s)
in_room P G k Γ n r l s a b = let u = r.used in let e = r.enough in r.free s (omega arith)

locals_append : (P : Named → Type 0) (fs gs : List Fresh) → InsideLocals P fs → InsideLocals P gs → InsideLocals P (fs ++ gs)
locals_append P [] gs h l = l
locals_append P (f ∷ fs) gs h l = (h.0, h.1, locals_append P fs gs h.2 l)

item_inside : (P : Named → Type 0) (G : Ground) (k : ℕ) (Γ : Env) → Room P G k Γ → (m : Mode) (i : Init (Expr 5)) → Strung P (init_strings i) → Γ.ready + length (item_names i) ≤ length Γ.names → Of (λ f. InsideLocals P (f ∷ [])) (resolve_local_item G Γ m i)
item_inside P G k Γ r m (tree.plain n) h l = of_check (is_plain m) (NoValue n) (λ u e. holds (in_room P G k Γ 1 r l, tt, tt))
item_inside P G k Γ r m (given ns e) h l = of_then (as_inside P m (spot e) (expr_inside P G k Γ r e h)) (λ x p. holds (in_room P G k Γ _ r (omega (arith, l)), p, tt))

items_inside : (P : Named → Type 0) (G : Ground) (k : ℕ) (Γ : Env) → Room P G k Γ → (m : Mode) (is : Many (Init (Expr 5))) → Strung P (gather init_strings is) → Γ.ready + length (list_names is) ≤ length Γ.names → Of (InsideLocals P) (resolve_local_items G Γ m is)
items_inside P G k Γ r m (one i) h l = of_then (item_inside P G k Γ r m i h l) (λ f p. holds p)
items_inside P G k Γ r m (more is i) h l =
    let e = length-append (list_names is) (item_names i) in
    of_then (items_inside P G k Γ r m is (strung_left P (gather init_strings is) (init_strings i) h) (omega arith))
    (λ fs p. of_then (item_inside P G k (after Γ (length (list_names is))) (room_after P G k Γ (length (list_names is)) r) m i (strung_right P (gather init_strings is) (init_strings i) h) (omega arith)) (λ f q. holds (locals_append P fs (f ∷ []) p q)))

dec_inside : (P : Named → Type 0) (G : Ground) (k : ℕ) (Γ : Env) → Room P G k Γ → (m : tree.Mode) (is : Many (Init (Expr 5))) → Strung P (gather init_strings is) → Γ.ready + length (local_names Γ.text (tree.local m is)) ≤ length Γ.names → Of (InsideLocals P) (resolve_local_dec G Γ (tree.local m is))
dec_inside P G k Γ r m is h l = of_any (judge_written Γ m) (λ u. items_inside P G k Γ r (mode_of Γ.text m) is h (let e = length-map (list_names is) (site (local (mode_of Γ.text m))) in omega arith))

decs_inside : (P : Named → Type 0) (G : Ground) (k : ℕ) (Γ : Env) → Room P G k Γ → (ls : Locals) → Strung P (locals_strings ls) → Γ.ready + length (entries Γ.text ls) ≤ length Γ.names → Of (InsideLocals P) (resolve_local_decs G Γ ls)
decs_inside P G k Γ r no_locals h l = holds tt
decs_inside P G k Γ r (locals ls (tree.local m is)) h l =
    let e = length-append (entries Γ.text ls) (local_names Γ.text (tree.local m is)) in
    of_then (decs_inside P G k Γ r ls (strung_left P (locals_strings ls) (gather init_strings is) h) (omega arith))
    (λ fs p. of_then (dec_inside P G k (after Γ (length (entries Γ.text ls))) (room_after P G k Γ (length (entries Γ.text ls)) r) m is (strung_right P (locals_strings ls) (gather init_strings is) h) (omega arith)) (λ gs q. holds (locals_append P fs gs p q)))

-- Destinations.
target_inside : (P : Named → Type 0) (G : Ground) (k : ℕ) (Γ : Env) → Room P G k Γ → (d : Destination) → Strung P (variable_strings (aimed d)) → Of (λ t. Inside P (t.1).form) (resolve_target G Γ d)
target_inside P G k Γ r d h = of_then (bring_inside P (aim d) (front_variable (aimed d)) (place_inside P G k Γ r (aimed d) h)) (λ m p. holds p)

aimed_strung : (P : Named → Type 0) (d : Destination) → Strung P (destination_strings d) → Strung P (variable_strings (aimed d))
aimed_strung P (tree.place v) h = h
aimed_strung P (tree.val i v) h = h

targets_inside : (P : Named → Type 0) (G : Ground) (k : ℕ) (Γ : Env) → Room P G k Γ → (ds : Many Destination) → Strung P (gather destination_strings ds) → Of (λ t. Every (λ (a : Aim). Inside P a.form) t.1) (resolve_targets G Γ ds)
targets_inside P G k Γ r (one d) h = of_then (target_inside P G k Γ r d (aimed_strung P d h)) (λ m p. holds p)
targets_inside P G k Γ r (more ds d) h =
    of_then (targets_inside P G k Γ r ds (strung_left P (gather destination_strings ds) (destination_strings d) h))
    (λ a p. of_then (target_inside P G k Γ r d (aimed_strung P d (strung_right P (gather destination_strings ds) (destination_strings d) h))) (λ m q. holds (p, q)))

-- All names can be used, and there are slots for n further ones.
pub record Deep (P : Named → Type 0) (G : Ground) (k : ℕ) (Γ : Env) (n : ℕ) : Type 0 where
  pub below : length G ≤ length Γ.names
  pub full : Γ.ready ≡ length Γ.names
  pub further : length Γ.names + n ≤ length G + k
  pub outer : (i : ℕ) → i < length G → Outer P (home_at G i) (class_at Γ i)
  pub inner : (i : ℕ) → length G ≤ i → i < length Γ.names → IsLocal (class_at Γ i)
  pub free : (s : ℕ) → s < k → P (slot s)

deep_less : (P : Named → Type 0) (G : Ground) (k : ℕ) (Γ : Env) (n l : ℕ) → l ≤ n → Deep P G k Γ n → Deep P G k Γ l
deep_less P G k Γ n l h d = record { below = d.below; full = d.full; further = (let f = d.further in omega arith); outer = d.outer; inner = d.inner; free = d.free }

deep_room : (P : Named → Type 0) (G : Ground) (k : ℕ) (Γ : Env) (n : ℕ) → Deep P G k Γ n → Room P G k Γ
deep_room P G k Γ n d = record { below = d.below; used = (let b = d.below in let f = d.full in omega arith); enough = (let f = d.further in omega arith); outer = d.outer; inner = d.inner; free = d.free }

-- in a block, whose names are in scope but cannot be used yet; and behind its declarations
names_inside : (Γ : Env) (ls : Locals) → length (inside Γ ls).names ≡ length Γ.names + length (entries Γ.text ls)
names_inside Γ ls = length-append Γ.names (map (declare Γ.text) (entries Γ.text ls)) ∙ ap (λ n. length Γ.names + n) (length-map (entries Γ.text ls) (declare Γ.text))

-- further names, all of them locals
abbrev pub AllLocal : List Site → Type 0
AllLocal ss = All (λ (s : Site). IsLocal s.class) ss

local_at : (x : Text) (ss : List Site) → AllLocal ss → (i : ℕ) → i < length ss → IsLocal (get_or (map (declare x) ss) i nobody).class
local_at x [] h i l = absurd (omega arith)
local_at x (s ∷ ss) h zero l = h 0 s (omega arith)
local_at x (s ∷ ss) h (suc i) l = local_at x ss (All-tail (λ (t : Site). IsLocal t.class) s ss h) i (omega arith)

pub outer_more : (P : Named → Type 0) (G : Ground) (Γ : Env) (ds : List Declared) → length G ≤ length Γ.names → ((i : ℕ) → i < length G → Outer P (home_at G i) (class_at Γ i)) → (i : ℕ) → i < length G → Outer P (home_at G i) (class_at (inside_of Γ ds) i)
outer_more P G Γ ds b o i l = subst (λ c. Outer P (home_at G i) c.class) (sym (get_or_append_left Γ.names ds nobody i (omega arith))) (o i l)

pub inner_more : (G : Ground) (Γ : Env) (ss : List Site) → AllLocal ss → ((i : ℕ) → length G ≤ i → i < length Γ.names → IsLocal (class_at Γ i)) → (i : ℕ) → length G ≤ i → i < length (inside_of Γ (map (declare Γ.text) ss)).names → IsLocal (class_at (inside_of Γ (map (declare Γ.text) ss)) i)
inner_more G Γ ss a h i b l = elim (cases_lt i (length Γ.names)) [
  | inl near ↦ subst (λ c. IsLocal c.class) (sym (get_or_append_left Γ.names (map (declare Γ.text) ss) nobody i near)) (h i b near)
  | inr far ↦
      let e = length-append Γ.names (map (declare Γ.text) ss) in
      let q = length-map ss (declare Γ.text) in
      subst (λ c. IsLocal c.class) (sym (get_or-append_right Γ.names (map (declare Γ.text) ss) (length Γ.names) i nobody refl far)) (local_at Γ.text ss a (i - length Γ.names) (omega arith))
]

pub sites_local : (m : Mode) (ns : List ℕ) → AllLocal (map (site (local m)) ns)
sites_local m [] = All-nil (λ (s : Site). IsLocal s.class)
sites_local m (n ∷ ns) = All-cons (λ (s : Site). IsLocal s.class) (site (local m) n) (map (site (local m)) ns) tt (sites_local m ns)

entries_local : (x : Text) (ls : Locals) → AllLocal (entries x ls)
entries_local x no_locals = All-nil (λ (s : Site). IsLocal s.class)
entries_local x (locals ls (tree.local m is)) = All-append (λ (s : Site). IsLocal s.class) (entries x ls) (map (site (local (mode_of x m))) (list_names is)) (entries_local x ls) (sites_local (mode_of x m) (list_names is))

block_room : (P : Named → Type 0) (G : Ground) (k n : ℕ) (Γ : Env) (ls : Locals) → Deep P G k Γ (length (block_names Γ.text ls) + n) → Room P G k (inside Γ ls)
block_room P G k n Γ ls d =
    let b = d.below in
    let e = names_inside Γ ls in
    record {
      below = omega arith;
      used = (let f = d.full in omega arith);
      enough = (let f = d.further in let q = length-map (entries Γ.text ls) (λ s. s.item) in omega arith);
      outer = outer_more P G Γ (map (declare Γ.text) (entries Γ.text ls)) b d.outer;
      inner = inner_more G Γ (entries Γ.text ls) (entries_local Γ.text ls) d.inner;
      free = d.free;
    }

block_deep : (P : Named → Type 0) (G : Ground) (k n : ℕ) (Γ : Env) (ls : Locals) → Deep P G k Γ (length (block_names Γ.text ls) + n) → Deep P G k (ready_inside Γ ls) n
block_deep P G k n Γ ls d =
    let b = d.below in
    let e = names_inside Γ ls in
    record {
      below = omega arith;
      full = (let f = d.full in omega arith);
      further = (let f = d.further in let q = length-map (entries Γ.text ls) (λ s. s.item) in omega arith);
      outer = outer_more P G Γ (map (declare Γ.text) (entries Γ.text ls)) b d.outer;
      inner = inner_more G Γ (entries Γ.text ls) (entries_local Γ.text ls) d.inner;
      free = d.free;
    }

-- Statements.
mutual
  pub body_inside : (P : Named → Type 0) (G : Ground) (k : ℕ) (Γ : Env) (b : Body) → Strung P (body_strings b) → Deep P G k Γ (length (blocks (block_names Γ.text) b)) → Of (InsideBody P) (resolve_body G Γ b)
  body_inside P G k Γ (body ls s) w d =
      let e = length-append (block_names Γ.text ls) (inner_blocks (block_names Γ.text) s) in
      let h = deep_less P G k Γ _ (length (block_names Γ.text ls) + length (inner_blocks (block_names Γ.text) s)) (omega arith) d in
      of_then (decs_inside P G k (inside Γ ls) (block_room P G k _ Γ ls h) ls (strung_left P (locals_strings ls) (sequence_strings s) w) (let q = names_inside Γ ls in let f = d.full in omega arith))
      (λ fs p. of_then (sequence_inside P G k (ready_inside Γ ls) s (strung_right P (locals_strings ls) (sequence_strings s) w) (block_deep P G k _ Γ ls h)) (λ t q. holds (p, q)))

  sequence_inside : (P : Named → Type 0) (G : Ground) (k : ℕ) (Γ : Env) (s : Sequence) → Strung P (sequence_strings s) → Deep P G k Γ (length (inner_blocks (block_names Γ.text) s)) → Of (InsideSequence P) (resolve_sequence G Γ s)
  sequence_inside P G k Γ (single s) w d = of_then (statement_inside P G k Γ s w d) (λ t p. holds p)
  sequence_inside P G k Γ (sequel ss s) w d =
      let e = length-append (inner_blocks (block_names Γ.text) ss) (statement_blocks (block_names Γ.text) s) in
      of_then (sequence_inside P G k Γ ss (strung_left P (sequence_strings ss) (statement_strings s) w) (deep_less P G k Γ _ _ (omega arith) d))
      (λ ts p. of_then (statement_inside P G k Γ s (strung_right P (sequence_strings ss) (statement_strings s) w) (deep_less P G k Γ _ _ (omega arith) d)) (λ t q. holds (p, q)))

  statement_inside : (P : Named → Type 0) (G : Ground) (k : ℕ) (Γ : Env) (s : Statement) → Strung P (statement_strings s) → Deep P G k Γ (length (statement_blocks (block_names Γ.text) s)) → Of (InsideStatement P) (resolve_statement G Γ s)
  statement_inside P G k Γ dummy w d = holds tt
  statement_inside P G k Γ (block b) w d = of_then (body_inside P G k Γ b w d) (λ c p. holds p)
  statement_inside P G k Γ (assign ds e) w d =
      let r = deep_room P G k Γ _ d in
      of_then (targets_inside P G k Γ r ds (strung_left P (gather destination_strings ds) (expr_strings e) w))
      (λ c p. of_then (into_inside P c.0 (front_destinations ds) (spot e) (expr_inside P G k Γ r e (strung_right P (gather destination_strings ds) (expr_strings e) w))) (λ x q. holds (p, q)))
  statement_inside P G k Γ (invoke n i) w d =
      of_then (call_inside P G k Γ (deep_room P G k Γ _ d) (InsideStatement P) n 0 silent (form.invoke n) (λ c xs q p. (q, p)) (λ ms. holds {a = form.nothing} tt)) (λ t p. holds p)
  statement_inside P G k Γ (invoke_on n i es) w d =
      let r = deep_room P G k Γ _ d in
      of_then (call_inside P G k Γ r (InsideStatement P) n (count es) silent (form.invoke n) (λ c xs q p. (q, p)) (λ ms. args_inside P G k Γ r ms es w)) (λ t p. holds p)
  statement_inside P G k Γ (branch ws) w d = of_then (arms_inside P G k Γ ws w d) (λ a p. holds p)
  statement_inside P G k Γ (branch_else ws s) w d =
      let e = length-append (arms_blocks (block_names Γ.text) ws) (inner_blocks (block_names Γ.text) s) in
      of_then (arms_inside P G k Γ ws (strung_left P (arms_strings ws) (sequence_strings s) w) (deep_less P G k Γ _ _ (omega arith) d))
      (λ a p. of_then (sequence_inside P G k Γ s (strung_right P (arms_strings ws) (sequence_strings s) w) (deep_less P G k Γ _ _ (omega arith) d)) (λ t q. holds (p, q)))
  statement_inside P G k Γ (repeat e b) w d =
      of_then (as_inside P INT (spot e) (expr_inside P G k Γ (deep_room P G k Γ _ d) e (strung_left P (expr_strings e) (body_strings b) w)))
      (λ x p. of_then (body_inside P G k Γ b (strung_right P (expr_strings e) (body_strings b) w) d) (λ c q. holds (p, q)))
  statement_inside P G k Γ (loop c s) w d =
      of_then (condition_inside P G k Γ (deep_room P G k Γ _ d) c (strung_left P (condition_strings c) (sequence_strings s) w))
      (λ x p. of_then (sequence_inside P G k Γ s (strung_right P (condition_strings c) (sequence_strings s) w) d) (λ t q. holds (p, q)))
  statement_inside P G k Γ (return i) w d = of_any (ok_or (silent Γ.result) (Misfit i)) (λ u. holds {a = form.return} tt)
  statement_inside P G k Γ (return_with i j e) w d = of_then (into_inside P Γ.result i (spot e) (expr_inside P G k Γ (deep_room P G k Γ _ d) e w)) (λ x p. holds p)

  arms_inside : (P : Named → Type 0) (G : Ground) (k : ℕ) (Γ : Env) (ws : Arms) → Strung P (arms_strings ws) → Deep P G k Γ (length (arms_blocks (block_names Γ.text) ws)) → Of (InsideArms P) (resolve_arms G Γ ws)
  arms_inside P G k Γ (when c s) w d =
      of_then (condition_inside P G k Γ (deep_room P G k Γ _ d) c (strung_left P (condition_strings c) (sequence_strings s) w))
      (λ x p. of_then (sequence_inside P G k Γ s (strung_right P (condition_strings c) (sequence_strings s) w) d) (λ t q. holds (p, q)))
  arms_inside P G k Γ (elsewhen ws c s) w d =
      let e = length-append (arms_blocks (block_names Γ.text) ws) (inner_blocks (block_names Γ.text) s) in
      let v = strung_right P (arms_strings ws) (condition_strings c ++ sequence_strings s) w in
      of_then (arms_inside P G k Γ ws (strung_left P (arms_strings ws) (condition_strings c ++ sequence_strings s) w) (deep_less P G k Γ _ _ (omega arith) d))
      (λ a p. of_then (condition_inside P G k Γ (deep_room P G k Γ _ d) c (strung_left P (condition_strings c) (sequence_strings s) v))
      (λ x q. of_then (sequence_inside P G k Γ s (strung_right P (condition_strings c) (sequence_strings s) v) (deep_less P G k Γ _ _ (omega arith) d)) (λ t l. holds (p, q, l))))
