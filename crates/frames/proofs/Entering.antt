-- The entries of a list, none of which stands behind it, and the items of a module, each with its room, and the parts of a body. Assumes nothing.
use Rattle.std.proofs.Common.{◌≡◌, ℕ, ◌<◌, ◌≤◌, List, [], ◌∷◌, length, refl, ap, subst, arith}
use Rattle.std.specs.List.{AllByRecursion}
use Rattle.grammar.specs.Trees.{Locals, Body, body, Condition, Sequence, single, sequel, Statement, Arms, when, elsewhen, Moditem, Module}
use Rattle.nodes.specs.declared.Node.{Node}
use Rattle.nodes.specs.declared.Node.TheVariants.{Body as BodyNode}
use Rattle.nodes.specs.Nodes.{At, Reading, IsLocals, IsBody, IsSequence, IsStatement, IsArms, IsModitem}
use Rattle.statics.specs.Scopes.{Text}
use Rattle.statics.specs.Order.{InSequence, InStatement, InArms, InModule}
use Rattle.statics.specs.Written.{gather}
use Rattle.statics.specs.Modules.{moditem_names}
use Rattle.lists.specs.Lists.{shape_of, listed, Stand, of_many, of_sequence, of_arms}
use Rattle.lists.proofs.Listed.{stand_one, stand_more}
use Rattle.lists.proofs.Alone.{alone_statement}
use Rattle.frames.specs.Rooms.{Room, Roomy}
use Rattle.frames.proofs.Counts.{rooms, statement_rooms, arm_rooms}

-- an entry of a list that does not stand behind its list; of a list of arms it is one arm
abbrev pub Within : {A : Type 0} → ℕ → Reading A → Reading A
Within top Is t ns k = (k ≤ top) × Is t ns k

abbrev pub IsArm : Arms → List Node → ℕ → Type 0
IsArm (when c s) ns k = IsArms (when c s) ns k
IsArm (elsewhen ws c s) ns k = ⊥

module _ (ns : List Node) (top : ℕ) where
  pub statements_within : (ss : Sequence) (k : ℕ) → k ≤ top → IsSequence ss ns k → Stand (Within top IsStatement) (of_sequence ss) ns (listed ns k)
  statements_within (single s) k h is = stand_one ns (Within top IsStatement) s k (alone_statement ns s k is) (h, is)
  statements_within (sequel ss s) k h is = stand_more ns (Within top IsStatement) s (of_sequence ss) k is.0 is.1 is.2 (ap (shape_of k) is.4) (omega (arith, h, is.3), is.6) (statements_within ss is.0 (omega (arith, h, is.2)) is.5)

  pub arms_within : (ws : Arms) (k : ℕ) → k ≤ top → IsArms ws ns k → Stand (Within top IsArm) (of_arms ws) ns (listed ns k)
  arms_within (when c s) k h is = stand_one ns (Within top IsArm) (when c s) k (ap (shape_of k) is.4) (h, is)
  arms_within (elsewhen ws c s) k h is = stand_more ns (Within top IsArm) (when c s) (of_arms ws) k is.0 is.1 is.2 (ap (shape_of k) is.4) (omega (arith, h, is.3), (is.6, is.7, is.8, is.9, is.10, is.11, is.12)) (arms_within ws is.0 (omega (arith, h, is.2)) is.5)

-- what holds of each arm holds of an entry of a list of arms
pub any_arm : (P : Arms → Type 0) (ns : List Node) (k : ℕ) (w : Arms) → IsArm w ns k → ((c : Condition) (ss : Sequence) → IsArms (when c ss) ns k → P (when c ss)) → P w
any_arm P ns k (when c s) is each = each c s is
any_arm P ns k (elsewhen ws c s) is each = absurd is

-- entries that have P besides
abbrev pub Having : {A : Type 0} → (A → Type 0) → Reading A → Reading A
Having P Is t ns k = Is t ns k × P t

stand_having : {A : Type 0} (P : A → Type 0) (Is : Reading A) (ts : List A) (ns : List Node) (ks : List ℕ) → Stand Is ts ns ks → AllByRecursion P ts → Stand (Having P Is) ts ns ks
stand_having P Is [] ns [] s p = tt
stand_having P Is [] ns (k ∷ ks) s p = absurd s
stand_having P Is (t ∷ ts) ns [] s p = absurd s
stand_having P Is (t ∷ ts) ns (k ∷ ks) s p = ((s.0, p.0), stand_having P Is ts ns ks s.1 p.1)

-- Each has room for the names inside it.
module _ (top count n : ℕ) where
  abbrev pub Entered : Reading Statement
  Entered = Having (λ s. Room InStatement s count n) (Within top IsStatement)

  abbrev pub Armed : Reading Arms
  Armed = Having (λ w. Room InArms w count n) (Within top IsArm)

  pub stand_entered : (ns : List Node) (ss : Sequence) → IsSequence ss ns top → Room InSequence ss count n → Stand Entered (of_sequence ss) ns (listed ns top)
  stand_entered ns ss is r = stand_having (λ s. Room InStatement s count n) (Within top IsStatement) (of_sequence ss) ns (listed ns top) (statements_within ns top ss top (omega arith) is) (statement_rooms ss count n r)

  pub stand_armed : (ns : List Node) (ws : Arms) → IsArms ws ns top → Room InArms ws count n → Stand Armed (of_arms ws) ns (listed ns top)
  stand_armed ns ws is r = stand_having (λ w. Room InArms w count n) (Within top IsArm) (of_arms ws) ns (listed ns top) (arms_within ns top ws top (omega arith) is) (arm_rooms ws count n r)

-- the items of a module whose names are those that count
module _ (x : Text) (count n : ℕ) where
  abbrev pub Roomed : Reading Moditem
  Roomed = Having (Roomy x count n) IsModitem

  pub module_roomed : (ns : List Node) (m : Module) (ks : List ℕ) → Stand IsModitem (of_many m) ns ks → Room InModule m 0 n → count ≡ length (gather (moditem_names x) m) → Stand Roomed (of_many m) ns ks
  module_roomed ns m ks s r e =
      let h = r.3 in
      stand_having (Roomy x count n) IsModitem (of_many m) ns ks s (rooms x count n m r.0 r.1 r.2 (omega (arith, h, e)))

-- the node of a body, and its locals and statements where the node says that they stand
pub body_node : (ns : List Node) (k : ℕ) (b : Body) → IsBody b ns k → (l : ℕ) × (r : ℕ) × At ns k (BodyNode l r)
body_node ns k (body ls s) is = (is.0, is.1, is.4)

module _ (ns : List Node) (k l r : ℕ) where
  pub both_parts : (ls : Locals) (s : Sequence) → At ns k (BodyNode l r) → IsBody (body ls s) ns k → (r < k) × IsLocals ls ns l × IsSequence s ns r
  both_parts ls s at is =
      let p : is.0 ≡ l = cc (at, is.4) in
      let q : is.1 ≡ r = cc (at, is.4) in
      (subst (λ (m : ℕ). m < k) q is.3, subst (λ (m : ℕ). IsLocals ls ns m) p is.5, subst (λ (m : ℕ). IsSequence s ns m) q is.6)

  pub body_parts : (b : Body) → At ns k (BodyNode l r) → IsBody b ns k → (ls : Locals) × (s : Sequence) × (r < k) × IsLocals ls ns l × IsSequence s ns r × (b ≡ body ls s)
  body_parts (body ls s) at is =
      let p = both_parts ls s at is in
      (ls, s, p.0, p.1, p.2, refl)
