-- What stands at the nodes of statements that hold blocks, with the room for the names inside them. Assumes nothing.
use Rattle.std.proofs.Common.{◌≡◌, ℕ, ◌<◌, ◌⊎◌, inl, inr, List, [], ◌∷◌, ◌++◌, Option, None, slice_index_or, refl, ap, sym, ◌∙◌, subst, arith}
use Rattle.grammar.specs.Trees.{Condition, Body, body, Sequence, Statement, dummy, block, assign, invoke, invoke_on, branch, branch_else, repeat, loop, return, return_with, Arms, when}
use Rattle.nodes.specs.declared.Node.{Node}
use Rattle.nodes.specs.declared.Node.TheVariants.{Block, Branch, BranchElse, Repeat, Loop, When}
use Rattle.nodes.specs.Nodes.{At, IsBody, IsSequence, IsStatement, IsArms, blank_node}
use Rattle.statics.specs.Scopes.{Text}
use Rattle.statics.specs.Order.{InBody, InSequence, InStatement, InArms}
use Rattle.statics.specs.Blocks.{blocks, inner_blocks, statement_blocks, arms_blocks}
use Rattle.statics.specs.DeclaredTwice.{body_scopes}
use Rattle.statics.specs.JudgeLimits.{doubles}
use Rattle.lists.specs.Lists.{listed, of_sequence, of_arms}
use Rattle.frames.specs.Rooms.{Room}
use Rattle.frames.proofs.Counts.{block_room, branch_room, branch_else_arms_room, branch_else_room, repeat_room, loop_room, when_room}
use Rattle.frames.proofs.Entering.{Within, IsArm, any_arm, Entered, Armed, stand_entered, stand_armed}
use Rattle.limits.specs.Twice.{block_scope, earliest_double}
use Rattle.limits.proofs.Entries.{statements_together, arms_together}
use Rattle.limits.proofs.Least.{meet, meet_none, least_parts}
use Rattle.limits.proofs.Looking.{Looking, looking_in, looking_on, looking_past}

-- The scopes of a block that stands in a statement are its blocks' names.
own_scopes : (x : Text) (b : Body) → body_scopes x [] b ≡ blocks (block_scope x) b
own_scopes x (body ls s) = refl

module _ (x : Text) (ns : List Node) (k count n : ℕ) where
  abbrev pub Held : Statement → Node → Type 0
  Held s (Block r) = (b : Body) × IsBody b ns r × Room InBody b count n × (statement_blocks (block_scope x) s ≡ blocks (block_scope x) b)
  Held s (Repeat l r) = (b : Body) × IsBody b ns r × Room InBody b count n × (statement_blocks (block_scope x) s ≡ blocks (block_scope x) b)
  Held s (Branch r) = (ws : Arms) × IsArms ws ns r × Room InArms ws count n × (statement_blocks (block_scope x) s ≡ arms_blocks (block_scope x) ws)
  Held s (BranchElse l r) = (ws : Arms) × (t : Sequence) × IsArms ws ns l × IsSequence t ns r × Room InArms ws count n × Room InSequence t count n × (statement_blocks (block_scope x) s ≡ arms_blocks (block_scope x) ws ++ inner_blocks (block_scope x) t)
  Held s (Loop l r) = (t : Sequence) × IsSequence t ns r × Room InSequence t count n × (statement_blocks (block_scope x) s ≡ inner_blocks (block_scope x) t)
  Held s (When l r) = ⊥
  Held s _ = Unit {0}

  told : (s : Statement) (y z : Node) → At ns k y → At ns k z → Held s y → Held s z
  told s y z a b h = subst (λ (w : Node). Held s w) (sym a ∙ b) h

  held : (s : Statement) (z : Node) → At ns k z → IsStatement s ns k → Room InStatement s count n → Held s z
  held dummy z at is r = told dummy _ z is at tt
  held (block b) z at is r = told (block b) _ z is.2 at (b, is.3, block_room count n b r, refl)
  held (assign ds e) z at is r = told (assign ds e) _ z is.4 at tt
  held (invoke m i) z at is r = told (invoke m i) _ z is at tt
  held (invoke_on m i es) z at is r = told (invoke_on m i es) _ z is.2 at tt
  held (branch ws) z at is r = told (branch ws) _ z is.2 at (ws, is.3, branch_room count n ws r, refl)
  held (branch_else ws s) z at is r = told (branch_else ws s) _ z is.4 at (ws, s, is.5, is.6, branch_else_arms_room count n ws s r, branch_else_room count n ws s r, refl)
  held (repeat e b) z at is r = told (repeat e b) _ z is.4 at (b, is.6, repeat_room count n e b r, refl)
  held (loop c s) z at is r = told (loop c s) _ z is.4 at (s, is.6, loop_room count n c s r, refl)
  held (return i) z at is r = told (return i) _ z is at tt
  held (return_with i j e) z at is r = told (return_with i j e) _ z is.2 at tt

  -- what a body, arms or statements in a statement have twice, it has
  pub block_found : (s : Statement) (m : Node) (inner : ℕ) (ps : List ℕ) (o : Option ℕ) → m ≡ slice_index_or ns k blank_node → (m ≡ Block inner) ⊎ ((l : ℕ) × (m ≡ Repeat l inner)) → IsStatement s ns k → Room InStatement s count n → ps ≡ [] → ((b : Body) → IsBody b ns inner → Room InBody b count n → o ≡ earliest_double x (body_scopes x ps b)) → o ≡ earliest_double x (statement_blocks (block_scope x) s)
  block_found s m inner ps o e (inl at) is r none f =
      let h = held s (Block inner) (sym e ∙ at) is r in
      f h.0 h.1 h.2 ∙ ap (λ (qs : List ℕ). earliest_double x (body_scopes x qs h.0)) none ∙ ap (earliest_double x) (own_scopes x h.0 ∙ sym h.3)
  block_found s m inner ps o e (inr at) is r none f =
      let h = held s (Repeat at.0 inner) (sym e ∙ at.1) is r in
      f h.0 h.1 h.2 ∙ ap (λ (qs : List ℕ). earliest_double x (body_scopes x qs h.0)) none ∙ ap (earliest_double x) (own_scopes x h.0 ∙ sym h.3)

  abbrev pub ArmsGive : ℕ → Option ℕ → Type 0
  ArmsGive inner o = (ws : Arms) → IsArms ws ns inner → Room InArms ws count n → o ≡ earliest_double x (arms_blocks (block_scope x) ws)

  abbrev pub StatementsGive : ℕ → Option ℕ → Type 0
  StatementsGive inner o = (ss : Sequence) → IsSequence ss ns inner → Room InSequence ss count n → o ≡ earliest_double x (inner_blocks (block_scope x) ss)

  abbrev pub Inside : Node → ℕ → Type 0
  Inside m inner = (m ≡ Branch inner) ⊎ (((l : ℕ) × (m ≡ Loop l inner)) ⊎ ((l : ℕ) × (m ≡ When l inner)))

  pub branch_found : (s : Statement) (m : Node) (inner : ℕ) (o : Option ℕ) → m ≡ slice_index_or ns k blank_node → Inside m inner → IsStatement s ns k → Room InStatement s count n → ArmsGive inner o → StatementsGive inner o → o ≡ earliest_double x (statement_blocks (block_scope x) s)
  branch_found s m inner o e (inl at) is r f g =
      let h = held s (Branch inner) (sym e ∙ at) is r in
      f h.0 h.1 h.2 ∙ ap (earliest_double x) (sym h.3)
  branch_found s m inner o e (inr (inl at)) is r f g =
      let h = held s (Loop at.0 inner) (sym e ∙ at.1) is r in
      g h.0 h.1 h.2 ∙ ap (earliest_double x) (sym h.3)
  branch_found s m inner o e (inr (inr at)) is r f g = absurd (held s (When at.0 inner) (sym e ∙ at.1) is r)

  pub arm_found : (c : Condition) (ss : Sequence) (m : Node) (inner : ℕ) (o : Option ℕ) → m ≡ slice_index_or ns k blank_node → Inside m inner → IsArms (when c ss) ns k → Room InArms (when c ss) count n → StatementsGive inner o → o ≡ earliest_double x (inner_blocks (block_scope x) ss)
  arm_found c ss m inner o e (inl at) is r g = absurd (cc (is.4))
  arm_found c ss m inner o e (inr (inl at)) is r g = absurd (cc (at.1, is.4))
  arm_found c ss m inner o e (inr (inr at)) is r g =
      let same : is.1 ≡ inner = cc (at.1, is.4) in
      g ss (subst (λ (j : ℕ). IsSequence ss ns j) same is.6) (when_room count n c ss r)

  pub branch_else_found : (s : Statement) (m : Node) (l r : ℕ) (p q o : Option ℕ) → m ≡ slice_index_or ns k blank_node → m ≡ BranchElse l r → IsStatement s ns k → Room InStatement s count n → ArmsGive l p → StatementsGive r q → o ≡ meet p q → o ≡ earliest_double x (statement_blocks (block_scope x) s)
  branch_else_found s m l r p q o e at is room f g d =
      let h = held s (BranchElse l r) (sym e ∙ at) is room in
      d
      ∙ ap (λ (u : Option ℕ). meet u q) (f h.0 h.2 h.4)
      ∙ ap (meet (earliest_double x (arms_blocks (block_scope x) h.0))) (g h.1 h.3 h.5)
      ∙ sym (least_parts (doubles x) (arms_blocks (block_scope x) h.0) (inner_blocks (block_scope x) h.1))
      ∙ ap (earliest_double x) (sym h.6)

  -- The loop over statements, and over conditions with theirs: r is what all come to.
  abbrev pub StatementsLeft : List ℕ → Option ℕ → Option ℕ → Type 0
  StatementsLeft ks b r = Looking (doubles x) (statement_blocks (block_scope x)) (Entered k count n) ns ks b r

  abbrev pub ArmsLeft : List ℕ → Option ℕ → Option ℕ → Type 0
  ArmsLeft ks b r = Looking (doubles x) (arms_blocks (block_scope x)) (Armed k count n) ns ks b r

  pub statements_in : (ks : List ℕ) (ss : Sequence) → ks ≡ listed ns k → IsSequence ss ns k → Room InSequence ss count n → StatementsLeft ks None (earliest_double x (inner_blocks (block_scope x) ss))
  statements_in ks ss e is r =
      looking_in (doubles x) (statement_blocks (block_scope x)) (Entered k count n) ns (of_sequence ss) ks (listed ns k) None (earliest_double x (inner_blocks (block_scope x) ss)) e (stand_entered k count n ns ss is r)
      (ap (earliest_double x) (statements_together (block_scope x) ss) ∙ sym (meet_none _))

  pub arms_in : (ks : List ℕ) (ws : Arms) → ks ≡ listed ns k → IsArms ws ns k → Room InArms ws count n → ArmsLeft ks None (earliest_double x (arms_blocks (block_scope x) ws))
  arms_in ks ws e is r =
      looking_in (doubles x) (arms_blocks (block_scope x)) (Armed k count n) ns (of_arms ws) ks (listed ns k) None (earliest_double x (arms_blocks (block_scope x) ws)) e (stand_armed k count n ns ws is r)
      (ap (earliest_double x) (arms_together (block_scope x) ws) ∙ sym (meet_none _))

  module _ (ks : List ℕ) (entry : ℕ) (ls : List ℕ) (b r : Option ℕ) (e : ks ≡ entry ∷ ls) where
    pub statements_on : (new o : Option ℕ) (m : ℕ) → m ≡ n → o ≡ meet b new → ((s : Statement) → IsStatement s ns entry → Room InStatement s count m → new ≡ earliest_double x (statement_blocks (block_scope x) s)) → StatementsLeft ks b r → StatementsLeft ls o r
    statements_on new o m same d found h =
        looking_on (doubles x) (statement_blocks (block_scope x)) (λ j s. Room InStatement s count j) n (Within k IsStatement) ns ks entry ls b r e new o m same d (λ s is. found s is.1) h

    pub arms_on : (new o : Option ℕ) (m : ℕ) → m ≡ n → o ≡ meet b new → ((c : Condition) (s : Sequence) → IsArms (when c s) ns entry → Room InArms (when c s) count m → new ≡ earliest_double x (inner_blocks (block_scope x) s)) → ArmsLeft ks b r → ArmsLeft ls o r
    arms_on new o m same d found h =
        looking_on (doubles x) (arms_blocks (block_scope x)) (λ j w. Room InArms w count j) n (Within k IsArm) ns ks entry ls b r e new o m same d
        (λ w is. any_arm (λ v. Room InArms v count m → new ≡ earliest_double x (arms_blocks (block_scope x) v)) ns entry w is.1 found)
        h

    -- no entry stands behind its list
    pub statements_past : k < entry → StatementsLeft ks b r → StatementsLeft ls b r
    statements_past past h =
        looking_past (doubles x) (statement_blocks (block_scope x)) (λ j s. Room InStatement s count j) n (Within k IsStatement) ns ks entry ls b r e (λ s is. omega (arith, past, is.0)) h

    pub arms_past : k < entry → ArmsLeft ks b r → ArmsLeft ls b r
    arms_past past h =
        looking_past (doubles x) (arms_blocks (block_scope x)) (λ j w. Room InArms w count j) n (Within k IsArm) ns ks entry ls b r e (λ w is. omega (arith, past, is.0)) h
