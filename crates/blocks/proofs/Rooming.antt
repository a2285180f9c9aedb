-- What stands at the nodes of statements, with the room for the names inside them. Assumes nothing.
use Rattle.std.proofs.Common.{◌≡◌, ℕ, ◌<◌, List, refl, sym, ◌∙◌, subst}
use Rattle.grammar.specs.Trees.{Expr, Condition, Body, Sequence, Statement, dummy, block, assign, invoke, invoke_on, branch, branch_else, repeat, loop, return, return_with, Arms, when}
use Rattle.nodes.specs.declared.Node.{Node}
use Rattle.nodes.specs.declared.Node.TheVariants.{Block, Branch, BranchElse, Repeat, Loop, When}
use Rattle.nodes.specs.Nodes.{At, IsExpr, IsCondition, IsBody, IsSequence, IsStatement, IsArms}
use Rattle.statics.specs.Order.{InBody, InSequence, InStatement, InArms}
use Rattle.frames.specs.Rooms.{Room}
use Rattle.frames.proofs.Counts.{branch_else_arms_room, branch_else_room, repeat_room, loop_room}
use Rattle.blocks.specs.Statements.{Simple}

-- What stands at a node that holds statements, by its kind; none of them at any other.
module _ (ns : List Node) (k count n : ℕ) where
  abbrev pub Stated : Statement → Node → Type 0
  Stated s (Block r) = (b : Body) × (r < k) × IsBody b ns r × Room InBody b count n × (s ≡ block b)
  Stated s (Branch r) = (ws : Arms) × (r < k) × IsArms ws ns r × Room InArms ws count n × (s ≡ branch ws)
  Stated s (BranchElse l r) = (ws : Arms) × (t : Sequence) × (l < k) × (r < k) × IsArms ws ns l × IsSequence t ns r × Room InArms ws count n × Room InSequence t count n × (s ≡ branch_else ws t)
  Stated s (Repeat l r) = (e : Expr 5) × (b : Body) × (r < k) × IsExpr e ns l × IsBody b ns r × Room InBody b count n × (s ≡ repeat e b)
  Stated s (Loop l r) = (c : Condition) × (t : Sequence) × (r < k) × IsCondition c ns l × IsSequence t ns r × Room InSequence t count n × (s ≡ loop c t)
  Stated s _ = Simple s

  told : (s : Statement) (x y : Node) → At ns k x → At ns k y → Stated s x → Stated s y
  told s x y a b h = subst (λ (z : Node). Stated s z) (sym a ∙ b) h

  pub stated : (s : Statement) (x : Node) → At ns k x → IsStatement s ns k → Room InStatement s count n → Stated s x
  stated dummy x at is r = told dummy _ x is at tt
  stated (block b) x at is r = told (block b) _ x is.2 at (b, is.1, is.3, r, refl)
  stated (assign ds e) x at is r = told (assign ds e) _ x is.4 at tt
  stated (invoke m i) x at is r = told (invoke m i) _ x is at tt
  stated (invoke_on m i es) x at is r = told (invoke_on m i es) _ x is.2 at tt
  stated (branch ws) x at is r = told (branch ws) _ x is.2 at (ws, is.1, is.3, r, refl)
  stated (branch_else ws s) x at is r = told (branch_else ws s) _ x is.4 at (ws, s, is.2, is.3, is.5, is.6, branch_else_arms_room count n ws s r, branch_else_room count n ws s r, refl)
  stated (repeat e b) x at is r = told (repeat e b) _ x is.4 at (e, b, is.3, is.5, is.6, repeat_room count n e b r, refl)
  stated (loop c s) x at is r = told (loop c s) _ x is.4 at (c, s, is.3, is.5, is.6, loop_room count n c s r, refl)
  stated (return i) x at is r = told (return i) _ x is at tt
  stated (return_with i j e) x at is r = told (return_with i j e) _ x is.2 at tt

-- the parts of a condition with what is done where it holds
pub arm_parts : (ns : List Node) (k l r : ℕ) (c : Condition) (s : Sequence) → At ns k (When l r) → IsArms (when c s) ns k → IsCondition c ns l × IsSequence s ns r
arm_parts ns k l r c s at is =
    let p : is.0 ≡ l = cc (at, is.4) in
    let q : is.1 ≡ r = cc (at, is.4) in
    (subst (λ (m : ℕ). IsCondition c ns m) p is.5, subst (λ (m : ℕ). IsSequence s ns m) q is.6)
