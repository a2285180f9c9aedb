-- What stands at the nodes of destinations and of an assignment, and how they are judged. Assumes nothing.
use Rattle.std.proofs.Common.{◌≡◌, ℕ, List, refl, subst}
use Rattle.grammar.specs.Trees.{Expr, Variable, name, element, component, Many, Destination, place, val, Statement, dummy, block, assign, invoke, invoke_on, branch, branch_else, repeat, loop, return, return_with}
use Rattle.nodes.specs.Nodes.{At, IsExpr, IsVariable, IsMany, IsDestination, IsStatement}
use Rattle.nodes.specs.declared.Node.{Node}
use Rattle.nodes.specs.declared.Node.TheVariants.{Val, Assign}
use Rattle.statics.specs.Modes.{pointed}
use Rattle.statics.specs.Scopes.{Env}
use Rattle.statics.specs.Fronts.{spot, front_variable, front_destination, front_destinations}
use Rattle.statics.specs.JudgeExpressions.{then, bring, judge, judge_variable}
use Rattle.statics.specs.JudgeStatements.{judge_into, judge_target, judge_targets, judge_statement}

module _ (ns : List Node) (k : ℕ) where
  no_val : (v : Variable) (i r : ℕ) → At ns k (Val i r) → IsVariable v ns k → ⊥
  no_val (name n) i r at is = absurd (cc (at, is))
  no_val (element v j e) i r at is = absurd (cc (at, is.4))
  no_val (component v n) i r at is = absurd (cc (at, is.2))

  -- behind VAL
  pub valued : (d : Destination) (i r : ℕ) → At ns k (Val i r) → IsDestination d ns k → (v : Variable) × IsVariable v ns r × ((Γ : Env) → judge_target Γ d ≡ bring pointed (front_variable v) (judge_variable Γ v)) × (front_destination d ≡ i)
  valued (place v) i r at is = absurd (no_val v i r at is)
  valued (val j v) i r at is =
      let p : is.0 ≡ r = cc (at, is.2) in
      let q : j ≡ i = cc (at, is.2) in
      (v, subst (λ (m : ℕ). IsVariable v ns m) p is.3, λ Γ. refl, q)

  -- with no VAL in front
  pub unvalued : (d : Destination) → ((i r : ℕ) → At ns k (Val i r) → ⊥) → IsDestination d ns k → (v : Variable) × IsVariable v ns k × (front_destination d ≡ front_variable v)
  unvalued (place v) none is = (v, is, refl)
  unvalued (val i v) none is = absurd (none i is.0 is.2)

  pub assigned : (s : Statement) (l r : ℕ) → At ns k (Assign l r) → IsStatement s ns k → (ds : Many Destination) × (e : Expr 5) × IsMany IsDestination ds ns l × IsExpr e ns r × ((Γ : Env) → judge_statement Γ s ≡ then (judge_targets Γ ds) (λ c. judge_into c (front_destinations ds) (judge Γ e) (spot e)))
  assigned dummy l r at is = absurd (cc (at, is))
  assigned (block b) l r at is = absurd (cc (at, is.2))
  assigned (assign ds e) l r at is =
      let p : is.0 ≡ l = cc (at, is.4) in
      let q : is.1 ≡ r = cc (at, is.4) in
      (ds, e, subst (λ (m : ℕ). IsMany IsDestination ds ns m) p is.5, subst (λ (m : ℕ). IsExpr e ns m) q is.6, λ Γ. refl)
  assigned (invoke n i) l r at is = absurd (cc (at, is))
  assigned (invoke_on n i es) l r at is = absurd (cc (at, is.2))
  assigned (branch ws) l r at is = absurd (cc (at, is.2))
  assigned (branch_else ws s) l r at is = absurd (cc (at, is.4))
  assigned (repeat e b) l r at is = absurd (cc (at, is.4))
  assigned (loop c s) l r at is = absurd (cc (at, is.4))
  assigned (return i) l r at is = absurd (cc (at, is))
  assigned (return_with i j e) l r at is = absurd (cc (at, is.2))
