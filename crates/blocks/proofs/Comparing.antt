-- What stands at the node of a comparison, and how it is judged. Assumes nothing.
use Rattle.std.proofs.Common.{◌≡◌, ℕ, List, refl, subst}
use Rattle.grammar.specs.declared.Symbol.{Symbol}
use Rattle.grammar.specs.Trees.{Expr, Comparator, Comparison, compare, spell_comparator}
use Rattle.nodes.specs.Nodes.{At, IsExpr, IsComparison}
use Rattle.nodes.specs.declared.Node.{Node}
use Rattle.nodes.specs.declared.Node.TheVariants.{Compare}
use Rattle.statics.specs.declared.Refusal.TheVariants.{Misfit}
use Rattle.statics.specs.Scopes.{Env}
use Rattle.statics.specs.Fronts.{front, spot}
use Rattle.statics.specs.Expressions.{compared}
use Rattle.statics.specs.JudgeExpressions.{then, check, bring, judge, agree, judge_comparison}

module _ (Γ : Env) (ns : List Node) (k : ℕ) where
  pub compares : (c : Comparison) (s : Symbol) (l r : ℕ) → At ns k (Compare s l r) → IsComparison c ns k → (a : Expr 5) × (o : Comparator) × (b : Expr 5) × (s ≡ spell_comparator o) × IsExpr a ns l × IsExpr b ns r × (judge_comparison Γ c ≡ then (bring (compared o) (spot a) (judge Γ a)) (λ m. then (bring (compared o) (spot b) (judge Γ b)) (λ p. check (agree o m p) (Misfit (front a)))))
  compares (compare a o b) s l r at is =
      let p : is.0 ≡ l = cc (at, is.4) in
      let q : is.1 ≡ r = cc (at, is.4) in
      let e : s ≡ spell_comparator o = cc (at, is.4) in
      (a, o, b, e, subst (λ (i : ℕ). IsExpr a ns i) p is.5, subst (λ (i : ℕ). IsExpr b ns i) q is.6, refl)
