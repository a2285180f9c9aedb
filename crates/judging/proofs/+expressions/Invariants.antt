use Rattle.std.proofs.Common.{◌≡◌, ℕ, ◌+◌, ◌*◌, ◌≤◌, Ok, Err, Result, IfOk, MatchResult, map}
use Rattle.grammar.specs.Trees.{Expr, Exprs, Variable}
use Rattle.nodes.specs.Nodes.{IsExpr, IsExprs, IsVariable}
use Rattle.statics.specs.declared.Refusal.{Refusal}
use Rattle.statics.specs.Modes.{Mode, Thing}
use Rattle.statics.specs.Fronts.{spot, front_variable}
use Rattle.statics.specs.Expressions.{count}
use Rattle.statics.specs.JudgeExpressions.{then, bring, judge, judge_variable, judge_args}
use Rattle.texts.specs.Facts.{facts}
use Rattle.modes.specs.Meanings.{mode_means, thing_means, need_means}
use Rattle.scopes.specs.Meanings.{env_means, Answers}
use Rattle.judging.specs.Chains.{Apt, before}
use Rattle.judging.specs.Openings.{layers, layer}
use Rattle.judging.proofs.+expressions.Given as goal

-- An expression is brought and passed by judging it; a variable with a subscript is judged by what it is.
abbrev pub decreases-judge : goal.decreases-judge
decreases-judge l = 8 * l.k + 3

abbrev pub decreases-operated : goal.decreases-operated
decreases-operated l = 8 * l.k + 5

abbrev pub decreases-signed : goal.decreases-signed
decreases-signed l = 8 * l.k + 5

abbrev pub decreases-variable : goal.decreases-variable
decreases-variable l = 8 * l.k + 1

abbrev pub decreases-layered : goal.decreases-layered
decreases-layered l = 8 * l.k

abbrev pub decreases-brought : goal.decreases-brought
decreases-brought l = 8 * l.k + 4

abbrev pub decreases-passed : goal.decreases-passed
decreases-passed l = 8 * l.k + 4

abbrev pub decreases-subscripted : goal.decreases-subscripted
decreases-subscripted l = 8 * l.index + 5

abbrev pub decreases-headed : goal.decreases-headed
decreases-headed l = 8 * l.index + 6

abbrev pub decreases-arguments : goal.decreases-arguments
decreases-arguments l = 8 * l.list + 5

abbrev pub decreases-primary : goal.decreases-primary
decreases-primary l = 8 * l.k + 2

-- the expressions that are left, and what is said of those judged
abbrev pub invariant-arguments-loop-front : goal.invariant-arguments-loop-front
invariant-arguments-loop-front l = (l.at ≤ l.list) × IfOk l.rest (λ n. n ≤ l.list + 1) × ((es : Exprs) → IsExprs es l.nodes l.list → (fs : Exprs) × (r : Result (Unit {0}) Refusal) × IsExprs fs l.nodes l.at × (l.before ≡ count fs) × (judge_args (env_means l.env) (map (mode_means (facts l.env.text)) l.modes) es ≡ then (judge_args (env_means l.env) (map (mode_means (facts l.env.text)) l.modes) fs) (λ u. r)) × MatchResult l.rest (λ n. (n ≡ count es) × (r ≡ Ok tt)) (λ f. r ≡ Err f))

abbrev pub decreases-arguments-loop-front : goal.decreases-arguments-loop-front
decreases-arguments-loop-front l = l.at

-- the part of the chain that is left, and what is said of the whole
abbrev pub invariant-operated-loop-operator : goal.invariant-operated-loop-operator
invariant-operated-loop-operator l = (l.at ≤ l.k) × ((n : ℕ) (e : Expr n) → IsExpr e l.nodes l.k → (v : Result Mode Refusal) → Answers (mode_means (facts l.env.text)) l.fn.whole v → Apt (need_means (facts l.env.text) l.fn.need) v → (m : ℕ) × (f : Expr m) × (w : Result Mode Refusal) × IsExpr f l.nodes l.at × Answers (mode_means (facts l.env.text)) l.whole w × Apt (need_means (facts l.env.text) l.need) w × (before (need_means (facts l.env.text) l.fn.need) (spot e) (judge (env_means l.env) e) v ≡ before (need_means (facts l.env.text) l.need) (spot f) (judge (env_means l.env) f) w))

abbrev pub decreases-operated-loop-operator : goal.decreases-operated-loop-operator
decreases-operated-loop-operator l = l.at

-- what stands further in, and what is said of the whole
abbrev pub invariant-signed-loop-operator : goal.invariant-signed-loop-operator
invariant-signed-loop-operator l = (l.at ≤ l.k) × ((n : ℕ) (e : Expr n) → IsExpr e l.nodes l.k → (v : Result Thing Refusal) → Answers (thing_means (facts l.env.text)) l.fn.whole v → (m : ℕ) × (f : Expr m) × (w : Result Thing Refusal) × IsExpr f l.nodes l.at × Answers (thing_means (facts l.env.text)) l.whole w × (then (bring (need_means (facts l.env.text) l.fn.need) (spot e) (judge (env_means l.env) e)) (λ m. v) ≡ then (bring (need_means (facts l.env.text) l.need) (spot f) (judge (env_means l.env) f)) (λ m. w)))

abbrev pub decreases-signed-loop-operator : goal.decreases-signed-loop-operator
decreases-signed-loop-operator l = l.at

-- what the variable stands for without the layers that are left
abbrev pub invariant-variable-loop-depth : goal.invariant-variable-loop-depth
invariant-variable-loop-depth l = (v : Variable) → IsVariable v l.nodes l.k → (l.depth ≤ layers v) × (l.name ≡ front_variable v) × (judge_variable (env_means l.env) (layer v l.depth) ≡ Ok (thing_means (facts l.env.text) l.thing))
