use Rattle.std.proofs.Common.{◌≡◌, ◌+◌, ◌*◌, ◌≤◌, Ok, Err, Result, IfOk, MatchResult}
use Rattle.grammar.specs.Trees.{Values}
use Rattle.nodes.specs.Nodes.{IsValues}
use Rattle.statics.specs.declared.Refusal.{Refusal}
use Rattle.statics.specs.Values.{how_many, total}
use Rattle.statics.specs.JudgeExpressions.{then}
use Rattle.statics.specs.JudgeModules.{judge_values}
use Rattle.texts.specs.Facts.{facts}
use Rattle.scopes.specs.Meanings.{env_means}
use Rattle.values.specs.Wants.{want_means}
use Rattle.values.proofs.+values.Given as goal

abbrev pub decreases-value : goal.decreases-value
decreases-value l = 3 * l.k

abbrev pub decreases-entry : goal.decreases-entry
decreases-entry l = 3 * l.k + 1

abbrev pub decreases-values : goal.decreases-values
decreases-values l = 3 * l.list + 2

-- the values that are left, and what is said of those judged
abbrev pub invariant-values-loop-front : goal.invariant-values-loop-front
invariant-values-loop-front l = (l.at ≤ l.list) × IfOk l.places (λ p. p + 65535 * l.at ≤ 65535 * l.list) × ((vs : Values) → IsValues vs l.nodes l.list → (us : Values) × (r : Result (Unit {0}) Refusal) × IsValues us l.nodes l.at × (l.before ≡ how_many us) × (judge_values (env_means l.env) (want_means (facts l.env.text) l.want) vs ≡ then (judge_values (env_means l.env) (want_means (facts l.env.text) l.want) us) (λ u. r)) × MatchResult l.places (λ p. (total (facts l.env.text).value us + p ≡ total (facts l.env.text).value vs) × (r ≡ Ok tt)) (λ f. r ≡ Err f))

abbrev pub decreases-values-loop-front : goal.decreases-values-loop-front
decreases-values-loop-front l = l.at
