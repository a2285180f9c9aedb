use Rattle.std.proofs.Common.{◌≡◌, Ok, Result, IfOk, Option, option_map}
use Rattle.grammar.specs.Trees.{Many, Destination}
use Rattle.nodes.specs.Nodes.{IsMany, IsDestination}
use Rattle.statics.specs.declared.Refusal.{Refusal}
use Rattle.statics.specs.Modes.{Mode}
use Rattle.statics.specs.JudgeExpressions.{then}
use Rattle.statics.specs.JudgeStatements.{judge_target, judge_targets}
use Rattle.texts.specs.Facts.{facts}
use Rattle.modes.specs.Meanings.{mode_means}
use Rattle.scopes.specs.Meanings.{env_means, Answers}
use Rattle.blocks.specs.Statements.{first_of}
use Rattle.blocks.proofs.Agreeing.{Held, meet}
use Rattle.blocks.proofs.simple.targets.Given as goal

-- the destinations that are left, and the common mode of those judged
abbrev pub invariant-loop-front : goal.invariant-loop-front
invariant-loop-front l = (ds : Many Destination) → IsMany IsDestination ds l.nodes l.k → (es : Many Destination) × (c : Result (Option Mode) Refusal) × (m : Mode) × IsMany IsDestination es l.nodes l.at × (judge_target (env_means l.env) (first_of es) ≡ Ok m) × Answers (option_map (mode_means (facts l.env.text))) l.common c × IfOk c (Held m) × (judge_targets (env_means l.env) ds ≡ then (judge_targets (env_means l.env) es) (λ a. then c (λ i. Ok (meet a i))))

abbrev pub decreases-loop-front : goal.decreases-loop-front
decreases-loop-front l = l.at
