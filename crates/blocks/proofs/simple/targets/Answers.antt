use Rattle.std.proofs.Common.{◌≡◌, Ok, Result, Option, Some, sym, ap, refl, ◌∙◌}
use Rattle.grammar.specs.Trees.{Many, Destination}
use Rattle.nodes.proofs.Results.{passed}
use Rattle.statics.specs.declared.Refusal.{Refusal}
use Rattle.statics.specs.Modes.{Mode}
use Rattle.statics.specs.JudgeExpressions.{then}
use Rattle.statics.specs.JudgeStatements.{join, judge_target, judge_targets}
use Rattle.texts.specs.Facts.{facts}
use Rattle.modes.specs.Meanings.{mode_means}
use Rattle.scopes.specs.Meanings.{env_means}
use Rattle.scopes.proofs.Following.{answered}
use Rattle.blocks.specs.Statements.{first_of}
use Rattle.blocks.proofs.Agreeing.{meet, held, held_behind, one_more, none_behind, all_behind, fails}
use Rattle.blocks.proofs.simple.targets.Goals as goal

pub returns-in_err-first : goal.returns-in_err-first
returns-in_err-first c ds is =
    passed _ _ c.from_residual.result c.from_residual.ensures.1 (fails (env_means c.args.env) ds _ (c.in_err-first.ensures (first_of ds) (c.first_target.ensures ds is)))

pub loop-front-init : goal.loop-front-init
loop-front-init c ds is =
    let m = mode_means (facts c.args.env.text) c.in_ok-first.first in
    (ds, Ok (Some m), m, is, c.in_ok-first.ensures (first_of ds) (c.first_target.ensures ds is), refl, refl, none_behind m (judge_targets (env_means c.args.env) ds))

pub loop-front-preserved : goal.loop-front-preserved
loop-front-preserved c ds is =
    let f = c.loop-front.invariant ds is in
    let x = c.in-Some.ensures.destinations f.0 f.3 in
    let Γ = env_means c.args.env in
    let first : judge_target Γ (first_of x.0) ≡ Ok f.2 = ap (λ (es : Many Destination). judge_target Γ (first_of es)) (sym x.4) ∙ f.4 in
    let t = judge_target Γ x.1 in
    let behind : Result (Option Mode) Refusal = then t (λ k. then f.1 (λ a. Ok (join a k))) in
    (x.0, behind, f.2, x.2, first, c.met-common.ensures t f.1 (c.target-in-Some.ensures x.1 x.3) f.5, held_behind f.2 t f.1 f.6, f.7 ∙ ap (λ (es : Many Destination). then (judge_targets Γ es) (λ a. then f.1 (λ i. Ok (meet a i)))) x.4 ∙ one_more f.2 (judge_targets Γ x.0) t f.1 (held Γ f.2 x.0 first) f.6)

pub returns : goal.returns
returns c ds is =
    let f = c.loop-front.invariant ds is in
    let x = c.in_default.ensures.destinations f.0 f.3 in
    let Γ = env_means c.args.env in
    let first : judge_target Γ x.0 ≡ Ok f.2 = ap (λ (es : Many Destination). judge_target Γ (first_of es)) (sym x.2) ∙ f.4 in
    answered _ _ _ _ (f.7 ∙ ap (λ (es : Many Destination). then (judge_targets Γ es) (λ a. then f.1 (λ i. Ok (meet a i)))) x.2 ∙ all_behind f.2 (judge_target Γ x.0) f.1 first f.6) f.5
