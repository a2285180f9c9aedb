use Rattle.std.proofs.Common.{Err, sym, ap, ◌∙◌}
use Rattle.statics.specs.declared.Refusal.TheVariants.{Misfit}
use Rattle.statics.specs.Fronts.{front}
use Rattle.statics.specs.JudgeExpressions.{check}
use Rattle.texts.specs.Facts.{facts}
use Rattle.scopes.specs.Meanings.{env_means}
use Rattle.nodes.proofs.Results.{passed}
use Rattle.scopes.proofs.Following.{stops, goes}
use Rattle.blocks.proofs.Comparing.{compares}
use Rattle.blocks.proofs.conditions.comparison.Goals as goal

pub returns-in_err-a : goal.returns-in_err-a
returns-in_err-a c t is =
    let x = compares (env_means c.args.env) _ _ t _ _ _ (sym c.in-Compare.ensures) is in
    passed _ _ c.from_residual.result c.from_residual.ensures.1 (x.6 ∙ stops _ _ _ (rw (c.compared-need.ensures x.1 x.3 (facts c.args.env.text)) at (c.in_err-a.ensures _ x.0 x.4)))

pub returns-in_err-b : goal.returns-in_err-b
returns-in_err-b c t is =
    let x = compares (env_means c.args.env) _ _ t _ _ _ (sym c.in-Compare.ensures) is in
    let need = c.compared-need.ensures x.1 x.3 (facts c.args.env.text) in
    passed _ _ c.from_residual-in_err-b.result c.from_residual-in_err-b.ensures.1 (x.6 ∙ goes _ _ _ (rw need at (c.in_ok-a.ensures _ x.0 x.4)) ∙ stops _ _ _ (rw need at (c.in_err-b.ensures _ x.2 x.5)))

pub returns-then-agree : goal.returns-then-agree
returns-then-agree c t is =
    let x = compares (env_means c.args.env) _ _ t _ _ _ (sym c.in-Compare.ensures) is in
    let need = c.compared-need.ensures x.1 x.3 (facts c.args.env.text) in
    x.6 ∙ goes _ _ _ (rw need at (c.in_ok-a.ensures _ x.0 x.4)) ∙ goes _ _ _ (rw need at (c.in_ok-b.ensures _ x.2 x.5)) ∙ ap (λ b. check b (Misfit (front x.0))) (sym (c.agree.ensures x.1 x.3) ∙ c.if-agree.true)

pub returns-else-agree : goal.returns-else-agree
returns-else-agree c t is =
    let x = compares (env_means c.args.env) _ _ t _ _ _ (sym c.in-Compare.ensures) is in
    let need = c.compared-need.ensures x.1 x.3 (facts c.args.env.text) in
    x.6 ∙ goes _ _ _ (rw need at (c.in_ok-a.ensures _ x.0 x.4)) ∙ goes _ _ _ (rw need at (c.in_ok-b.ensures _ x.2 x.5)) ∙ ap (λ b. check b (Misfit (front x.0))) (sym (c.agree.ensures x.1 x.3) ∙ c.if-agree.false) ∙ ap (λ i. Err (Misfit i)) (sym (c.front.ensures.expression _ x.0 x.4))
