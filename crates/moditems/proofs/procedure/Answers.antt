use Rattle.std.proofs.Common.{ℕ, refl, sym, ap, ◌∙◌, subst}
use Rattle.nodes.proofs.Results.{passed}
use Rattle.statics.specs.Scopes.{Env}
use Rattle.statics.specs.Order.{InBody}
use Rattle.statics.specs.Modules.{outermost}
use Rattle.statics.specs.JudgeStatements.{judge_body, judge_written}
use Rattle.statics.specs.JudgeModules.{judge_fields, judge_opt}
use Rattle.texts.specs.Facts.{facts}
use Rattle.scopes.specs.Meanings.{Answers}
use Rattle.scopes.proofs.Following.{stops, goes, answered}
use Rattle.frames.specs.Rooms.{Room}
use Rattle.blocks.proofs.Framing.{same_frame}
use Rattle.moditems.proofs.Items.{fewer, headed, within, entered}
use Rattle.moditems.proofs.procedure.Goals as goal

pub returns-in_err-parameters-clause-front : goal.returns-in_err-parameters-clause-front
returns-in_err-parameters-clause-front c = fewer c.args.frame.count _ _ _ c.declare_parameters-count.ensures.grows c.parameters.ensures.front ∙ c.declare_parameters-count.ensures.front

pub returns-in_err-parameters-clause-judged : goal.returns-in_err-parameters-clause-judged
returns-in_err-parameters-clause-judged c n i p q e ps m b at are gives is even room =
    let x = facts c.args.frame.text in
    let h = headed _ _ _ _ _ _ _ _ _ _ ps m at (sym c.in-Heading.ensures) are gives in
    let o = entered c.args.frame c.args.names.now c.declare_parameters-count.new.names c.declare_parameters-count.result n i ps m b e c.maybe_mode.result (c.declare_parameters-count.ensures.behind x c.args.frame.takes.now ps h.0) c.declare_parameters-count.ensures.length room even (c.maybe_mode.ensures m h.1 x) in
    passed _ _ c.from_residual.result c.from_residual.ensures.1 (stops _ _ _ (ap (λ (Δ : Env). judge_opt (judge_fields (outermost Δ b)) ps) (sym o.1) ∙ c.in_err-parameters.ensures.judged ps b h.0 is refl o.0))

pub returns-in_err-result_mode-clause-front : goal.returns-in_err-result_mode-clause-front
returns-in_err-result_mode-clause-front c = fewer c.args.frame.count _ _ _ c.declare_parameters-count.ensures.grows c.parameters.ensures.front ∙ c.declare_parameters-count.ensures.front

pub returns-in_err-result_mode-clause-judged : goal.returns-in_err-result_mode-clause-judged
returns-in_err-result_mode-clause-judged c n i p q e ps m b at are gives is even room =
    let x = facts c.args.frame.text in
    let h = headed _ _ _ _ _ _ _ _ _ _ ps m at (sym c.in-Heading.ensures) are gives in
    let o = entered c.args.frame c.args.names.now c.declare_parameters-count.new.names c.declare_parameters-count.result n i ps m b e c.maybe_mode.result (c.declare_parameters-count.ensures.behind x c.args.frame.takes.now ps h.0) c.declare_parameters-count.ensures.length room even (c.maybe_mode.ensures m h.1 x) in
    let front = fewer c.args.frame.count _ _ _ c.declare_parameters-count.ensures.grows c.parameters.ensures.front ∙ c.declare_parameters-count.ensures.front in
    let means = c.env.ensures.means ∙ same_frame c.args.frame c.parameters.new.names c.args.names.now front in
    passed _ _ c.from_residual-in_err-result_mode.result c.from_residual-in_err-result_mode.ensures.1 (goes _ _ _ (ap (λ (Δ : Env). judge_opt (judge_fields (outermost Δ b)) ps) (sym o.1) ∙ c.in_ok-parameters.ensures.judged ps b h.0 is refl o.0) ∙ stops _ _ _ (ap (λ (Δ : Env). judge_opt (judge_written Δ) m) (sym means) ∙ c.in_err-result_mode.ensures m h.1))

pub returns-clause-front : goal.returns-clause-front
returns-clause-front c = fewer c.args.frame.count _ _ _ c.declare_parameters-count.ensures.grows (c.body.ensures.front ∙ c.parameters.ensures.front) ∙ c.declare_parameters-count.ensures.front

pub returns-clause-judged : goal.returns-clause-judged
returns-clause-judged c n i p q e ps m b at are gives is even room =
    let x = facts c.args.frame.text in
    let h = headed _ _ _ _ _ _ _ _ _ _ ps m at (sym c.in-Heading.ensures) are gives in
    let o = entered c.args.frame c.args.names.now c.declare_parameters-count.new.names c.declare_parameters-count.result n i ps m b e c.maybe_mode.result (c.declare_parameters-count.ensures.behind x c.args.frame.takes.now ps h.0) c.declare_parameters-count.ensures.length room even (c.maybe_mode.ensures m h.1 x) in
    let front = fewer c.args.frame.count _ _ _ c.declare_parameters-count.ensures.grows c.parameters.ensures.front ∙ c.declare_parameters-count.ensures.front in
    let means = c.env.ensures.means ∙ same_frame c.args.frame c.parameters.new.names c.args.names.now front in
    let inner = subst (λ (k : ℕ). Room InBody b c.declare_parameters-count.result k) (sym c.parameters.ensures.length) o.0 in
    let inside = same_frame (within c.args.frame c.declare_parameters-count.result c.maybe_mode.result) c.parameters.new.names c.declare_parameters-count.new.names c.parameters.ensures.front ∙ o.1 in
    answered _ _ _ _ (goes _ _ _ (ap (λ (Δ : Env). judge_opt (judge_fields (outermost Δ b)) ps) (sym o.1) ∙ c.in_ok-parameters.ensures.judged ps b h.0 is refl o.0) ∙ goes _ _ _ (ap (λ (Δ : Env). judge_opt (judge_written Δ) m) (sym means) ∙ c.in_ok-result_mode.ensures m h.1)) (subst (λ (Δ : Env). Answers (λ u. tt) c.body.result (judge_body Δ b)) inside (c.body.ensures.judged b is refl inner))
