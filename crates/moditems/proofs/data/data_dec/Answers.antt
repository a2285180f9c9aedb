use Rattle.std.proofs.Common.{◌≡◌, Result, sym, ap, subst, ◌∙◌}
use Rattle.statics.specs.declared.Refusal.{Refusal}
use Rattle.statics.specs.Values.{several}
use Rattle.statics.specs.Written.{element_of}
use Rattle.statics.specs.JudgeExpressions.{judge_each}
use Rattle.statics.specs.JudgeModules.{judge_data_item}
use Rattle.texts.specs.Facts.{facts}
use Rattle.modes.specs.Meanings.{element_means}
use Rattle.scopes.specs.Meanings.{env_means, Answers}
use Rattle.moditems.proofs.Arrayed.{arrayed}
use Rattle.moditems.proofs.data.data_dec.Goals as goal

pub returns-in_ok-written-in-Arrays : goal.returns-in_ok-written-in-Arrays
returns-in_ok-written-in-Arrays c d there =
    let x = arrayed _ _ d _ _ _ _ (sym c.in-Arrays.ensures) there in
    let w : several ((facts c.args.env.text).value c.in-Arrays.length) (element_of (facts c.args.env.text) x.0) ≡ several c.value.result (element_means (facts c.args.env.text) c.element_at.result) = cc (c.value.ensures, c.element_at.ensures x.0 x.2 (facts c.args.env.text)) in
    subst (λ (j : Result (Unit {0}) Refusal). Answers (λ u. tt) c.data_items-in-Arrays.result j) (sym (x.4 (env_means c.args.env) (c.in_ok-written-in-Arrays.ensures.element x.0 x.2) ∙ ap (λ v. judge_each (judge_data_item (env_means c.args.env) v) x.1) w)) (c.data_items-in-Arrays.ensures x.1 x.3)
