use Rattle.std.proofs.Common.{Ok, Err, length, sym, ap, subst, ◌∙◌}
use Rattle.statics.specs.Scopes.{Env}
use Rattle.statics.specs.Order.{InModule}
use Rattle.statics.specs.JudgeExpressions.{judge_each}
use Rattle.statics.specs.JudgeModules.{judge_moditem}
use Rattle.texts.specs.Facts.{facts}
use Rattle.scopes.specs.Meanings.{env_means}
use Rattle.frames.specs.Rooms.{Room}
use Rattle.nodes.proofs.Results.{passed}
use Rattle.scopes.proofs.Following.{answered}
use Rattle.inventory.proofs.Whole.{named_items, named_count}
use Rattle.checker.proofs.Staged.{counted, in_module, spaced, twice_wrong, module_wrong, space_wrong, space_right}
use Rattle.checker.proofs.stages.Goals as goal

pub returns-in_err-declared_twice : goal.returns-in_err-declared_twice
returns-in_err-declared_twice c m is room filled big =
    passed _ _ c.from_residual.result c.from_residual.ensures.1 (twice_wrong (facts c.args.frame.text) m _ (c.in_err-declared_twice.ensures.judged m is room filled.few (named_items c.args.frame c.args.names.now m filled.named)))

pub returns-in_err-module : goal.returns-in_err-module
returns-in_err-module c m is room filled big =
    let x = facts c.args.frame.text in
    let env = in_module c.args.frame m c.args.names.now c.declared_twice.new.names c.in_ok-declared_twice.ensures.front filled in
    let twice = c.in_ok-declared_twice.ensures.judged m is room filled.few (named_items c.args.frame c.args.names.now m filled.named) in
    let judged = c.in_err-module.ensures.judged m is filled.even (named_count c.args.frame c.args.names.now m (counted c.args.frame m c.args.names.now filled) filled.named) (subst (λ n. Room InModule m 0 n) (sym c.in_ok-declared_twice.ensures.length) room) in
    passed _ _ c.from_residual-in_err-module.result c.from_residual-in_err-module.ensures.1 (module_wrong x m _ twice (ap (λ (Γ : Env). judge_each (judge_moditem Γ) m) (sym env) ∙ judged))

pub returns-in_err-space : goal.returns-in_err-space
returns-in_err-space c m is room filled big =
    let x = facts c.args.frame.text in
    let env = in_module c.args.frame m c.args.names.now c.declared_twice.new.names c.in_ok-declared_twice.ensures.front filled in
    let later = in_module c.args.frame m c.args.names.now c.module.new.names (c.in_ok-module.ensures.front ∙ c.in_ok-declared_twice.ensures.front) filled in
    let twice = c.in_ok-declared_twice.ensures.judged m is room filled.few (named_items c.args.frame c.args.names.now m filled.named) in
    let judged = c.in_ok-module.ensures.judged m is filled.even (named_count c.args.frame c.args.names.now m (counted c.args.frame m c.args.names.now filled) filled.named) (subst (λ n. Room InModule m 0 n) (sym c.in_ok-declared_twice.ensures.length) room) in
    passed _ _ c.from_residual-in_err-space.result c.from_residual-in_err-space.ensures.1 (space_wrong x m _ twice (ap (λ (Γ : Env). judge_each (judge_moditem Γ) m) (sym env) ∙ judged) (spaced m (length c.args.charges.now) (Err c.in_err-space.field-0.0) x (env_means c.env.result) (c.env.ensures.means ∙ later) (c.in_err-space.ensures m is) big))

pub returns : goal.returns
returns c m is room filled big =
    let x = facts c.args.frame.text in
    let env = in_module c.args.frame m c.args.names.now c.declared_twice.new.names c.in_ok-declared_twice.ensures.front filled in
    let later = in_module c.args.frame m c.args.names.now c.module.new.names (c.in_ok-module.ensures.front ∙ c.in_ok-declared_twice.ensures.front) filled in
    let twice = c.in_ok-declared_twice.ensures.judged m is room filled.few (named_items c.args.frame c.args.names.now m filled.named) in
    let count = named_count c.args.frame c.args.names.now m (counted c.args.frame m c.args.names.now filled) filled.named in
    let room_on = subst (λ n. Room InModule m 0 n) (sym c.in_ok-declared_twice.ensures.length) room in
    let judged = c.in_ok-module.ensures.judged m is filled.even count room_on in
    let space = spaced m (length c.args.charges.now) (Ok c.in_ok-space.field-0) x (env_means c.env.result) (c.env.ensures.means ∙ later) (c.in_ok-space.ensures m is) big in
    answered _ _ _ _ (space_right x m twice (ap (λ (Γ : Env). judge_each (judge_moditem Γ) m) (sym env) ∙ judged) space) (c.crowds.ensures.judged (facts c.args.frame.text) m is (subst (λ n. Room InModule m 0 n) (sym c.in_ok-module.ensures.length) room_on) count)
