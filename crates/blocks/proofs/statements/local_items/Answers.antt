use Rattle.std.proofs.Common.{◌≡◌, ℕ, ◌+◌, ◌-◌, List, Result, length, sym, ap, ◌∙◌, subst, arith}
use Rattle.grammar.specs.Machine.{declareds, set, inblock}
use Rattle.nodes.specs.Nodes.{IsExpr, IsInit}
use Rattle.statics.specs.declared.Refusal.{Refusal}
use Rattle.statics.specs.Scopes.{Env}
use Rattle.statics.specs.Written.{item_names, list_names}
use Rattle.statics.specs.JudgeStatements.{judge_local_item, judge_local_items}
use Rattle.texts.specs.Facts.{facts}
use Rattle.modes.specs.Meanings.{mode_means}
use Rattle.scopes.specs.Meanings.{Answers}
use Rattle.lists.specs.Lists.{left, of_many, Stand}
use Rattle.frames.specs.Frames.{frame_means}
use Rattle.blocks.specs.Statements.{with_ready}
use Rattle.blocks.proofs.Joined.{both, both_behind, stepped, answers_same}
use Rattle.blocks.proofs.Declaring.{Items, named_many, listed_many, items_on, items_out}
use Rattle.blocks.proofs.statements.local_items.Goals as goal

pub loop-item-init : goal.loop-item-init
loop-item-init c is here room =
    let n : ℕ = c.args.ready - length (list_names is) in
    let behind : n + length (list_names is) ≡ c.args.ready = omega (arith, room) in
    let all = c.entries-item-items.ensures.repeated (declareds (set inblock)) is tt here in
    (n, behind, (of_many is, subst (λ (ks : List ℕ). Stand (IsInit IsExpr) (of_many is) c.args.nodes.now ks) (ap left (sym c.into_iter-item-iterator.ensures.into_iter_gives)) all, ap (λ (k : ℕ). n + k) (named_many is) ∙ behind, both_behind _ ∙ listed_many _ _ is))

pub loop-item-preserved : goal.loop-item-preserved
loop-item-preserved c is here room =
    let Γ = frame_means c.args.frame c.args.names.now in
    let m = mode_means (facts c.args.frame.text) c.args.mode in
    let x = c.loop-item.invariant is here room in
    let on = items_on Γ m c.args.nodes.now (left c.loop-item.item-iterator) c.in-Some.item (left c.next.new.self) x.0 c.loop-item.ready c.loop-item.result _ c.in-Some.ensures.steps x.2 in
    let p : c.loop-item.ready - length (item_names on.0) ≡ c.saturating_sub-ready.result = omega (arith, c.sharing.ensures on.0 on.1, c.saturating_sub-ready.ensures) in
    let a = subst (λ (Δ : Env). Answers (λ u. tt) c.local_item.result (judge_local_item Δ (mode_means Δ.text c.args.mode) on.0)) c.env-env.ensures.means (c.local_item.ensures on.0 on.1) in
    let b : both (judge_local_item (with_ready Γ (c.loop-item.ready - length (item_names on.0))) m on.0) c.loop-item.result ≡ c.and-result.result = ap (λ (k : ℕ). both (judge_local_item (with_ready Γ k) m on.0) c.loop-item.result) p ∙ stepped _ _ _ _ a c.and-result.ensures in
    let over = subst (λ (k : ℕ). Items Γ m c.args.nodes.now (left c.next.new.self) x.0 k (both (judge_local_item (with_ready Γ (c.loop-item.ready - length (item_names on.0))) m on.0) c.loop-item.result) (judge_local_items (with_ready Γ x.0) m is)) p on.3 in
    (x.0, x.1, subst (λ (r : Result (Unit {0}) Refusal). Items Γ m c.args.nodes.now (left c.next.new.self) x.0 c.saturating_sub-ready.result r (judge_local_items (with_ready Γ x.0) m is)) b over)

pub returns : goal.returns
returns c is here room =
    let Γ = frame_means c.args.frame c.args.names.now in
    let m = mode_means (facts c.args.frame.text) c.args.mode in
    let x = c.loop-item.invariant is here room in
    let out = items_out Γ m c.args.nodes.now (left c.loop-item.item-iterator) x.0 c.loop-item.ready c.loop-item.result _ c.in-None.ensures.steps.0 x.2 in
    (ap (λ (k : ℕ). k + length (list_names is)) (sym out.0) ∙ x.1, answers_same _ _ (out.1 ∙ ap (λ (k : ℕ). judge_local_items (with_ready Γ k) m is) out.0))
