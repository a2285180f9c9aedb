use Rattle.std.proofs.Common.{◌≡◌, ℕ, ◌+◌, ◌-◌, ◌*◌, ◌<◌, ◌≤◌, Ok, Result, sym, ap, refl, ◌∙◌, arith}
use Rattle.grammar.specs.Machine.{entries}
use Rattle.grammar.specs.Trees.{Values}
use Rattle.nodes.specs.Nodes.{At}
use Rattle.nodes.specs.declared.Node.TheVariants.{Repeated}
use Rattle.nodes.proofs.Results.{passed}
use Rattle.statics.specs.declared.Refusal.{Refusal}
use Rattle.statics.specs.declared.Refusal.TheVariants.{Misfit}
use Rattle.statics.specs.JudgeExpressions.{then}
use Rattle.statics.specs.JudgeModules.{takes_string, judge_value, judge_values, judge_entry}
use Rattle.statics.specs.Values.{Want, how_many, times, total}
use Rattle.scopes.specs.Meanings.{env_means}
use Rattle.scopes.proofs.Following.{regrouped, whole}
use Rattle.texts.specs.Facts.{facts}
use Rattle.values.specs.Wants.{want_means}
use Rattle.values.proofs.Judged.{checked}
use Rattle.values.proofs.Summed.{as_many, loosened, summed}
use Rattle.values.proofs.Trees.{constant_there, signed_there, minus_signed_there, identifier_there, string_there, empty_list_there, list_there, no_value_there, repeated_there, once_there}
use Rattle.values.proofs.+values.Goals.{entry-in_default-via-in-Repeated+else-repeated-k, entry-in_default-via-in_default}
use Rattle.values.proofs.+values.Goals as goal

pub value-returns-in-Constant : goal.value-returns-in-Constant
value-returns-in-Constant t c v is = rw (constant_there c.args.nodes.now c.args.k c.in-Constant.item v (sym c.in-Constant.ensures) is) c.integer.ensures

pub value-returns-in-Signed : goal.value-returns-in-Signed
value-returns-in-Signed t c v is = rw (signed_there c.args.nodes.now c.args.k c.in-Signed.sign c.in-Signed.item v (sym c.in-Signed.ensures) is) c.integer-in-Signed.ensures

pub value-returns-in-MinusSigned : goal.value-returns-in-MinusSigned
value-returns-in-MinusSigned t c v is = rw (minus_signed_there c.args.nodes.now c.args.k c.in-MinusSigned.sign c.in-MinusSigned.item v (sym c.in-MinusSigned.ensures) is) c.integer-in-MinusSigned.ensures

pub value-returns-in-List-2 : goal.value-returns-in-List-2
value-returns-in-List-2 t c v is =
    let l = list_there c.args.nodes.now c.args.k c.in-List.item c.in-List.list v (sym c.in-List.ensures) is in
    absurd (omega (arith, l.2, c.if-list-k.false))

pub value-returns-in_err-thing-in-Identifier : goal.value-returns-in_err-thing-in-Identifier
value-returns-in_err-thing-in-Identifier t c v is =
    rw (identifier_there c.args.nodes.now c.args.k c.in-Identifier.item v (sym c.in-Identifier.ensures) is)
    (passed _ _ c.from_residual.result c.from_residual.ensures.1 (rw c.in_err-thing-in-Identifier.ensures refl))

pub value-returns-in_ok-thing-in-Identifier : goal.value-returns-in_ok-thing-in-Identifier
value-returns-in_ok-thing-in-Identifier t c v is =
    rw (identifier_there c.args.nodes.now c.args.k c.in-Identifier.item v (sym c.in-Identifier.ensures) is)
    (rw c.in_ok-thing-in-Identifier.ensures (checked c.check.result (Misfit c.in-Identifier.item) _ _ c.takes_name.ensures c.check.ensures))

pub value-returns-in-Literal : goal.value-returns-in-Literal
value-returns-in-Literal t c v is =
    let x = facts c.args.env.text in
    rw (string_there c.args.nodes.now c.args.k c.in-Literal.item v (sym c.in-Literal.ensures) is)
    (checked c.check-in-Literal.result (Misfit c.in-Literal.item) _ _ (c.takes_string.ensures ∙ ap (takes_string (want_means x c.args.want)) c.size.ensures) c.check-in-Literal.ensures)

pub value-returns-in-EmptyList : goal.value-returns-in-EmptyList
value-returns-in-EmptyList t c v is =
    rw (empty_list_there c.args.nodes.now c.args.k c.in-EmptyList.item v (sym c.in-EmptyList.ensures) is)
    (checked c.check-in-EmptyList.result (Misfit c.in-EmptyList.item) _ _ c.takes_list.ensures c.check-in-EmptyList.ensures)

pub value-returns-in_err-many-in-List : goal.value-returns-in_err-many-in-List
value-returns-in_err-many-in-List t c v is =
    let l = list_there c.args.nodes.now c.args.k c.in-List.item c.in-List.list v (sym c.in-List.ensures) is in
    rw l.1 (passed _ _ c.from_residual-in_err-many-in-List.result c.from_residual-in_err-many-in-List.ensures.1 (rw (c.in_err-many-in-List.ensures l.0 l.3) refl))

pub value-returns-in_ok-many-in-List : goal.value-returns-in_ok-many-in-List
value-returns-in_ok-many-in-List t c v is =
    let l = list_there c.args.nodes.now c.args.k c.in-List.item c.in-List.list v (sym c.in-List.ensures) is in
    let h = c.in_ok-many-in-List.ensures l.0 l.3 in
    rw l.1 (rw h.2 (checked c.check-in-List.result (Misfit c.in-List.item) _ _ (c.takes_list-in-List.ensures ∙ rw (h.0, h.1) refl) c.check-in-List.ensures))

pub value-returns-in_default : goal.value-returns-in_default
value-returns-in_default t c v is =
    let q = c.node_at.ensures in
    let d = c.in_default in
    absurd (no_value_there c.args.nodes.now c.args.k v (λ i a. d.not-Constant i (q ∙ a)) (λ s i a. d.not-Signed s i (q ∙ a)) (λ s i a. d.not-MinusSigned s i (q ∙ a)) (λ n a. d.not-Identifier n (q ∙ a)) (λ i a. d.not-Literal i (q ∙ a)) (λ i a. d.not-EmptyList i (q ∙ a)) (λ i r a. d.not-List i r (q ∙ a)) is)

pub entry-returns-in_err-value-in-Repeated : goal.entry-returns-in_err-value-in-Repeated
entry-returns-in_err-value-in-Repeated t c e is =
    let r = repeated_there c.args.nodes.now c.args.k c.in-Repeated.repeated c.in-Repeated.field-1 c.in-Repeated.times e (sym c.in-Repeated.ensures) is in
    rw r.1 (passed _ _ c.from_residual.result c.from_residual.ensures.1 (rw (← c.inner-wanted.ensures, c.in_err-value-in-Repeated.ensures r.0 r.3) refl))

pub entry-returns-in_err-check-in-Repeated : goal.entry-returns-in_err-check-in-Repeated
entry-returns-in_err-check-in-Repeated t c e is =
    let r = repeated_there c.args.nodes.now c.args.k c.in-Repeated.repeated c.in-Repeated.field-1 c.in-Repeated.times e (sym c.in-Repeated.ensures) is in
    let refused = rw (c.repeats.ensures (facts c.args.env.text), c.front_value.ensures r.0 r.3) at c.in_err-check-in-Repeated.ensures in
    rw r.1 (passed _ _ c.from_residual-in_err-check-in-Repeated.result c.from_residual-in_err-check-in-Repeated.ensures.1 (rw (← c.inner-wanted.ensures, c.in_ok-value-in-Repeated.ensures r.0 r.3) refused))

pub entry-returns-in_ok-check-in-Repeated : goal.entry-returns-in_ok-check-in-Repeated
entry-returns-in_ok-check-in-Repeated t c e is =
    let r = repeated_there c.args.nodes.now c.args.k c.in-Repeated.repeated c.in-Repeated.field-1 c.in-Repeated.times e (sym c.in-Repeated.ensures) is in
    let passed = rw (c.repeats.ensures (facts c.args.env.text), c.front_value.ensures r.0 r.3) at c.in_ok-check-in-Repeated.ensures in
    rw r.1 (c.value-in-Repeated.ensures, rw (← c.inner-wanted.ensures, c.in_ok-value-in-Repeated.ensures r.0 r.3) passed)

pub entry-returns-in_err-value-in_default : goal.entry-returns-in_err-value-in_default
entry-returns-in_err-value-in_default t c e is =
    let other : (r i n : ℕ) → r < c.args.k → At c.args.nodes.now c.args.k (Repeated r i n) → ⊥ = λ r i n below a.
    elim c.in_default.branch [
      | entry-in_default-via-in-Repeated+else-repeated-k w ↦ let q : w.in-Repeated.repeated ≡ r = cc (w.in-Repeated.is, c.node_at.ensures, a) in omega (arith, q, below, w.if-repeated-k.false)
      | entry-in_default-via-in_default w ↦ w.in_default.not-Repeated r i n (c.node_at.ensures ∙ a)
    ] in
    let s = once_there c.args.nodes.now c.args.k e other is in
    rw s.1 (passed _ _ c.from_residual-in_err-value-in_default.result c.from_residual-in_err-value-in_default.ensures.1 (ap (λ (w : Want). judge_value (env_means c.args.env) w s.0) (sym c.inner-wanted.ensures) ∙ c.in_err-value-in_default.ensures s.0 s.2))

pub entry-returns-in_ok-value-in_default : goal.entry-returns-in_ok-value-in_default
entry-returns-in_ok-value-in_default t c e is =
    let other : (r i n : ℕ) → r < c.args.k → At c.args.nodes.now c.args.k (Repeated r i n) → ⊥ = λ r i n below a.
    elim c.in_default.branch [
      | entry-in_default-via-in-Repeated+else-repeated-k w ↦ let q : w.in-Repeated.repeated ≡ r = cc (w.in-Repeated.is, c.node_at.ensures, a) in omega (arith, q, below, w.if-repeated-k.false)
      | entry-in_default-via-in_default w ↦ w.in_default.not-Repeated r i n (c.node_at.ensures ∙ a)
    ] in
    let s = once_there c.args.nodes.now c.args.k e other is in
    rw s.1 (refl, ap (λ (w : Want). judge_value (env_means c.args.env) w s.0) (sym c.inner-wanted.ensures) ∙ c.in_ok-value-in_default.ensures s.0 s.2)

pub values-loop-front-init : goal.values-loop-front-init
values-loop-front-init t c = (
  omega arith,
  omega arith,
  λ vs is.
      (vs, Ok tt, is, c.how_many-many.ensures.counted entries vs tt is ∙ as_many vs, whole _, (omega arith, refl)),
)

pub values-loop-front-preserved : goal.values-loop-front-preserved
values-loop-front-preserved t c =
    let inv = c.loop-front.invariant in
    let lower = c.in-Some.ensures.lower in
    let b = 65535 * c.args.list - 65535 * c.loop-front.at in
    let few = c.added-places.ensures.few b (loosened (λ p. p + 65535 * c.loop-front.at ≤ 65535 * c.args.list) (λ p. p ≤ b) (λ p h. omega (arith, h)) c.loop-front.places inv.1) in (
      omega (arith, inv.0, lower.0),
      loosened (λ s. s ≤ b + 65535) (λ s. s + 65535 * c.in-Some.front ≤ 65535 * c.args.list) (λ s h. omega (arith, h, inv.0, lower.0)) c.added-places.result few,
      λ vs is.
          let f = inv.2 vs is in
          let x = c.in-Some.ensures.values f.0 f.2 in
          let n : c.saturating_sub-before.result ≡ how_many x.0 = omega (arith, c.saturating_sub-before.ensures, f.3, ap how_many x.4) in
          let Γ = env_means c.args.env in
          let w = want_means (facts c.args.env.text) c.args.want in
          let g = (facts c.args.env.text).value in
          let y = judge_entry Γ w (how_many x.0) x.1 in
          let r : Result (Unit {0}) Refusal = then y (λ u. f.1) in
          let same = f.4 ∙ ap (λ (us : Values). then (judge_values Γ w us) (λ u. f.1)) x.4 ∙ regrouped _ y f.1 in
          (x.0, r, x.2, n, same, rw c.added-places.ensures.sum (summed (total g x.0) (times g x.1) (total g x.0 + times g x.1) (total g vs) refl y f.1 c.entry.result c.loop-front.places (rw n at (c.entry.ensures x.1 x.3)) (rw x.4 at f.5))),
    )

pub values-returns : goal.values-returns
values-returns t c vs is =
    let f = c.loop-front.invariant.2 vs is in
    let x = c.in_default.ensures.values f.0 f.2 in
    let Γ = env_means c.args.env in
    let w = want_means (facts c.args.env.text) c.args.want in
    let g = (facts c.args.env.text).value in
    let same = f.4 ∙ ap (λ (us : Values). then (judge_values Γ w us) (λ u. f.1)) x.2 in
    let all = rw (← c.added.ensures.sum, c.in_ok-places.was) at (summed 0 (times g x.0) (times g x.0) (total g vs) (omega arith) (judge_entry Γ w 0 x.0) f.1 c.entry-2.result c.loop-front.places (c.entry-2.ensures x.0 x.1) (rw x.2 at f.5)) in
    (c.how_many-many.ensures.counted entries vs tt is ∙ as_many vs, omega (arith, all.0), same ∙ all.1)

pub values-returns-in_err-places : goal.values-returns-in_err-places
values-returns-in_err-places t c vs is =
    let f = c.loop-front.invariant.2 vs is in
    let x = c.in_default.ensures.values f.0 f.2 in
    let Γ = env_means c.args.env in
    let w = want_means (facts c.args.env.text) c.args.want in
    let g = (facts c.args.env.text).value in
    let same = f.4 ∙ ap (λ (us : Values). then (judge_values Γ w us) (λ u. f.1)) x.2 in
    let all = rw (← c.added.ensures.sum, c.in_err-places.was) at (summed 0 (times g x.0) (times g x.0) (total g vs) (omega arith) (judge_entry Γ w 0 x.0) f.1 c.entry-2.result c.loop-front.places (c.entry-2.ensures x.0 x.1) (rw x.2 at f.5)) in
    passed _ _ c.from_residual.result c.from_residual.ensures.1 (same ∙ all)
