use Rattle.std.proofs.Common.{◌≡◌, ℕ, suc, ◌-◌, Ok, Result, sym, refl, ap, ◌∙◌, option_map, map, slice_get, arith}
use Rattle.std.proofs.lemmas.Option.{slice_get-map}
use Rattle.grammar.specs.Machine.{exprs}
use Rattle.grammar.specs.Trees.{Exprs, element}
use Rattle.statics.specs.Modes.{Mode, BYTE, Thing, value}
use Rattle.statics.specs.declared.Refusal.{Refusal}
use Rattle.statics.specs.Fronts.{spot}
use Rattle.statics.specs.Expressions.{figure, operand, outcome, argument, count}
use Rattle.statics.specs.JudgeExpressions.{then, bring, look, stands, pass, judge, judge_variable, judge_args}
use Rattle.texts.specs.Facts.{facts}
use Rattle.modes.specs.declared.Thing.TheVariants.{Value}
use Rattle.modes.specs.Meanings.{mode_means, thing_means, need_means}
use Rattle.scopes.specs.Meanings.{env_means}
use Rattle.nodes.proofs.Results.{passed}
use Rattle.judging.specs.Chains.{before}
use Rattle.judging.specs.Openings.{layers, layer}
use Rattle.judging.proofs.Beginnings.{monadic_spot}
use Rattle.judging.proofs.Chains.{behind_it, last_one, one_more, apt}
use Rattle.judging.proofs.Layers.{innermost, same_front, layered}
use Rattle.scopes.proofs.Following.{stops, goes, answered, joined, counted, kept, regrouped, whole}
use Rattle.judging.proofs.Standing.{as_many, inward, found, placed, judged, left_over, left_over_place, named, unnamed, fails}
use Rattle.judging.proofs.+expressions.Goals as goal
use Rattle.judging.proofs.+expressions.Goals.{judge-in_default-via-in-Dyadic+then-left-k+else-right-k, judge-in_default-via-in-Dyadic+else-left-k, judge-in_default-via-in-Monadic+else-inner-k, judge-in_default-via-in_default}
use Rattle.judging.proofs.+expressions.Goals.{layered-in_default-via-in-Element+else-index-k, layered-in_default-via-in_default}
use Rattle.judging.proofs.+expressions.Goals.{primary-in_default-via-in-CallOn+else-list-k, primary-in_default-via-in-Paren+else-inner-k, primary-in_default-via-in-Element+else-index-k, primary-in_default-via-in_default}

pub primary-returns-in_err-signature-in-Call : goal.primary-returns-in_err-signature-in-Call
primary-returns-in_err-signature-in-Call t c n e is d m =
    let x = judged (env_means c.args.env) _ _ e _ (sym c.in-Call.ensures) is in
    passed _ _ c.from_residual.result c.from_residual.ensures.1 (x ∙ stops _ _ _ c.in_err-signature-in-Call.ensures)

pub primary-returns-in_err-signature-in-CallOn : goal.primary-returns-in_err-signature-in-CallOn
primary-returns-in_err-signature-in-CallOn t c n e is d m =
    let x = judged (env_means c.args.env) _ _ e _ (sym c.in-CallOn.ensures) is in
    passed _ _ c.from_residual-in_err-signature-in-CallOn.result c.from_residual-in_err-signature-in-CallOn.ensures.1 (x.3 ∙ stops _ _ _ c.in_err-signature-in-CallOn.ensures)

pub primary-returns-in_err-count-in-CallOn : goal.primary-returns-in_err-count-in-CallOn
primary-returns-in_err-count-in-CallOn t c n e is d m =
    let x = judged (env_means c.args.env) _ _ e _ (sym c.in-CallOn.ensures) is in
    passed _ _ c.from_residual-in_err-count-in-CallOn.result c.from_residual-in_err-count-in-CallOn.ensures.1 (x.3 ∙ goes _ _ _ c.in_ok-signature-in-CallOn.ensures ∙ stops _ _ _ (rw c.parameters.ensures at (c.in_err-count-in-CallOn.ensures.judged x.0 x.2)))

pub primary-returns-in-Integer : goal.primary-returns-in-Integer
primary-returns-in-Integer t c n e is d m = judged (env_means c.args.env) _ _ e _ (sym c.in-Integer.ensures) is ∙ ap Ok (sym (c.figure.ensures (facts c.args.env.text) ∙ ap figure c.value.ensures))

pub primary-returns-in-Text : goal.primary-returns-in-Text
primary-returns-in-Text t c n e is d m = judged (env_means c.args.env) _ _ e _ (sym c.in-Text.ensures) is

pub primary-returns-in_ok-signature-in-Call : goal.primary-returns-in_ok-signature-in-Call
primary-returns-in_ok-signature-in-Call t c n e is d m =
    let x = judged (env_means c.args.env) _ _ e _ (sym c.in-Call.ensures) is in
    answered _ _ _ _ (x ∙ goes _ _ _ c.in_ok-signature-in-Call.ensures) c.yielded.ensures

pub primary-returns-in_ok-count-in-CallOn : goal.primary-returns-in_ok-count-in-CallOn
primary-returns-in_ok-count-in-CallOn t c n e is d m =
    let x = judged (env_means c.args.env) _ _ e _ (sym c.in-CallOn.ensures) is in
    let y = c.in_ok-count-in-CallOn.ensures.judged x.0 x.2 in
    answered _ _ _ _ (x.3 ∙ goes _ _ _ c.in_ok-signature-in-CallOn.ensures ∙ goes _ _ _ (rw c.parameters.ensures at y.1)) (rw y.0 at c.yielded-in-CallOn.ensures)

pub primary-returns-in-Paren : goal.primary-returns-in-Paren
primary-returns-in-Paren t c n e is d m =
    let x = judged (env_means c.args.env) _ _ e _ (sym c.in-Paren.ensures) is in
    answered _ _ _ _ x.3 (c.judge.ensures _ x.0 x.2)

pub primary-returns-in-Name : goal.primary-returns-in-Name
primary-returns-in-Name t c n e is d m =
    let x = judged (env_means c.args.env) _ _ e _ (sym c.in-Element.ensures) is in
    answered _ _ _ _ (x.6 ∙ named (env_means c.args.env) _ _ _ _ x.0 _ (sym c.in-Name.ensures) x.3) (c.headed.ensures _ x.1 x.4)

pub primary-returns-in_default-node_at : goal.primary-returns-in_default-node_at
primary-returns-in_default-node_at t c n e is d m =
    let x = judged (env_means c.args.env) _ _ e _ (sym c.in-Element.ensures) is in
    answered _ _ _ _ (x.6 ∙ unnamed (env_means c.args.env) _ _ _ _ x.0 (λ m at. c.in_default-node_at.not-Name m (c.node_at-in-Element.ensures ∙ at)) x.3) (c.variable.ensures (element x.0 _ x.1) x.5)

pub primary-returns-in_default : goal.primary-returns-in_default
primary-returns-in_default t c n e is d m = elim c.in_default.branch [
  | primary-in_default-via-in-CallOn+else-list-k w ↦ let x = judged (env_means c.args.env) _ _ e _ (sym w.in-CallOn.ensures) is in absurd (omega (arith, x.1))
  | primary-in_default-via-in-Paren+else-inner-k w ↦ let x = judged (env_means c.args.env) _ _ e _ (sym w.in-Paren.ensures) is in absurd (omega (arith, x.1))
  | primary-in_default-via-in-Element+else-index-k w ↦ let x = judged (env_means c.args.env) _ _ e _ (sym w.in-Element.ensures) is in absurd (omega (arith, x.2))
  | primary-in_default-via-in_default w ↦ let x = left_over (env_means c.args.env) c.args.nodes.now c.args.k c.node_at.result _ (judged (env_means c.args.env) _ _ e _ (sym c.node_at.ensures) is) (λ o i l r at. d o i l r (sym c.node_at.ensures ∙ at)) (λ o i r at. m o i r (sym c.node_at.ensures ∙ at)) w.in_default.not-Integer w.in_default.not-Text w.in_default.not-Call w.in_default.not-CallOn w.in_default.not-Paren w.in_default.not-Element in
      answered _ _ _ _ x.2 (c.variable-in_default.ensures x.0 x.1)
]

pub judge-returns-in_default : goal.judge-returns-in_default
judge-returns-in_default t c n e is = elim c.in_default.branch [
  | judge-in_default-via-in-Dyadic+then-left-k+else-right-k w ↦ let x = judged (env_means c.args.env) _ _ e _ (sym w.in-Dyadic.ensures) is in absurd (omega (arith, x.6))
  | judge-in_default-via-in-Dyadic+else-left-k w ↦ let x = judged (env_means c.args.env) _ _ e _ (sym w.in-Dyadic.ensures) is in absurd (omega (arith, x.5))
  | judge-in_default-via-in-Monadic+else-inner-k w ↦ let x = judged (env_means c.args.env) _ _ e _ (sym w.in-Monadic.ensures) is in absurd (omega (arith, x.3))
  | judge-in_default-via-in_default w ↦ c.primary.ensures n e is (λ o i l r at. w.in_default.not-Dyadic o i l r (c.node_at.ensures ∙ at)) (λ o i r at. w.in_default.not-Monadic o i r (c.node_at.ensures ∙ at))
]

pub judge-returns-in-Dyadic : goal.judge-returns-in-Dyadic
judge-returns-in-Dyadic t c n e is =
    let x = judged (env_means c.args.env) _ _ e _ (sym c.in-Dyadic.ensures) is in
    let f = facts c.args.env.text in
    let y = bring (operand x.2) (spot x.3) (judge (env_means c.args.env) x.3) in
    let last = c.behind-whole.ensures _ x.2 x.4 f y (Ok BYTE) (rw (c.operand-need.ensures _ x.2 x.4 f) at (c.brought.ensures _ x.3 x.8)) refl in
    answered _ _ _ _ (x.9 ∙ last_one x.2 _ y) (rw (c.operand-need.ensures _ x.2 x.4 f) at (c.operated.ensures _ x.1 x.7 (behind_it x.2 y (Ok BYTE)) last) (apt x.2 y (Ok BYTE)))

pub judge-returns-in-Monadic : goal.judge-returns-in-Monadic
judge-returns-in-Monadic t c n e is =
    let x = judged (env_means c.args.env) _ _ e _ (sym c.in-Monadic.ensures) is in
    let f = facts c.args.env.text in
    answered _ _ _ _ x.5 (rw (c.argument.ensures x.1 x.2 f) at (c.signed.ensures _ x.0 x.4 (Ok (value (outcome x.1))) (ap (λ (m : Mode). Ok (value m)) (sym (c.outcome.ensures x.1 x.2 f)))))

pub operated-loop-operator-preserved : goal.operated-loop-operator-preserved
operated-loop-operator-preserved t c =
    let inv = c.loop-operator.invariant in (
      omega (arith, inv.0, c.if-left-at.true),
      λ n e is v av av2.
          let f = inv.1 n e is v av av2 in
          let x = judged (env_means c.args.env) _ _ f.1 _ (sym c.in-Dyadic.ensures) f.3 in
          let t = facts c.args.env.text in
          let need = c.operand-need.ensures _ x.2 x.4 t in
          let y = bring (operand x.2) (spot x.3) (judge (env_means c.args.env) x.3) in
          let on = c.behind-whole.ensures _ x.2 x.4 t y f.2 (rw need at (c.brought.ensures _ x.3 x.8)) f.4 in
          let same = f.6 ∙ ap (λ (j : Result Thing Refusal). before (need_means t c.loop-operator.need) (spot f.1) j f.2) x.9 ∙ one_more x.2 _ _ _ y f.2 f.5 in
          (_, x.1, behind_it x.2 y f.2, x.7, on, rw need (apt x.2 y f.2), rw need same),
    )

pub operated-returns-in_default : goal.operated-returns-in_default
operated-returns-in_default t c n e is w aw aw2 =
    let f = c.loop-operator.invariant.1 n e is w aw aw2 in
    f.6 ∙ goes _ _ _ (c.in_ok-mode-in_default.ensures _ f.1 f.3) ∙ goes _ _ _ (rw c.in_ok-whole-in_default.was at f.4) ∙ ap (λ (m : Mode). Ok (value m)) (sym (c.combined.ensures (facts c.args.env.text)))

pub operated-returns-in_err-mode-in_default : goal.operated-returns-in_err-mode-in_default
operated-returns-in_err-mode-in_default t c n e is w aw aw2 =
    let f = c.loop-operator.invariant.1 n e is w aw aw2 in
    passed _ _ c.from_residual.result c.from_residual.ensures.1 (f.6 ∙ stops _ _ _ (c.in_err-mode-in_default.ensures _ f.1 f.3))

pub operated-returns-in_err-whole-in_default : goal.operated-returns-in_err-whole-in_default
operated-returns-in_err-whole-in_default t c n e is w aw aw2 =
    let f = c.loop-operator.invariant.1 n e is w aw aw2 in
    passed _ _ c.from_residual-in_err-whole-in_default.result c.from_residual-in_err-whole-in_default.ensures.1 (f.6 ∙ goes _ _ _ (c.in_ok-mode-in_default.ensures _ f.1 f.3) ∙ stops _ _ _ (rw c.in_err-whole-in_default.was at f.4))

pub signed-loop-operator-preserved : goal.signed-loop-operator-preserved
signed-loop-operator-preserved t c =
    let inv = c.loop-operator.invariant in (
      omega (arith, inv.0, c.if-inner-at.true),
      λ n e is v av.
          let f = inv.1 n e is v av in
          let x = judged (env_means c.args.env) _ _ f.1 _ (sym c.in-Monadic.ensures) f.3 in
          let t = facts c.args.env.text in
          let need = c.argument-need.ensures x.1 x.2 t in
          let s = monadic_spot c.args.nodes.now f.1 c.loop-operator.at c.in-Monadic.item c.in-Monadic.inner c.in-Monadic.operator (sym c.in-Monadic.ensures) f.3 in
          let on = joined (mode_means t) (thing_means t) c.bring.result c.loop-operator.whole _ f.2 c.bring.ensures f.4 in
          let out : value (outcome x.1) ≡ thing_means t (Value c.outcome.result) = ap value (sym (c.outcome.ensures x.1 x.2 t)) in
          let w = then (bring (need_means t c.loop-operator.need) c.in-Monadic.item (Ok (thing_means t (Value c.outcome.result)))) (λ m. f.2) in
          let same = f.5 ∙ ap (λ (j : Result Thing Refusal). then (bring (need_means t c.loop-operator.need) (spot f.1) j) (λ m. f.2)) x.5 ∙ inward (bring (argument x.1) (spot x.0) (judge (env_means c.args.env) x.0)) (need_means t c.loop-operator.need) (spot f.1) (value (outcome x.1)) f.2 in
          let moved : (i : ℕ) (u : Thing) → spot f.1 ≡ i → value (outcome x.1) ≡ u → then (bring (argument x.1) (spot x.0) (judge (env_means c.args.env) x.0)) (λ m. then (bring (need_means t c.loop-operator.need) (spot f.1) (Ok (value (outcome x.1)))) (λ k. f.2)) ≡ then (bring (argument x.1) (spot x.0) (judge (env_means c.args.env) x.0)) (λ m. then (bring (need_means t c.loop-operator.need) i (Ok u)) (λ k. f.2)) = λ i u a b. rw (a, b) refl in
          (_, x.0, w, x.4, rw c.and-whole.ensures on, rw need (same ∙ moved _ _ s out)),
    )

pub signed-returns-in_default : goal.signed-returns-in_default
signed-returns-in_default t c n e is w aw =
    let f = c.loop-operator.invariant.1 n e is w aw in
    let u = facts c.args.env.text in
    answered _ _ _ _ f.5 (rw c.and.ensures (joined (mode_means u) (thing_means u) c.brought.result c.loop-operator.whole _ f.2 (c.brought.ensures _ f.1 f.3) f.4))

pub variable-loop-depth-init : goal.variable-loop-depth-init
variable-loop-depth-init t c v is =
    let d = c.layers-depth.ensures v is in
    (omega (arith, d), c.front-name.ensures.variable v is, ap (λ (k : ℕ). judge_variable (env_means c.args.env) (layer v k)) d ∙ ap (judge_variable (env_means c.args.env)) (innermost v) ∙ ap (λ (n : ℕ). look (env_means c.args.env) n stands) (sym (c.front-name.ensures.variable v is)) ∙ c.in_ok-thing.ensures)

pub variable-returns-in_err-thing : goal.variable-returns-in_err-thing
variable-returns-in_err-thing t c v is =
    passed _ _ c.from_residual.result c.from_residual.ensures.1 (fails (env_means c.args.env) v (layers v) _ (ap (judge_variable (env_means c.args.env)) (innermost v) ∙ ap (λ (n : ℕ). look (env_means c.args.env) n stands) (sym (c.front-name.ensures.variable v is)) ∙ c.in_err-thing.ensures))

pub arguments-loop-front-init : goal.arguments-loop-front-init
arguments-loop-front-init t c = (
  omega arith,
  c.how_many-count.ensures.few,
  λ es is.
      let n = c.how_many-count.ensures.counted exprs es tt is ∙ as_many es in
      (es, Ok tt, is, n, whole _, (n, refl)),
)

pub arguments-loop-front-preserved : goal.arguments-loop-front-preserved
arguments-loop-front-preserved t c =
    let inv = c.loop-front.invariant in (
      omega (arith, inv.0, c.in-Some.ensures.lower.0),
      rw c.and-rest.ensures (kept _ c.passed.result c.loop-front.rest inv.1),
      λ es is.
          let f = inv.2 es is in
          let x = c.in-Some.ensures.expressions f.0 f.2 in
          let n : c.saturating_sub-before.result ≡ count x.0 = omega (arith, c.saturating_sub-before.ensures, f.3, ap count x.4) in
          let w = found (mode_means (facts c.args.env.text)) _ _ c.get.result c.args.modes.now c.saturating_sub-before.result c.copied.ensures c.get.ensures.lookup.1 c.get.ensures.lookup.3 in
          let ms = map (mode_means (facts c.args.env.text)) c.args.modes.now in
          let y = pass (judge (env_means c.args.env) x.1) (spot x.1) (slice_get ms (count x.0)) in
          let r : Result (Unit {0}) Refusal = then y (λ u. f.1) in
          let same = f.4 ∙ ap (λ (gs : Exprs). then (judge_args (env_means c.args.env) ms gs) (λ u. f.1)) x.4 ∙ regrouped _ y f.1 in
          (x.0, r, x.2, n, same, rw c.and-rest.ensures (counted (count es) c.passed.result y c.loop-front.rest f.1 (rw (w, n) at (c.passed.ensures _ x.1 x.3)) f.5)),
    )

pub arguments-returns-clause-judged : goal.arguments-returns-clause-judged
arguments-returns-clause-judged t c es is =
    let f = c.loop-front.invariant.2 es is in
    let x = c.in_default.ensures.expressions f.0 f.2 in
    let ms = map (mode_means (facts c.args.env.text)) c.args.modes.now in
    let w : option_map (mode_means (facts c.args.env.text)) c.copied-2.result ≡ slice_get ms 0 = ap (option_map (mode_means (facts c.args.env.text))) (c.copied-2.ensures ∙ c.first.ensures.value) ∙ sym (slice_get-map (mode_means (facts c.args.env.text)) c.args.modes.now 0) in
    let y = pass (judge (env_means c.args.env) x.0) (spot x.0) (slice_get ms 0) in
    let same : judge_args (env_means c.args.env) ms es ≡ then y (λ u. f.1) = f.4 ∙ ap (λ (gs : Exprs). then (judge_args (env_means c.args.env) ms gs) (λ u. f.1)) x.2 in
    rw (same, c.and.ensures) (counted (count es) c.passed-2.result y c.loop-front.rest f.1 (rw w at (c.passed-2.ensures _ x.0 x.1)) f.5)

pub layered-returns-in-Element : goal.layered-returns-in-Element
layered-returns-in-Element t c v is other f b =
    let x = placed (env_means c.args.env) _ _ v _ (sym c.in-Element.ensures) is in
    answered _ _ _ _ (x.3 ∙ rw (b, ← f) refl) (c.subscripted.ensures _ x.0 x.2)

pub layered-returns-in-Component : goal.layered-returns-in-Component
layered-returns-in-Component t c v is other f b =
    let x = placed (env_means c.args.env) _ _ v _ (sym c.in-Component.ensures) is in
    answered _ _ _ _ (x ∙ rw (b, ← f) refl) c.selected.ensures

pub layered-returns-in_default : goal.layered-returns-in_default
layered-returns-in_default t c v is other f b = elim c.in_default.branch [
  | layered-in_default-via-in-Element+else-index-k w ↦ let x = placed (env_means c.args.env) _ _ v _ (sym w.in-Element.ensures) is in absurd (omega (arith, x.1, w.if-index-k.false))
  | layered-in_default-via-in_default w ↦ let x = left_over_place (env_means c.args.env) _ _ c.node_at.result v (placed (env_means c.args.env) _ _ v _ (sym c.node_at.ensures) is) w.in_default.not-Element w.in_default.not-Component in absurd (other x.0 x.1)
]

pub variable-loop-depth-preserved : goal.variable-loop-depth-preserved
variable-loop-depth-preserved t c v is =
    let inv = c.loop-depth.invariant v is in
    let d = c.loop-depth.depth - 1 in
    let p : suc d ≡ c.loop-depth.depth = omega arith in
    (omega (arith, inv.0), inv.1, c.in_ok-thing-2.ensures (layer v d) (c.layer.ensures.layer v is) (layered v d (omega (arith, inv.0, p))) (inv.1 ∙ sym (same_front v d)) (ap (λ (k : ℕ). judge_variable (env_means c.args.env) (layer v k)) p ∙ inv.2))

pub variable-returns-in_err-thing-2 : goal.variable-returns-in_err-thing-2
variable-returns-in_err-thing-2 t c v is =
    let inv = c.loop-depth.invariant v is in
    let d = c.loop-depth.depth - 1 in
    let p : suc d ≡ c.loop-depth.depth = omega arith in
    passed _ _ c.from_residual-in_err-thing-2.result c.from_residual-in_err-thing-2.ensures.1 (fails (env_means c.args.env) v d _ (c.in_err-thing-2.ensures (layer v d) (c.layer.ensures.layer v is) (layered v d (omega (arith, inv.0, p))) (inv.1 ∙ sym (same_front v d)) (ap (λ (k : ℕ). judge_variable (env_means c.args.env) (layer v k)) p ∙ inv.2)))
