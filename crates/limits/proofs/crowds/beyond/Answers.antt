use Rattle.std.proofs.Common.{◌≡◌, sym, ap, ◌∙◌, slice_get, drop, length, ◌-◌, [], length-take-le, length-drop, arith}
use Rattle.statics.specs.DeclaredTwice.{moditem_scopes}
use Rattle.statics.specs.Crowds.{moditem_allowances}
use Rattle.frames.proofs.Filled.{behind_first}
use Rattle.limits.proofs.Allowed.{all_beyond, filled}
use Rattle.limits.proofs.Least.{meet}
use Rattle.limits.proofs.Parts.{parts, given}
use Rattle.limits.proofs.Tables.{items_of, lent}
use Rattle.limits.proofs.crowds.beyond.Goals as goal

pub returns-then-count-names-clause-found : goal.returns-then-count-names-clause-found
returns-then-count-names-clause-found c = λ x a is room.
    let w = parts x c.args.nodes.now c.args.count (length c.args.names.now) c.in_ok-procedure.procedure a (c.in_ok-procedure.ensures a is) room in
    absurd (omega (arith, w.fits, c.if-count-names.true))

pub returns-clause-found : goal.returns-clause-found
returns-clause-found c = λ x a is room.
    let n = length c.args.names.now in
    let new = c.declare_body-all.new.names in
    let p = c.in_ok-procedure.procedure in
    let w = parts x c.args.nodes.now c.args.count n p a (c.in_ok-procedure.ensures a is) room in
    let old = behind_first c.args.count c.args.names.now in
    let size : length old ≡ n - c.args.count = length-take-le (n - c.args.count) (drop c.args.count c.args.names.now) (omega (arith, length-drop c.args.count c.args.names.now)) in
    let y = filled x c.args.nodes.now c.args.count n p (moditem_scopes x a) (moditem_allowances x a) w old c.declare_parameters-given.new.names new c.declare_parameters-given.result c.declare_body-all.result (omega (arith, c.if-count-names.false)) size c.declare_parameters-given.ensures.length c.declare_body-all.ensures.length (c.declare_parameters-given.ensures.behind x [] w.ps w.fields) (c.declare_body-all.ensures.behind x w.b w.body) c.declare_body-all.ensures.front in
    let few = ap items_of (lent c.get.result _ c.unwrap_or_default-parameters.result new 0 c.declare_parameters-given.result c.get.ensures.lookup c.unwrap_or_default-parameters.ensures (omega arith) y.few) ∙ y.front in
    let most = ap items_of (lent c.get-2.result _ c.unwrap_or_default-locals.result new 0 c.declare_body-all.result c.get-2.ensures.lookup c.unwrap_or_default-locals.ensures (omega arith) y.most) ∙ y.both in
    c.earlier.ensures
    ∙ ap (λ i. meet i c.item_at-2.result) (c.item_at.ensures ∙ ap (λ us. slice_get us 8) few)
    ∙ ap (meet (slice_get (given x w.ps) 8)) (c.item_at-2.ensures ∙ ap (λ us. slice_get us 64) most)
    ∙ sym (all_beyond x c.args.nodes.now c.args.count n p (moditem_scopes x a) (moditem_allowances x a) w)
