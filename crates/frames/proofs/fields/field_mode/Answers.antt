use Rattle.std.proofs.Common.{ℕ, List, sym, ap, subst, ◌∙◌}
use Rattle.nodes.specs.Nodes.{IsFields}
use Rattle.statics.specs.Written.{mode_of}
use Rattle.lists.specs.Lists.{Stand, of_fields}
use Rattle.frames.proofs.Listing.{own_mode_at, mode_in_front, none_left}
use Rattle.frames.proofs.fields.field_mode.Goals as goal

pub loop-field-preserved : goal.loop-field-preserved
loop-field-preserved c = λ fs is.
    let x = c.loop-field.invariant fs is in
    let now = subst (λ (ks : List ℕ). Stand IsFields (of_fields x.0) c.args.nodes.now ks) c.in-Some.ensures.steps x.1 in
    let y = mode_in_front _ _ _ x.0 now (λ r n at. c.in_default.not-Field r n (c.node_at.ensures ∙ at)) (λ l r n at. c.in_default.not-NextField l r n (c.node_at.ensures ∙ at)) in
    (y.0, y.1, x.2 ∙ y.2)

pub returns-in-Field : goal.returns-in-Field
returns-in-Field c = λ x fs is.
    let y = c.loop-field.invariant fs is in
    let now = subst (λ (ks : List ℕ). Stand IsFields (of_fields y.0) c.args.nodes.now ks) c.in-Some.ensures.steps y.1 in
    c.mode_at.ensures _ (own_mode_at _ _ _ y.0 _ _ c.node_at.ensures c.in-Field.is now) x ∙ ap (mode_of x) (sym y.2)

pub returns : goal.returns
returns c = λ x fs is.
    let y = c.loop-field.invariant fs is in
    absurd (none_left c.args.nodes.now y.0 (subst (λ (ks : List ℕ). Stand IsFields (of_fields y.0) c.args.nodes.now ks) c.in-None.ensures.steps.0 y.1))
