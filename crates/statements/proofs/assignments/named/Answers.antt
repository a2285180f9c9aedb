use Rattle.std.proofs.Common.{sym, refl, ◌∙◌, arith}
use Rattle.nodes.proofs.Results.{passed}
use Rattle.nodes.proofs.Build.{rebased}
use Rattle.statements.proofs.Places.{form_is, named_refused, place_first}
use Rattle.statements.proofs.Calls.{named_off, made_invoked}
use Rattle.statements.proofs.Results.{refused_or, given_or}
use Rattle.statements.proofs.assignments.named.Goals as goal

pub returns-in_err-f : goal.returns-in_err-f
returns-in_err-f c =
    passed _ _ c.from_residual.result c.from_residual.ensures.1 (named_refused c.args.from.depth c.args.from.symbols.now c.args.from.next c.args.from.used c.requires.there c.requires.named _ c.in_err-f.ensures)

pub assignment-requires : goal.assignment-requires
assignment-requires c =
    let m = c.in_ok-f.ensures in
    let y = c.shape_of-shape.ensures m.tree (form_is c.args.from.depth c.args.from.symbols.now c.args.from.next m.tree _ m.met) m.is in
    let o = place_first c.args.from.depth c.args.from.symbols.now c.args.from.next c.args.from.used c.requires.there c.requires.named _ _ c.in_ok-f.f m c.shape_of-shape.result y c.if-destined.ensures in
    record { room = omega (arith, c.form.auto.nodes); begun = rebased 0 _ _ _ _ _ _ _ _ _ _ (λ j l. refl) o.0; few = o.1 }

pub returns-in_err-call : goal.returns-in_err-call
returns-in_err-call c =
    let m = c.in_ok-f.ensures in
    let y = c.shape_of-shape.ensures m.tree (form_is c.args.from.depth c.args.from.symbols.now c.args.from.next m.tree _ m.met) m.is in
    let o = refused_or c.invocation.result _ _ (sym c.ok_or.ensures.value ∙ c.in_err-call.was) in
    passed _ _ c.from_residual-in_err-call.result c.from_residual-in_err-call.ensures.1 (rw o.1 (named_off c.args.from.depth c.args.from.symbols.now c.args.from.next c.args.from.used c.requires.there c.requires.named _ _ c.in_ok-f.f m c.shape_of-shape.result y c.if-destined.ensures (sym c.invocation.ensures ∙ o.0)))

pub returns : goal.returns
returns c =
    let m = c.in_ok-f.ensures in
    let y = c.shape_of-shape.ensures m.tree (form_is c.args.from.depth c.args.from.symbols.now c.args.from.next m.tree _ m.met) m.is in
    rw (c.put.ensures.written, c.put.ensures.is) (made_invoked c.args.from.depth c.args.from.symbols.now c.args.from.next c.args.from.used c.requires.there c.requires.named _ _ c.in_ok-f.f m (omega (arith, m.few, m.within, c.form.auto.nodes)) c.shape_of-shape.result y c.if-destined.ensures c.in_ok-call.call (sym c.invocation.ensures ∙ given_or c.invocation.result _ _ (sym c.ok_or.ensures.value ∙ c.in_ok-call.was)))
