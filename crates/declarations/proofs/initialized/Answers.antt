use Rattle.std.proofs.Common.{refl, ◌∙◌, arith}
use Rattle.nodes.proofs.Results.{passed}
use Rattle.grammar.specs.Symbols.{NAME}
use Rattle.nodes.proofs.Build.{inside}
use Rattle.declarations.proofs.Sharing.{made_plain, init_refused, made_given}
use Rattle.grammar.proofs.Tests.{differs}
use Rattle.declarations.proofs.initialized.Goals as goal

pub returns-then-ne : goal.returns-then-ne
returns-then-ne g c =
    let e = c.in_ok-expect.ensures in
    let h = inside _ _ NAME refl e in
    let w = c.if-ne.ensures in
    rw (c.put.ensures.written, c.put.ensures.is) (made_plain g.V.Initial.setting c.args.from.depth c.args.from.symbols.now c.args.from.next c.args.from.used c.args.nodes.now h e (λ x. differs _ _ w (c.peek.ensures.is ∙ x)) (omega (arith, h)))

pub returns-in_err-v : goal.returns-in_err-v
returns-in_err-v g c =
    passed _ _ c.from_residual-in_err-v.result c.from_residual-in_err-v.ensures.1 (init_refused g.V.Initial.setting c.args.from.depth c.args.from.symbols.now c.args.from.next c.args.from.used _ _ c.shared-n.result c.shared-n.ensures.0 c.shared-n.ensures.1 c.shared-n.ensures.2 _ (rw c.after.ensures at c.in_err-v.ensures))

pub returns : goal.returns
returns g c =
    let m = rw c.after.ensures at c.in_ok-v.ensures in
    rw (c.put-2.ensures.written, c.put-2.ensures.is) (made_given g.V.Initial.setting c.args.from.depth c.args.from.symbols.now c.args.from.next c.args.from.used _ _ c.shared-n.result c.shared-n.ensures.0 c.shared-n.ensures.1 c.shared-n.ensures.2 _ c.in_ok-v.v (omega (arith, m.few, m.within, c.shared-n.ensures.2, c.shared-n.auto.nodes, c.value.auto.nodes, c.requires.room)) m)
