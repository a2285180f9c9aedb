use Rattle.std.proofs.Common.{sym, ap, ◌∙◌, arith, length-set}
use Rattle.grammar.specs.Symbols.{among}
use Rattle.nodes.proofs.Keep.{agree_set}
use Rattle.nodes.specs.declared.Node.TheVariants.{NoLocals}
use Rattle.declarations.specs.Declaring.{mode_firsts}
use Rattle.declarations.proofs.Bodies.{made_locals, locals_end}
use Rattle.declarations.proofs.locals.locals.Goals as goal

pub loop-from-preserved : goal.loop-from-preserved
loop-from-preserved c =
    let v = c.loop-from.invariant in
    let l = rw c.after.ensures at c.in_ok-l.ensures in
    rw (c.put-at-in-loop-from.ensures.written, c.put-at-in-loop-from.ensures.is) (made_locals c.args.from.depth c.args.from.symbols.now c.args.from.next c.args.from.used _ _ c.loop-from.at v _ c.in_ok-l.l (omega (arith, v.few, l.0.within, l.1, c.requires.room, c.local.auto.nodes, c.loop-from.auto.nodes, length-set c.args.nodes.now c.args.from.used NoLocals)) l.0 l.1)

pub returns : goal.returns
returns c = locals_end c.args.from.depth c.args.from.symbols.now c.args.from.next c.args.from.used _ _ c.loop-from.at c.loop-from.invariant _ (rw c.put-at.ensures.written (agree_set c.args.from.used c.args.from.used c.args.nodes.now _ (omega arith))) (ap (among mode_firsts) (sym c.peek.ensures.is) ∙ sym c.loop-from-test.ensures)
