use Rattle.std.proofs.Common.{sym, ◌∙◌, arith}
use Rattle.declarations.proofs.Referring.{two_before, four_before, room_before, bare_end, brackets_end}
use Rattle.grammar.proofs.Tests.{said}
use Rattle.declarations.proofs.referred.Goals as goal

pub overflow_sub-result : goal.overflow_sub-result
overflow_sub-result c =
    let h = four_before c.args.from.depth c.args.from.symbols.now c.args.from.next _ c.requires.reached c.requires.before (sym c.peek.ensures.is ∙ said _ _ _ c.if-eq.ensures) in
    omega (arith, h)

pub put-requires : goal.put-requires
put-requires c = room_before c.args.from.depth c.args.from.symbols.now c.args.from.next c.args.from.used _ _ c.args.inner.mode _ c.requires.reached c.requires.before (omega (arith, c.requires.room)) c.requires.read

pub overflow_sub-result-2 : goal.overflow_sub-result-2
overflow_sub-result-2 c =
    let h = two_before c.args.from.depth c.args.from.symbols.now c.args.from.next _ c.requires.reached c.requires.before in
    omega (arith, h)

pub put-requires-2 : goal.put-requires-2
put-requires-2 c = room_before c.args.from.depth c.args.from.symbols.now c.args.from.next c.args.from.used _ _ c.args.inner.mode _ c.requires.reached c.requires.before (omega (arith, c.requires.room)) c.requires.read

pub returns-then-eq : goal.returns-then-eq
returns-then-eq c =
    rw (c.put.ensures.written, c.put.ensures.is) (brackets_end c.args.from.depth c.args.from.symbols.now c.args.from.next c.args.from.used _ _ c.args.inner.mode (omega (arith, c.requires.room)) c.args.inner.begin c.requires.reached c.requires.before (sym c.peek.ensures.is ∙ said _ _ _ c.if-eq.ensures) c.requires.read)

pub returns : goal.returns
returns c =
    rw (c.put-2.ensures.written, c.put-2.ensures.is) (bare_end c.args.from.depth c.args.from.symbols.now c.args.from.next c.args.from.used _ _ c.args.inner.mode (omega (arith, c.requires.room)) c.args.inner.begin c.requires.reached c.requires.before (λ e. said _ _ _ c.if-eq.ensures (c.peek.ensures.is ∙ e)) c.requires.read)
