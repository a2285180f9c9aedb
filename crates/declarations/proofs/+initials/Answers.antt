use Rattle.std.proofs.Common.{sym, refl, ◌∙◌, arith}
use Rattle.nodes.proofs.Results.{passed}
use Rattle.grammar.specs.Symbols.{NAME, INTEGER, TEXT, COMMA, LEFT, RIGHT}
use Rattle.grammar.specs.Machine.{all, entries}
use Rattle.nodes.proofs.Build.{far, inside}
use Rattle.nodes.proofs.Repeat.{entries_begin, starts, first_refused, refused, goes, ends}
use Rattle.declarations.proofs.Initials.{value_none, made_constant, made_identifier, made_literal, made_empty, list_refused, list_unclosed, made_list, entry_refused, made_once, times_deep, no_times, times_unclosed, made_repeated}
use Rattle.grammar.proofs.Tests.{said, differs, agrees}
use Rattle.declarations.proofs.+initials.Goals as goal

pub list-returns-then-eq : goal.list-returns-then-eq
list-returns-then-eq t c =
    let e = (said _ _ _ c.if-eq.ensures) in
    let h = c.peek.ensures.there (far RIGHT _ refl e) in
    rw (c.put.ensures.written, c.put.ensures.is) (made_empty c.args.from.depth c.args.from.symbols.now c.args.from.next c.args.from.used c.args.nodes.now c.requires.there c.requires.opening c.in_ok-inside.ensures.1 h (sym c.peek.ensures.is ∙ e) (omega (arith, h)))

pub list-returns-in_err-v : goal.list-returns-in_err-v
list-returns-in_err-v t c =
    let z = c.in_ok-inside.ensures in
    passed _ _ c.from_residual-in_err-v.result c.from_residual-in_err-v.ensures.1 (list_refused c.args.from.depth c.args.from.symbols.now c.args.from.next c.args.from.used c.args.nodes.now c.requires.there c.requires.opening z.1 (λ e. (said _ _ _ c.if-eq.ensures) (c.peek.ensures.is ∙ e)) _ (rw z.0 at c.in_err-v.ensures))

pub list-returns-in_err-expect : goal.list-returns-in_err-expect
list-returns-in_err-expect t c =
    let z = c.in_ok-inside.ensures in
    let m = rw z.0 at c.in_ok-v.ensures in
    passed _ _ c.from_residual-in_err-expect.result c.from_residual-in_err-expect.ensures.1 (rw c.in_err-expect.ensures.0 (list_unclosed c.args.from.depth c.args.from.symbols.now c.args.from.next c.args.from.used c.args.nodes.now c.requires.there c.requires.opening z.1 (λ e. (said _ _ _ c.if-eq.ensures) (c.peek.ensures.is ∙ e)) _ c.in_ok-v.v m c.in_err-expect.ensures.1))

pub list-returns : goal.list-returns
list-returns t c =
    let e = c.in_ok-expect.ensures in
    let h = inside _ _ RIGHT refl e in
    let z = c.in_ok-inside.ensures in
    let m = rw z.0 at c.in_ok-v.ensures in
    rw (c.put-2.ensures.written, c.put-2.ensures.is) (made_list c.args.from.depth c.args.from.symbols.now c.args.from.next c.args.from.used c.args.nodes.now c.requires.there c.requires.opening z.1 (λ e. (said _ _ _ c.if-eq.ensures) (c.peek.ensures.is ∙ e)) _ c.in_ok-v.v m h e (omega (arith, h, m.within, m.few)))

pub entry-returns-in_err-v : goal.entry-returns-in_err-v
entry-returns-in_err-v t c =
    passed _ _ c.from_residual.result c.from_residual.ensures.1 (entry_refused c.args.from.depth c.args.from.symbols.now c.args.from.next c.args.from.used _ c.in_err-v.ensures)

pub entry-returns-then-ne : goal.entry-returns-then-ne
entry-returns-then-ne t c =
    let u = c.if-ne.ensures in
    made_once c.args.from.depth c.args.from.symbols.now c.args.from.next c.args.from.used _ _ c.in_ok-v.v c.in_ok-v.ensures (λ e. differs _ _ u (c.peek.ensures.is ∙ e))

pub entry-returns-in_err-deeper : goal.entry-returns-in_err-deeper
entry-returns-in_err-deeper t c =
    let e = agrees _ _ c.if-ne.ensures in
    let h = c.peek.ensures.there (far LEFT _ refl e) in
    passed _ _ c.from_residual-in_err-deeper.result c.from_residual-in_err-deeper.ensures.1 (rw c.in_err-deeper.ensures.0 (times_deep c.args.from.depth c.args.from.symbols.now c.args.from.next c.args.from.used _ _ c.in_ok-v.v c.in_ok-v.ensures h (sym c.peek.ensures.is ∙ e) c.in_err-deeper.ensures.1))

pub entry-returns-in_err-expect : goal.entry-returns-in_err-expect
entry-returns-in_err-expect t c =
    let e = agrees _ _ c.if-ne.ensures in
    let h = c.peek.ensures.there (far LEFT _ refl e) in
    passed _ _ c.from_residual-in_err-expect.result c.from_residual-in_err-expect.ensures.1 (rw c.in_err-expect.ensures.0 (no_times c.args.from.depth c.args.from.symbols.now c.args.from.next c.args.from.used _ _ c.in_ok-v.v c.in_ok-v.ensures h (sym c.peek.ensures.is ∙ e) c.in_ok-deeper.ensures.1 c.in_err-expect.ensures.1))

pub entry-returns-in_err-expect-2 : goal.entry-returns-in_err-expect-2
entry-returns-in_err-expect-2 t c =
    let e = agrees _ _ c.if-ne.ensures in
    let h = c.peek.ensures.there (far LEFT _ refl e) in
    let x = c.in_ok-expect.ensures in
    let k = inside _ _ INTEGER refl x in
    passed _ _ c.from_residual-in_err-expect-2.result c.from_residual-in_err-expect-2.ensures.1 (rw c.in_err-expect-2.ensures.0 (times_unclosed c.args.from.depth c.args.from.symbols.now c.args.from.next c.args.from.used _ _ c.in_ok-v.v c.in_ok-v.ensures h (sym c.peek.ensures.is ∙ e) c.in_ok-deeper.ensures.1 k x c.in_err-expect-2.ensures.1))

pub entry-returns : goal.entry-returns
entry-returns t c =
    let e = agrees _ _ c.if-ne.ensures in
    let h = c.peek.ensures.there (far LEFT _ refl e) in
    let x = c.in_ok-expect.ensures in
    let k = inside _ _ INTEGER refl x in
    let y = c.in_ok-expect-2.ensures in
    let l = inside _ _ RIGHT refl y in
    rw (c.put.ensures.written, c.put.ensures.is) (made_repeated c.args.from.depth c.args.from.symbols.now c.args.from.next c.args.from.used _ _ c.in_ok-v.v c.in_ok-v.ensures h (sym c.peek.ensures.is ∙ e) c.in_ok-deeper.ensures.1 k x l y (omega (arith, l, c.in_ok-v.ensures)))

pub values-returns-in_err-at : goal.values-returns-in_err-at
values-returns-in_err-at t c =
    passed _ _ c.from_residual.result c.from_residual.ensures.1 (first_refused 0 (omega arith) entries (all entries) entries_begin c.args.from.depth c.args.from.symbols.now c.args.from.next c.args.from.used _ c.in_err-at.ensures)

pub values-loop-from-init : goal.values-loop-from-init
values-loop-from-init t c = starts 0 (omega arith) entries (all entries) entries_begin c.args.from.depth c.args.from.symbols.now c.args.from.next c.args.from.used _ _ c.in_ok-at.at c.in_ok-at.ensures

pub values-returns-in_err-e : goal.values-returns-in_err-e
values-returns-in_err-e t c =
    let e = (said _ _ _ c.loop-from-test.ensures) in
    passed _ _ c.from_residual-in_err-e.result c.from_residual-in_err-e.ensures.1 (refused 0 (omega arith) entries (all entries) entries_begin c.args.from.depth c.args.from.symbols.now c.args.from.next c.args.from.used _ _ c.loop-from.at c.loop-from.invariant (c.peek.ensures.there (far COMMA _ refl e)) (sym c.peek.ensures.is ∙ e) _ (rw c.past.ensures.is at c.in_err-e.ensures))

pub values-loop-from-preserved : goal.values-loop-from-preserved
values-loop-from-preserved t c =
    let e = (said _ _ _ c.loop-from-test.ensures) in
    let m = rw c.past.ensures.is at c.in_ok-e.ensures in
    rw (c.put-at.ensures.written, c.put-at.ensures.is) (goes 0 (omega arith) entries (all entries) entries_begin c.args.from.depth c.args.from.symbols.now c.args.from.next c.args.from.used _ _ c.loop-from.at c.loop-from.invariant (c.peek.ensures.there (far COMMA _ refl e)) (sym c.peek.ensures.is ∙ e) _ c.in_ok-e.e (omega (arith, m)) m)

pub values-returns : goal.values-returns
values-returns t c = ends 0 (omega arith) entries (all entries) entries_begin c.args.from.depth c.args.from.symbols.now c.args.from.next c.args.from.used _ _ c.loop-from.at c.loop-from.invariant _ c.in_ok-at.ensures.kept (λ e. (said _ _ _ c.loop-from-test.ensures) (c.peek.ensures.is ∙ e))

pub value-returns-in-Integer : goal.value-returns-in-Integer
value-returns-in-Integer t c =
    let n = c.in-Integer.ensures in
    let h = n.there (far INTEGER _ refl refl) in
    rw (c.put.ensures.written, c.put.ensures.is) (made_constant c.args.from.depth c.args.from.symbols.now c.args.from.next c.args.from.used c.args.nodes.now h (sym n.is) (omega (arith, h)))

pub value-returns-in-Name : goal.value-returns-in-Name
value-returns-in-Name t c =
    let n = c.in-Name.ensures in
    let h = n.there (far NAME _ refl refl) in
    rw (c.put-in-Name.ensures.written, c.put-in-Name.ensures.is) (made_identifier c.args.from.depth c.args.from.symbols.now c.args.from.next c.args.from.used c.args.nodes.now h (sym n.is) (omega (arith, h)))

pub value-returns-in-Text : goal.value-returns-in-Text
value-returns-in-Text t c =
    let n = c.in-Text.ensures in
    let h = n.there (far TEXT _ refl refl) in
    rw (c.put-in-Text.ensures.written, c.put-in-Text.ensures.is) (made_literal c.args.from.depth c.args.from.symbols.now c.args.from.next c.args.from.used c.args.nodes.now h (sym n.is) (omega (arith, h)))

pub value-returns-in_default : goal.value-returns-in_default
value-returns-in_default t c =
    let is = c.peek.ensures.is in
    value_none c.args.from.depth c.args.from.symbols.now c.args.from.next (λ e. c.in_default.not-Integer (is ∙ e)) (λ e. c.in_default.not-Plus (is ∙ e)) (λ e. c.in_default.not-Minus (is ∙ e)) (λ e. c.in_default.not-Name (is ∙ e)) (λ e. c.in_default.not-Text (is ∙ e)) (λ e. c.in_default.not-Left (is ∙ e))
