use Rattle.std.proofs.Common.{◌≡◌, true, sym, ap, ◌∙◌, arith}
use Rattle.grammar.specs.Symbols.{among}
use Rattle.nodes.specs.Made.{comparators}
use Rattle.nodes.proofs.Results.{passed}
use Rattle.expressions.proofs.Conditions.{left_refused, no_comparator, right_refused, made_comparison, comparator_there}
use Rattle.expressions.proofs.comparison.Goals as goal

pub returns-in_err-a : goal.returns-in_err-a
returns-in_err-a c =
    passed _ _ c.from_residual.result c.from_residual.ensures.1 (left_refused c.args.from.depth c.args.from.symbols.now c.args.from.next c.args.from.used _ c.in_err-a.ensures)

pub returns-then-not-comparator : goal.returns-then-not-comparator
returns-then-not-comparator c = no_comparator c.args.from.depth c.args.from.symbols.now c.args.from.next c.args.from.used _ _ c.in_ok-a.a c.in_ok-a.ensures (ap (among comparators) (sym c.peek-c.ensures.is) ∙ sym c.comparator.ensures ∙ c.if-not-comparator.true)

pub returns-in_err-b : goal.returns-in_err-b
returns-in_err-b c =
    let q : among comparators c.peek-c.result ≡ true = sym c.comparator.ensures ∙ c.if-not-comparator.false in
    passed _ _ c.from_residual-in_err-b.result c.from_residual-in_err-b.ensures.1 (right_refused c.args.from.depth c.args.from.symbols.now c.args.from.next c.args.from.used _ _ c.in_ok-a.a c.in_ok-a.ensures (c.peek-c.ensures.there (comparator_there _ q)) (ap (among comparators) (sym c.peek-c.ensures.is) ∙ q) _ (rw c.past.ensures.is at c.in_err-b.ensures))

pub returns : goal.returns
returns c =
    let q : among comparators c.peek-c.result ≡ true = sym c.comparator.ensures ∙ c.if-not-comparator.false in
    let m = rw c.past.ensures.is at c.in_ok-b.ensures in
    rw (c.put.ensures.written, c.put.ensures.is) (made_comparison c.args.from.depth c.args.from.symbols.now c.args.from.next c.args.from.used _ _ c.in_ok-a.a c.in_ok-a.ensures (c.peek-c.ensures.there (comparator_there _ q)) (ap (among comparators) (sym c.peek-c.ensures.is) ∙ q) _ c.peek-c.ensures.is _ c.in_ok-b.b (omega (arith, c.in_ok-a.ensures, m)) m)
