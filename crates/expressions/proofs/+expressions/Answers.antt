use Rattle.std.proofs.Common.{◌+◌, ◌-◌, ◌<◌, ◌∷◌, length, set, sym, refl, ap, ◌∙◌, add_assoc, arith, length-set}
use Rattle.grammar.specs.Symbols.{NAME, INTEGER, TEXT, LEFT, RIGHT, COMMA, DOT}
use Rattle.grammar.specs.Machine.{links_on}
use Rattle.nodes.specs.Nodes.{Agree}
use Rattle.nodes.specs.declared.Node.TheVariants.{Name, Element}
use Rattle.nodes.specs.Made.{by_name, rank as rank_of}
use Rattle.nodes.proofs.Keep.{agree_set, at_set, agree_trans}
use Rattle.nodes.proofs.Results.{otherwise, passed}
use Rattle.nodes.proofs.Build.{far, inside, rebased}
use Rattle.expressions.proofs.Forms.{brackets_refused, brackets_unclosed, made_brackets, made_integer, made_text, paren_refused, made_paren, form_refused, made_form, form_of, left_refused, left_goes, dot_refused, dot_goes, made_name, made_call, argument_refused, argument_unclosed, first_argument, made_element, more_refused, more_goes, more_unclosed, made_calls}
use Rattle.expressions.proofs.Levels.{monads_there, monads_end, term_refused, term_plain, term_monad, no_stop, level_zero, level_up, level_refused, level_goes, level_ends, expr_made, expr_refused}
use Rattle.grammar.proofs.Tests.{said}
use Rattle.expressions.proofs.+expressions.Goals as goal

pub applied-returns-then-eq : goal.applied-returns-then-eq
applied-returns-then-eq t c =
    let z = c.in_ok-inside.ensures in
    let e = (said _ _ _ c.if-eq.ensures) in
    rw (c.put.ensures.written, c.put.ensures.is) (made_call c.args.from.depth c.args.from.symbols.now c.args.from.next c.args.from.used c.args.nodes.now (omega arith) c.requires.named c.requires.within c.requires.opening z.1 (c.peek.ensures.there (far RIGHT _ refl e)) (sym c.peek.ensures.is ∙ e) (omega arith))

pub applied-returns-in_err-e : goal.applied-returns-in_err-e
applied-returns-in_err-e t c =
    let z = c.in_ok-inside.ensures in
    passed _ _ c.from_residual-in_err-e.result c.from_residual-in_err-e.ensures.1 (argument_refused c.args.from.depth c.args.from.symbols.now c.args.from.next c.args.from.used c.args.nodes.now (omega arith) c.requires.named c.requires.within c.requires.opening z.1 (λ e. (said _ _ _ c.if-eq.ensures) (c.peek.ensures.is ∙ e)) _ (rw (z.0, add_assoc c.args.from.next 1 1) at c.in_err-e.ensures))

pub applied-calls-requires : goal.applied-calls-requires
applied-calls-requires t c =
    let z = c.in_ok-inside.ensures in
    let k = c.expr.auto.nodes in
    let l = length-set c.args.nodes.now c.args.from.used (Name c.args.from.next) in
    let E = rw (z.0, c.put-name.ensures.written, c.put-name.ensures.is, add_assoc c.args.from.next 1 1) at c.in_ok-e.ensures in
    (omega (arith, c.decreases), (omega arith, (c.requires.named, (c.requires.opening, (c.requires.within, (omega (arith, k, l), first_argument c.args.from.depth c.args.from.symbols.now c.args.from.next c.args.from.used c.args.nodes.now (omega arith) c.requires.named c.requires.within c.requires.opening z.1 (λ e. (said _ _ _ c.if-eq.ensures) (c.peek.ensures.is ∙ e)) _ _ c.in_ok-e.e E (sym c.in-Comma.ensures.is)))))))

pub applied-returns-in-Right : goal.applied-returns-in-Right
applied-returns-in-Right t c =
    let z = c.in_ok-inside.ensures in
    let E = rw (z.0, c.put-name.ensures.written, c.put-name.ensures.is, add_assoc c.args.from.next 1 1) at c.in_ok-e.ensures in
    let b : Agree c.args.from.used c.args.nodes.now c.expr.new.nodes = agree_trans c.args.from.used c.args.from.used _ (set c.args.nodes.now c.args.from.used (Name c.args.from.next)) _ (omega arith) (agree_set c.args.from.used c.args.from.used c.args.nodes.now _ (omega arith)) (λ j l. E.kept j (omega arith)) in
    let k = c.expr.auto.nodes in
    let l = length-set c.args.nodes.now c.args.from.used (Name c.args.from.next) in
    let n = c.in-Right.ensures in
    let h = n.there (far RIGHT _ refl refl) in
    let g : Agree c.args.from.used c.expr.new.nodes (set c.expr.new.nodes c.in_ok-e.e.used (Element c.args.from.used (c.args.from.next + 1) c.in_ok-e.e.root)) = agree_set c.args.from.used c.in_ok-e.e.used _ _ (omega (arith, E.more)) in
    otherwise c.variable.result (λ p m. rebased 0 _ _ _ _ _ _ _ _ _ p (agree_trans c.args.from.used c.args.from.used _ _ _ (omega arith) (agree_trans c.args.from.used c.args.from.used _ _ _ (omega arith) b (rw (c.put-at.ensures.written, c.put-name.ensures.is) g)) m.kept) (form_of _ _ _ _ _ _ p m)) (λ f r. r)
    (c.variable.ensures by_name (rw (c.put-at.ensures.written, c.put-at.ensures.is, c.put-name.ensures.is) (rebased 0 _ _ _ _ _ _ _ _ _ _ (λ j l. refl) (made_element c.args.from.depth c.args.from.symbols.now c.args.from.next c.args.from.used c.args.nodes.now (omega arith) c.requires.named c.requires.within c.requires.opening z.1 (λ e. (said _ _ _ c.if-eq.ensures) (c.peek.ensures.is ∙ e)) _ _ c.in_ok-e.e E (at_set c.args.from.used c.args.nodes.now _ (omega arith)) h (sym n.is) (omega (arith, k, l, E.few, h))))))

pub applied-returns-in_default : goal.applied-returns-in_default
applied-returns-in_default t c =
    let z = c.in_ok-inside.ensures in
    argument_unclosed c.args.from.depth c.args.from.symbols.now c.args.from.next c.args.from.used c.args.nodes.now (omega arith) c.requires.named c.requires.within c.requires.opening z.1 (λ e. (said _ _ _ c.if-eq.ensures) (c.peek.ensures.is ∙ e)) _ _ c.in_ok-e.e (rw (z.0, c.put-name.ensures.written, c.put-name.ensures.is, add_assoc c.args.from.next 1 1) at c.in_ok-e.ensures) (λ e. c.in_default.not-Right (c.peek-2.ensures.is ∙ e)) (λ e. c.in_default.not-Comma (c.peek-2.ensures.is ∙ e))

pub bracketed-returns-in_err-e : goal.bracketed-returns-in_err-e
bracketed-returns-in_err-e t c =
    let z = c.in_ok-inside.ensures in
    passed _ _ c.from_residual-in_err-e.result c.from_residual-in_err-e.ensures.1 (brackets_refused c.args.from.depth c.args.from.symbols.now c.args.from.next c.requires.within c.requires.opening z.1 _ (rw z.0 at c.in_err-e.ensures))

pub bracketed-returns-in_err-expect : goal.bracketed-returns-in_err-expect
bracketed-returns-in_err-expect t c =
    let z = c.in_ok-inside.ensures in
    passed _ _ c.from_residual-in_err-expect.result c.from_residual-in_err-expect.ensures.1 (rw c.in_err-expect.ensures.0 (brackets_unclosed c.args.from.depth c.args.from.symbols.now c.args.from.next c.requires.within c.requires.opening z.1 c.args.from.used _ _ c.in_ok-e.e (rw z.0 at c.in_ok-e.ensures) c.in_err-expect.ensures.1))

pub bracketed-returns : goal.bracketed-returns
bracketed-returns t c =
    let z = c.in_ok-inside.ensures in
    let q = c.in_ok-expect.ensures in
    made_brackets c.args.from.depth c.args.from.symbols.now c.args.from.next c.requires.within c.requires.opening z.1 c.args.from.used _ _ c.in_ok-e.e (rw z.0 at c.in_ok-e.ensures) (inside _ _ RIGHT refl q) q

pub calls-returns-in_err-e : goal.calls-returns-in_err-e
calls-returns-in_err-e t c =
    let e = (said _ _ _ c.loop-further-test.ensures) in
    passed _ _ c.from_residual.result c.from_residual.ensures.1 (more_refused c.args.from.depth c.args.from.symbols.now c.args.from.next c.args.from.used c.requires.deep _ _ c.loop-further.at c.loop-further.invariant (c.peek.ensures.there (far COMMA _ refl e)) (sym c.peek.ensures.is ∙ e) _ c.in_err-e.ensures)

pub calls-loop-further-preserved : goal.calls-loop-further-preserved
calls-loop-further-preserved t c =
    let e = (said _ _ _ c.loop-further-test.ensures) in
    rw (c.put-at.ensures.written, c.put-at.ensures.is) (more_goes c.args.from.depth c.args.from.symbols.now c.args.from.next c.args.from.used c.requires.deep _ _ c.loop-further.at c.loop-further.invariant (c.peek.ensures.there (far COMMA _ refl e)) (sym c.peek.ensures.is ∙ e) _ c.in_ok-e.e (omega (arith, c.in_ok-e.ensures)) c.in_ok-e.ensures)

pub calls-returns-in_err-expect : goal.calls-returns-in_err-expect
calls-returns-in_err-expect t c =
    passed _ _ c.from_residual-in_err-expect.result c.from_residual-in_err-expect.ensures.1 (rw c.in_err-expect.ensures.0 (more_unclosed c.args.from.depth c.args.from.symbols.now c.args.from.next c.args.from.used c.requires.deep _ _ c.loop-further.at c.loop-further.invariant (λ e. (said _ _ _ c.loop-further-test.ensures) (c.peek.ensures.is ∙ e)) c.in_err-expect.ensures.1))

pub calls-returns : goal.calls-returns
calls-returns t c =
    let q = c.in_ok-expect.ensures in
    rw (c.put.ensures.written, c.put.ensures.is) (made_calls c.args.from.depth c.args.from.symbols.now c.args.from.next c.args.from.used c.requires.deep _ _ c.loop-further.at c.loop-further.invariant (omega arith) c.requires.named c.requires.within c.requires.opening (λ e. (said _ _ _ c.loop-further-test.ensures) (c.peek.ensures.is ∙ e)) (inside _ _ RIGHT refl q) q (omega arith))

pub expr-returns : goal.expr-returns
expr-returns t c = otherwise c.level.result (λ p m. expr_made c.args.from.depth c.args.from.symbols.now c.args.from.next c.args.from.used _ _ p m) (λ f r. expr_refused c.args.from.depth c.args.from.symbols.now c.args.from.next c.args.from.used f r) c.level.ensures

pub form-returns : goal.form-returns
form-returns t c =
    otherwise c.variable.result (λ p m. rebased 0 _ _ _ _ _ _ _ _ _ p (agree_trans c.args.from.used c.args.from.used _ _ _ (omega arith) (rw c.put-at.ensures.written (agree_set c.args.from.used c.args.from.used c.args.nodes.now _ (omega arith))) m.kept) (form_of _ _ _ _ _ _ p m)) (λ f r. r)
    (c.variable.ensures by_name (rw (c.put-at.ensures.written, c.put-at.ensures.is) (rebased 0 _ _ _ _ _ _ _ _ _ _ (λ j l. refl) (made_name c.args.from.depth c.args.from.symbols.now c.args.from.next c.args.from.used c.args.nodes.now c.requires.within c.requires.named (λ e. (said _ _ _ c.if-eq.ensures) (c.peek.ensures.is ∙ e)) (omega arith)))))

pub level-returns-then-n-eq0 : goal.level-returns-then-n-eq0
level-returns-then-n-eq0 t c = otherwise c.term.result (λ p m. level_zero c.args.from.depth c.args.from.symbols.now c.args.from.next c.args.from.used c.args.n c.if-n-eq0.true _ _ p m) (λ f r α. r (links_on ∷ α)) c.term.ensures

pub level-loop-from-init : goal.level-loop-from-init
level-loop-from-init t c = level_up c.args.from.depth c.args.from.symbols.now c.args.from.next c.args.from.used (c.args.n - 1) _ _ c.in_ok-at.at c.in_ok-at.ensures

pub level-returns-in_err-e : goal.level-returns-in_err-e
level-returns-in_err-e t c =
    passed _ _ c.from_residual-in_err-e.result c.from_residual-in_err-e.ensures.1 (level_refused c.args.from.depth c.args.from.symbols.now c.args.from.next c.args.from.used (c.args.n - 1) _ _ c.loop-from.at c.loop-from.invariant (c.peek.ensures.there (no_stop _ (c.args.n - 1) (sym c.rank.ensures ∙ c.loop-from-test.true) (omega arith))) (ap rank_of (sym c.peek.ensures.is) ∙ sym c.rank.ensures ∙ c.loop-from-test.true) (omega arith) _ (rw c.past.ensures.is at c.in_err-e.ensures))

pub level-loop-from-preserved : goal.level-loop-from-preserved
level-loop-from-preserved t c =
    let m = rw c.past.ensures.is at c.in_ok-e.ensures in
    rw (c.put-at.ensures.written, c.put-at.ensures.is) (level_goes c.args.from.depth c.args.from.symbols.now c.args.from.next c.args.from.used (c.args.n - 1) _ _ c.loop-from.at c.loop-from.invariant (c.peek.ensures.there (no_stop _ (c.args.n - 1) (sym c.rank.ensures ∙ c.loop-from-test.true) (omega arith))) (ap rank_of (sym c.peek.ensures.is) ∙ sym c.rank.ensures ∙ c.loop-from-test.true) (omega arith) _ c.in_ok-e.e _ c.peek-in-loop-from.ensures.is (omega (arith, m)) m)

pub level-returns : goal.level-returns
level-returns t c = level_ends c.args.from.depth c.args.from.symbols.now c.args.from.next c.args.from.used (c.args.n - 1) _ _ c.loop-from.at c.loop-from.invariant c.args.n (omega arith) _ c.in_ok-at.ensures.kept (λ e. c.loop-from-test.false (c.rank.ensures ∙ ap rank_of c.peek.ensures.is ∙ e))

pub primary-returns-in_err-e-in-Left : goal.primary-returns-in_err-e-in-Left
primary-returns-in_err-e-in-Left t c =
    let n = c.in-Left.ensures in
    let h : c.args.from.next < length c.args.from.symbols.now = n.there (far LEFT _ refl refl) in
    passed _ _ c.from_residual.result c.from_residual.ensures.1 (paren_refused c.args.from.depth c.args.from.symbols.now c.args.from.next c.args.from.used c.args.nodes.now h (sym n.is) _ c.in_err-e-in-Left.ensures)

pub primary-returns-in-Integer : goal.primary-returns-in-Integer
primary-returns-in-Integer t c =
    let n = c.in-Integer.ensures in
    let h : c.args.from.next < length c.args.from.symbols.now = n.there (far INTEGER _ refl refl) in
    rw (c.put.ensures.written, c.put.ensures.is) (made_integer c.args.from.depth c.args.from.symbols.now c.args.from.next c.args.from.used c.args.nodes.now h (sym n.is) (omega arith))

pub primary-returns-in-Text : goal.primary-returns-in-Text
primary-returns-in-Text t c =
    let n = c.in-Text.ensures in
    let h : c.args.from.next < length c.args.from.symbols.now = n.there (far TEXT _ refl refl) in
    rw (c.put-in-Text.ensures.written, c.put-in-Text.ensures.is) (made_text c.args.from.depth c.args.from.symbols.now c.args.from.next c.args.from.used c.args.nodes.now h (sym n.is) (omega arith))

pub primary-returns-in-Name : goal.primary-returns-in-Name
primary-returns-in-Name t c =
    let n = c.in-Name.ensures in
    let h : c.args.from.next < length c.args.from.symbols.now = n.there (far NAME _ refl refl) in
    otherwise c.form.result (λ p m. made_form c.args.from.depth c.args.from.symbols.now c.args.from.next c.args.from.used _ h (sym n.is) _ p m) (λ f r. form_refused c.args.from.depth c.args.from.symbols.now c.args.from.next c.args.from.used c.args.nodes.now h (sym n.is) f r) c.form.ensures

pub primary-returns-in_ok-e-in-Left : goal.primary-returns-in_ok-e-in-Left
primary-returns-in_ok-e-in-Left t c =
    let m = c.in_ok-e-in-Left.ensures in
    let n = c.in-Left.ensures in
    let h : c.args.from.next < length c.args.from.symbols.now = n.there (far LEFT _ refl refl) in
    rw (c.put-in-Left.ensures.written, c.put-in-Left.ensures.is) (made_paren c.args.from.depth c.args.from.symbols.now c.args.from.next c.args.from.used _ h (sym n.is) _ c.in_ok-e-in-Left.e (omega (arith, m)) m.0 m.1)

pub term-returns-in_err-at : goal.term-returns-in_err-at
term-returns-in_err-at t c =
    let m = monads_there c.args.from.depth c.args.from.symbols.now c.args.from.next c.monads.result c.requires.within c.monads.ensures.is in
    passed _ _ c.from_residual.result c.from_residual.ensures.1 (term_refused c.args.from.depth c.args.from.symbols.now c.args.from.next (c.args.from.next + c.monads.result) c.args.from.used m (monads_end c.args.from.symbols.now c.args.from.next c.monads.result c.requires.within c.monads.ensures.is) _ c.in_err-at.ensures)

pub term-loop-k-init : goal.term-loop-k-init
term-loop-k-init t c = (omega arith, term_plain c.args.from.depth c.args.from.symbols.now c.args.from.next (c.args.from.next + c.monads.result) c.args.from.used _ _ c.in_ok-at.at (monads_end c.args.from.symbols.now c.args.from.next c.monads.result c.requires.within c.monads.ensures.is) c.in_ok-at.ensures)

pub term-loop-k-preserved : goal.term-loop-k-preserved
term-loop-k-preserved t c =
    let m = monads_there c.args.from.depth c.args.from.symbols.now c.args.from.next c.monads.result c.requires.within c.monads.ensures.is in
    let v = c.loop-k.invariant in
    (omega arith, rw (c.put-at.ensures.written, c.put-at.ensures.is) (term_monad c.args.from.depth c.args.from.symbols.now c.args.from.next c.loop-k.k c.args.from.used _ _ c.loop-k.at _ (omega arith) (omega arith) (m.each (c.loop-k.k - 1) (omega arith) (omega arith)) c.peek.ensures.is (omega arith) v.1))

pub variable-returns-in_err-e-in-Left : goal.variable-returns-in_err-e-in-Left
variable-returns-in_err-e-in-Left t c b m =
    let n = c.in-Left.ensures in
    passed _ _ c.from_residual.result c.from_residual.ensures.1 (left_refused b c.args.from.depth c.args.from.symbols.now c.args.from.next c.args.from.used _ _ c.loop-from.at (c.loop-from.invariant.1 b m) (n.there (far LEFT _ refl refl)) (sym n.is) _ (rw c.after.ensures at c.in_err-e-in-Left.ensures))

pub variable-loop-from-preserved-in-Left : goal.variable-loop-from-preserved-in-Left
variable-loop-from-preserved-in-Left t c =
    let m = rw c.after.ensures at c.in_ok-e-in-Left.ensures in
    let n = c.in-Left.ensures in
    let v = c.loop-from.invariant.0 in (
      rw c.put-at.ensures.is (record { within = m.0.within; more = omega (arith, v.more, m.0.more); few = omega (arith, v.few, m.1); below = omega arith }),
      λ b x. rw (c.put-at.ensures.written, c.put-at.ensures.is) (left_goes b c.args.from.depth c.args.from.symbols.now c.args.from.next c.args.from.used _ _ c.loop-from.at (c.loop-from.invariant.1 b x) (n.there (far LEFT _ refl refl)) (sym n.is) _ c.in_ok-e-in-Left.e (omega (arith, m, v)) m.0 m.1),
    )

pub variable-returns-in_err-expect-in-Dot : goal.variable-returns-in_err-expect-in-Dot
variable-returns-in_err-expect-in-Dot t c b m =
    let n = c.in-Dot.ensures in
    passed _ _ c.from_residual-in_err-expect-in-Dot.result c.from_residual-in_err-expect-in-Dot.ensures.1 (rw c.in_err-expect-in-Dot.ensures.0 (dot_refused b c.args.from.depth c.args.from.symbols.now c.args.from.next c.args.from.used _ _ c.loop-from.at (c.loop-from.invariant.1 b m) (n.there (far DOT _ refl refl)) (sym n.is) c.in_err-expect-in-Dot.ensures.1))

pub variable-loop-from-preserved : goal.variable-loop-from-preserved
variable-loop-from-preserved t c =
    let n = c.in-Dot.ensures in
    let q = c.in_ok-expect-in-Dot.ensures in
    let h = inside _ _ NAME refl q in
    let v = c.loop-from.invariant.0 in (
      rw c.put-at-in-Dot.ensures.is (record { within = omega (arith, h); more = omega (arith, v.more); few = omega (arith, v.few); below = omega arith }),
      λ b x. rw (c.put-at-in-Dot.ensures.written, c.put-at-in-Dot.ensures.is) (dot_goes b c.args.from.depth c.args.from.symbols.now c.args.from.next c.args.from.used _ _ c.loop-from.at (c.loop-from.invariant.1 b x) (n.there (far DOT _ refl refl)) (sym n.is) h q (omega (arith, h, v))),
    )
