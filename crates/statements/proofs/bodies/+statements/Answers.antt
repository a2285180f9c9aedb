use Rattle.std.proofs.Common.{sym, refl, ◌∙◌, arith}
use Rattle.nodes.proofs.Results.{passed}
use Rattle.grammar.specs.Symbols.{THEN, ELSEIF, END, ENDBLOCK, TO, WHILE, DO, REP, SEMI}
use Rattle.grammar.specs.Machine.{all, ors, statements, an_expr, a_body}
use Rattle.nodes.proofs.Build.{far, inside}
use Rattle.nodes.proofs.Repeat.{statements_begin, starts, first_refused, refused, goes, ends}
use Rattle.declarations.proofs.Bodies.{made_body}
use Rattle.statements.proofs.Blocks.{made_dummy, block_refused, block_unclosed, made_block, then_refused, made_arm, first_arm_refused, first_arm, arms_end, further_arm_refused, further_arm, made_branch, else_refused, else_unclosed, made_else, head_refused, no_do, do_deep, do_refused, no_rep, to_opens, to_same, while_opens, while_same, made_repeat, made_loop}
use Rattle.grammar.proofs.Tests.{said}
use Rattle.statements.proofs.bodies.+statements.Goals as goal

pub arm-returns-in_err-q : goal.arm-returns-in_err-q
arm-returns-in_err-q t c =
    let q = c.in_ok-expect.ensures in
    passed _ _ c.from_residual-in_err-q.result c.from_residual-in_err-q.ensures.1 (then_refused c.args.from.depth c.args.from.symbols.now c.args.from.next c.args.from.used _ _ c.in_ok-c.c c.in_ok-c.ensures (inside _ _ THEN refl q) q c.in_err-q.field-0.0 (rw c.past.ensures.is at c.in_err-q.ensures))

pub arm-returns : goal.arm-returns
arm-returns t c =
    let q = c.in_ok-expect.ensures in
    let h = inside _ _ THEN refl q in
    let m = c.in_ok-c.ensures in
    let n = rw c.past.ensures.is at c.in_ok-q.ensures in
    rw (c.put.ensures.written, c.put.ensures.is) (made_arm c.args.from.depth c.args.from.symbols.now c.args.from.next c.args.from.used _ _ c.in_ok-c.c m h q _ c.in_ok-q.q (omega (arith, m.few, m.within, n.few, n.within, h, c.requires.room)) n)

pub arms-returns-in_err-at : goal.arms-returns-in_err-at
arms-returns-in_err-at t c =
    passed _ _ c.from_residual.result c.from_residual.ensures.1 (first_arm_refused c.args.from.depth c.args.from.symbols.now c.args.from.next c.args.from.used c.requires.there c.requires.opening c.requires.deep _ c.in_err-at.ensures)

pub arms-loop-inside-init : goal.arms-loop-inside-init
arms-loop-inside-init t c = first_arm c.args.from.depth c.args.from.symbols.now c.args.from.next c.args.from.used c.requires.there c.requires.opening c.requires.deep _ _ c.in_ok-at.at c.in_ok-at.ensures

pub arms-returns-in_err-a : goal.arms-returns-in_err-a
arms-returns-in_err-a t c =
    let e = (said _ _ _ c.loop-inside-test.ensures) in
    let v = c.loop-inside.invariant in
    passed _ _ c.from_residual-in_err-a.result c.from_residual-in_err-a.ensures.1 (further_arm_refused c.args.from.depth c.args.from.symbols.now c.args.from.next c.args.from.used _ _ c.loop-inside.at v.0 v.1 (c.peek.ensures.there (far ELSEIF _ refl e)) (sym c.peek.ensures.is ∙ e) c.in_err-a.field-0.0 (rw c.past.ensures.is at c.in_err-a.ensures))

pub arms-loop-inside-preserved : goal.arms-loop-inside-preserved
arms-loop-inside-preserved t c =
    let e = (said _ _ _ c.loop-inside-test.ensures) in
    let v = c.loop-inside.invariant in
    let h = c.peek.ensures.there (far ELSEIF _ refl e) in
    let m = rw c.past.ensures.is at c.in_ok-a.ensures in
    rw (c.put-at.ensures.written, c.put-at.ensures.is) (further_arm c.args.from.depth c.args.from.symbols.now c.args.from.next c.args.from.used _ _ c.loop-inside.at v.0 v.1 h (sym c.peek.ensures.is ∙ e) _ c.in_ok-a.a (omega (arith, m.few, m.within, v.1, h, c.requires.room)) m)

pub arms-returns : goal.arms-returns
arms-returns t c =
    let v = c.loop-inside.invariant in
    let x = arms_end c.args.from.depth c.args.from.symbols.now c.args.from.next c.args.from.used _ _ c.loop-inside.at v.0 v.1 _ c.in_ok-at.ensures.kept in
    (x.0, x.1, λ e. (said _ _ _ c.loop-inside-test.ensures) (c.peek.ensures.is ∙ e))

pub block-returns-in_err-b : goal.block-returns-in_err-b
block-returns-in_err-b t c =
    let z = c.in_ok-inside.ensures in
    passed _ _ c.from_residual-in_err-b.result c.from_residual-in_err-b.ensures.1 (block_refused c.args.from.depth c.args.from.symbols.now c.args.from.next c.args.from.used c.requires.there c.requires.opening _ (refl, z.1) _ (rw z.0 at c.in_err-b.ensures))

pub block-returns-in_err-expect : goal.block-returns-in_err-expect
block-returns-in_err-expect t c =
    let z = c.in_ok-inside.ensures in
    let e = c.in_err-expect.ensures in
    passed _ _ c.from_residual-in_err-expect.result c.from_residual-in_err-expect.ensures.1 (rw e.0 (block_unclosed c.args.from.depth c.args.from.symbols.now c.args.from.next c.args.from.used c.requires.there c.requires.opening _ (refl, z.1) _ _ c.in_ok-b.b (rw z.0 at c.in_ok-b.ensures) e.1))

pub block-returns : goal.block-returns
block-returns t c =
    let z = c.in_ok-inside.ensures in
    let q = c.in_ok-expect.ensures in
    let h = inside _ _ ENDBLOCK refl q in
    let m = rw z.0 at c.in_ok-b.ensures in
    rw (c.put.ensures.written, c.put.ensures.is) (made_block c.args.from.depth c.args.from.symbols.now c.args.from.next c.args.from.used c.requires.there c.requires.opening _ (refl, z.1) _ _ c.in_ok-b.b m h q (omega (arith, m.few, h, c.requires.room)))

pub body-returns : goal.body-returns
body-returns t c =
    let m = c.in_ok-l.ensures in
    let n = rw c.after.ensures at c.in_ok-q.ensures in
    rw (c.put.ensures.written, c.put.ensures.is) (made_body c.args.from.depth c.args.from.symbols.now c.args.from.next c.args.from.used _ _ c.in_ok-l.l m 1 _ c.in_ok-q.q (omega (arith, m.few, n.few, n.within, c.requires.room)) n)

pub branch-returns-in-End : goal.branch-returns-in-End
branch-returns-in-End t c =
    let n = c.in-End.ensures in
    let h = n.there (far END _ refl refl) in
    let m = c.in_ok-w.ensures in
    rw (c.put.ensures.written, c.put.ensures.is) (made_branch c.args.from.depth c.args.from.symbols.now c.args.from.next c.args.from.used _ _ c.in_ok-w.w m.0 m.1 h (omega arith) _ (λ j l. refl) (sym n.is) (omega (arith, m.1, h, c.requires.room)))

pub otherwise-returns-in_err-q : goal.otherwise-returns-in_err-q
otherwise-returns-in_err-q t c =
    passed _ _ c.from_residual.result c.from_residual.ensures.1 (else_refused c.args.from.depth c.args.from.symbols.now c.args.from.next c.args.from.used _ _ c.args.at c.requires.begun c.requires.few c.requires.there c.requires.deep c.requires.behind _ c.in_err-q.ensures)

pub otherwise-returns-in_err-expect : goal.otherwise-returns-in_err-expect
otherwise-returns-in_err-expect t c =
    passed _ _ c.from_residual-in_err-expect.result c.from_residual-in_err-expect.ensures.1 (rw c.in_err-expect.ensures.0 (else_unclosed c.args.from.depth c.args.from.symbols.now c.args.from.next c.args.from.used _ _ c.args.at c.requires.begun c.requires.few c.requires.there c.requires.deep c.requires.behind _ c.in_ok-q.q c.in_ok-q.ensures c.in_err-expect.ensures.1))

pub otherwise-returns : goal.otherwise-returns
otherwise-returns t c =
    let q = c.in_ok-expect.ensures in
    let h = inside _ _ END refl q in
    let m = c.in_ok-q.ensures in
    rw (c.put.ensures.written, c.put.ensures.is) (made_else c.args.from.depth c.args.from.symbols.now c.args.from.next c.args.from.used _ _ c.args.at c.requires.begun c.requires.few c.requires.there c.requires.deep c.requires.behind _ c.in_ok-q.q m h q (omega (arith, m.few, h, c.requires.few, c.requires.room)))

pub repeat-returns-in_err-e : goal.repeat-returns-in_err-e
repeat-returns-in_err-e t c =
    passed _ _ c.from_residual.result c.from_residual.ensures.1 (head_refused TO an_expr a_body to_opens to_same c.args.from.depth c.args.from.symbols.now c.args.from.next c.requires.there c.requires.opening _ c.in_err-e.ensures)

pub repeat-returns-in_err-expect : goal.repeat-returns-in_err-expect
repeat-returns-in_err-expect t c =
    passed _ _ c.from_residual-in_err-expect.result c.from_residual-in_err-expect.ensures.1 (rw c.in_err-expect.ensures.0 (no_do TO an_expr a_body to_opens to_same c.args.from.depth c.args.from.symbols.now c.args.from.next c.requires.there c.requires.opening c.in_ok-e.e.next c.in_ok-e.ensures.met c.in_err-expect.ensures.1))

pub repeat-returns-in_err-inside : goal.repeat-returns-in_err-inside
repeat-returns-in_err-inside t c =
    let q = c.in_ok-expect.ensures in
    let z = c.in_err-inside.ensures in
    passed _ _ c.from_residual-in_err-inside.result c.from_residual-in_err-inside.ensures.1 (rw z.0 (do_deep TO an_expr a_body to_opens to_same c.args.from.depth c.args.from.symbols.now c.args.from.next c.requires.there c.requires.opening c.in_ok-e.e.next c.in_ok-e.ensures.met (inside _ _ DO refl q) q (rw c.after.ensures at z.1)))

pub repeat-returns-in_err-b : goal.repeat-returns-in_err-b
repeat-returns-in_err-b t c =
    let q = c.in_ok-expect.ensures in
    let z = rw c.after.ensures at c.in_ok-inside.ensures in
    passed _ _ c.from_residual-in_err-b.result c.from_residual-in_err-b.ensures.1 (do_refused TO an_expr a_body to_opens to_same c.args.from.depth c.args.from.symbols.now c.args.from.next c.requires.there c.requires.opening c.in_ok-e.e.next c.in_ok-e.ensures.met (inside _ _ DO refl q) q _ (refl, z.1) c.in_err-b.field-0.0 (rw z.0 at c.in_err-b.ensures))

pub repeat-returns-in_err-expect-2 : goal.repeat-returns-in_err-expect-2
repeat-returns-in_err-expect-2 t c =
    let q = c.in_ok-expect.ensures in
    let z = rw c.after.ensures at c.in_ok-inside.ensures in
    passed _ _ c.from_residual-in_err-expect-2.result c.from_residual-in_err-expect-2.ensures.1 (rw c.in_err-expect-2.ensures.0 (no_rep TO an_expr a_body to_opens to_same c.args.from.depth c.args.from.symbols.now c.args.from.next c.requires.there c.requires.opening c.in_ok-e.e.next c.in_ok-e.ensures.met (inside _ _ DO refl q) q _ (refl, z.1) c.in_ok-b.b.next (rw z.0 at c.in_ok-b.ensures).met c.in_err-expect-2.ensures.1))

pub repeat-returns : goal.repeat-returns
repeat-returns t c =
    let q = c.in_ok-expect.ensures in
    let z = rw c.after.ensures at c.in_ok-inside.ensures in
    let h = inside _ _ DO refl q in
    let x = c.in_ok-expect-2.ensures in
    let i = inside _ _ REP refl x in
    let m = c.in_ok-e.ensures in
    let n = rw z.0 at c.in_ok-b.ensures in
    rw (c.put.ensures.written, c.put.ensures.is) (made_repeat c.args.from.depth c.args.from.symbols.now c.args.from.next c.args.from.used c.requires.there _ (refl, z.1) _ _ _ c.in_ok-e.e c.in_ok-b.b h q i x (omega (arith, m.few, n.few, h, i, c.requires.room)) c.requires.opening m n)

pub while_loop-returns-in_err-c : goal.while_loop-returns-in_err-c
while_loop-returns-in_err-c t c =
    passed _ _ c.from_residual.result c.from_residual.ensures.1 (head_refused WHILE (all ors) (all statements) while_opens while_same c.args.from.depth c.args.from.symbols.now c.args.from.next c.requires.there c.requires.opening _ c.in_err-c.ensures)

pub while_loop-returns-in_err-expect : goal.while_loop-returns-in_err-expect
while_loop-returns-in_err-expect t c =
    passed _ _ c.from_residual-in_err-expect.result c.from_residual-in_err-expect.ensures.1 (rw c.in_err-expect.ensures.0 (no_do WHILE (all ors) (all statements) while_opens while_same c.args.from.depth c.args.from.symbols.now c.args.from.next c.requires.there c.requires.opening c.in_ok-c.c.next c.in_ok-c.ensures.met c.in_err-expect.ensures.1))

pub while_loop-returns-in_err-inside : goal.while_loop-returns-in_err-inside
while_loop-returns-in_err-inside t c =
    let q = c.in_ok-expect.ensures in
    let z = c.in_err-inside.ensures in
    passed _ _ c.from_residual-in_err-inside.result c.from_residual-in_err-inside.ensures.1 (rw z.0 (do_deep WHILE (all ors) (all statements) while_opens while_same c.args.from.depth c.args.from.symbols.now c.args.from.next c.requires.there c.requires.opening c.in_ok-c.c.next c.in_ok-c.ensures.met (inside _ _ DO refl q) q (rw c.after.ensures at z.1)))

pub while_loop-returns-in_err-q : goal.while_loop-returns-in_err-q
while_loop-returns-in_err-q t c =
    let q = c.in_ok-expect.ensures in
    let z = rw c.after.ensures at c.in_ok-inside.ensures in
    passed _ _ c.from_residual-in_err-q.result c.from_residual-in_err-q.ensures.1 (do_refused WHILE (all ors) (all statements) while_opens while_same c.args.from.depth c.args.from.symbols.now c.args.from.next c.requires.there c.requires.opening c.in_ok-c.c.next c.in_ok-c.ensures.met (inside _ _ DO refl q) q _ (refl, z.1) c.in_err-q.field-0.0 (rw z.0 at c.in_err-q.ensures))

pub while_loop-returns-in_err-expect-2 : goal.while_loop-returns-in_err-expect-2
while_loop-returns-in_err-expect-2 t c =
    let q = c.in_ok-expect.ensures in
    let z = rw c.after.ensures at c.in_ok-inside.ensures in
    passed _ _ c.from_residual-in_err-expect-2.result c.from_residual-in_err-expect-2.ensures.1 (rw c.in_err-expect-2.ensures.0 (no_rep WHILE (all ors) (all statements) while_opens while_same c.args.from.depth c.args.from.symbols.now c.args.from.next c.requires.there c.requires.opening c.in_ok-c.c.next c.in_ok-c.ensures.met (inside _ _ DO refl q) q _ (refl, z.1) c.in_ok-q.q.next (rw z.0 at c.in_ok-q.ensures).met c.in_err-expect-2.ensures.1))

pub while_loop-returns : goal.while_loop-returns
while_loop-returns t c =
    let q = c.in_ok-expect.ensures in
    let z = rw c.after.ensures at c.in_ok-inside.ensures in
    let h = inside _ _ DO refl q in
    let x = c.in_ok-expect-2.ensures in
    let i = inside _ _ REP refl x in
    let m = c.in_ok-c.ensures in
    let n = rw z.0 at c.in_ok-q.ensures in
    rw (c.put.ensures.written, c.put.ensures.is) (made_loop c.args.from.depth c.args.from.symbols.now c.args.from.next c.args.from.used c.requires.there _ (refl, z.1) _ _ _ c.in_ok-c.c c.in_ok-q.q h q i x (omega (arith, m.few, n.few, h, i, c.requires.room)) c.requires.opening m n)

pub sequence-returns-in_err-at : goal.sequence-returns-in_err-at
sequence-returns-in_err-at t c =
    passed _ _ c.from_residual.result c.from_residual.ensures.1 (first_refused 1 (omega arith) statements (all statements) statements_begin c.args.from.depth c.args.from.symbols.now c.args.from.next c.args.from.used _ c.in_err-at.ensures)

pub sequence-loop-from-init : goal.sequence-loop-from-init
sequence-loop-from-init t c = starts 1 (omega arith) statements (all statements) statements_begin c.args.from.depth c.args.from.symbols.now c.args.from.next c.args.from.used _ _ c.in_ok-at.at c.in_ok-at.ensures

pub sequence-returns-in_err-e : goal.sequence-returns-in_err-e
sequence-returns-in_err-e t c =
    let e = (said _ _ _ c.loop-from-test.ensures) in
    passed _ _ c.from_residual-in_err-e.result c.from_residual-in_err-e.ensures.1 (refused 1 (omega arith) statements (all statements) statements_begin c.args.from.depth c.args.from.symbols.now c.args.from.next c.args.from.used _ _ c.loop-from.at c.loop-from.invariant (c.peek.ensures.there (far SEMI _ refl e)) (sym c.peek.ensures.is ∙ e) c.in_err-e.field-0.0 (rw c.past.ensures.is at c.in_err-e.ensures))

pub sequence-loop-from-preserved : goal.sequence-loop-from-preserved
sequence-loop-from-preserved t c =
    let e = (said _ _ _ c.loop-from-test.ensures) in
    let h = c.peek.ensures.there (far SEMI _ refl e) in
    let m = rw c.past.ensures.is at c.in_ok-e.ensures in
    let v = c.loop-from.invariant in
    rw (c.put-at.ensures.written, c.put-at.ensures.is) (goes 1 (omega arith) statements (all statements) statements_begin c.args.from.depth c.args.from.symbols.now c.args.from.next c.args.from.used _ _ c.loop-from.at v h (sym c.peek.ensures.is ∙ e) _ c.in_ok-e.e (omega (arith, m.few, m.within, v.few, h, c.requires.room)) m)

pub sequence-returns : goal.sequence-returns
sequence-returns t c = ends 1 (omega arith) statements (all statements) statements_begin c.args.from.depth c.args.from.symbols.now c.args.from.next c.args.from.used _ _ c.loop-from.at c.loop-from.invariant _ c.in_ok-at.ensures.kept (λ e. (said _ _ _ c.loop-from-test.ensures) (c.peek.ensures.is ∙ e))

pub statement-returns-in_default : goal.statement-returns-in_default
statement-returns-in_default t c =
    let is = c.peek.ensures.is in
    rw (c.put.ensures.written, c.put.ensures.is) (made_dummy c.args.from.depth c.args.from.symbols.now c.args.from.next c.args.from.used c.args.nodes.now c.requires.within (omega arith) (λ e. c.in_default.not-Block (is ∙ e)) (λ e. c.in_default.not-If (is ∙ e)) (λ e. c.in_default.not-To (is ∙ e)) (λ e. c.in_default.not-While (is ∙ e)) (λ e. c.in_default.not-Return (is ∙ e)) (λ e. c.in_default.not-Val (is ∙ e)) (λ e. c.in_default.not-Name (is ∙ e)))
