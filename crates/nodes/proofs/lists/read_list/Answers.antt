use Rattle.std.proofs.Common.{sym, ◌∙◌, arith}
use Rattle.grammar.specs.Machine.{separator}
use Rattle.grammar.proofs.Tests.{said}
use Rattle.nodes.proofs.Build.{far}
use Rattle.nodes.proofs.Results.{passed}
use Rattle.nodes.proofs.Repeat.{starts, first_refused, refused, goes, ends, sep_far}
use Rattle.nodes.proofs.lists.read_list.Goals as goal

pub returns-in_err-at : goal.returns-in_err-at
returns-in_err-at g c =
    passed _ _ c.from_residual.result c.from_residual.ensures.1 (first_refused _ g.met.L.Entries.small (g.L.Entries.kind c.args.of) _ (g.met.L.Entries.begins c.args.of) c.args.from.depth c.args.from.symbols.now c.args.from.next c.args.from.used _ c.in_err-at.ensures)

pub loop-of-init : goal.loop-of-init
loop-of-init g c = starts _ g.met.L.Entries.small (g.L.Entries.kind c.args.of) _ (g.met.L.Entries.begins c.args.of) c.args.from.depth c.args.from.symbols.now c.args.from.next c.args.from.used _ _ c.in_ok-at.at c.in_ok-at.ensures

pub past-requires : goal.past-requires
past-requires g c =
    let e = said _ _ _ c.loop-of-test.ensures ∙ c.separator.ensures in
    c.peek.ensures.there (far (separator (g.L.Entries.kind c.args.of)) _ (sep_far (g.L.Entries.kind c.args.of)) e)

pub returns-in_err-e : goal.returns-in_err-e
returns-in_err-e g c =
    let e = said _ _ _ c.loop-of-test.ensures ∙ c.separator.ensures in
    let h = c.peek.ensures.there (far (separator (g.L.Entries.kind c.args.of)) _ (sep_far (g.L.Entries.kind c.args.of)) e) in
    passed _ _ c.from_residual-in_err-e.result c.from_residual-in_err-e.ensures.1 (refused _ g.met.L.Entries.small (g.L.Entries.kind c.args.of) _ (g.met.L.Entries.begins c.args.of) c.args.from.depth c.args.from.symbols.now c.args.from.next c.args.from.used _ _ c.loop-of.at c.loop-of.invariant h (sym c.peek.ensures.is ∙ e) c.in_err-e.field-0.0 (rw c.past.ensures.is at c.in_err-e.ensures))

pub loop-of-preserved : goal.loop-of-preserved
loop-of-preserved g c =
    let e = said _ _ _ c.loop-of-test.ensures ∙ c.separator.ensures in
    let h = c.peek.ensures.there (far (separator (g.L.Entries.kind c.args.of)) _ (sep_far (g.L.Entries.kind c.args.of)) e) in
    let m = rw c.past.ensures.is at c.in_ok-e.ensures in
    let v = c.loop-of.invariant in
    rw (c.put-at.ensures.written, c.put-at.ensures.is) (goes _ g.met.L.Entries.small (g.L.Entries.kind c.args.of) _ (g.met.L.Entries.begins c.args.of) c.args.from.depth c.args.from.symbols.now c.args.from.next c.args.from.used _ _ c.loop-of.at v h (sym c.peek.ensures.is ∙ e) _ c.in_ok-e.e (omega (arith, g.met.L.Entries.small, m.few, m.within, v.few, h, c.requires.room)) m)

pub returns : goal.returns
returns g c = ends _ g.met.L.Entries.small (g.L.Entries.kind c.args.of) _ (g.met.L.Entries.begins c.args.of) c.args.from.depth c.args.from.symbols.now c.args.from.next c.args.from.used _ _ c.loop-of.at c.loop-of.invariant _ c.in_ok-at.ensures.kept (λ e. said _ _ _ c.loop-of-test.ensures (c.peek.ensures.is ∙ e ∙ sym c.separator.ensures))
