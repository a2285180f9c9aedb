use Rattle.std.proofs.Common.{◌<◌, [], ◌∷◌, Option, MatchResult, length, sym, refl, ◌∙◌, subst}
use Rattle.nodes.proofs.Results.{passed}
use Rattle.grammar.specs.Symbols.{NAME, VAL}
use Rattle.nodes.proofs.Build.{far}
use Rattle.statements.proofs.Targets.{onward_refused, val_onward}
use Rattle.statements.proofs.Places.{form_is, source_other, source_refused, source_expr, place_onward}
use Rattle.grammar.specs.Machine.{a_source}
use Rattle.nodes.specs.Made.{Refused}
use Rattle.nodes.specs.declared.Parsed.{Parsed}
use Rattle.statements.specs.Assigning.{Onward}
use Rattle.statements.proofs.Results.{mapped}
use Rattle.statements.proofs.assignments.destination.Goals as goal

pub returns-in-Val : goal.returns-in-Val
returns-in-Val c =
    let n = c.in-Val.ensures in
    let h : c.args.from.next < length c.args.from.symbols.now = n.there (far VAL _ refl refl) in
    mapped c.val_target.result c.map.result (λ r. MatchResult r (λ o. Onward c.args.from.depth c.args.from.symbols.now c.args.from.next c.args.from.used c.args.nodes.now c.val_target.new.nodes o) (λ f. Refused (a_source ∷ []) c.args.from.depth c.args.from.symbols.now c.args.from.next f))
    (λ p o m e. subst (λ (x : Option Parsed). Onward c.args.from.depth c.args.from.symbols.now c.args.from.next c.args.from.used c.args.nodes.now c.val_target.new.nodes x) (sym e) (val_onward c.args.from.depth c.args.from.symbols.now c.args.from.next c.args.from.used h (sym n.is) _ _ p m))
    (λ f r. onward_refused c.args.from.depth c.args.from.symbols.now c.args.from.next c.args.from.used h (sym n.is) f r)
    c.val_target.ensures c.map.ensures.cases

pub returns-in_err-f-in-Name : goal.returns-in_err-f-in-Name
returns-in_err-f-in-Name c =
    let n = c.in-Name.ensures in
    let h : c.args.from.next < length c.args.from.symbols.now = n.there (far NAME _ refl refl) in
    passed _ _ c.from_residual.result c.from_residual.ensures.1 (source_refused c.args.from.depth c.args.from.symbols.now c.args.from.next c.args.from.used h (sym n.is) _ c.in_err-f-in-Name.ensures)

pub returns-then-not-destined : goal.returns-then-not-destined
returns-then-not-destined c =
    let n = c.in-Name.ensures in
    let h : c.args.from.next < length c.args.from.symbols.now = n.there (far NAME _ refl refl) in
    let m = c.in_ok-f-in-Name.ensures in
    let y = c.shape_of.ensures m.tree (form_is c.args.from.depth c.args.from.symbols.now c.args.from.next m.tree _ m.met) m.is in
    let o = c.if-not-destined.ensures in
    (source_expr c.args.from.depth c.args.from.symbols.now c.args.from.next c.args.from.used h (sym n.is) _ _ c.in_ok-f-in-Name.f m c.shape_of.result y o, m.kept)

pub returns-else-not-destined : goal.returns-else-not-destined
returns-else-not-destined c =
    let n = c.in-Name.ensures in
    let h : c.args.from.next < length c.args.from.symbols.now = n.there (far NAME _ refl refl) in
    let m = c.in_ok-f-in-Name.ensures in
    let y = c.shape_of.ensures m.tree (form_is c.args.from.depth c.args.from.symbols.now c.args.from.next m.tree _ m.met) m.is in
    let o = c.if-not-destined.ensures in
    place_onward c.args.from.depth c.args.from.symbols.now c.args.from.next c.args.from.used h (sym n.is) _ _ c.in_ok-f-in-Name.f m c.shape_of.result y o

pub returns-in_default : goal.returns-in_default
returns-in_default c = (source_other c.args.from.depth c.args.from.symbols.now c.args.from.next c.args.from.used (λ e. c.in_default.not-Val (c.peek.ensures.is ∙ e)) (λ e. c.in_default.not-Name (c.peek.ensures.is ∙ e)), λ j l. refl)
