use Rattle.std.proofs.Common.{◌≡◌, get_or, refl, sym, ◌∙◌}
use Rattle.grammar.specs.Symbols.{STOP, NAME, INT, BYTE, REF}
use Rattle.nodes.proofs.Results.{otherwise}
use Rattle.declarations.proofs.Modes.{mode_none, mode_refused, made_mode}
use Rattle.declarations.proofs.Referring.{not_both}
use Rattle.grammar.proofs.Tests.{said}
use Rattle.declarations.proofs.mode.Goals as goal

pub returns-then-eq : goal.returns-then-eq
returns-then-eq c =
    let e = sym c.peek.ensures.is ∙ said _ _ _ c.if-eq.ensures in
    mode_none c.args.from.depth c.args.from.symbols.now c.args.from.next (not_both NAME INT refl _ e) (not_both NAME BYTE refl _ e) (not_both NAME REF refl _ e)

pub returns : goal.returns
returns c =
    let n = (λ (e : get_or c.args.from.symbols.now c.args.from.next STOP ≡ NAME). (said _ _ _ c.if-eq.ensures) (c.peek.ensures.is ∙ e)) in
    otherwise c.amode.result (λ p m. made_mode c.args.from.depth c.args.from.symbols.now c.args.from.next n c.args.from.used _ _ p m) (λ f r. mode_refused c.args.from.depth c.args.from.symbols.now c.args.from.next n f r) c.amode.ensures
