use Rattle.std.proofs.Common.{sym, refl, ◌∙◌, arith}
use Rattle.grammar.specs.Symbols.{NAME, INT, BYTE, REF}
use Rattle.nodes.proofs.Results.{otherwise}
use Rattle.nodes.proofs.Build.{far}
use Rattle.nodes.specs.declared.Fault.TheVariants.{Syntax}
use Rattle.declarations.proofs.Modes.{mode_none, simple_refused, made_simple, made_int, made_byte, made_records}
use Rattle.declarations.proofs.Referring.{not_both}
use Rattle.declarations.proofs.bare_amode.Goals as goal

pub returns-in-Int : goal.returns-in-Int
returns-in-Int c =
    let n = c.in-Int.ensures in
    let h = n.there (far INT _ refl refl) in
    rw (c.put.ensures.written, c.put.ensures.is) (made_simple c.args.from.depth c.args.from.symbols.now c.args.from.next (not_both INT NAME refl _ (sym n.is)) c.args.from.used _ _ _ (made_int c.args.from.depth c.args.from.symbols.now c.args.from.next c.args.from.used c.args.nodes.now h (sym n.is) (omega (arith, h))))

pub returns-in-Byte : goal.returns-in-Byte
returns-in-Byte c =
    let n = c.in-Byte.ensures in
    let h = n.there (far BYTE _ refl refl) in
    rw (c.put-in-Byte.ensures.written, c.put-in-Byte.ensures.is) (made_simple c.args.from.depth c.args.from.symbols.now c.args.from.next (not_both BYTE NAME refl _ (sym n.is)) c.args.from.used _ _ _ (made_byte c.args.from.depth c.args.from.symbols.now c.args.from.next c.args.from.used c.args.nodes.now h (sym n.is) (omega (arith, h))))

pub returns-in-Name : goal.returns-in-Name
returns-in-Name c =
    let n = c.in-Name.ensures in
    let h = n.there (far NAME _ refl refl) in
    rw (c.put-in-Name.ensures.written, c.put-in-Name.ensures.is) (made_records c.args.from.depth c.args.from.symbols.now c.args.from.next c.args.from.used c.args.nodes.now h (sym n.is) (omega (arith, h)))

pub returns-in-Ref : goal.returns-in-Ref
returns-in-Ref c =
    let x = not_both REF NAME refl _ (sym c.in-Ref.ensures.is) in
    otherwise c.reference.result (λ p m. made_simple c.args.from.depth c.args.from.symbols.now c.args.from.next x c.args.from.used _ _ p m) (λ f r. simple_refused c.args.from.depth c.args.from.symbols.now c.args.from.next x f r) c.reference.ensures

pub returns-in_default : goal.returns-in_default
returns-in_default c =
    let is = c.peek.ensures.is in
    simple_refused c.args.from.depth c.args.from.symbols.now c.args.from.next (λ e. c.in_default.not-Name (is ∙ e)) (Syntax c.args.from.next) (mode_none c.args.from.depth c.args.from.symbols.now c.args.from.next (λ e. c.in_default.not-Int (is ∙ e)) (λ e. c.in_default.not-Byte (is ∙ e)) (λ e. c.in_default.not-Ref (is ∙ e)))
