use Rattle.std.proofs.Common.{sym, refl, ◌∙◌, arith}
use Rattle.grammar.specs.Symbols.{NAME, INT, BYTE, ARRAY}
use Rattle.nodes.proofs.Build.{far, inside}
use Rattle.declarations.proofs.Modes.{target_none, made_ref_int, made_ref_byte, made_ref_record}
use Rattle.declarations.proofs.reference.Goals as goal

pub returns-in-Int : goal.returns-in-Int
returns-in-Int c =
    let n = c.in-Int.ensures in
    let h = n.there (far INT _ refl refl) in
    rw (c.put.ensures.written, c.put.ensures.is) (made_ref_int c.args.from.depth c.args.from.symbols.now c.args.from.next c.args.from.used c.args.nodes.now c.requires.there c.requires.refers h (sym n.is) (omega (arith, h)))

pub returns-in-Byte : goal.returns-in-Byte
returns-in-Byte c =
    let n = c.in-Byte.ensures in
    let h = n.there (far BYTE _ refl refl) in
    rw (c.put-in-Byte.ensures.written, c.put-in-Byte.ensures.is) (made_ref_byte c.args.from.depth c.args.from.symbols.now c.args.from.next c.args.from.used c.args.nodes.now c.requires.there c.requires.refers h (sym n.is) (omega (arith, h)))

pub returns-in-Name : goal.returns-in-Name
returns-in-Name c =
    let n = c.in-Name.ensures in
    let h = n.there (far NAME _ refl refl) in
    rw (c.put-in-Name.ensures.written, c.put-in-Name.ensures.is) (made_ref_record c.args.from.depth c.args.from.symbols.now c.args.from.next c.args.from.used c.args.nodes.now c.requires.there c.requires.refers h (sym n.is) (omega (arith, h)))

pub returns-in_default : goal.returns-in_default
returns-in_default c =
    let is = c.peek.ensures.is in
    target_none c.args.from.depth c.args.from.symbols.now c.args.from.next c.args.from.used c.args.nodes.now c.requires.there c.requires.refers (λ e. c.in_default.not-Int (is ∙ e)) (λ e. c.in_default.not-Byte (is ∙ e)) (λ e. c.in_default.not-Name (is ∙ e)) (λ e. c.requires.bare (c.requires.refers, e, inside _ _ ARRAY refl e))
