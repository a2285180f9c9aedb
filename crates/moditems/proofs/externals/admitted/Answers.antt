use Rattle.std.proofs.Common.{◌∙◌, refl, sym}
use Rattle.texts.specs.Facts.{facts}
use Rattle.moditems.proofs.Admitting.{inbyte, outbyte, no_inbyte, no_outbyte, no_other, not_int, not_absent, not_byte}
use Rattle.moditems.proofs.externals.admitted.Goals as goal
use Rattle.moditems.proofs.externals.admitted.Goals.{in-Absent-matches, in_default-matches, in-Byte, in_default-matches-2}

pub returns-then-matches : goal.returns-then-matches
returns-then-matches c ms m ts gs =
    elim c.match-matches.branch [
      | in-Absent-matches w ↦ c.is_word.ensures ∙ sym (inbyte (facts c.args.text) ((facts c.args.text).word c.args.name) c.args.nodes.now c.args.takes c.args.gives ms m ts gs (sym w.in-Absent-matches.ensures) (sym c.in-Int.ensures))
      | in_default-matches w ↦ absurd (cc (w.matches-is, c.if-matches.true))
    ]

pub returns-else-matches : goal.returns-else-matches
returns-else-matches c ms m ts gs =
    elim c.match-matches.branch [
      | in-Absent-matches w ↦ absurd (cc (w.matches-is, c.if-matches.false))
      | in_default-matches w ↦ c.if-matches.false ∙ sym (no_inbyte (facts c.args.text) ((facts c.args.text).word c.args.name) c.args.nodes.now c.args.takes c.args.gives ms m ts gs c.node_at-in-Int.result (sym c.node_at-in-Int.ensures) (sym c.in-Int.ensures) (not_absent c.node_at-in-Int.result w.in_default-matches.not-Absent))
    ]

pub returns-then-matches-2 : goal.returns-then-matches-2
returns-then-matches-2 c ms m ts gs =
    elim c.match-matches-2.branch [
      | in-Byte w ↦ c.is_word-then-matches-2.ensures ∙ sym (outbyte (facts c.args.text) ((facts c.args.text).word c.args.name) c.args.nodes.now c.args.takes c.args.gives ms m ts gs w.in-Byte.field-0 (sym w.in-Byte.ensures) (sym c.in-Absent.ensures))
      | in_default-matches-2 w ↦ absurd (cc (w.matches-is, c.if-matches-2.true))
    ]

pub returns-else-matches-2 : goal.returns-else-matches-2
returns-else-matches-2 c ms m ts gs =
    elim c.match-matches-2.branch [
      | in-Byte w ↦ absurd (cc (w.matches-is, c.if-matches-2.false))
      | in_default-matches-2 w ↦ c.if-matches-2.false ∙ sym (no_outbyte (facts c.args.text) ((facts c.args.text).word c.args.name) c.args.nodes.now c.args.takes c.args.gives ms m ts gs c.node_at-in-Absent.result (sym c.node_at-in-Absent.ensures) (sym c.in-Absent.ensures) (not_byte c.node_at-in-Absent.result w.in_default-matches-2.not-Byte))
    ]

pub returns-in_default : goal.returns-in_default
returns-in_default c ms m ts gs = sym (no_other (facts c.args.text) ((facts c.args.text).word c.args.name) c.args.nodes.now c.args.takes c.args.gives ms m ts gs _ c.node_at.result refl (sym c.node_at.ensures) (not_int c.node_at.result c.in_default.not-Int) (not_absent c.node_at.result c.in_default.not-Absent))
