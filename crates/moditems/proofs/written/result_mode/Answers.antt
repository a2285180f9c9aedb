use Rattle.std.proofs.Common.{refl}
use Rattle.grammar.specs.Trees.{int, byte, ref_int, ref_byte, ref_record, ref_array, ref_array_brackets, none, some}
use Rattle.moditems.proofs.written.result_mode.Goals as goal

pub returns-in-Absent : goal.returns-in-Absent
returns-in-Absent c none is = refl
returns-in-Absent c (some int) is = refl
returns-in-Absent c (some (byte i)) is = refl
returns-in-Absent c (some ref_int) is = refl
returns-in-Absent c (some (ref_byte i)) is = refl
returns-in-Absent c (some (ref_record n)) is = absurd (cc (is, c.in-Absent.ensures))
returns-in-Absent c (some (ref_array m)) is = absurd (cc (is.2, c.in-Absent.ensures))
returns-in-Absent c (some (ref_array_brackets i m)) is = absurd (cc (is.2, c.in-Absent.ensures))
