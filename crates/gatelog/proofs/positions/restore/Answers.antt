use Rattle.std.proofs.Common.{length, sym, ◌∙◌}
use Rattle.std.proofs.lemmas.List.{length_push}
use Rattle.gatelog.proofs.Restoring.{next_record, stands_same, stands_more}
use Rattle.gatelog.proofs.positions.restore.Goals as goal

pub loop-record-preserved-in-Some-decode : goal.loop-record-preserved-in-Some-decode
loop-record-preserved-in-Some-decode c =
    let n = length c.loop-record.yielded in
    let s = c.in-Some.ensures.steps in
    let i = c.loop-record.invariant in
    let r = next_record n c.args.bytes.now c.in-Some.record.now _ (sym i.rest ∙ s.1.0) (s.1.1 ∙ i.size) in
    rw (length_push c.loop-record.yielded c.in-Some.record)
    (record { size = s.0 ∙ i.size; rest = r.1; stands = stands_more n c.args.bytes.now _ c.loop-record.positions c.note.new.self c.in-Some-decode.entry r.0 c.in-Some-decode.ensures.value i.stands c.note.ensures })

pub loop-record-preserved : goal.loop-record-preserved
loop-record-preserved c =
    let n = length c.loop-record.yielded in
    let s = c.in-Some.ensures.steps in
    let i = c.loop-record.invariant in
    let r = next_record n c.args.bytes.now c.in-Some.record.now _ (sym i.rest ∙ s.1.0) (s.1.1 ∙ i.size) in
    rw (length_push c.loop-record.yielded c.in-Some.record)
    (record { size = s.0 ∙ i.size; rest = r.1; stands = stands_same n c.args.bytes.now _ c.loop-record.positions r.0 (sym c.in_default.is ∙ c.decode.ensures.value) i.stands })
