use Rattle.std.proofs.Common.{[], ◌∷◌, ◌++◌, arith}
use Rattle.std.proofs.lemmas.Result.{err_from_is_err_and}
use Rattle.symbols.specs.declared.Entry.{Entry}
use Rattle.lexer.specs.Tables.{items_of}
use Rattle.lexer.proofs.Cuts.{long_answer, decline_answer, room_answer, reached_more, put, few_items}
use Rattle.lexer.proofs.cutter.cut.Goals as goal

pub returns-then-text-gt-MAX_BYTES : goal.returns-then-text-gt-MAX_BYTES
returns-then-text-gt-MAX_BYTES c = long_answer c.args.text.now c.if-text-gt-MAX_BYTES.true

pub returns-in_err-passed : goal.returns-in_err-passed
returns-in_err-passed c =
    let i = c.loop-at.invariant in
    let p = err_from_is_err_and c.from_residual.result c.from_residual.ensures.1 in
    rw (p.1, p.2) (decline_answer c.args.text.now c.loop-at.at i.2.0 _ i.1 i.2.2 c.in_err-passed.ensures)

pub loop-at-preserved-in-Some : goal.loop-at-preserved-in-Some
loop-at-preserved-in-Some c =
    let t = c.args.text.now in
    let i = c.loop-at.invariant in
    let p = c.in_ok-passed.ensures in
    let x : Entry = record { symbol = c.in-Some.symbol; start = c.place.result; end = c.place-in-Some.result } in
    let o = put c.loop-at.room c.and-room.result c.push.result (items_of c.loop-at.table) (items_of c.push.new.self) i.2.0 x i.2.1 c.and-room.ensures c.push.ensures.put c.push.ensures.full c.push.ensures.decline (few_items c.push.new.self) in
    (p.1, i.1, (i.2.0 ++ (x ∷ []), o, reached_more t c.loop-at.at c.in_ok-passed.passed.end i.2.0 c.in_ok-passed.passed.symbol c.in-Some.symbol c.place.result c.place-in-Some.result c.in-Some.is c.place.ensures c.place-in-Some.ensures p.2 i.2.2))

pub returns : goal.returns
returns c =
    let i = c.loop-at.invariant in
    room_answer c.args.text.now c.loop-at.at (items_of c.loop-at.table) i.2.0 c.loop-at.room i.1 (omega arith) (few_items c.loop-at.table) i.2.1 i.2.2
