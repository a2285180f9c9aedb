use Rattle.std.proofs.Common.{◌≡◌, ◌+◌, ◌*◌, take, arith}
use Rattle.symbols.specs.Items.{written}
use Rattle.scanner.proofs.Numbers.{written_more, written_front}
use Rattle.scanner.proofs.value.number.Goals as goal

pub returns-then-value-gt-MAX_INTEGER : goal.returns-then-value-gt-MAX_INTEGER
returns-then-value-gt-MAX_INTEGER c =
    let xs = c.args.digits.now in
    let b = c.args.base in
    let i = c.loop-digit.digit-index in
    let e : c.loop-digit.value * b + c.from.result ≡ written b (take (i + 1) xs) = cc (written_more b xs i c.loop-digit-test.true) in
    omega (arith, e, written_front b xs (i + 1) (omega arith))

pub loop-digit-preserved : goal.loop-digit-preserved
loop-digit-preserved c =
    let m = written_more c.args.base c.args.digits.now c.loop-digit.digit-index c.loop-digit-test.true in
    (cc, c.if-value-gt-MAX_INTEGER.false)
