use Rattle.std.proofs.Common.{inl, inr, refl, ◌+◌, arith}
use Rattle.scanner.proofs.Scans.{measured, shown, named_shown, based_long, based_short}
use Rattle.scanner.proofs.scan.based.Goals as goal
use Rattle.scanner.proofs.scan.based.Goals.{else-spaces-gt0-via-then-spaces-gt0+else-digits-gt0, else-spaces-gt0-via-else-spaces-gt0}

pub returns-then-digits-gt0 : goal.returns-then-digits-gt0
returns-then-digits-gt0 c =
    let t = c.args.text.now in
    let n = c.args.end in
    let s = c.run-spaces.result in
    let d = c.run-digits.result in
    let m = measured t c.split_at.result.1.now n c.args.base s d c.split_at.ensures.back c.run-spaces.ensures.is c.run-digits.ensures.is in
    shown t _ _ (n + s + d) refl (omega (arith, c.run-digits.ensures.fits)) (based_long t n c.args.base s d m c.if-spaces-gt0.true c.if-digits-gt0.true)

pub returns-else-spaces-gt0 : goal.returns-else-spaces-gt0
returns-else-spaces-gt0 c =
    let t = c.args.text.now in
    let n = c.args.end in
    let s = c.run-spaces.result in
    let d = c.run-digits.result in
    let m = measured t c.split_at.result.1.now n c.args.base s d c.split_at.ensures.back c.run-spaces.ensures.is c.run-digits.ensures.is in
    named_shown t c.split_at.result.0.now _ c.named.result n c.requires c.split_at.ensures.front c.named.ensures.symbol c.named.ensures.bytes
    (based_short t n c.args.base s d m
    (elim c.else-spaces-gt0.branch [
      | else-spaces-gt0-via-then-spaces-gt0+else-digits-gt0 w ↦ inr w.if-digits-gt0.false
      | else-spaces-gt0-via-else-spaces-gt0 w ↦ inl w.if-spaces-gt0.false
    ]))
