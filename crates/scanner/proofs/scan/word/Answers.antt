use Rattle.std.proofs.Common.{take, None, refl}
use Rattle.symbols.proofs.Lookup.{base_is}
use Rattle.scanner.proofs.Scans.{named_shown, word_at}
use Rattle.scanner.proofs.scan.word.Goals as goal

pub returns-in-None : goal.returns-in-None
returns-in-None c =
    let t = c.args.text.now in
    let n = c.run-end.result in
    named_shown t (take n t) _ c.named.result n c.run-end.ensures.fits refl c.named.ensures.symbol c.named.ensures.bytes
    (word_at t n None c.run-end.ensures.is (base_is (take n t) None c.in-None.ensures))
