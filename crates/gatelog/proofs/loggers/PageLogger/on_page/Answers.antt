use Rattle.std.proofs.Common.{◌≡◌, []}
use Rattle.gatelog.proofs.Accepting.{opened}
use Rattle.gatelog.proofs.loggers.PageLogger.on_page.Goals as goal

pub returns-clause-fresh : goal.returns-clause-fresh
returns-clause-fresh c =
    let u : c.new-3.result.out.own.items ≡ [] = cc in
    let v : c.new-3.result.out.below.used ≡ 0 = cc in
    let p : c.new-3.result.out.below.bytes.now ≡ c.args.page.now = cc in
    opened _ _ _ _ u v p
