use Rattle.std.proofs.Common.{subst}
use Rattle.scanner.specs.Seen.{Small}
use Rattle.scanner.proofs.Numbers.{behind_at}
use Rattle.scanner.proofs.value.number_behind.Goals as goal

pub returns : goal.returns
returns c =
    subst (λ n. Small n c.number.result)
    (behind_at c.args.bytes.now c.split_at.result.0.now c.split_at.result.1.now c.run.result c.run-spaces.result c.radix.result c.run.ensures.is c.split_at.ensures.front c.split_at.ensures.back c.run-spaces.ensures.is c.radix.ensures.is)
    c.number.ensures
