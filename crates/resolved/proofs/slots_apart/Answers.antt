use Rattle.std.proofs.Common.{arith}
use Rattle.resolved.proofs.slots_apart.Goals as goal

pub returns : goal.returns
returns c = λ G i j l h n e. n (omega arith)
