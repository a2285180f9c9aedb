use Rattle.std.proofs.Common.{length-take, arith}
use Rattle.verdicts.proofs.judge.Goals as goal

pub copy_from_slice-requires : goal.copy_from_slice-requires
copy_from_slice-requires c = omega (arith, length-take 9 c.args.buffer.now)
