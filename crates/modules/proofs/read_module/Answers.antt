use Rattle.std.proofs.Common.{arith}
use Rattle.modules.proofs.Moditems.{too_long, whole}
use Rattle.modules.proofs.read_module.Goals as goal

pub returns-then-m-s : goal.returns-then-m-s
returns-then-m-s c = too_long c.args.s.now _ _ c.in_ok-m.m c.in_ok-m.ensures (omega arith)

pub returns : goal.returns
returns c = whole c.args.s.now _ _ c.in_ok-m.m c.in_ok-m.ensures (omega arith)
