use Rattle.declarations.specs.Referring.{start}
use Rattle.declarations.proofs.innermost.Goals as goal

pub loop-from-init : goal.loop-from-init
loop-from-init c = start
