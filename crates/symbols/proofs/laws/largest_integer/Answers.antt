use Rattle.symbols.proofs.Examples.{bound}
use Rattle.symbols.proofs.laws.largest_integer.Goals as goal

pub returns : goal.returns
returns c = bound
