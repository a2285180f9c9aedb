use Rattle.symbols.proofs.Examples.{hex_is}
use Rattle.symbols.proofs.laws.value_of_hex.Goals as goal

pub returns : goal.returns
returns c = hex_is
