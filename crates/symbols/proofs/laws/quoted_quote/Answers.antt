use Rattle.symbols.proofs.Examples.{quoted_quote_lem}
use Rattle.symbols.proofs.laws.quoted_quote.Goals as goal

pub returns : goal.returns
returns c = quoted_quote_lem
