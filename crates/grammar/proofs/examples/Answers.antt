use Rattle.grammar.proofs.Shown.{examples}
use Rattle.grammar.proofs.examples.Goals as goal

pub returns : goal.returns
returns c = examples
