use Rattle.grammar.proofs.Tests.{said}
use Rattle.grammar.proofs.alike.Goals as goal

pub returns : goal.returns
returns c = said _ _ _ c.eq.ensures
