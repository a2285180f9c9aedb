use Rattle.std.proofs.Common.{sym, ◌∙◌}
use Rattle.grammar.proofs.Tests.{agrees}
use Rattle.nodes.proofs.Spot.expect.Goals as goal

pub returns : goal.returns
returns c = sym c.peek.ensures.is ∙ agrees _ _ c.if-ne.ensures
