use Rattle.std.proofs.Common.{◌≡◌}
use Rattle.grammar.specs.Trees.{Many, Destination}
use Rattle.nodes.specs.Nodes.{IsMany, IsDestination}
use Rattle.blocks.specs.Statements.{first_of}
use Rattle.blocks.proofs.simple.first_target.Given as goal

-- what is left has the same first one
abbrev pub invariant-loop-front : goal.invariant-loop-front
invariant-loop-front l = (ds : Many Destination) → IsMany IsDestination ds l.nodes l.k → (es : Many Destination) × IsMany IsDestination es l.nodes l.at × (first_of es ≡ first_of ds)

abbrev pub decreases-loop-front : goal.decreases-loop-front
decreases-loop-front l = l.at
