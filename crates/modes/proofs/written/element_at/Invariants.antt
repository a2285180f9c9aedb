use Rattle.std.proofs.Common.{◌≡◌, ◌+◌, ◌≤◌}
use Rattle.statics.specs.Scopes.{Text as Facts}
use Rattle.statics.specs.Written.{element_of}
use Rattle.grammar.specs.Trees.{Amode}
use Rattle.nodes.specs.Nodes.{IsAmode}
use Rattle.modes.specs.Meanings.{behind}
use Rattle.modes.proofs.written.element_at.Given as goal

abbrev pub invariant-loop-elements : goal.invariant-loop-elements
invariant-loop-elements l = record {
  within : l.arrays + l.at ≤ l.k;
  reached : (m : Amode) → IsAmode m l.nodes l.k → (n : Amode) × IsAmode n l.nodes l.at × ((x : Facts) → element_of x m ≡ behind l.arrays (element_of x n));
}

abbrev pub decreases-loop-elements : goal.decreases-loop-elements
decreases-loop-elements l = l.at
