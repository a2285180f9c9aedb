use Rattle.std.proofs.Common.{◌-◌, length}
use Rattle.nodes.proofs.Repeat.{SomeMade}
use Rattle.nodes.proofs.lists.read_list.Given as goal

abbrev pub invariant-loop-of : goal.invariant-loop-of
invariant-loop-of g l = SomeMade g.L.Entries.slack (g.L.Entries.kind l.of) (g.L.Entries.goal l.of) l.from.depth l.from.symbols.now l.from.next l.from.used l.initial.nodes l.nodes l.at

abbrev pub decreases-loop-of : goal.decreases-loop-of
decreases-loop-of g l = length l.from.symbols.now - l.at.next
