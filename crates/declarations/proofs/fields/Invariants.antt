use Rattle.std.proofs.Common.{◌-◌, length}
use Rattle.grammar.specs.Trees.{Fields, of_fields}
use Rattle.nodes.specs.Made.{Made, FieldsWay}
use Rattle.nodes.specs.Nodes.{IsFields}
use Rattle.declarations.proofs.fields.Given as goal

abbrev pub invariant-loop-from : goal.invariant-loop-from
invariant-loop-from l = Made 0 Fields IsFields of_fields (FieldsWay l.from.depth l.from.symbols.now l.from.next) l.from.symbols.now l.from.next l.from.used l.initial.nodes l.nodes l.at

abbrev pub decreases-loop-from : goal.decreases-loop-from
decreases-loop-from l = length l.from.symbols.now - l.at.next
