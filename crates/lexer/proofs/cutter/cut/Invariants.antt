use Rattle.std.proofs.Common.{◌-◌, ◌≤◌, List, length}
use Rattle.symbols.specs.declared.Entry.{Entry}
use Rattle.lexer.specs.Steps.{Over}
use Rattle.lexer.specs.Tables.{items_of}
use Rattle.lexer.proofs.Cuts.{Reached}
use Rattle.lexer.proofs.cutter.cut.Given as goal

-- the items up to `at` are those in the table, or there are more
abbrev pub invariant-loop-at : goal.invariant-loop-at
invariant-loop-at l =
    (l.at ≤ length l.text) × (length l.text ≤ 32768) × ((es : List Entry) × (Over l.room (items_of l.table) es) × (Reached l.text l.at es))

abbrev pub decreases-loop-at : goal.decreases-loop-at
decreases-loop-at l = length l.text - l.at
