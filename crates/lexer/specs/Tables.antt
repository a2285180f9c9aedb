-- What a table holds. Assumes nothing.
use Rattle.std.specs.Prelude.{List, take}
use Rattle.symbols.specs.declared.Entry.{Entry}
use Rattle.lexer.specs.declared.table.ItemTable.{ItemTable}

-- the items, in their order
abbrev pub items_of : ItemTable → List Entry
items_of t = take t.count t.entries
