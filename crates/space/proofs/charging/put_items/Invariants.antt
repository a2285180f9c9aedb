use Rattle.grammar.specs.Trees.{Init, Many, Value}
use Rattle.nodes.specs.Nodes.{IsInit, IsMany, IsValue}
use Rattle.statics.specs.Written.{gather}
use Rattle.statics.specs.Space.{item_charges}
use Rattle.texts.specs.Facts.{facts}
use Rattle.lists.specs.Lists.{left}
use Rattle.frames.specs.Frames.{Kept}
use Rattle.space.specs.Charges.{charge_means}
use Rattle.frames.proofs.Filled.{Filling}
use Rattle.space.proofs.charging.put_items.Given as goal

abbrev pub invariant-loop-item : goal.invariant-loop-item
invariant-loop-item l =
    Kept l.fn.start l.fn.charges l.start l.charges
    × ((is : Many (Init Value)) → IsMany (IsInit IsValue) is l.nodes l.list → Filling charge_means (item_charges (facts l.text) l.amount) (IsInit IsValue) l.nodes (left l.item-iterator) (gather (item_charges (facts l.text) l.amount) is) l.fn.start l.fn.charges l.start l.charges)
