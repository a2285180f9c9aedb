use Rattle.std.proofs.Common.{◌≡◌, ◌+◌, ◌≤◌, length}
use Rattle.grammar.specs.Trees.{Expr, Init}
use Rattle.nodes.specs.Nodes.{IsExpr, IsInit}
use Rattle.statics.specs.Written.{item_names}
use Rattle.lists.specs.Lists.{left}
use Rattle.blocks.proofs.statements.sharing.Given as goal

abbrev pub invariant-loop : goal.invariant-loop
invariant-loop l = (i : Init (Expr 5)) → IsInit IsExpr i l.nodes l.init → (l.count + length (left l.iterator') ≡ length (item_names i)) × (length (item_names i) ≤ l.init)
