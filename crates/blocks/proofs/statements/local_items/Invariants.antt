use Rattle.std.proofs.Common.{◌≡◌, ℕ, ◌+◌, ◌≤◌, length}
use Rattle.grammar.specs.Trees.{Expr, Init, Many}
use Rattle.nodes.specs.Nodes.{IsExpr, IsInit, IsMany}
use Rattle.statics.specs.Written.{list_names}
use Rattle.statics.specs.JudgeStatements.{judge_local_items}
use Rattle.texts.specs.Facts.{facts}
use Rattle.modes.specs.Meanings.{mode_means}
use Rattle.lists.specs.Lists.{left}
use Rattle.frames.specs.Frames.{frame_means}
use Rattle.blocks.specs.Statements.{with_ready}
use Rattle.blocks.proofs.Declaring.{Items}
use Rattle.blocks.proofs.statements.local_items.Given as goal

abbrev pub invariant-loop-item : goal.invariant-loop-item
invariant-loop-item l = (is : Many (Init (Expr 5))) → IsMany (IsInit IsExpr) is l.nodes l.list → length (list_names is) ≤ l.fn.ready → (n : ℕ) × (n + length (list_names is) ≡ l.fn.ready) × Items (frame_means l.frame l.names) (mode_means (facts l.frame.text) l.mode) l.nodes (left l.item-iterator) n l.ready l.result (judge_local_items (with_ready (frame_means l.frame l.names) n) (mode_means (facts l.frame.text) l.mode) is)
