use Rattle.std.proofs.Common.{◌≡◌, ◌+◌, length}
use Rattle.grammar.specs.Trees.{Locals}
use Rattle.nodes.specs.Nodes.{IsLocals}
use Rattle.statics.specs.Statements.{entries as names_of_locals}
use Rattle.statics.specs.JudgeStatements.{judge_local_decs}
use Rattle.texts.specs.Facts.{facts}
use Rattle.lists.specs.Lists.{left}
use Rattle.frames.specs.Frames.{frame_means}
use Rattle.blocks.proofs.Declaring.{Decs}
use Rattle.blocks.proofs.statements.local_decs.Given as goal

abbrev pub invariant-loop-declaration : goal.invariant-loop-declaration
invariant-loop-declaration l = (ls : Locals) → IsLocals ls l.nodes l.locals → l.frame.ready + length (names_of_locals (facts l.frame.text) ls) ≡ l.frame.count → Decs (frame_means l.frame l.names) l.nodes (left l.declaration-iterator) l.ready l.result (judge_local_decs (frame_means l.frame l.names) ls)
