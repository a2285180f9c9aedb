use Rattle.std.proofs.Common.{sym, ◌∙◌, arith}
use Rattle.grammar.specs.Trees.{of_mode}
use Rattle.nodes.specs.Nodes.{IsMode}
use Rattle.modules.proofs.Optional.{present, absent, mode_there, no_mode_there}
use Rattle.modules.proofs.maybe_mode.Goals as goal

pub returns-then-begins_mode : goal.returns-then-begins_mode
returns-then-begins_mode c = present IsMode of_mode _ c.args.from c.peek.result c.peek.ensures.is _ (mode_there c.args.from) c.peek.ensures.there (sym c.begins_mode.ensures ∙ c.if-begins_mode.true) _ _ c.mode.result c.mode.ensures

pub returns : goal.returns
returns c = rw (c.put.ensures.written, c.put.ensures.is) (absent IsMode of_mode _ c.args.from c.peek.result c.peek.ensures.is (no_mode_there c.args.from) (sym c.begins_mode.ensures ∙ c.if-begins_mode.false) c.args.nodes.now c.requires.within (omega arith))
