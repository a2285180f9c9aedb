use Rattle.std.proofs.Common.{sym, ◌∙◌, arith}
use Rattle.grammar.specs.Symbols.{COMMA}
use Rattle.grammar.specs.Trees.{of_many, of_mode}
use Rattle.nodes.specs.Nodes.{IsMany, IsMode}
use Rattle.modules.proofs.Optional.{present, absent, modes_there, no_modes_there}
use Rattle.modules.proofs.maybe_modes.Goals as goal

pub returns-then-begins_mode : goal.returns-then-begins_mode
returns-then-begins_mode c = present (IsMany IsMode) (of_many of_mode COMMA) _ c.args.from c.peek.result c.peek.ensures.is _ (modes_there c.args.from) c.peek.ensures.there (sym c.begins_mode.ensures ∙ c.if-begins_mode.true) _ _ c.modes.result c.modes.ensures

pub returns : goal.returns
returns c = rw (c.put.ensures.written, c.put.ensures.is) (absent (IsMany IsMode) (of_many of_mode COMMA) _ c.args.from c.peek.result c.peek.ensures.is (no_modes_there c.args.from) (sym c.begins_mode.ensures ∙ c.if-begins_mode.false) c.args.nodes.now c.requires.within (omega arith))
