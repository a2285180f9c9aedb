use Rattle.std.proofs.Common.{sym, ◌∙◌, arith}
use Rattle.grammar.specs.Trees.{of_fields}
use Rattle.nodes.specs.Nodes.{IsFields}
use Rattle.modules.proofs.Optional.{present, absent, fields_there, no_fields_there}
use Rattle.modules.proofs.maybe_fields.Goals as goal

pub returns-then-begins_mode : goal.returns-then-begins_mode
returns-then-begins_mode c = present IsFields of_fields _ c.args.from c.peek.result c.peek.ensures.is _ (fields_there c.args.from) c.peek.ensures.there (sym c.begins_mode.ensures ∙ c.if-begins_mode.true) _ _ c.fields.result c.fields.ensures

pub returns : goal.returns
returns c = rw (c.put.ensures.written, c.put.ensures.is) (absent IsFields of_fields _ c.args.from c.peek.result c.peek.ensures.is (no_fields_there c.args.from) (sym c.begins_mode.ensures ∙ c.if-begins_mode.false) c.args.nodes.now c.requires.within (omega arith))
