use Rattle.std.proofs.Common.{sym, ◌∙◌}
use Rattle.std.proofs.lemmas.Bool.{ne_eqb}
use Rattle.modes.proofs.Behind.{same_behind, differ_behind}
use Rattle.texts.specs.Facts.{facts}
use Rattle.modes.proofs.Element.same.Goals as goal

pub returns-then-self-other : goal.returns-then-self-other
returns-then-self-other c = c.same.ensures ∙ sym (same_behind (facts c.args.text) c.args.self.arrays c.args.other.arrays c.args.self.base c.args.other.base c.if-self-other.true)

pub returns-else-self-other : goal.returns-else-self-other
returns-else-self-other c = ne_eqb _ _ c.if-self-other.false ∙ sym (differ_behind (facts c.args.text) c.args.self.arrays c.args.other.arrays c.args.self.base c.args.other.base c.if-self-other.false)
