use Rattle.std.proofs.Common.{sym, ◌∙◌}
use Rattle.statements.proofs.Shapes.{shows_called, shows_called_on, shows_indexed, shows_longer, shows_other}
use Rattle.statements.proofs.assignments.shape_of.Goals as goal

pub returns-in-Call : goal.returns-in-Call
returns-in-Call c t = shows_called c.args.nodes.now c.args.k t c.in-Call.name c.in-Call.bracket (sym c.in-Call.ensures)

pub returns-in-CallOn : goal.returns-in-CallOn
returns-in-CallOn c t = shows_called_on c.args.nodes.now c.args.k t c.in-CallOn.name c.in-CallOn.bracket c.in-CallOn.given (sym c.in-CallOn.ensures)

pub returns-in-Name : goal.returns-in-Name
returns-in-Name c t = shows_indexed c.args.nodes.now c.args.k t c.in-Element.base c.in-Element.bracket c.in-Element.index (sym c.in-Element.ensures) c.in-Name.name (sym c.in-Name.ensures)

pub returns-in_default-node_at : goal.returns-in_default-node_at
returns-in_default-node_at c t = shows_longer c.args.nodes.now c.args.k t c.in-Element.base c.in-Element.bracket c.in-Element.index (sym c.in-Element.ensures) (λ n a. c.in_default-node_at.not-Name n (c.node_at-in-Element.ensures ∙ a))

pub returns-in_default : goal.returns-in_default
returns-in_default c t =
    let is = c.node_at.ensures in
    shows_other c.args.nodes.now c.args.k t (λ b i g a. c.in_default.not-Element b i g (is ∙ a)) (λ n i a. c.in_default.not-Call n i (is ∙ a)) (λ n i g a. c.in_default.not-CallOn n i g (is ∙ a))
