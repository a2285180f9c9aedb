use Rattle.std.proofs.Common.{sym, ◌∙◌}
use Rattle.std.proofs.lemmas.List.{get_or-map}
use Rattle.resolving.proofs.Homes.{item_at}
use Rattle.resolving.proofs.home_item.Goals as goal

pub returns-then-i-outer : goal.returns-then-i-outer
returns-then-i-outer c = λ G h. sym (get_or-map (λ d. d.item) c.args.env.names.now c.args.i _ 0 c.requires) ∙ item_at c.args.env.names.now c.args.outer c.args.i G h c.if-i-outer.true
