use Rattle.std.proofs.Common.{◌≡◌, subst}
use Rattle.grammar.specs.Trees.{store, procedure}
use Rattle.nodes.specs.Nodes.{IsDec, IsInit, IsMany, IsValue}
use Rattle.space.proofs.charging.put_brick.Goals as goal

pub returns-in-Store-clause-put : goal.returns-in-Store-clause-put
returns-in-Store-clause-put c (store n ds) at = c.put_store.ensures.put ds (let same : at.0 ≡ c.in-Store.list = cc (at.2, c.in-Store.is, c.node_at.ensures) in subst (λ r. IsMany (IsDec (IsMany (IsInit IsValue))) ds c.args.nodes.now r) same at.3)
returns-in-Store-clause-put c (procedure n i ps m b e) at = let off : ⊥ = cc (at.8, c.in-Store.is, c.node_at.ensures) in absurd off
