use Rattle.std.proofs.Common.{◌≡◌, ℕ, List, [], ◌∷◌, map, sym, ap, subst, ◌∙◌}
use Rattle.grammar.specs.Machine.{declareds, unset}
use Rattle.nodes.specs.Nodes.{IsName}
use Rattle.statics.specs.Modules.{names_of}
use Rattle.lists.specs.Lists.{Stand, of_many, left}
use Rattle.space.specs.Charges.{charge, charge_means}
use Rattle.frames.proofs.Filled.{kept_all, kept_on, gathered, ahead_one, filling_in, filling_on, filling_out}
use Rattle.space.proofs.charging.put_shared.Goals as goal

pub loop-name-init : goal.loop-name-init
loop-name-init c = (
  kept_all _ _,
  λ ns is. filling_in charge_means (λ n. charge c.args.amount n ∷ []) IsName c.args.nodes.now (of_many ns) _ (map (charge c.args.amount) (names_of ns)) _ _
      (subst (λ (ks : List ℕ). Stand IsName (of_many ns) c.args.nodes.now ks) (ap left (sym c.into_iter-name-iterator.ensures.into_iter_gives)) (c.entries-name-items.ensures.repeated (declareds unset) ns tt is))
      (gathered (charge c.args.amount) (λ n. n ∷ []) ns),
)

pub loop-name-preserved-in-Name : goal.loop-name-preserved-in-Name
loop-name-preserved-in-Name c = (
  kept_on _ _ _ _ _ _ c.loop-name.invariant.0 c.put-start.ensures.kept,
  λ ns is. filling_on charge_means (λ n. charge c.args.amount n ∷ []) IsName c.args.nodes.now _ _ _ _ _ _ _ _ _ _ c.in-Some.ensures.steps c.loop-name.invariant.0.length
      (λ n at. ahead_one _ _ _ _ _ _ _ (let same : c.in-Name.item ≡ n = cc (at, c.in-Name.ensures) in ap (λ i. charge c.args.amount i ∷ []) same) c.put-start.ensures.put)
      (c.loop-name.invariant.1 ns is),
)

pub loop-name-preserved : goal.loop-name-preserved
loop-name-preserved c = (
  c.loop-name.invariant.0,
  λ ns is. filling_on charge_means (λ n. charge c.args.amount n ∷ []) IsName c.args.nodes.now _ _ _ _ _ _ _ _ _ _ c.in-Some.ensures.steps c.loop-name.invariant.0.length
      (λ n at. absurd (c.in_default.not-Name n (c.node_at.ensures ∙ at)))
      (c.loop-name.invariant.1 ns is),
)

pub returns-clause-put : goal.returns-clause-put
returns-clause-put c = λ ns is. filling_out charge_means (λ n. charge c.args.amount n ∷ []) IsName c.args.nodes.now _ _ _ _ _ _ c.in-None.ensures.steps.0 (c.loop-name.invariant.1 ns is)
