use Rattle.std.proofs.Common.{ℕ, List, [], ◌∷◌, sym, ap, subst}
use Rattle.grammar.specs.Machine as machine
use Rattle.nodes.specs.Nodes.{IsMode}
use Rattle.statics.specs.Written.{mode_of}
use Rattle.statics.specs.Modules.{modes}
use Rattle.modes.specs.Meanings.{mode_means}
use Rattle.lists.specs.Lists.{Stand, left}
use Rattle.frames.proofs.Filled.{kept_all, kept_on, ahead_one, filling_in, filling_on, filling_out}
use Rattle.inventory.proofs.Items.{of_modes, modes_together, stand_modes}
use Rattle.inventory.proofs.takes.put_described.Goals as goal

pub loop-mode-init : goal.loop-mode-init
loop-mode-init c = (
  kept_all _ _,
  λ x ms is. filling_in (mode_means x) (λ m. mode_of x m ∷ []) IsMode c.args.nodes.now (of_modes ms) _ (modes x ms) _ _
      (subst (λ (ks : List ℕ). Stand IsMode (of_modes ms) c.args.nodes.now ks) (ap left (sym c.into_iter-mode-iterator.ensures.into_iter_gives)) (stand_modes _ _ _ (λ t at. c.entries-mode-items.ensures.repeated machine.modes t tt at) c.entries-mode-items.ensures.absent ms is))
      (modes_together x ms),
)

pub loop-mode-preserved : goal.loop-mode-preserved
loop-mode-preserved c = (
  kept_on _ _ _ _ _ _ c.loop-mode.invariant.0 c.put-start.ensures.kept,
  λ x ms is. filling_on (mode_means x) (λ m. mode_of x m ∷ []) IsMode c.args.nodes.now _ _ _ _ _ _ _ _ _ _ c.in-Some.ensures.steps c.loop-mode.invariant.0.length
      (λ m at. ahead_one _ _ _ _ _ _ _ (ap (λ u. u ∷ []) (c.mode_at.ensures m at x)) c.put-start.ensures.put)
      (c.loop-mode.invariant.1 x ms is),
)

pub returns-clause-put : goal.returns-clause-put
returns-clause-put c = λ x ms is. filling_out (mode_means x) (λ m. mode_of x m ∷ []) IsMode c.args.nodes.now _ _ _ _ _ _ c.in-None.ensures.steps.0 (c.loop-mode.invariant.1 x ms is)
