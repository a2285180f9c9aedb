use Rattle.std.proofs.Common.{ℕ, List, map, sym, ap, subst, ◌∙◌}
use Rattle.grammar.specs.Machine.{set, inblock}
use Rattle.nodes.specs.Nodes.{IsLocal}
use Rattle.statics.specs.Scopes as rules
use Rattle.statics.specs.Written.{site}
use Rattle.statics.specs.Statements.{entries as names_of_locals, local_names}
use Rattle.lists.specs.Lists.{Stand, of_locals, left}
use Rattle.frames.specs.Frames.{declared_names, site_means}
use Rattle.frames.proofs.Filled.{kept_all, kept_on, ahead_same, filling_in, filling_on, filling_out}
use Rattle.frames.proofs.Listing.{locals_together, one_local, no_local}
use Rattle.frames.proofs.naming.put_locals.Goals as goal

pub loop-declaration-init : goal.loop-declaration-init
loop-declaration-init c = (
  kept_all _ _,
  λ x ms ls is. filling_in (site_means x ms) (local_names x) IsLocal c.args.nodes.now (of_locals ls) _ (names_of_locals x ls) _ _
      (subst (λ (ks : List ℕ). Stand IsLocal (of_locals ls) c.args.nodes.now ks) (ap left (sym c.into_iter-declaration-iterator.ensures.into_iter_gives)) (c.entries-declaration-items.ensures.locals ls is))
      (locals_together x ls),
)

pub loop-declaration-preserved-in-Local : goal.loop-declaration-preserved-in-Local
loop-declaration-preserved-in-Local c = (
  kept_on _ _ _ _ _ _ c.loop-declaration.invariant.0 c.put_declared-start.ensures.kept,
  λ x ms ls is. filling_on (site_means x ms) (local_names x) IsLocal c.args.nodes.now _ _ _ _ _ _ _ _ _ _ c.in-Some.ensures.steps c.loop-declaration.invariant.0.length
      (λ t at.
      let y = one_local _ _ t _ _ at (sym c.in-Local.ensures) in
      ahead_same (site_means x ms) _ _ _ _ _ _ (ap (λ m. map (site (rules.local m)) (declared_names (set inblock) y.1)) (c.mode_at.ensures y.0 y.2 x) ∙ y.4 x) (c.put_declared-start.ensures.put x ms (set inblock) y.1 y.3))
      (c.loop-declaration.invariant.1 x ms ls is),
)

pub loop-declaration-preserved : goal.loop-declaration-preserved
loop-declaration-preserved c = (
  c.loop-declaration.invariant.0,
  λ x ms ls is. filling_on (site_means x ms) (local_names x) IsLocal c.args.nodes.now _ _ _ _ _ _ _ _ _ _ c.in-Some.ensures.steps c.loop-declaration.invariant.0.length
      (λ t at. absurd (no_local _ _ t at (λ l r e. c.in_default.not-Local l r (c.node_at.ensures ∙ e))))
      (c.loop-declaration.invariant.1 x ms ls is),
)

pub returns-clause-put : goal.returns-clause-put
returns-clause-put c = λ x ms ls is. filling_out (site_means x ms) (local_names x) IsLocal c.args.nodes.now _ _ _ _ _ _ c.in-None.ensures.steps.0 (c.loop-declaration.invariant.1 x ms ls is)
