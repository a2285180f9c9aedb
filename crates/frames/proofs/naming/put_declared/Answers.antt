use Rattle.std.proofs.Common.{ℕ, List, map, sym, ap, subst, ◌∙◌}
use Rattle.grammar.specs.Machine.{declareds}
use Rattle.nodes.specs.Lists.{IsDeclared}
use Rattle.statics.specs.Written.{site}
use Rattle.scopes.specs.Meanings.{classed}
use Rattle.lists.specs.Lists.{Stand, of_many, left}
use Rattle.frames.specs.Frames.{declared_names, site_means}
use Rattle.frames.proofs.Filled.{kept_all, kept_on, ahead_one, ahead_same, filling_in, filling_on, filling_out}
use Rattle.frames.proofs.Listing.{entry_names, declared_together, alone_entry_at, given_entry, no_entry}
use Rattle.frames.proofs.naming.put_declared.Goals as goal

pub loop-declared-init : goal.loop-declared-init
loop-declared-init c = (
  kept_all _ _,
  λ x ms s is stand. filling_in (site_means x ms) (λ t. map (site (classed x ms c.args.class)) (entry_names s t)) (IsDeclared s) c.args.nodes.now (of_many is) _ (map (site (classed x ms c.args.class)) (declared_names s is)) _ _
      (subst (λ (ks : List ℕ). Stand (IsDeclared s) (of_many is) c.args.nodes.now ks) (ap left (sym c.into_iter-declared-iterator.ensures.into_iter_gives)) (c.entries-declared-items.ensures.repeated (declareds s) is tt stand))
      (declared_together (site (classed x ms c.args.class)) s is),
)

pub loop-declared-preserved : goal.loop-declared-preserved
loop-declared-preserved c = (
  kept_on _ _ _ _ _ _ c.loop-declared.invariant.0 c.put-start.ensures.kept,
  λ x ms s is stand. filling_on (site_means x ms) (λ t. map (site (classed x ms c.args.class)) (entry_names s t)) (IsDeclared s) c.args.nodes.now _ _ _ _ _ _ _ _ _ _ c.in-Some.ensures.steps c.loop-declared.invariant.0.length
      (λ t at. ahead_one _ _ _ _ _ _ _ (ap (map (site (classed x ms c.args.class))) (sym (alone_entry_at _ _ s t _ _ c.node_at.ensures c.in-Plain.is at))) c.put-start.ensures.put)
      (c.loop-declared.invariant.1 x ms s is stand),
)

pub loop-declared-preserved-in-Given-1 : goal.loop-declared-preserved-in-Given-1
loop-declared-preserved-in-Given-1 c = (
  kept_on _ _ _ _ _ _ c.loop-declared.invariant.0 c.put_names-start.ensures.kept,
  λ x ms s is stand. filling_on (site_means x ms) (λ t. map (site (classed x ms c.args.class)) (entry_names s t)) (IsDeclared s) c.args.nodes.now _ _ _ _ _ _ _ _ _ _ c.in-Some.ensures.steps c.loop-declared.invariant.0.length
      (λ t at.
      let y = given_entry _ _ s t _ _ at (sym c.in-Given.ensures) in
      ahead_same (site_means x ms) _ _ _ _ _ _ (ap (map (site (classed x ms c.args.class))) (sym y.2)) (c.put_names-start.ensures.put x ms y.0 y.1))
      (c.loop-declared.invariant.1 x ms s is stand),
)

pub loop-declared-preserved-in-Integer-1 : goal.loop-declared-preserved-in-Integer-1
loop-declared-preserved-in-Integer-1 c = (
  c.loop-declared.invariant.0,
  λ x ms s is stand. filling_on (site_means x ms) (λ t. map (site (classed x ms c.args.class)) (entry_names s t)) (IsDeclared s) c.args.nodes.now _ _ _ _ _ _ _ _ _ _ c.in-Some.ensures.steps c.loop-declared.invariant.0.length
      (λ t at. absurd (no_entry _ _ s t at (λ n e. c.in_default.not-Plain n (c.node_at.ensures ∙ e)) (λ n e. c.in_default.not-Name n (c.node_at.ensures ∙ e)) (λ l r e. c.in_default.not-Given l r (c.node_at.ensures ∙ e))))
      (c.loop-declared.invariant.1 x ms s is stand),
)

pub returns-clause-put : goal.returns-clause-put
returns-clause-put c = λ x ms s is stand. filling_out (site_means x ms) (λ t. map (site (classed x ms c.args.class)) (entry_names s t)) (IsDeclared s) c.args.nodes.now _ _ _ _ _ _ c.in-None.ensures.steps.0 (c.loop-declared.invariant.1 x ms s is stand)
