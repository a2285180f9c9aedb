use Rattle.std.proofs.Common.{true, map, sym, ap, ◌∙◌, subst}
use Rattle.nodes.specs.Nodes.{IsMany}
use Rattle.nodes.specs.Lists.{IsDeclared}
use Rattle.statics.specs.Modes as rules
use Rattle.statics.specs.Scopes.{stored}
use Rattle.statics.specs.Written.{site}
use Rattle.statics.specs.Modules.{dec_names}
use Rattle.modes.specs.Meanings.{thing_means}
use Rattle.frames.specs.Frames.{declared_names, site_means}
use Rattle.frames.proofs.Filled.{ahead_same}
use Rattle.inventory.proofs.Items.{of_variables, of_arrays, of_structures}
use Rattle.inventory.proofs.module_names.put_dec.Goals as goal
use Rattle.inventory.proofs.module_names.put_dec.Goals.{in-Variables, in-Arrays, in-Structures}

pub returns-clause-put : goal.returns-clause-put
returns-clause-put c = λ x ms s d is.
    elim c.match-node_at.branch [
      | in-Variables w ↦
          let y = of_variables (IsMany (IsDeclared s)) _ _ d _ _ is (sym w.in-Variables.ensures) in
          ahead_same (site_means x ms) _ _ _ _ _ _
          (ap (λ t. map (site (stored t)) (declared_names s y.1)) (ap (λ p. thing_means x p.0) w.thing-is ∙ ap (rules.place true) (w.mode_at.ensures y.0 y.2 x)) ∙ ap (dec_names x (declared_names s)) y.4)
          (c.put_declared.ensures.put x ms s y.1 (subst (λ j. IsMany (IsDeclared s) y.1 c.args.nodes.now j) (sym (ap (λ p. p.1) w.thing-is)) y.3))
      | in-Arrays w ↦
          let y = of_arrays (IsMany (IsDeclared s)) _ _ d _ _ _ _ is (sym w.in-Arrays.ensures) in
          ahead_same (site_means x ms) _ _ _ _ _ _
          (ap (λ t. map (site (stored t)) (declared_names s y.1)) (ap (λ p. thing_means x p.0) w.thing-is ∙ ap rules.array (w.element_at.ensures y.0 y.2 x)) ∙ ap (dec_names x (declared_names s)) y.4)
          (c.put_declared.ensures.put x ms s y.1 (subst (λ j. IsMany (IsDeclared s) y.1 c.args.nodes.now j) (sym (ap (λ p. p.1) w.thing-is)) y.3))
      | in-Structures w ↦
          let y = of_structures (IsMany (IsDeclared s)) _ _ d _ _ is (sym w.in-Structures.ensures) in
          ahead_same (site_means x ms) _ _ _ _ _ _
          (ap (λ t. map (site (stored t)) (declared_names s y.0)) (ap (λ p. thing_means x p.0) w.thing-is) ∙ ap (dec_names x (declared_names s)) y.2)
          (c.put_declared.ensures.put x ms s y.0 (subst (λ j. IsMany (IsDeclared s) y.0 c.args.nodes.now j) (sym (ap (λ p. p.1) w.thing-is)) y.1))
    ]
