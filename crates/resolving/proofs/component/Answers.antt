use Rattle.std.proofs.Common.{◌≡◌, ℕ, true, Some, Option, option_map, length, sym, ap, ◌∙◌}
use Rattle.std.proofs.lemmas.List.{get_or-map, take-map}
use Rattle.statics.specs.Modes.{Mode, Thing, place}
use Rattle.statics.specs.Scopes.{no_component, component_at, record_modes}
use Rattle.texts.specs.Facts.{facts}
use Rattle.scopes.specs.Meanings.{component_means, env_means}
use Rattle.resolved.specs.ResolveExpressions.{component_number}
use Rattle.resolving.proofs.component.Goals as goal

both : (m k : Mode) (i j : ℕ) → m ≡ k → i ≡ j → ◌≡◌ {A = Option (Thing × ℕ)} (Some (place true m, i)) (Some (place true k, j))
both m k i j e d = cc

pub returns : goal.returns
returns c =
    let e = c.args.env in
    let x = facts e.text in
    let r = x.word c.args.owner in
    let k = c.in_ok-k.k in
    both _ _ _ _
    (ap (λ d. d.mode) (sym (get_or-map (component_means x) e.parts.now k _ no_component c.in_ok-k.ensures.within)))
    (c.components.ensures ∙ ap (λ l. length (record_modes l r)) (sym (take-map (component_means x) k e.parts.now)))
    ∙ ap (option_map (λ i. (place true (component_at (env_means e) i).mode, component_number (env_means e) r i))) c.in_ok-k.ensures.called
