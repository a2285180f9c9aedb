-- Tables that hold what a module declares stand for the environment of the rules. Assumes nothing.
use Rattle.std.proofs.Common.{◌≡◌, ℕ, ◌≤◌, List, Option, length, map, take, None, option_map, refl, ap, sym, ◌∙◌}
use Rattle.std.proofs.lemmas.List.{length-map}
use Rattle.std.proofs.lemmas.Simd.{map-map}
use Rattle.grammar.specs.Trees.{Module}
use Rattle.statics.specs.Scopes as rules
use Rattle.statics.specs.Modes as rules_modes
use Rattle.statics.specs.Written.{Site, gather, declare, items}
use Rattle.statics.specs.Modules.{moditem_names, moditem_parts, module_env}
use Rattle.texts.specs.Facts.{facts}
use Rattle.modes.specs.declared.Mode.{Mode}
use Rattle.modes.specs.Meanings.{mode_means}
use Rattle.scopes.specs.declared.Declared.{Declared}
use Rattle.scopes.specs.Meanings.{declared_means, component_means}
use Rattle.frames.specs.declared.Frame.{Frame}
use Rattle.frames.specs.Frames.{frame_means, site_means}

abbrev env_of : rules.Text → List rules.Declared → ℕ → List rules.Component → Option rules_modes.Mode → rules.Env
env_of x ds n cs g = record { text = x; names = ds; ready = n; parts = cs; result = g }

module _ (f : Frame) (ns : List Declared) (m : Module) where
  -- the first `count` names of the table are those of the module
  abbrev pub Named : Type 0
  Named = map (site_means (facts f.text) f.takes.now) (take f.count ns) ≡ gather (moditem_names (facts f.text)) m

  pub whole : f.ready ≡ length (take f.count ns) → f.result ≡ None → Named → map (component_means (facts f.text)) f.parts.now ≡ gather (moditem_parts (facts f.text)) m → frame_means f ns ≡ module_env (facts f.text) m
  whole ready none named parts =
      let x = facts f.text in
      let g = site_means x f.takes.now in
      let ds = take f.count ns in
      let words : map (declared_means x f.takes.now) ds ≡ map (declare x) (gather (moditem_names x) m) = sym (map-map (declare x) g ds) ∙ ap (λ (ss : List Site). map (declare x) ss) named in
      let count : f.ready ≡ length (gather (moditem_names x) m) = ready ∙ sym (length-map ds g) ∙ ap (λ (ss : List Site). length ss) named in
      ap (λ (us : List rules.Declared). env_of x us f.ready (map (component_means x) f.parts.now) (option_map (mode_means x) f.result)) words
      ∙ ap (λ (n : ℕ). env_of x (map (declare x) (gather (moditem_names x) m)) n (map (component_means x) f.parts.now) (option_map (mode_means x) f.result)) count
      ∙ ap (λ (cs : List rules.Component). env_of x (map (declare x) (gather (moditem_names x) m)) (length (gather (moditem_names x) m)) cs (option_map (mode_means x) f.result)) parts
      ∙ ap (λ (o : Option Mode). env_of x (map (declare x) (gather (moditem_names x) m)) (length (gather (moditem_names x) m)) (gather (moditem_parts x) m) (option_map (mode_means x) o)) none

  -- and so are the items that declare them
  pub named_items : Named → map (λ d. d.item) (take f.count ns) ≡ items (gather (moditem_names (facts f.text)) m)
  named_items named = sym (map-map (λ (s : Site). s.item) (site_means (facts f.text) f.takes.now) (take f.count ns)) ∙ ap items named

  pub named_count : f.count ≡ length (take f.count ns) → Named → f.count ≡ length (gather (moditem_names (facts f.text)) m)
  named_count few named = few ∙ sym (length-map (take f.count ns) (site_means (facts f.text) f.takes.now)) ∙ ap (λ (ss : List Site). length ss) named
