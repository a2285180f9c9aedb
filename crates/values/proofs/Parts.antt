-- The components of a record mode, as the rules have them, from those of the code.
use Rattle.std.proofs.Common.{◌≡◌, ◌≤◌, List, map, length, ap, ◌∙◌, sym, arith}
use Rattle.std.specs.List.{filter, list_all}
use Rattle.std.proofs.lemmas.List.{length-map}
use Rattle.std.proofs.lemmas.List.Folds.{list_all-map}
use Rattle.std.proofs.lemmas.List.Sums.{length-filter, count_by-le-length}
use Rattle.statics.specs.Modes.{Word}
use Rattle.statics.specs.Scopes as rules
use Rattle.statics.specs.Scopes.{record_modes}
use Rattle.statics.specs.JudgeStatements.{is_plain}
use Rattle.modes.specs.Meanings.{mode_means}
use Rattle.scopes.specs.Meanings.{component_means}
use Rattle.scopes.specs.declared.Component.{Component}
use Rattle.scopes.proofs.Parts.{is_of, record_modes_are}

pub all_plain : (x : rules.Text) (cs : List Component) (r : Word) → list_all (λ c. is_plain (mode_means x c.mode)) (filter (is_of x r) cs) ≡ list_all is_plain (record_modes (map (component_means x) cs) r)
all_plain x cs r = sym (ap (list_all is_plain) (record_modes_are x cs r) ∙ list_all-map is_plain (λ c. mode_means x c.mode) (filter (is_of x r) cs))

-- they are no more than all components
pub few_parts : (x : rules.Text) (cs : List Component) (r : Word) → length (record_modes (map (component_means x) cs) r) ≤ length cs
few_parts x cs r =
    let e : length (record_modes (map (component_means x) cs) r) ≡ length (map (λ c. mode_means x c.mode) (filter (is_of x r) cs)) = ap length (record_modes_are x cs r) in
    omega (arith, e, length-map (filter (is_of x r) cs) (λ c. mode_means x c.mode), length-filter (is_of x r) cs, count_by-le-length (is_of x r) cs)
