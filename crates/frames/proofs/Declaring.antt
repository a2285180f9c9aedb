-- Names of a table behind others declare what is written there. Assumes nothing.
use Rattle.std.proofs.Common.{◌≡◌, ℕ, List, ◌++◌, map, take, ap, sym, ◌∙◌}
use Rattle.std.proofs.lemmas.List.{map-append}
use Rattle.std.proofs.lemmas.Simd.{map-map}
use Rattle.statics.specs.Scopes as rules
use Rattle.statics.specs.Written.{Site, declare}
use Rattle.modes.specs.declared.Mode.{Mode}
use Rattle.scopes.specs.declared.Declared.{Declared}
use Rattle.scopes.specs.Meanings.{declared_means}
use Rattle.frames.specs.Frames.{site_means}

pub named_behind : (x : rules.Text) (ms : List Mode) (count end : ℕ) (old new : List Declared) (us : List Site) → map (site_means x ms) (take end new) ≡ map (site_means x ms) (take count old) ++ us → map (declared_means x ms) (take end new) ≡ map (declared_means x ms) (take count old) ++ map (declare x) us
named_behind x ms count end old new us e =
    let g = site_means x ms in
    let by : (ds : List Declared) → map (declared_means x ms) ds ≡ map (declare x) (map g ds) = λ ds. sym (map-map (declare x) g ds) in
    by (take end new) ∙ ap (λ (ss : List Site). map (declare x) ss) e ∙ map-append (declare x) (map g (take count old)) us ∙ ap (λ (ds : List rules.Declared). ds ++ map (declare x) us) (sym (by (take count old)))
