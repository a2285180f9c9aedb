use Rattle.std.proofs.Common.{List, [], length, refl}
use Rattle.grammar.specs.declared.Symbol.{Symbol}
use Rattle.grammar.specs.Sentences.{Made}
use Rattle.grammar.specs.Trees.{Module, blank, one}
use Rattle.statics.specs.Scopes.{Text}
use Rattle.statics.specs.Stages.{Static}
use Rattle.statics.specs.JudgeLimits.{judge_static}
use Rattle.statics.specs.Examples.{counter_text, counter, counter_symbols, narrow_text, narrow, narrow_symbols, early_text, early, early_symbols, twice_text, twice, twice_symbols, unset, unset_symbols}
use Rattle.statics.proofs.Limits.{static_right_lem}
use Rattle.statics.proofs.Places.{made_in_order}
use Rattle.statics.proofs.examples.Goals as goal

from_made : (x : Text) (m : Module) (w : List Symbol) → Made m w → Static x m (judge_static x m)
from_made x m w e = static_right_lem x m 0 (length w) (made_in_order m w e)

pub returns : goal.returns
returns c = record {
  counter_made = refl;
  narrow_made = refl;
  early_made = refl;
  twice_made = refl;
  unset_made = refl;
  empty_module = λ x. from_made x (one blank) [] refl;
  counter_accepted = from_made counter_text counter counter_symbols refl;
  narrow_misfit = from_made narrow_text narrow narrow_symbols refl;
  used_early = from_made early_text early early_symbols refl;
  declared_twice = from_made twice_text twice twice_symbols refl;
  without_value = from_made twice_text unset unset_symbols refl;
}
