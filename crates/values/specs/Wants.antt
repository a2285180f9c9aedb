-- What the wants of the code stand for in the rules. Assumes nothing.
use Rattle.statics.specs.Scopes.{Text}
use Rattle.statics.specs.Values as rules
use Rattle.modes.specs.Meanings.{element_means, mode_means}
use Rattle.values.specs.declared.Want.{Want}
use Rattle.values.specs.declared.Want.TheVariants.{Free, Simply, Several, Recorded}

abbrev pub want_means : Text → Want → rules.Want
want_means x Free = rules.free
want_means x (Simply m) = rules.simply (mode_means x m)
want_means x (Several n e) = rules.several n (element_means x e)
want_means x (Recorded n) = rules.recorded (x.word n)
