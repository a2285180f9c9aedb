-- What stands for a place. Assumes nothing.
use Rattle.std.proofs.Common.{◌≡◌, Bool, true, refl}
use Rattle.statics.specs.Modes as rules
use Rattle.statics.specs.Scopes.{Text}
use Rattle.modes.specs.declared.Mode.{Mode}
use Rattle.modes.specs.declared.Thing.{Thing}
use Rattle.modes.specs.declared.Thing.TheVariants as thing
use Rattle.modes.specs.Meanings.{mode_means, thing_means}

pub place_mode : (x : Text) (b : Bool) (k : Mode) (m : rules.Mode) → thing_means x (thing.Place b k) ≡ rules.place true m → mode_means x k ≡ m
place_mode x b k m e = cc

-- nothing else does
pub no_place : (x : Text) (t : Thing) (m : rules.Mode) → ((b : Bool) (k : Mode) → t ≡ thing.Place b k → ⊥) → thing_means x t ≡ rules.place true m → ⊥
no_place x (thing.Value k) m n e = cc
no_place x (thing.Place b k) m n e = n b k refl
no_place x (thing.Array k) m n e = cc
no_place x (thing.Record k) m n e = cc
