-- What a module is refused for: for each case its number and its place. Assumes nothing.
use Rattle.std.specs.Prelude.{ℕ}
use Rattle.statics.specs.declared.Refusal.{Refusal}
use Rattle.statics.specs.declared.Refusal.TheVariants.{DeclaredTwice, WrongName, Misfit, NoValue, TooManyPlaces, TooManyLocals}

abbrev pub number_of : Refusal → ℕ
-- a name is declared that the same scope already has
number_of (DeclaredTwice p) = 9
-- a name is unknown, used too early or of the wrong class, or another EXT is described
number_of (WrongName p) = 10
-- a construct whose parts fit does not itself fit
number_of (Misfit p) = 11
-- a variable that has a REF place has no initial value
number_of (NoValue p) = 12
-- more than 4,096 places of data and strings
number_of (TooManyPlaces p) = 13
-- a procedure has more than 8 parameters, or more than 64 locals with them
number_of (TooManyLocals p) = 14

abbrev pub place_of : Refusal → ℕ
-- the second declaration's name
place_of (DeclaredTwice p) = p
-- the name
place_of (WrongName p) = p
-- the construct's first item
place_of (Misfit p) = p
-- the variable's name
place_of (NoValue p) = p
-- the name or string that passes
place_of (TooManyPlaces p) = p
-- the first name beyond
place_of (TooManyLocals p) = p

-- the same refusal at the item g p in place of p
abbrev pub shift : (ℕ → ℕ) → Refusal → Refusal
shift g (DeclaredTwice p) = DeclaredTwice (g p)
shift g (WrongName p) = WrongName (g p)
shift g (Misfit p) = Misfit (g p)
shift g (NoValue p) = NoValue (g p)
shift g (TooManyPlaces p) = TooManyPlaces (g p)
shift g (TooManyLocals p) = TooManyLocals (g p)
