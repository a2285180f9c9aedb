-- What a declined call answers: for each case its number and its place. Assumes nothing.
use Rattle.std.specs.Prelude.{ℕ}
use Rattle.answers.specs.declared.Place.{Place}
use Rattle.answers.specs.declared.Decline.{Decline}
use Rattle.answers.specs.declared.Decline.TheVariants.{TextTooLong, BadByte, UnfinishedItem, IntegerTooLarge, TooManyItems, Unexpected, TooDeep, DeclaredTwice, WrongName, Misfit, NoValue, TooManyPlaces, TooManyLocals}

-- the place before which n bytes of the text stand
abbrev pub place : ℕ → Place
place n = record { offset = n }

abbrev pub number_of : Decline → ℕ
-- the text is longer than 32,768 bytes
number_of TextTooLong = 2
-- a byte can neither begin nor continue an item there
number_of (BadByte p) = 3
-- the text ends inside an item
number_of (UnfinishedItem p) = 4
-- an integer is above 32,767
number_of (IntegerTooLarge p) = 5
-- more than 4,096 items without comments
number_of (TooManyItems p) = 6
-- an item can follow the earlier ones in no module, or the text ends too early
number_of (Unexpected p) = 7
-- an item opens a depth of 33
number_of (TooDeep p) = 8
-- a name is declared that the same scope already has
number_of (DeclaredTwice p) = 9
-- a name is unknown, used too early or of the wrong class, or another EXT is described
number_of (WrongName p) = 10
-- a construct whose parts fit does not itself fit
number_of (Misfit p) = 11
-- a variable that has a REF place has no initial value
number_of (NoValue p) = 12
-- more than 4,096 places of data and strings
number_of (TooManyPlaces p) = 13
-- a procedure has more than 8 parameters, or more than 64 locals with them
number_of (TooManyLocals p) = 14

abbrev pub place_of : Decline → Place
-- the first byte too many
place_of TextTooLong = place 32768
-- the byte
place_of (BadByte p) = p
-- the item's first byte
place_of (UnfinishedItem p) = p
-- the integer's first byte
place_of (IntegerTooLarge p) = p
-- the first byte of the item that is too many
place_of (TooManyItems p) = p
-- the item's first byte, or the text's end
place_of (Unexpected p) = p
-- the item's first byte
place_of (TooDeep p) = p
-- the first byte of the second declaration's name
place_of (DeclaredTwice p) = p
-- the name's first byte
place_of (WrongName p) = p
-- the first byte of the construct's first item
place_of (Misfit p) = p
-- the first byte of the variable's name
place_of (NoValue p) = p
-- the first byte of the name or string that passes
place_of (TooManyPlaces p) = p
-- the first byte of the first name beyond
place_of (TooManyLocals p) = p
