-- Modes, what an expression stands for, and what that can be brought to. Assumes nothing.
use Rattle.std.specs.Prelude.{ℕ, Bool, true, List, []}

-- a name's bytes, its letters in capitals
abbrev pub Word : Type 0
Word = List ℕ

pub data Plain : Type 0 where
  int byte : Plain

-- The simple modes: a plain one, REF of a plain one, REF of a record mode, REF ARRAY of elements; and the modes of elements.
mutual
  pub data Mode : Type 0 where
    plain : Plain → Mode
    ref : Plain → Mode
    ref_record : Word → Mode
    ref_array : Element → Mode

  pub data Element : Type 0 where
    simple : Mode → Element
    records : Word → Element

-- What an expression stands for: a value; a place, with an address or without; an array; a record.
pub data Thing : Type 0 where
  value : Mode → Thing
  place : Bool → Mode → Thing
  array : Element → Thing
  structure : Word → Thing

-- Offers t m k: t gives something of the mode m after k reads.
pub data Offers : Thing → Mode → ℕ → Type 0 where
  itself : {m : Mode} → Offers (value m) m 0
  referred : {k : Plain} → Offers (value (ref k)) (plain k) 1
  contents : {b : Bool} {m : Mode} → Offers (place b m) m 1
  contents_referred : {b : Bool} {k : Plain} → Offers (place b (ref k)) (plain k) 2
  address : {k : Plain} → Offers (place true (plain k)) (ref k) 0
  array_address : {e : Element} → Offers (array e) (ref_array e) 0
  record_address : {r : Word} → Offers (structure r) (ref_record r) 0

-- BYTE widens to INT
pub data Widens : Plain → Plain → Type 0 where
  alike : {k : Plain} → Widens k k
  wider : Widens byte int

-- A reference: REF of something.
abbrev pub Reference : Mode → Type 0
Reference (plain k) = ⊥
Reference _ = Unit {0}

-- What an environment requires: a mode; INT or BYTE; some reference; an array or a reference to one; a record or a reference to one;
-- a place to store into; behind VAL, a place that refers to one of a plain mode.
pub data Need : Type 0 where
  mode : Mode → Need
  number : Need
  reference : Need
  elements : Need
  components : Need
  scalar : Need
  pointed : Need

-- Fits n t m: t meets the need n, and then m is the mode at hand.
pub data Fits : Need → Thing → Mode → Type 0 where
  widened : {t : Thing} {k l : Plain} {n : ℕ} → Offers t (plain k) n → Widens k l → Fits (mode (plain l)) t (plain l)
  wanted : {t : Thing} {m : Mode} {n : ℕ} → Offers t m n → Reference m → Fits (mode m) t m
  a_number : {t : Thing} {k : Plain} {n : ℕ} → Offers t (plain k) n → Fits number t (plain k)
  a_reference : {t : Thing} {m : Mode} {n : ℕ} → Offers t m n → Reference m → Fits reference t m
  an_array : {t : Thing} {e : Element} {n : ℕ} → Offers t (ref_array e) n → Fits elements t (ref_array e)
  a_record : {t : Thing} {r : Word} {n : ℕ} → Offers t (ref_record r) n → Fits components t (ref_record r)
  a_place : {b : Bool} {m : Mode} → Fits scalar (place b m) m
  a_pointer : {b : Bool} {k : Plain} → Fits pointed (place b (ref k)) (plain k)

abbrev pub INT : Mode
INT = plain int

abbrev pub BYTE : Mode
BYTE = plain byte

-- an element: a place with an address, or a record
abbrev pub element_thing : Element → Thing
element_thing (simple m) = place true m
element_thing (records r) = structure r

-- the element of what REF ARRAY refers to; the record mode that REF refers to
abbrev pub subscript : Mode → Thing
subscript (ref_array e) = element_thing e
subscript m = value m

abbrev pub referred_record : Mode → Word
referred_record (ref_record r) = r
referred_record _ = []
