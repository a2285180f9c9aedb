-- The functional twin of the cut and of the verdict. That it is what the rules say, and that they say no other thing, is proved (proofs/).
use Rattle.std.specs.Prelude.{ℕ, zero, suc, ◌+◌, Bool, false, cond, List, [], ◌∷◌, length, take, drop, Some, None, Ok, Err, Option, Result, nat_lt}
use Rattle.answers.specs.Declines.{place}
use Rattle.answers.specs.declared.Decline.{Decline}
use Rattle.answers.specs.declared.Decline.TheVariants.{TextTooLong, BadByte, UnfinishedItem, IntegerTooLarge, TooManyItems}
use Rattle.symbols.specs.Bytes.{blank}
use Rattle.symbols.specs.Cut.{entry, max_integer, max_bytes, max_items}
use Rattle.symbols.specs.See.{Sight, found, short, stuck, see, value_of}
use Rattle.symbols.specs.declared.Symbol.{Symbol}
use Rattle.symbols.specs.declared.Symbol.TheVariants.{Name, Integer, Text, Word, Mark}
use Rattle.symbols.specs.declared.Entry.{Entry}

-- the items, and the decline that ends them
pub record Cutting : Type 0 where
  pub items : List Entry
  pub outcome : Option Decline

abbrev pub declining : Decline → Cutting
declining d = record { items = []; outcome = Some d }

abbrev pub whole_text : Cutting
whole_text = record { items = []; outcome = None }

abbrev pub behind : Entry → Cutting → Cutting
behind e c = record { items = e ∷ c.items; outcome = c.outcome }

abbrev pub too_large : Symbol → List ℕ → Bool
too_large Name w = false
too_large Integer w = nat_lt max_integer (value_of w)
too_large Text w = false
too_large (Word k) w = false
too_large (Mark s) w = false

-- what is seen at the place p, at the front of t; `next n` is what comes of the text behind n bytes
abbrev pub follow : (ℕ → Cutting) → ℕ → List ℕ → Sight → Cutting
follow next p t (found None n) = next n
follow next p t (found (Some s) n) =
    cond (too_large s (take n t)) (declining (IntegerTooLarge (place p))) (behind (entry s p (p + n)) (next n))
follow next p t short = declining (UnfinishedItem (place p))
follow next p t (stuck n) = declining (BadByte (place (p + n)))

-- by no more than k steps, each of which takes a byte at least
abbrev pub cuts : ℕ → ℕ → List ℕ → Cutting
cuts zero p t = whole_text
cuts (suc k) p [] = whole_text
cuts (suc k) p (b ∷ t) =
    cond (blank b) (cuts k (p + 1) t) (follow (λ n. cuts k (p + n) (drop n (b ∷ t))) p (b ∷ t) (see (b ∷ t)))

-- the first item behind n others, if there is one
abbrev pub beyond : ℕ → List Entry → Option Entry
beyond n [] = None
beyond zero (e ∷ es) = Some e
beyond (suc n) (e ∷ es) = beyond n es

abbrev pub counted : List Entry → Option Entry → Result (List Entry) Decline
counted es None = Ok es
counted es (Some e) = Err (TooManyItems e.start)

abbrev pub summed : List Entry → Option Decline → Result (List Entry) Decline
summed es None = counted es (beyond max_items es)
summed es (Some d) = Err d

abbrev pub verdict : List ℕ → Result (List Entry) Decline
verdict t =
    cond (nat_lt max_bytes (length t)) (Err TextTooLong) (summed (cuts (length t) 0 t).items (cuts (length t) 0 t).outcome)
