use Rattle.std.specs.Prelude.{◌≡◌, ℕ, ◌+◌, List, [], ◌∷◌, ◌++◌, length, Ok, Err, Result}
use Rattle.streams.specs.declared.recorders.Full.{Full}

-- What a recorder means: the bytes written, the bytes held back after them, and the space left.
pub record Meaning : Type 0 where
  pub written : List ℕ
  pub held : List ℕ
  pub space : ℕ

-- A recorder on which nothing has been put, with space for n bytes.
abbrev pub empty : ℕ → Meaning
empty n = record { written = []; held = []; space = n }

-- All that has arrived and not been lost: what is written, then what is held.
abbrev pub whole : Meaning → List ℕ
whole s = s.written ++ s.held

-- The bytes bs arrive behind all others and use up space. Some front m of what is then held back, the oldest bytes
-- first, goes on to be written; how long it is, each kind decides for itself.
pub record Arrive (bs : List ℕ) (s t : Meaning) : Type 0 where
  pub spends : s.space ≡ t.space + length bs
  pub passes : (m : List ℕ) × (t.written ≡ s.written ++ m) × (m ++ t.held ≡ s.held ++ bs)

-- One `put` of b: declined where no space is left, and then nothing changes; otherwise b arrives.
abbrev pub Put : Result (Unit {0}) Full → ℕ → Meaning → Meaning → Type 0
Put (Ok _) b s t = Arrive (b ∷ []) s t
Put (Err _) b s t = (s.space ≡ 0) × (t ≡ s)

-- After a `flush`: everything held is written, oldest first behind what was written, and the space is kept.
abbrev pub flushed : Meaning → Meaning
flushed s = record { written = whole s; held = []; space = s.space }

-- What is known of a recorder's value: `sound` is what holds of it from call to call, `means` its meaning, and
-- `through` the names of the references that it writes through.
pub record State : Type 1 where
  pub sound : Type 0
  pub means : Meaning
  pub through : List ℕ

-- What every call promises: it writes through the same references as before, and from a sound value it comes to a
-- sound one and does what Does says.
pub record Kept (Does : Meaning → Meaning → Type 0) (s t : State) : Type 0 where
  pub lent : t.through ≡ s.through
  pub stays : s.sound → t.sound
  pub does : s.sound → Does s.means t.means
