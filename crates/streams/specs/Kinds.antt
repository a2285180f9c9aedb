use Rattle.std.specs.Prelude.{◌≡◌, ℕ, ◌+◌, ◌-◌, ◌<◌, ◌≤◌, List, [], ◌∷◌, ◌++◌, length, take, Ok, Err, Result, slice_set}
use Rattle.streams.specs.declared.recorders.Full.{Full}
use Rattle.streams.specs.Recorders.{Meaning, State, Arrive}

-- A page or a strip: the first `used` of its bytes are written, nothing is held, and the rest is space.
abbrev pub filled : List ℕ → ℕ → List ℕ → State
filled bytes used through =
    record {
      sound = Unit {0};
      means = record { written = take used bytes; held = []; space = length bytes - used };
      through = through;
    }

-- A blocker over a recorder in state s, in whose own memory the bytes `own` wait. They count as held behind what is
-- held below, and against the space below.
abbrev pub over : List ℕ → State → State
over own s =
    record {
      sound = s.sound × (length own ≤ s.means.space);
      means = record {
        written = s.means.written;
        held = s.means.held ++ own;
        space = s.means.space - length own;
      };
      through = s.through;
    }

-- What a `put` does to the bytes of a page or a strip and to their count.
abbrev pub Stored : Result (Unit {0}) Full → ℕ → List ℕ → ℕ → List ℕ → ℕ → Type 0
Stored (Ok _) b bytes used bytes' used' = (bytes' ≡ slice_set bytes used b) × (used' ≡ used + 1)
Stored (Err _) b bytes used bytes' used' = (bytes' ≡ bytes) × (used' ≡ used)

-- What a `put` of b does to a blocker of blocks of n, with own bytes `own` over a recorder that means s: an accepted
-- byte waits with them or, as the n-th, all go down; a declined one changes nothing.
pub record Joined (n b : ℕ) (own : List ℕ) (s : Meaning) (own' : List ℕ) (s' : Meaning) : Type 0 where
  pub waits : length own + 1 < n → (own' ≡ own ++ b ∷ []) × (s' ≡ s)
  pub goes : length own + 1 ≡ n → (own' ≡ []) × Arrive (own ++ b ∷ []) s s'

abbrev pub Blocked : ℕ → Result (Unit {0}) Full → ℕ → List ℕ → Meaning → List ℕ → Meaning → Type 0
Blocked n (Ok _) b own s own' s' = Joined n b own s own' s'
Blocked n (Err _) b own s own' s' = (own' ≡ own) × (s' ≡ s)
