use Rattle.std.specs.Prelude.{◌≡◌, ℕ, ◌+◌, ◌≤◌, min, List, [], ◌∷◌, ◌++◌, length, take}
use Rattle.streams.specs.Recorders.{Meaning, Arrive, whole, flushed}

-- A history of calls of `put` and `flush` on a recorder, in any order: where it began, the bytes that were accepted on
-- the way, in order, and where it has come to.
pub data History (s : Meaning) : List ℕ → Meaning → Type 0 where
  begun : History s [] s
  accepted : {bs : List ℕ} {b : ℕ} {t u : Meaning} → History s bs t → Arrive (b ∷ []) t u → History s (bs ++ b ∷ []) u
  declined : {bs : List ℕ} {t u : Meaning} → History s bs t → t.space ≡ 0 → u ≡ t → History s bs u
  emptied : {bs : List ℕ} {t u : Meaning} → History s bs t → u ≡ flushed t → History s bs u

-- No byte is lost, doubled or moved by any history: what is written and held is what was there before and then the
-- accepted bytes, and the space has fallen by as many.
abbrev pub NothingLost : Type 0
NothingLost =
    (s t : Meaning) (bs : List ℕ)
    → History s bs t
    → (whole t ≡ whole s ++ bs) × (s.space ≡ t.space + length bs)

-- n of the bytes are accepted, as many as there is space for, and no others. Whatever history came before, it goes on
-- with them, and still nothing is lost.
pub record Recorded (bytes : List ℕ) (n : ℕ) (s t : Meaning) : Type 0 where
  pub count : n ≡ min (length bytes) s.space
  pub arrives : Arrive (take n bytes) s t
  pub keeps : whole t ≡ whole s ++ take n bytes
  pub since :
      (start : Meaning) (before : List ℕ)
      → History start before s
      → History start (before ++ take n bytes) t × (whole t ≡ whole start ++ (before ++ take n bytes))

-- Closing after any history: everything accepted is written, nothing is held, and the space is kept.
pub record Closed (s t : Meaning) : Type 0 where
  pub flushes : t ≡ flushed s
  pub since :
      (start : Meaning) (before : List ℕ)
      → History start before s
      → History start before t × (t.written ≡ whole start ++ before) × (t.held ≡ [])

-- n of the bytes are accepted, and then everything is written. Where there is space for all the bytes, all of them are.
pub record Shut (bytes : List ℕ) (n : ℕ) (s t : Meaning) : Type 0 where
  pub count : n ≡ min (length bytes) s.space
  pub spends : s.space ≡ t.space + n
  pub writes : t.written ≡ whole s ++ take n bytes
  pub holds : t.held ≡ []
  pub all : length bytes ≤ s.space → t.written ≡ whole s ++ bytes
