use Rattle.std.specs.Prelude.{◌≡◌, ℕ, ◌<◌, List, [], ◌∷◌, ◌++◌, Ok, Err, Result}
use Rattle.std.specs.List.{flat_map, AllByRecursion}
use Rattle.streams.specs.Recorders.{Meaning, Arrive, empty, flushed}
use Rattle.streams.specs.History.{History}
use Rattle.gatelog.specs.declared.entries.Entry.{Entry}
use Rattle.gatelog.specs.declared.loggers.Refusal.{Refusal}
use Rattle.gatelog.specs.declared.loggers.Refusal.TheVariants.{NoSuchGate, NoSpace}
use Rattle.gatelog.specs.Entries.{Valid, encoded}

-- A recorder that was empty, with space for n bytes, has accepted the records of the entries es since then, in order,
-- and no other bytes.
pub record Accepted (n : ℕ) (es : List Entry) (s : Meaning) : Type 0 where
  pub valid : AllByRecursion Valid es
  pub history : History (empty n) (flat_map encoded es) s

-- One entry is logged: its whole record arrives, or it is refused and nothing changes.
pub record Logged (e : Entry) (s t : Meaning) : Type 0 where
  pub valid : Valid e
  pub arrives : Arrive (encoded e) s t
  pub since : (n : ℕ) (es : List Entry) → Accepted n es s → Accepted n (es ++ e ∷ []) t

abbrev pub Logs : Result (Unit {0}) Refusal → Entry → Meaning → Meaning → Type 0
Logs (Ok _) e s t = Logged e s t
Logs (Err NoSuchGate) e s t = (Valid e → ⊥) × (t ≡ s)
Logs (Err NoSpace) e s t = Valid e × (s.space < 6) × (t ≡ s)

-- A flush, after which the log still has the entries that it had.
pub record Flushes (s t : Meaning) : Type 0 where
  pub flushes : t ≡ flushed s
  pub since : (n : ℕ) (es : List Entry) → Accepted n es s → Accepted n es t
