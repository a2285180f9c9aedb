-- How names are compared: upper and lower case are alike. Assumes nothing.
use Rattle.std.specs.Prelude.{◌≡◌, ℕ, ◌-◌, ◌<◌, Bool, true, false, cond, ◌&&◌, List, [], map, length, Some, None, Option, nat_le, slice_index_or}
use Rattle.names.specs.declared.Name.{Name}

-- a letter as a capital; any other byte as it is
abbrev pub upper : ℕ → ℕ
upper b = cond (nat_le 97 b && nat_le b 122) (b - 32) b

abbrev pub uppers : List ℕ → List ℕ
uppers = map upper

-- the two spellings are of one name
abbrev pub SameName : List ℕ → List ℕ → Type 0
SameName v w = uppers v ≡ uppers w

-- the answer to whether P
abbrev pub Says : Bool → Type 0 → Type 0
Says true P = P
Says false P = P → ⊥

-- A name in full: how that of what it belongs to is spelled, empty where it belongs to nothing, and how it is spelled itself.
pub record FullName : Type 0 where
  pub of : List ℕ
  pub own : List ℕ

-- the name of what belongs to nothing
abbrev pub alone : List ℕ → FullName
alone w = record { of = []; own = w }

abbrev pub full : Name → FullName
full n = record { of = n.of.now; own = n.own.now }

-- the two are one name, and belong to one
abbrev pub SameFullName : FullName → FullName → Type 0
SameFullName v w = SameName v.own w.own × SameName v.of w.of

-- the last of the names that is the one wanted, or none of them is
abbrev pub Last : List FullName → FullName → Option ℕ → Type 0
Last ns w None = (k : ℕ) → k < length ns → SameFullName (slice_index_or ns k (alone [])) w → ⊥
Last ns w (Some i) =
    (i < length ns) × SameFullName (slice_index_or ns i (alone [])) w × ((k : ℕ) → i < k → k < length ns → SameFullName (slice_index_or ns k (alone [])) w → ⊥)
