use Rattle.std.specs.Prelude.{◌≡◌, ℕ, zero, suc, ◌-◌, ◌*◌, ◌/◌, ◌≤◌, cond, ◌&&◌, List, [], ◌∷◌, ◌++◌, length, take, drop, ℤ, Some, None, Option, ◌==◌, nat_le, slice_index_or}
use Rattle.std.specs.Option.{option_to_list}
use Rattle.gatelog.specs.declared.entries.Entry.{Entry}
use Rattle.gatelog.specs.declared.positions.Positions.{Positions}
use Rattle.gatelog.specs.Entries.{decoded}

-- The six bytes behind the first n records.
abbrev pub record_at : ℕ → List ℕ → List ℕ
record_at n bytes = take 6 (drop (6 * n) bytes)

-- The entries in the first n records, in order. Six bytes that are no record are passed over.
abbrev pub entries_in : ℕ → List ℕ → List Entry
entries_in zero bytes = []
entries_in (suc n) bytes = entries_in n bytes ++ option_to_list (decoded (record_at n bytes))

-- The entries in all complete records. A last part of fewer than six bytes is no record.
abbrev pub entries : List ℕ → List Entry
entries bytes = entries_in (length bytes / 6) bytes

-- An entry of the gate overtakes what was known of it.
abbrev pub moved : ℕ → Entry → Option ℤ → Option ℤ
moved gate e p = cond (e.gate == gate) (Some e.position) p

abbrev pub moved_all : ℕ → List Entry → Option ℤ → Option ℤ
moved_all gate [] p = p
moved_all gate (e ∷ es) p = moved_all gate es (moved gate e p)

-- Where a gate stands after some entries: at the position of its last one, and nowhere known where it has none.
abbrev pub latest : ℕ → List Entry → Option ℤ
latest gate es = moved_all gate es None

-- What positions say of a gate.
abbrev pub position_of : Positions → ℕ → Option ℤ
position_of p gate = cond (nat_le 1 gate && nat_le gate 9) (slice_index_or p.gates (gate - 1) None) None

-- Every gate of the cabinet stands where the entries leave it.
abbrev pub Stands : Positions → List Entry → Type 0
Stands p es = (gate : ℕ) → 1 ≤ gate → gate ≤ 9 → position_of p gate ≡ latest gate es
