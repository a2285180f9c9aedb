use Rattle.std.specs.Prelude.{◌≡◌, ℕ, ◌+◌, ◌*◌, ◌/◌, ◌%◌, ◌≤◌, Bool, cond, ◌&&◌, List, [], ◌∷◌, length, Some, None, Option, FitsSigned, ◌==◌, ◌≢◌, nat_le, slice_index}
use Rattle.std.specs.Int.{w16}
use Rattle.std.proofs.Common.{of_z, to_z}
use Rattle.gatelog.specs.declared.entries.Entry.{Entry}

-- An entry that a cabinet can have: one of its gates 1 to 9, at a position of 16 bits.
pub record Valid (e : Entry) : Type 0 where
  pub first : 1 ≤ e.gate
  pub last : e.gate ≤ 9
  pub fits : FitsSigned w16 e.position

-- A record has six bytes: the letter G, the gate, the high and the low byte of the position, the sum of those three
-- modulo 256, and byte 10.
abbrev pub sealed : ℕ → ℕ → ℕ → List ℕ
sealed gate high low = 71 ∷ gate ∷ high ∷ low ∷ (gate + high + low) % 256 ∷ 10 ∷ []

-- The position is in 16 bits of two's complement.
abbrev pub encoded : Entry → List ℕ
encoded e = sealed e.gate (of_z w16 e.position / 256 % 256) (of_z w16 e.position % 256)

-- What a record says: its gate and its position.
abbrev pub said : List ℕ → Entry
said bytes = record { gate = slice_index bytes 1; position = to_z w16 (slice_index bytes 2 * 256 + slice_index bytes 3) }

-- Whether bytes are a record of a gate that there is.
abbrev pub intact : List ℕ → Bool
intact bytes =
    (length bytes == 6) && (slice_index bytes 0 == 71 && (slice_index bytes 4 == (slice_index bytes 1 + slice_index bytes 2 + slice_index bytes 3) % 256 && (slice_index bytes 5 == 10 && (nat_le 1 (slice_index bytes 1) && nat_le (slice_index bytes 1) 9))))

-- The entry in a record, or none where the bytes are no record.
abbrev pub decoded : List ℕ → Option Entry
decoded bytes = cond (intact bytes) (Some (said bytes)) None

-- Decoding is the exact inverse of encoding: it answers an entry just where the bytes are that entry's record.
abbrev pub Decodes : List ℕ → Option Entry → Type 0
Decodes bytes (Some e) = Valid e × (bytes ≡ encoded e)
Decodes bytes None = (e : Entry) → Valid e → bytes ≢ encoded e
