-- Lines and columns of a text, which end at the bytes 10 and count from 1. Assumes nothing.
use Rattle.std.specs.Prelude.{ℕ, ◌+◌, Bool, not, List, take, count_by, ◌==◌}
use Rattle.std.specs.List.{suffix_len}

abbrev pub ends_line : ℕ → Bool
ends_line b = b == 10

abbrev pub within_line : ℕ → Bool
within_line b = not (b == 10)

-- one more than the number of bytes 10 before the place
abbrev pub line_of : List ℕ → ℕ → ℕ
line_of text p = 1 + count_by ends_line (take p text)

-- one more than the number of bytes since the last of these, or since the text's start
abbrev pub column_of : List ℕ → ℕ → ℕ
column_of text p = 1 + suffix_len within_line (take p text)
