-- Texts as the lines of a table spell them. Assumes nothing.
use Rattle.std.specs.Prelude.{ℕ, Bool, true, false, cond, List, [], ◌∷◌, ◌==◌}
use Rattle.std.specs.List.{before_first, after_first, repeat}
use Rattle.std.specs.Str.Parse.{digits_value, without_leading_plus}

-- the byte that `\` and b stand for
abbrev pub escaped_byte : ℕ → ℕ
escaped_byte b =
    cond (b == 110) 10 (cond (b == 116) 9 (cond (b == 48) 0 (cond (b == 100) 127 (cond (b == 101) 233 b))))

-- the bytes of a text, each `\` and the byte behind it taken as one; the first argument says that a `\` stands before the text
abbrev pub unescaped_behind : Bool → List ℕ → List ℕ
unescaped_behind behind [] = []
unescaped_behind true (b ∷ bs) = escaped_byte b ∷ unescaped_behind false bs
unescaped_behind false (b ∷ bs) = cond (b == 92) (unescaped_behind true bs) (b ∷ unescaped_behind false bs)

abbrev pub unescaped : List ℕ → List ℕ
unescaped = unescaped_behind false

abbrev pub is_space : ℕ → Bool
is_space b = b == 32

-- a line: how often its text stands, the first byte 32, and the text
abbrev pub line_count : List ℕ → ℕ
line_count line = digits_value 10 (without_leading_plus (before_first is_space line))

abbrev pub line_text : List ℕ → List ℕ
line_text line = repeat (line_count line) (unescaped (after_first is_space line))
