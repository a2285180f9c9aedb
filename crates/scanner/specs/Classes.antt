-- The classes of bytes that the cutter runs over. Assumes nothing.
use Rattle.std.specs.Prelude.{ℕ, Bool}
use Rattle.symbols.specs.Bytes.{letter, digit, name_byte, space, string_byte, comment_byte}
use Rattle.symbols.specs.Spellings.{digit_in}
use Rattle.scanner.specs.declared.bytes.Class.{Class}
use Rattle.scanner.specs.declared.bytes.Class.TheVariants.{Letter, NameByte, Digit, DigitIn, Space, StringByte, CommentByte}

abbrev pub holds : Class → ℕ → Bool
holds Letter b = letter b
holds NameByte b = name_byte b
holds Digit b = digit b
holds (DigitIn base) b = digit_in base b
holds Space b = space b
holds StringByte b = string_byte b
holds CommentByte b = comment_byte b
