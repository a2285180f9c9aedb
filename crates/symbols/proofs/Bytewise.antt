-- How the classes of bytes stand to one another.
use Rattle.std.proofs.Common.{◌≡◌, ℕ, true, false, List, [], ◌∷◌, length, arith}
use Rattle.std.proofs.lemmas.Bool.Decides.{nat_tests}
use Rattle.names.specs.Spelling.{upper, uppers}
use Rattle.symbols.specs.Bytes.{letter, digit, name_byte, space, Each}
use Rattle.symbols.specs.Spellings.{base_word, digit_in}
use Rattle.symbols.specs.declared.Base.{Base}

pub digit_no_letter : (b : ℕ) → digit b ≡ true → letter b ≡ false
digit_no_letter b h = grind (arith, nat_tests)

pub letter_names : (b : ℕ) → letter b ≡ true → name_byte b ≡ true
letter_names b h = grind (arith, nat_tests)

pub letter_from_upper : (b : ℕ) → letter (upper b) ≡ true → letter b ≡ true
letter_from_upper b h = grind (arith, nat_tests)

pub letters_from_uppers : (w : List ℕ) → Each letter (uppers w) → Each letter w
letters_from_uppers [] h = tt
letters_from_uppers (b ∷ w) h = (letter_from_upper b h.0, letters_from_uppers w h.1)

pub base_letters : (base : Base) → Each letter (base_word base)
base_letters b = grind arith

pub digit_no_space : (base : Base) (b : ℕ) → digit_in base b ≡ true → space b ≡ false
digit_no_space base b h = grind (arith, nat_tests)

-- the word of a base is not empty
pub base_some : (base : Base) → 0 ≡ length (base_word base) → ⊥
base_some b z = grind arith
