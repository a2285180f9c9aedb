-- The value that the twin reads off an integer's bytes is the integer's.
use Rattle.std.proofs.Common.{◌≡◌, ℕ, suc, true, false, eqb, List, [], ◌∷◌, ◌++◌, length, take, drop, replicate, Some, sym, refl, ap, ◌∙◌, subst, arith}
use Rattle.std.specs.List.{prefix_len}
use Rattle.std.proofs.lemmas.List.{take_at, drop_at}
use Rattle.std.proofs.lemmas.Bool.{cond-false}
use Rattle.std.proofs.lemmas.Bool.Decides.{nat_tests}
use Rattle.names.specs.Spelling.{uppers}
use Rattle.symbols.specs.Bytes.{letter, digit, space, Each}
use Rattle.symbols.specs.Spellings.{base_word, radix, digit_in}
use Rattle.symbols.specs.Items.{IsInteger, decimal, based, quoted, written}
use Rattle.symbols.specs.See.{base_radix, is_quoted, value_behind, value_of}
use Rattle.symbols.specs.declared.Base.{Base}
use Rattle.symbols.proofs.Lookup.{base_is}
use Rattle.symbols.proofs.Runs.{leading_run, leading_stops, each_space}
use Rattle.symbols.proofs.Bytewise.{digit_no_letter, letters_from_uppers, base_letters, base_some, digit_no_space}

digit_no_quote : (b : ℕ) → digit b ≡ true → eqb b 39 ≡ false
digit_no_quote b h = grind (arith, nat_tests)

letter_no_quote : (b : ℕ) → letter b ≡ true → eqb b 39 ≡ false
letter_no_quote b h = grind (arith, nat_tests)

digit_is_no_space : (b : ℕ) → digit b ≡ true → space b ≡ false
digit_is_no_space b h = grind (arith, nat_tests)

no_quote : (b : ℕ) (w : List ℕ) → eqb b 39 ≡ false → value_of (b ∷ w) ≡ value_behind (take (prefix_len letter (b ∷ w)) (b ∷ w)) (drop (prefix_len letter (b ∷ w)) (b ∷ w))
no_quote b w h = cond-false (is_quoted (b ∷ w)) _ _ (off w)
  where
    off : (w : List ℕ) → is_quoted (b ∷ w) ≡ false
    off [] = refl
    off (c ∷ w) = h

decimal_value : (d : ℕ) (ds : List ℕ) → digit d ≡ true → value_of (d ∷ ds) ≡ written 10 (d ∷ ds)
decimal_value d ds h =
    let w = d ∷ ds in
    no_quote d ds (digit_no_quote d h)
    ∙ ap (λ n. value_behind (take n w) (drop n w)) (leading_stops letter w (digit_no_letter d h))
    ∙ ap (λ n. written 10 (drop n w)) (leading_stops space w (digit_is_no_space d h))

based_value :
    (base : Base) (word : List ℕ) (n d : ℕ) (ds : List ℕ)
    → uppers word ≡ base_word base
    → digit_in base d ≡ true
    → value_of (word ++ (replicate (suc n) 32 ++ (d ∷ ds))) ≡ written (radix base) (d ∷ ds)
based_value base [] n d ds e h = absurd (base_some base (ap length e))
based_value base (b ∷ w) n d ds e h =
    let word = b ∷ w in
    let sp = replicate (suc n) 32 in
    let r = sp ++ (d ∷ ds) in
    let letters = letters_from_uppers word (subst (Each letter) (sym e) (base_letters base)) in
    let count = leading_run space sp (d ∷ ds) (each_space (suc n)) (digit_no_space base d h) in
    no_quote b (w ++ r) (letter_no_quote b letters.0)
    ∙ ap (λ k. value_behind (take k (word ++ r)) (drop k (word ++ r))) (leading_run letter word r letters refl)
    ∙ ap (λ v. value_behind v (drop (length word) (word ++ r))) (take_at word r (length word) refl)
    ∙ ap (value_behind word) (drop_at word r (length word) refl)
    ∙ ap (λ o. written (base_radix o) (drop (prefix_len space r) r)) (base_is word (Some base) e)
    ∙ ap (λ k. written (radix base) (drop k r)) count
    ∙ ap (written (radix base)) (drop_at sp (d ∷ ds) (length sp) refl)

pub value_is : (w : List ℕ) (v : ℕ) → IsInteger w v → value_of w ≡ v
value_is w v (decimal d ds e h q) = ap value_of e ∙ decimal_value d ds h.0 ∙ sym q
value_is w v (based base word n d ds e u h q) = ap value_of e ∙ based_value base word n d ds u h.0 ∙ sym q
value_is w v (quoted c e h q) = ap value_of e ∙ sym q
