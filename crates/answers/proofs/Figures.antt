-- What `{}` writes of a number are its decimal figures, and how many of them there are.
use Rattle.std.proofs.Common.{◌≡◌, ◌≢◌, ℕ, ◌+◌, ◌-◌, ◌*◌, ◌<◌, ◌≤◌, ◌^◌, List, [], ◌∷◌, map, length, take, sym, refl, ap, ◌∙◌, ⊎_elim, rules, arith}
use Rattle.std.specs.Fmt.{decimal}
use Rattle.std.specs.Int.Digits.{number_from_digits_after}
use Rattle.std.specs.List.{AllByRecursion}
use Rattle.std.proofs.lemmas.Bool.{cases_lt}
use Rattle.std.proofs.lemmas.Fmt.{decimal_digit, decimal_nonempty, first_decimal, digits_decimal, digits_value-decimal, length-decimal-le}
use Rattle.std.proofs.lemmas.List.Sums.{count_by-le-length, suffix_len-le-length}
use Rattle.std.proofs.lemmas.Str.Parse.{IsNumeralModel, numerals_by_fold}
use Rattle.answers.specs.Declines.{number_of, place_of}
use Rattle.answers.specs.declared.Decline.{Decline}
use Rattle.answers.specs.Figures.{IsFigure, IsDecimal}
use Rattle.answers.specs.Lines.{line_of, column_of, ends_line, within_line}
use Rattle.answers.specs.Said.{Says}

read_on : ℕ → List ℕ → ℕ
read_on n ds = number_from_digits_after 10 n (map (λ b. b - 48) ds)

own : IsNumeralModel (AllByRecursion IsFigure) (read_on 0)
unfolding read_on
own = numerals_by_fold _ (search rules) read_on (search rules)

pub decimal_of : (n : ℕ) → n < 2 ^ 64 → IsDecimal n (decimal n)
unfolding read_on
decimal_of n h =
    record {
      figures = digits_decimal own n h;
      value = digits_value-decimal own n h;
      some = decimal_nonempty n h;
      front = λ l z. ⊎_elim (λ s. omega (arith, l, ap length (decimal_digit n s))) (λ s. omega (arith, z, first_decimal n (omega arith) h)) (cases_lt n 10);
    }

pub five_at_most : (n : ℕ) → n ≤ 65536 → length (decimal n) ≤ 5
five_at_most n h = length-decimal-le 5 n (omega arith) (omega arith) (omega arith)

number_low : (d : Decline) → number_of d < 15
number_low d = grind arith

pub two_at_most : (d : Decline) → length (decimal (number_of d)) ≤ 2
two_at_most d = length-decimal-le 2 (number_of d) (omega (arith, number_low d)) (omega (arith, number_low d)) (omega (arith, number_low d))

-- A number has no other figures. Read on from a, lists of figures of one length give one number only if they and what they are read on from
-- are the same.
same_length :
    (ds es : List ℕ) (a b : ℕ)
    → AllByRecursion IsFigure ds
    → AllByRecursion IsFigure es
    → length ds ≡ length es
    → read_on a ds ≡ read_on b es
    → (a ≡ b) × (ds ≡ es)
unfolding read_on
same_length [] [] a b p q l v = (v, refl)
same_length [] (e ∷ es) a b p q l v = absurd (omega arith)
same_length (d ∷ ds) [] a b p q l v = absurd (omega arith)
same_length (d ∷ ds) (e ∷ es) a b p q l v =
    let r = same_length ds es (a * 10 + (d - 48)) (b * 10 + (e - 48)) p.1 q.1 (omega arith) v in
    let s : d ≡ e = omega (arith, r.0, p.0, q.0) in
    (omega (arith, r.0, p.0, q.0), cc (s, r.1))

not_longer :
    (ds es : List ℕ) (a : ℕ)
    → AllByRecursion IsFigure ds
    → AllByRecursion IsFigure es
    → 0 < a
    → length es ≤ length ds
    → read_on a ds ≡ read_on 0 es
    → ⊥
unfolding read_on
not_longer [] es a p q z l v = omega (arith, (same_length [] es a 0 p q (omega arith) v).0)
not_longer (d ∷ ds) es a p q z l v =
    ⊎_elim (λ s. not_longer ds es (a * 10 + (d - 48)) p.1 q (omega arith) (omega (arith, s)) v)
    (λ s. omega (arith, (same_length (d ∷ ds) es a 0 p q (omega (arith, s, l)) v).0)) (cases_lt (length es) (length (d ∷ ds)))

longer : (n : ℕ) (ds es : List ℕ) → IsDecimal n ds → IsDecimal n es → length es < length ds → ⊥
unfolding read_on
longer n [] es x y l = omega arith
longer n (d ∷ ds) es x y l =
    let f : d ≢ 48 = x.front (omega (arith, y.some)) in
    not_longer ds es (0 * 10 + (d - 48)) x.figures.1 y.figures (omega (arith, f, x.figures.0)) (omega arith) (x.value ∙ sym y.value)

pub one_decimal : (n : ℕ) (ds es : List ℕ) → IsDecimal n ds → IsDecimal n es → ds ≡ es
unfolding read_on
one_decimal n ds es x y =
    ⊎_elim (λ s. absurd (longer n es ds y x s))
    (λ s.
    ⊎_elim (λ t. absurd (longer n ds es x y t)) (λ t. (same_length ds es 0 0 x.figures y.figures (omega (arith, s, t)) (x.value ∙ sym y.value)).1)
    (cases_lt (length es) (length ds)))
    (cases_lt (length ds) (length es))

-- A decline has one line.
pub one_line : (d : Decline) (text k l : List ℕ) → Says d text k → Says d text l → k ≡ l
one_line d text k l x y =
    let r : x.row ≡ y.row = one_decimal _ _ _ x.row_is y.row_is in
    let c : x.column ≡ y.column = one_decimal _ _ _ x.column_is y.column_is in
    let n : x.number ≡ y.number = one_decimal _ _ _ x.number_is y.number_is in
    rw (x.parts, y.parts, r, c, n)

-- It has one, if few bytes stand before its place.
pub some_line : (d : Decline) (text : List ℕ) → length (take (place_of d).offset text) ≤ 32768 → (line : List ℕ) × Says d text line
some_line d text h =
    let before = take (place_of d).offset text in
    let r : line_of text (place_of d).offset < 2 ^ 64 = omega (arith, count_by-le-length ends_line before) in
    let c : column_of text (place_of d).offset < 2 ^ 64 = omega (arith, suffix_len-le-length within_line before) in
    let n : number_of d < 2 ^ 64 = omega (arith, number_low d) in (
      _,
      record {
        row = decimal (line_of text (place_of d).offset);
        column = decimal (column_of text (place_of d).offset);
        number = decimal (number_of d);
        row_is = decimal_of _ r;
        column_is = decimal_of _ c;
        number_is = decimal_of _ n;
        parts = refl;
      },
    )
