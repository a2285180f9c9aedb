-- The number that digits write, digit by digit.
use Rattle.std.proofs.Common.{◌≡◌, ℕ, ◌+◌, ◌-◌, ◌*◌, ◌<◌, ◌≤◌, List, map, length, get_or, take, drop, Option, sym, ap, ◌∙◌, subst, arith}
use Rattle.std.specs.Int.Digits.{number_from_digits, number_from_digits_after}
use Rattle.std.proofs.lemmas.Int.Digits.{number_more, number_after_append, number_after_ge}
use Rattle.std.proofs.lemmas.List.{length-map, get_or-map, take-map, map-append, take-append-drop, take_rest}
use Rattle.std.specs.List.{prefix_len}
use Rattle.symbols.specs.Bytes.{digit_value, letter, space}
use Rattle.symbols.specs.Items.{written, IsInteger}
use Rattle.symbols.specs.See.{base_of, base_radix, value_behind, value_of}
use Rattle.symbols.proofs.Values.{value_is}
use Rattle.scanner.specs.Seen.{Small}

pub written_more :
    (b : ℕ) (xs : List ℕ) (i : ℕ)
    → i < length xs
    → written b (take (i + 1) xs) ≡ written b (take i xs) * b + digit_value (get_or xs i 0)
written_more b xs i l =
    let ds = map digit_value xs in
    let m : i < length ds = omega (arith, length-map xs digit_value) in
    ap (number_from_digits b) (sym (take-map digit_value (i + 1) xs)) ∙ number_more b ds i m
    ∙ ap (λ n. n * b + get_or ds i 0) (ap (number_from_digits b) (take-map digit_value i xs))
    ∙ ap (λ d. written b (take i xs) * b + d) (get_or-map digit_value xs i 0 0 l)

pub written_front : (b : ℕ) (xs : List ℕ) (i : ℕ) → 0 < b → written b (take i xs) ≤ written b xs
written_front b xs i l =
    let e : written b xs ≡ number_from_digits_after b (written b (take i xs)) (map digit_value (drop i xs)) =
    ap (written b) (sym (take-append-drop i xs)) ∙ ap (number_from_digits b) (map-append digit_value (take i xs) (drop i xs))
    ∙ number_after_append b 0 (map digit_value (take i xs)) (map digit_value (drop i xs)) in
    omega (arith, e, number_after_ge b (written b (take i xs)) (map digit_value (drop i xs)) l)

-- w is the word v and the rest r, in which s spaces are before the digits
pub behind_at :
    (w v r : List ℕ) (n s base : ℕ)
    → n ≡ prefix_len letter w
    → v ≡ take n w
    → r ≡ drop n w
    → s ≡ prefix_len space r
    → base ≡ base_radix (base_of v)
    → written base (take (length r - s) (drop s r)) ≡ value_behind (take (prefix_len letter w) w) (drop (prefix_len letter w) w)
behind_at w v r n s base e p q f g =
    ap (written base) (take_rest r s ∙ ap (λ k. drop k r) f)
    ∙ ap (λ b. written b (drop (prefix_len space r) r)) g
    ∙ ap (λ u. value_behind u r) p
    ∙ ap (value_behind (take n w)) q
    ∙ ap (λ k. value_behind (take k w) (drop k w)) e

-- a value that is told is the integer's
pub by_rule : (w : List ℕ) (r : Option ℕ) → Small (value_of w) r → (v : ℕ) → IsInteger w v → Small v r
by_rule w r h v i = subst (λ n. Small n r) (value_is w v i) h
