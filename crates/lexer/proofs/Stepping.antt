-- One step of the cut, by the rules.
use Rattle.std.proofs.Common.{◌≡◌, ℕ, ◌+◌, ◌-◌, ◌<◌, ◌≤◌, true, false, ltb, List, [], length, get_or, take, drop, Some, None, Err, Option, Result, sym, refl, ap, ◌∙◌, subst, arith}
use Rattle.std.proofs.lemmas.List.{drop-drop, drop_more, length-drop, take_rest}
use Rattle.std.proofs.lemmas.Bool.{ltb-true, false≢true}
use Rattle.answers.specs.Declines.{place}
use Rattle.answers.specs.declared.Decline.TheVariants.{BadByte, UnfinishedItem, IntegerTooLarge}
use Rattle.symbols.specs.Bytes.{blank}
use Rattle.symbols.specs.Cut.{Cut, layout, max_integer}
use Rattle.symbols.specs.See.{found, short, stuck, see, value_of}
use Rattle.symbols.specs.Twin.{too_large}
use Rattle.symbols.specs.declared.Symbol.{Symbol}
use Rattle.symbols.specs.declared.Symbol.TheVariants.{Integer as IntegerSymbol}
use Rattle.symbols.proofs.Cutting.{cut_comment, cut_item, cut_large, cut_short, cut_stuck, not_large, some_byte, stuck_within}
use Rattle.scanner.specs.declared.item.Item.{Item}
use Rattle.scanner.specs.declared.item.Item.TheVariants.{Name, Word, Integer, Text, Mark, Comment}
use Rattle.scanner.specs.Seen.{bytes_of, symbol_of, large_of, Shows, Sees}
use Rattle.scanner.specs.declared.item.Stop.{Stop}
use Rattle.scanner.specs.declared.item.Stop.TheVariants.{Short, Stuck}
use Rattle.lexer.specs.Steps.{Joins, reach, decline_of}

pub blank_joins : (t : List ℕ) (at : ℕ) → at < length t → blank (get_or t at 0) ≡ true → Joins t at None (at + 1)
blank_joins t at l h es o c =
    subst (λ u. Cut at u es o) (sym (drop_more t at 0 l)) (layout at (get_or t at 0) (drop (at + 1) t) es o h c)

-- what is seen at the front of `&text[at..]`
pub rest_seen :
    (t : List ℕ) (at : ℕ) (r : Result Item Stop)
    → Sees (take (length t - at) (drop at t)) (see (take (length t - at) (drop at t))) r
    → Sees (drop at t) (see (drop at t)) r
rest_seen t at r h = subst (λ u. Sees u (see u) r) (take_rest t at) h

abbrev Fine : Option Symbol → List ℕ → Type 0
Fine None w = Unit {0}
Fine (Some s) w = too_large s w ≡ false

fine : (i : Item) (w : List ℕ) → bytes_of i ≡ w → large_of i ≡ false → Fine (symbol_of i) w
fine (Name s) w e h = refl
fine (Word k s) w e h = refl
fine (Integer s) w e h = ap (λ v. ltb max_integer (value_of v)) (sym e) ∙ h
fine (Text s) w e h = refl
fine (Mark m s) w e h = refl
fine (Comment s) w e h = tt

joins :
    (t : List ℕ) (at n : ℕ) (f : Option Symbol)
    → see (drop at t) ≡ found f n
    → Fine f (take n (drop at t))
    → Joins t at f (at + n)
joins t at n None e h =
    λ es o c. cut_comment at (drop at t) n es o e (subst (λ u. Cut (at + n) u es o) (sym (drop-drop n at t)) c)
joins t at n (Some s) e h =
    λ es o c. cut_item at (drop at t) s n es o e (not_large s (drop at t) n e h) (subst (λ u. Cut (at + n) u es o) (sym (drop-drop n at t)) c)

-- an item is passed
pub item_stepped :
    (t : List ℕ) (at : ℕ) (i : Item) (f : Option Symbol) (w : List ℕ)
    → at < length t
    → Shows (drop at t) (see (drop at t)) i
    → large_of i ≡ false
    → f ≡ symbol_of i
    → w ≡ bytes_of i
    → (at < at + length w) × (at + length w ≤ length t) × Joins t at f (at + length w)
item_stepped t at i f w l s h p q =
    let n = length (bytes_of i) in
    let m : length w ≡ n = ap length q in
    let j = joins t at n (symbol_of i) s.seen (fine i (take n (drop at t)) s.front h) in (
      omega (arith, some_byte (drop at t) (symbol_of i) n s.seen),
      omega (arith, s.fits, length-drop at t),
      subst (λ k. Joins t at f (at + k)) (sym m) (subst (λ g. Joins t at g (at + n)) (sym p) j),
    )

-- an integer that is too large
large_is : (i : Item) → large_of i ≡ true → (symbol_of i ≡ Some IntegerSymbol) × (max_integer < value_of (bytes_of i))
large_is (Name s) h = absurd (false≢true h)
large_is (Word k s) h = absurd (false≢true h)
large_is (Integer s) h = (refl, ltb-true max_integer (value_of s.now) h)
large_is (Text s) h = absurd (false≢true h)
large_is (Mark m s) h = absurd (false≢true h)
large_is (Comment s) h = absurd (false≢true h)

pub large_declined :
    (t : List ℕ) (at : ℕ) (i : Item)
    → Shows (drop at t) (see (drop at t)) i
    → large_of i ≡ true
    → Cut at (drop at t) [] (Some (IntegerTooLarge (place at)))
large_declined t at i s h =
    let k = large_is i h in
    cut_large at (drop at t) (length (bytes_of i)) (s.seen ∙ ap (λ f. found f (length (bytes_of i))) k.0)
    (subst (λ w. max_integer < value_of w) s.front k.1)

short_declined :
    (t : List ℕ) (at : ℕ)
    → at < length t
    → see (drop at t) ≡ short
    → Cut at (drop at t) [] (Some (UnfinishedItem (place at)))
short_declined t at l e =
    let m = drop_more t at 0 l in
    subst (λ u. Cut at u [] (Some (UnfinishedItem (place at)))) (sym m) (cut_short at (get_or t at 0) (drop (at + 1) t) (ap see (sym m) ∙ e))

stuck_declined :
    (t : List ℕ) (at n : ℕ)
    → at < length t
    → blank (get_or t at 0) ≡ false
    → see (drop at t) ≡ stuck n
    → Cut at (drop at t) [] (Some (BadByte (place (at + n))))
stuck_declined t at n l h e =
    let m = drop_more t at 0 l in
    subst (λ u. Cut at u [] (Some (BadByte (place (at + n))))) (sym m) (cut_stuck at (get_or t at 0) (drop (at + 1) t) n h (ap see (sym m) ∙ e))

pub stop_declined :
    (t : List ℕ) (at : ℕ) (s : Stop)
    → at < length t
    → blank (get_or t at 0) ≡ false
    → Sees (drop at t) (see (drop at t)) (Err s)
    → Cut at (drop at t) [] (Some (decline_of s at))
stop_declined t at Short l h e = short_declined t at l e
stop_declined t at (Stuck n) l h e = stuck_declined t at n l h e

pub stop_within :
    (t : List ℕ) (at : ℕ) (s : Stop)
    → at < length t
    → Sees (drop at t) (see (drop at t)) (Err s)
    → at + reach s < length t
stop_within t at Short l e = omega arith
stop_within t at (Stuck n) l e = omega (arith, stuck_within (drop at t) n e, length-drop at t)
