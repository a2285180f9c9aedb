-- How the twin's parts come out where the code has measured a part of the text.
use Rattle.std.proofs.Common.{◌≡◌, ℕ, ◌+◌, ◌-◌, ◌<◌, ◌≤◌, ◌⊎◌, ◌&&◌, ltb, List, [], ◌∷◌, length, get_or, take, drop, Some, Ok, Err, Option, Result, MatchResult, IsOkAnd, sym, refl, ap, subst, ◌∙◌, ⊎_elim, arith}
use Rattle.std.specs.List.{prefix_len}
use Rattle.std.specs.Borrow.{Bor}
use Rattle.std.proofs.lemmas.List.{length-take-le, take_rest}
use Rattle.std.proofs.lemmas.Bool.{lt-ltb, le-ltb, cond-true, cond-false, and_from, and_left, and_right}
use Rattle.symbols.proofs.Covers.{word_at as word_behind}
use Rattle.symbols.specs.Bytes.{space, name_byte}
use Rattle.symbols.specs.Spellings.{digit_in}
use Rattle.symbols.specs.See.{Sight, found, keyword_of, base_of, named as named_as, see, see_by, see_word, see_name, see_behind}
use Rattle.symbols.specs.declared.Base.{Base}
use Rattle.symbols.specs.declared.Symbol.{Symbol}
use Rattle.symbols.specs.declared.Symbol.TheVariants.{Integer}
use Rattle.scanner.specs.declared.item.Item.{Item}
use Rattle.scanner.specs.declared.item.Stop.{Stop}
use Rattle.scanner.specs.declared.item.Stop.TheVariants.{Short, Stuck}
use Rattle.scanner.specs.Seen.{Shows, Sees, Part, bytes_of, symbol_of}

-- an item of the first n bytes
pub shown :
    (t : List ℕ) (x : Sight) (i : Item) (n : ℕ)
    → bytes_of i ≡ take n t
    → n ≤ length t
    → x ≡ found (symbol_of i) n
    → Shows t x i
shown t x i n b l s =
    let e : length (bytes_of i) ≡ n = ap length b ∙ length-take-le n t l in
    record { seen = s ∙ ap (found (symbol_of i)) (sym e); front = b ∙ ap (λ k. take k t) (sym e); fits = omega (arith, e) }

-- the name of the first n bytes
pub named_shown :
    (t w : List ℕ) (x : Sight) (i : Item) (n : ℕ)
    → n ≤ length t
    → w ≡ take n t
    → symbol_of i ≡ Some (named_as (keyword_of w))
    → bytes_of i ≡ w
    → x ≡ see_name (take n t) n
    → Shows t x i
named_shown t w x i n l e p b s =
    shown t x i n (b ∙ e) l (s ∙ ap (λ v. found (Some (named_as (keyword_of v))) n) (sym e) ∙ ap (λ f. found f n) (sym p))

-- the word of the first n bytes
pub word_at :
    (t : List ℕ) (n : ℕ) (o : Option Base)
    → n ≡ prefix_len name_byte t
    → base_of (take n t) ≡ o
    → see_word t ≡ see_behind (take n t) n (drop n t) o
word_at t n o e b =
    word_behind t n (take n t) (drop n t) (sym e) refl refl ∙ ap (see_behind (take n t) n (drop n t)) b

-- what is seen of a text that begins with b
pub see_at : (t : List ℕ) (b : ℕ) → 1 ≤ length t → get_or t 0 0 ≡ b → see t ≡ see_by b t
see_at [] b l e = absurd (omega arith)
see_at (a ∷ t) b l e = ap (λ k. see_by k (a ∷ t)) e

-- an item made of a part, or none where no part is found
pub enclosed_seen :
    (t : List ℕ) (x : Option Symbol → Sight) (f : Option Symbol) (P : Bor (List ℕ) → Item → Type 0)
    → ((p : Bor (List ℕ)) (i : Item) → P p i → (symbol_of i ≡ f) × (bytes_of i ≡ p.now))
    → (r : Result (Bor (List ℕ)) Stop) (s : Result Item Stop)
    → Part t x r
    → MatchResult r (λ p. IsOkAnd s (P p)) (λ e. s ≡ Err e)
    → Sees t (x f) s
enclosed_seen t x f P made (Ok p) (Ok i) h m =
    let k = made p i m in
    shown t (x f) i (length p.now) (k.1 ∙ h.1) h.2 (h.0 f ∙ ap (λ g. found g (length p.now)) (sym k.0))
enclosed_seen t x f P made (Ok p) (Err e) h m = absurd m
enclosed_seen t x f P made (Err Short) s h m = subst (Sees t (x f)) (sym m) (h f)
enclosed_seen t x f P made (Err (Stuck n)) s h m = subst (Sees t (x f)) (sym m) (h f)

-- the first n bytes are the word of a base, s spaces are behind it and d digits behind these
pub record Measured (t : List ℕ) (n : ℕ) (base : Base) (s d : ℕ) : Type 0 where
  pub spaces : s ≡ prefix_len space (drop n t)
  pub figures : d ≡ prefix_len (digit_in base) (drop s (drop n t))

pub measured :
    (t r : List ℕ) (n : ℕ) (base : Base) (s d : ℕ)
    → r ≡ drop n t
    → s ≡ prefix_len space r
    → d ≡ prefix_len (digit_in base) (take (length r - s) (drop s r))
    → Measured t n base s d
measured t r n base s d p e f =
    record { spaces = e ∙ ap (prefix_len space) p; figures = f ∙ ap (prefix_len (digit_in base)) (take_rest r s ∙ ap (drop s) p) }

pub based_long :
    (t : List ℕ) (n : ℕ) (base : Base) (s d : ℕ)
    → Measured t n base s d
    → 0 < s
    → 0 < d
    → see_behind (take n t) n (drop n t) (Some base) ≡ found (Some Integer) (n + s + d)
based_long t n base s d m p q =
    simp (sym m.figures, sym m.spaces) (cond-true (ltb 0 s && ltb 0 d) _ _ (and_from (ltb 0 s) (ltb 0 d) (lt-ltb 0 s p) (lt-ltb 0 d q)))

pub based_short :
    (t : List ℕ) (n : ℕ) (base : Base) (s d : ℕ)
    → Measured t n base s d
    → (s ≤ 0) ⊎ (d ≤ 0)
    → see_behind (take n t) n (drop n t) (Some base) ≡ see_name (take n t) n
based_short t n base s d m z =
    simp (sym m.figures, sym m.spaces)
    (cond-false (ltb 0 s && ltb 0 d) _ _
    (⊎_elim (λ a. and_left (ltb 0 s) (ltb 0 d) (le-ltb 0 s a)) (λ b. and_right (ltb 0 s) (ltb 0 d) (le-ltb 0 d b)) z))
