-- The twin of the cut meets the rules, and the rules determine its answer.
use Rattle.std.proofs.Common.{◌≡◌, ◌≢◌, ℕ, zero, suc, ◌+◌, ◌<◌, ◌≤◌, true, false, List, [], ◌∷◌, ◌++◌, length, take, drop, Some, None, Option, sym, refl, ap, ◌∙◌, subst, ⊎_elim, arith}
use Rattle.std.proofs.lemmas.List.{take_at, drop_at, length-append, length-drop}
use Rattle.std.proofs.lemmas.Bool.{cond-true, cond-false, cond_both, cases_Bool, ltb-true, ltb-false, lt-ltb, le-ltb}
use Rattle.std.proofs.lemmas.Bool.Decides.{nat_tests}
use Rattle.answers.specs.Declines.{place}
use Rattle.answers.specs.declared.Decline.{Decline}
use Rattle.answers.specs.declared.Decline.TheVariants.{BadByte, UnfinishedItem, IntegerTooLarge}
use Rattle.symbols.specs.Bytes.{blank}
use Rattle.symbols.specs.Items.{IsInteger, IsItem}
use Rattle.symbols.specs.Cut.{NoItem, Cut, ended, layout, comment, item, large, unfinished, foreign, entry, max_integer}
use Rattle.symbols.specs.See.{Sight, found, short, stuck, see, value_of}
use Rattle.symbols.specs.Twin.{Cutting, behind, too_large, follow, cuts}
use Rattle.symbols.specs.declared.Symbol.{Symbol}
use Rattle.symbols.specs.declared.Symbol.TheVariants.{Name, Integer, Text, Word, Mark}
use Rattle.symbols.specs.declared.Entry.{Entry}
use Rattle.symbols.proofs.Values.{value_is}
use Rattle.symbols.proofs.Rules.{taken, stopped, no_item_short, no_item_stuck, begins_short, longest_seen, short_seen, stuck_seen}
use Rattle.symbols.proofs.Covers.{self}

-- From what is seen to the rules.

pub cut_comment :
    (p : ℕ) (t : List ℕ) (n : ℕ) (es : List Entry) (o : Option Decline)
    → see t ≡ found None n
    → Cut (p + n) (drop n t) es o
    → Cut p t es o
cut_comment p t n es o e k =
    let h = taken t None n e in
    let rest : drop n t ≡ h.rest = ap (drop n) h.whole ∙ drop_at h.front h.rest n h.size in
    let next : Cut (p + length h.front) h.rest es o = subst (λ m. Cut (p + m) h.rest es o) (sym h.size) (subst (λ r. Cut (p + n) r es o) rest k) in
    subst (λ x. Cut p x es o) (sym h.whole) (comment p h.front h.rest es o h.longest next)

pub cut_item :
    (p : ℕ) (t : List ℕ) (s : Symbol) (n : ℕ) (es : List Entry) (o : Option Decline)
    → see t ≡ found (Some s) n
    → ((v : ℕ) → IsInteger (take n t) v → v ≤ max_integer)
    → Cut (p + n) (drop n t) es o
    → Cut p t (entry s p (p + n) ∷ es) o
cut_item p t s n es o e small k =
    let h = taken t (Some s) n e in
    let rest : drop n t ≡ h.rest = ap (drop n) h.whole ∙ drop_at h.front h.rest n h.size in
    let front : take n t ≡ h.front = ap (take n) h.whole ∙ take_at h.front h.rest n h.size in
    let next : Cut (p + length h.front) h.rest es o = subst (λ m. Cut (p + m) h.rest es o) (sym h.size) (subst (λ r. Cut (p + n) r es o) rest k) in
    let made : Cut p (h.front ++ h.rest) (entry s p (p + length h.front) ∷ es) o =
    item p s h.front h.rest es o h.longest (λ v i. small v (subst (λ w. IsInteger w v) (sym front) i)) next in
    subst (λ m. Cut p t (entry s p (p + m) ∷ es) o) h.size (subst (λ x. Cut p x (entry s p (p + length h.front) ∷ es) o) (sym h.whole) made)

pub cut_large :
    (p : ℕ) (t : List ℕ) (n : ℕ)
    → see t ≡ found (Some Integer) n
    → max_integer < value_of (take n t)
    → Cut p t [] (Some (IntegerTooLarge (place p)))
cut_large p t n e l =
    let h = taken t (Some Integer) n e in
    let front : take n t ≡ h.front = ap (take n) h.whole ∙ take_at h.front h.rest n h.size in
    let i = h.longest.item in
    let v : value_of h.front ≡ i.0 = value_is h.front i.0 i.1 in
    subst (λ x. Cut p x [] (Some (IntegerTooLarge (place p)))) (sym h.whole)
    (large p h.front h.rest i.0 h.longest i.1 (subst (λ y. max_integer < y) (ap value_of front ∙ v) l))

pub cut_short :
    (p b : ℕ) (t : List ℕ) → see (b ∷ t) ≡ short → Cut p (b ∷ t) [] (Some (UnfinishedItem (place p)))
cut_short p b t e = unfinished p b t (no_item_short (b ∷ t) e) (begins_short (b ∷ t) e)

first_same : (u : List ℕ) (c b : ℕ) (r t : List ℕ) → b ∷ t ≡ u ++ (c ∷ r) → u ≡ [] → blank b ≡ false → blank c ≡ false
first_same u c b r t e n h = grind arith

pub cut_stuck :
    (p b : ℕ) (t : List ℕ) (n : ℕ)
    → blank b ≡ false
    → see (b ∷ t) ≡ stuck n
    → Cut p (b ∷ t) [] (Some (BadByte (place (p + n))))
cut_stuck p b t n h e =
    let s = stopped (b ∷ t) n e in
    let none : NoItem (s.front ++ (s.byte ∷ s.rest)) = subst NoItem s.whole (no_item_stuck (b ∷ t) n e) in
    let made : Cut p (s.front ++ (s.byte ∷ s.rest)) [] (Some (BadByte (place (p + length s.front)))) =
    foreign p s.front s.byte s.rest none (λ q. first_same s.front s.byte b s.rest t s.whole q h) s.begins s.ends in
    subst (λ m. Cut p (b ∷ t) [] (Some (BadByte (place (p + m))))) s.size
    (subst (λ x. Cut p x [] (Some (BadByte (place (p + length s.front))))) (sym s.whole) made)

-- an item takes a byte at least
pub some_byte : (t : List ℕ) (f : Option Symbol) (n : ℕ) → see t ≡ found f n → 0 < n
some_byte t f n e =
    let h = taken t f n e in
    let s : see h.front ≡ found f (length h.front) = self f h.front h.longest.item in
    go h.front h.size s
  where
    go : (w : List ℕ) → length w ≡ n → see w ≡ found f (length w) → 0 < n
    go [] m s = cc
    go (b ∷ w) m s = omega (arith, m)

-- the value of an item that is not too large
pub not_large : (s : Symbol) (t : List ℕ) (n : ℕ) → see t ≡ found (Some s) n → too_large s (take n t) ≡ false → (v : ℕ) → IsInteger (take n t) v → v ≤ max_integer
not_large s t n e h v i =
    let k = taken t (Some s) n e in
    let front : take n t ≡ k.front = ap (take n) k.whole ∙ take_at k.front k.rest n k.size in
    go s (self (Some s) (take n t) (subst (IsItem (Some s)) (sym front) k.longest.item)) h
  where
    value : value_of (take n t) ≡ v
    value = value_is (take n t) v i

    whose : (g : Symbol) → see (take n t) ≡ found (Some g) (length (take n t)) → Integer ≡ g
    whose g q = let p = self (Some Integer) (take n t) (v, i) in cc

    go : (g : Symbol) → see (take n t) ≡ found (Some g) (length (take n t)) → too_large g (take n t) ≡ false → v ≤ max_integer
    go Name q x = let z = whose Name q in cc
    go Integer q x = omega (arith, value, ltb-false max_integer (value_of (take n t)) x)
    go Text q x = let z = whose Text q in cc
    go (Word k) q x = let z = whose (Word k) q in cc
    go (Mark m) q x = let z = whose (Mark m) q in cc

-- The twin meets the rules.

abbrev Meets : ℕ → List ℕ → Cutting → Type 0
Meets p t c = Cut p t c.items c.outcome

follows :
    (next : ℕ → Cutting) (p b : ℕ) (t : List ℕ)
    → blank b ≡ false
    → ((n : ℕ) → 0 < n → Meets (p + n) (drop n (b ∷ t)) (next n))
    → (x : Sight)
    → see (b ∷ t) ≡ x
    → Meets p (b ∷ t) (follow next p (b ∷ t) x)
follows next p b t h k (found None n) e =
    cut_comment p (b ∷ t) n (next n).items (next n).outcome e (k n (some_byte (b ∷ t) None n e))
follows next p b t h k (found (Some s) n) e =
    cond_both (too_large s (take n (b ∷ t))) _ _ (Meets p (b ∷ t)) (high s e)
    (λ z. cut_item p (b ∷ t) s n (next n).items (next n).outcome e (not_large s (b ∷ t) n e z) (k n (some_byte (b ∷ t) (Some s) n e)))
  where
    high :
        (s : Symbol)
        → see (b ∷ t) ≡ found (Some s) n
        → too_large s (take n (b ∷ t)) ≡ true
        → Cut p (b ∷ t) [] (Some (IntegerTooLarge (place p)))
    high Name e z = cc
    high Integer e z = cut_large p (b ∷ t) n e (ltb-true max_integer (value_of (take n (b ∷ t))) z)
    high Text e z = cc
    high (Word w) e z = cc
    high (Mark m) e z = cc
follows next p b t h k short e = cut_short p b t e
follows next p b t h k (stuck n) e = cut_stuck p b t n h e

pub meets : (k p : ℕ) (t : List ℕ) → length t ≤ k → Meets p t (cuts k p t)
meets zero p [] l = ended p
meets zero p (b ∷ t) l = absurd (omega arith)
meets (suc k) p [] l = ended p
meets (suc k) p (b ∷ t) l =
    cond_both (blank b) _ _ (Meets p (b ∷ t))
    (λ e. layout p b t (cuts k (p + 1) t).items (cuts k (p + 1) t).outcome e (meets k (p + 1) t (omega arith)))
    (λ e. follows (λ n. cuts k (p + n) (drop n (b ∷ t))) p b t e (λ n m. meets k (p + n) (drop n (b ∷ t)) (omega (arith, length-drop n (b ∷ t)))) (see (b ∷ t)) refl)

-- The rules determine the twin's answer.

blank_stuck : (b : ℕ) (t : List ℕ) → blank b ≡ true → see (b ∷ t) ≡ stuck 0
blank_stuck b t h = grind (arith, nat_tests)

unblank : (b : ℕ) (t : List ℕ) → see (b ∷ t) ≢ stuck 0 → blank b ≡ false
unblank b t n = ⊎_elim (λ h. absurd (n (blank_stuck b t h))) (λ h. h) (cases_Bool (blank b))

-- one step of the twin where an item stands
step :
    (k p : ℕ) (t : List ℕ) (f : Option Symbol) (n : ℕ)
    → length t ≤ k
    → see t ≡ found f n
    → (j : ℕ) × (length t ≤ suc j) × (cuts k p t ≡ follow (λ m. cuts j (p + m) (drop m t)) p t (found f n))
step k p [] f n l e = cc
step zero p (b ∷ t) f n l e = absurd (omega arith)
step (suc j) p (b ∷ t) f n l e =
    (j, l, cond-false (blank b) _ _ (unblank b t (λ s. cc)) ∙ ap (follow (λ m. cuts j (p + m) (drop m (b ∷ t))) p (b ∷ t)) e)

small_not_large : (s : Symbol) (w : List ℕ) → IsItem (Some s) w → ((v : ℕ) → IsInteger w v → v ≤ max_integer) → too_large s w ≡ false
small_not_large Name w h k = refl
small_not_large Integer w h k =
    le-ltb max_integer (value_of w) (let l : h.0 ≤ max_integer = k h.0 h.1 in omega (arith, value_is w h.0 h.1))
small_not_large Text w h k = refl
small_not_large (Word x) w h k = refl
small_not_large (Mark x) w h k = refl

shorter : (w r : List ℕ) (j : ℕ) (f : Option Symbol) → see (w ++ r) ≡ found f (length w) → length (w ++ r) ≤ suc j → length r ≤ j
shorter w r j f e l = omega (arith, length-append w r, some_byte (w ++ r) f (length w) e)

pub determined :
    (p : ℕ) (t : List ℕ) (es : List Entry) (o : Option Decline)
    → Cut p t es o
    → (k : ℕ)
    → length t ≤ k
    → cuts k p t ≡ record { items = es; outcome = o }
determined _ _ _ _ (ended p) zero l = refl
determined _ _ _ _ (ended p) (suc k) l = refl
determined _ _ _ _ (layout p b t es o h c) zero l = absurd (omega arith)
determined _ _ _ _ (layout p b t es o h c) (suc k) l =
    cond-true (blank b) _ _ h ∙ determined (p + 1) t es o c k (omega arith)
determined _ _ _ _ (comment p w r es o h c) k l =
    let e = longest_seen None w r h in
    let s = step k p (w ++ r) None (length w) l e in
    s.2 ∙ ap (cuts s.0 (p + length w)) (drop_at w r (length w) refl)
    ∙ determined (p + length w) r es o c s.0 (shorter w r s.0 None e s.1)
determined _ _ _ _ (item p x w r es o h small c) k l =
    let e = longest_seen (Some x) w r h in
    let s = step k p (w ++ r) (Some x) (length w) l e in
    let ih = determined (p + length w) r es o c s.0 (shorter w r s.0 (Some x) e s.1) in
    s.2 ∙ cond-false (too_large x (take (length w) (w ++ r))) _ _ (ap (too_large x) (take_at w r (length w) refl) ∙ small_not_large x w h.item small)
    ∙ ap (λ y. behind (entry x p (p + length w)) (cuts s.0 (p + length w) y)) (drop_at w r (length w) refl)
    ∙ ap (behind (entry x p (p + length w))) ih
determined _ _ _ _ (large p w r v h i m) k l =
    let e = longest_seen (Some Integer) w r h in
    let s = step k p (w ++ r) (Some Integer) (length w) l e in
    s.2 ∙ cond-true (too_large Integer (take (length w) (w ++ r))) _ _ (ap (too_large Integer) (take_at w r (length w) refl) ∙ lt-ltb max_integer (value_of w) (omega (arith, value_is w v i)))
determined _ _ _ _ (unfinished p b t h c) zero l = absurd (omega arith)
determined _ _ _ _ (unfinished p b t h c) (suc k) l =
    let e = short_seen (b ∷ t) h c in
    cond-false (blank b) _ _ (unblank b t (λ s. cc)) ∙ ap (follow (λ m. cuts k (p + m) (drop m (b ∷ t))) p (b ∷ t)) e
determined _ _ _ _ (foreign p [] c r h first b n) zero l = absurd (omega arith)
determined _ _ _ _ (foreign p [] c r h first b n) (suc k) l =
    cond-false (blank c) _ _ (first refl) ∙ ap (follow (λ m. cuts k (p + m) (drop m (c ∷ r))) p (c ∷ r)) (stuck_seen [] c r h b n)
determined _ _ _ _ (foreign p (a ∷ u) c r h first b n) zero l = absurd (omega arith)
determined _ _ _ _ (foreign p (a ∷ u) c r h first b n) (suc k) l =
    let t = u ++ (c ∷ r) in
    let e = stuck_seen (a ∷ u) c r h b n in
    cond-false (blank a) _ _ (unblank a t (λ s. cc)) ∙ ap (follow (λ m. cuts k (p + m) (drop m (a ∷ t))) p (a ∷ t)) e

-- the byte at which the twin stops is in the text
pub stuck_within : (t : List ℕ) (n : ℕ) → see t ≡ stuck n → n < length t
stuck_within t n e =
    let s = stopped t n e in
    omega (arith, s.size, ap length s.whole, length-append s.front (s.byte ∷ s.rest))
