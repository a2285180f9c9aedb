-- What the twin finds is an item there; where it finds none, the part before which it stops begins one, and no longer part does.
use Rattle.std.proofs.Common.{◌≡◌, ℕ, ◌+◌, ◌<◌, Bool, true, false, cond, ◌&&◌, eqb, ltb, List, [], ◌∷◌, ◌++◌, length, drop, Some, None, Option, sym, refl, ap, ◌∙◌, subst, append_assoc, append-nil, rules, arith}
use Rattle.std.specs.List.{prefix_len}
use Rattle.std.proofs.lemmas.List.{take_at, drop_at, length-append}
use Rattle.std.proofs.lemmas.Bool.{cond-true, cond-false, cond_both, and_parts, ltb-true, eqb-true}
use Rattle.std.proofs.lemmas.Bool.Decides.{nat_tests}
use Rattle.names.specs.Spelling.{uppers}
use Rattle.symbols.specs.Bytes.{letter, digit, name_byte, space, string_byte, comment_byte, Each}
use Rattle.symbols.specs.Spellings.{spelling, sign, base_word, radix, digit_in}
use Rattle.symbols.specs.Items.{IsName, decimal, based, quoted, written, IsItem, Begins}
use Rattle.symbols.specs.See.{Sight, found, short, stuck, named, keywords, bases, keyword_of, base_of, starts, see_name, see_based, see_behind, see_word, see_closing, see_enclosed, see_quoted, see_mark, marks, see}
use Rattle.symbols.specs.declared.Base.{Base}
use Rattle.symbols.specs.declared.Keyword.{Keyword}
use Rattle.symbols.specs.declared.Symbol.{Symbol}
use Rattle.symbols.specs.declared.Symbol.TheVariants.{Integer, Text, Mark}
use Rattle.symbols.specs.declared.Separator.{Separator}
use Rattle.symbols.specs.declared.Separator.TheVariants.{LeftBracket}
use Rattle.symbols.proofs.Lookup.{lookup_spells, keyword_is}
use Rattle.symbols.proofs.Runs.{Stops, Parted, parted, leading_run, spaces}
use Rattle.symbols.proofs.Bytewise.{letter_names}
use Rattle.symbols.proofs.Covers.{word_at, enclosed_at}

abbrev pub Sound : List ℕ → Sight → Type 0
Sound t (found f n) = (w : List ℕ) × (r : List ℕ) × (t ≡ w ++ r) × (length w ≡ n) × IsItem f w
Sound t short = Begins t
Sound t (stuck n) =
    (u : List ℕ) × (c : ℕ) × (r : List ℕ) × (t ≡ u ++ (c ∷ r)) × (length u ≡ n) × Begins u
    × ((v : List ℕ) → see (u ++ (c ∷ v)) ≡ stuck n)

-- names, and the integers that begin with a word

named_item : (w : List ℕ) → IsName w → IsItem (Some (named (keyword_of w))) w
named_item w h = go (keyword_of w) refl
  where
    go : (o : Option Keyword) → keyword_of w ≡ o → IsItem (Some (named o)) w
    go None e = (h, λ k s. let p = keyword_is w (Some k) s in cc)
    go (Some k) e = (h, lookup_spells spelling (uppers w) keywords k e)

based_item :
    (base : Base) (u s ds : List ℕ)
    → uppers u ≡ base_word base
    → Each space s
    → Each (digit_in base) ds
    → 0 < length s
    → 0 < length ds
    → IsItem (Some Integer) (u ++ (s ++ ds))
based_item base u [] ds e h k l m = absurd (omega arith)
based_item base u (x ∷ s) [] e h k l m = absurd (omega arith)
based_item base u (x ∷ s) (d ∷ ds) e h k l m =
    (written (radix base) (d ∷ ds), based base u (length s) d ds (ap (λ y. u ++ (y ++ (d ∷ ds))) (spaces (x ∷ s) h)) e k refl)

name_sound : (u r : List ℕ) → IsName u → Sound (u ++ r) (see_name u (length u))
name_sound u r h = (u, r, refl, refl, named_item u h)

based_sound :
    (base : Base) (u r : List ℕ)
    → IsName u
    → uppers u ≡ base_word base
    → Sound (u ++ r) (see_behind u (length u) r (Some base))
based_sound base u r h e =
    subst (Sound (u ++ r)) (sym measured)
    (cond_both (ltb 0 (length S.front) && ltb 0 (length D.front)) _ _ (Sound (u ++ r)) long (λ _. name_sound u r h))
  where
    S : Parted space r
    S = parted space r

    D : Parted (digit_in base) S.rest
    D = parted (digit_in base) S.rest

    measured :
        see_behind u (length u) r (Some base) ≡ see_based u (length u) (length S.front) (length D.front)
    measured =
        ap (λ n. see_based u (length u) n (prefix_len (digit_in base) (drop n r))) S.count
        ∙ ap (λ y. see_based u (length u) (length S.front) (prefix_len (digit_in base) y)) (ap (drop (length S.front)) S.whole ∙ drop_at S.front S.rest (length S.front) refl)
        ∙ ap (see_based u (length u) (length S.front)) D.count

    whole : u ++ r ≡ (u ++ (S.front ++ D.front)) ++ D.rest
    whole =
        ap (λ y. u ++ y) (S.whole ∙ ap (λ y. S.front ++ y) D.whole ∙ sym (append_assoc S.front D.front D.rest))
        ∙ sym (append_assoc u (S.front ++ D.front) D.rest)

    long :
        (ltb 0 (length S.front) && ltb 0 (length D.front)) ≡ true
        → Sound (u ++ r) (found (Some Integer) (length u + length S.front + length D.front))
    long b =
        let both = and_parts (ltb 0 (length S.front)) (ltb 0 (length D.front)) b in
        (u ++ (S.front ++ D.front), D.rest, whole, omega (arith, length-append u (S.front ++ D.front), length-append S.front D.front), based_item base u S.front D.front e S.each D.each (ltb-true 0 (length S.front) both.0) (ltb-true 0 (length D.front) both.1))

behind_sound :
    (u r : List ℕ) → IsName u → (o : Option Base) → base_of u ≡ o → Sound (u ++ r) (see_behind u (length u) r o)
behind_sound u r h None e = name_sound u r h
behind_sound u r h (Some base) e = based_sound base u r h (lookup_spells base_word (uppers u) bases base e)

word_sound : (b : ℕ) (t : List ℕ) → letter b ≡ true → Sound (b ∷ t) (see_word (b ∷ t))
word_sound b t h =
    subst (λ y. Sound (b ∷ y) (see_word (b ∷ y))) (sym P.whole)
    (subst (Sound (u ++ P.rest)) (sym at) (behind_sound u P.rest (h, P.each) (base_of u) refl))
  where
    P : Parted name_byte t
    P = parted name_byte t

    u : List ℕ
    u = b ∷ P.front

    at : see_word (u ++ P.rest) ≡ see_behind u (length u) P.rest (base_of u)
    at =
        word_at (u ++ P.rest) (length u) u P.rest (leading_run name_byte u P.rest (letter_names b h, P.each) P.stops) (take_at u P.rest (length u) refl) (drop_at u P.rest (length u) refl)

decimal_sound : (d : ℕ) (t : List ℕ) → digit d ≡ true → Sound (d ∷ t) (found (Some Integer) (prefix_len digit (d ∷ t)))
decimal_sound d t h =
    (d ∷ P.front, P.rest, ap (λ y. d ∷ y) P.whole, sym (ap (λ y. prefix_len digit (d ∷ y)) P.whole ∙ leading_run digit (d ∷ P.front) P.rest (h, P.each) P.stops), (written 10 (d ∷ P.front), decimal d P.front refl (h, P.each) refl))
  where
    P : Parted digit t
    P = parted digit t

-- strings and comments

closing_sound :
    (f : Option Symbol) (q : ℕ) (p : ℕ → Bool)
    → ((cs : List ℕ) → Each p cs → IsItem f (q ∷ (cs ++ (q ∷ []))))
    → ((t : List ℕ) → see (q ∷ t) ≡ see_enclosed f q p t)
    → (cs r : List ℕ)
    → Each p cs
    → Stops p r
    → Sound (q ∷ (cs ++ r)) (see_closing f q (length cs) r)
closing_sound f q p item at cs [] h s =
    subst (λ y. Begins (q ∷ y)) (sym (append-nil cs)) (q ∷ [], (f, item cs h))
closing_sound f q p item at cs (c ∷ r) h s =
    cond_both (eqb c q) _ _ (Sound (q ∷ (cs ++ (c ∷ r)))) closed apart
  where
    closed : eqb c q ≡ true → Sound (q ∷ (cs ++ (c ∷ r))) (found f (length cs + 2))
    closed e =
        (q ∷ (cs ++ (q ∷ [])), r, ap (λ x. q ∷ (cs ++ (x ∷ r))) (eqb-true c q e) ∙ ap (λ y. q ∷ y) (sym (append_assoc cs (q ∷ []) r)), omega (arith, length-append cs (q ∷ [])), item cs h)

    apart : eqb c q ≡ false → Sound (q ∷ (cs ++ (c ∷ r))) (stuck (length cs + 1))
    apart e =
        (q ∷ cs, c, r, refl, omega arith, (q ∷ [], (f, item cs h)), λ v. at (cs ++ (c ∷ v)) ∙ enclosed_at f q p cs (c ∷ v) h s ∙ cond-false (eqb c q) _ _ e)

enclosed_sound :
    (f : Option Symbol) (q : ℕ) (p : ℕ → Bool)
    → ((cs : List ℕ) → Each p cs → IsItem f (q ∷ (cs ++ (q ∷ []))))
    → ((t : List ℕ) → see (q ∷ t) ≡ see_enclosed f q p t)
    → (t : List ℕ)
    → Sound (q ∷ t) (see_enclosed f q p t)
enclosed_sound f q p item at t =
    subst (λ y. Sound (q ∷ y) (see_enclosed f q p y)) (sym P.whole)
    (subst (Sound (q ∷ (P.front ++ P.rest))) (sym (enclosed_at f q p P.front P.rest P.each P.stops)) (closing_sound f q p item at P.front P.rest P.each P.stops))
  where
    P : Parted p t
    P = parted p t

string_sound : (t : List ℕ) → Sound (34 ∷ t) (see_enclosed (Some Text) 34 string_byte t)
string_sound t = enclosed_sound (Some Text) 34 string_byte (λ cs h. (cs, (refl, h))) (λ t. refl) t

comment_sound : (t : List ℕ) → Sound (37 ∷ t) (see_enclosed None 37 comment_byte t)
comment_sound t = enclosed_sound None 37 comment_byte (λ cs h. (cs, (refl, h))) (λ t. refl) t

-- quoted characters

quote_begins : Begins (39 ∷ [])
quote_begins = (65 ∷ 39 ∷ [], (Some Integer, (65, quoted 65 refl refl refl)))

off_first : (c : ℕ) → string_byte c ≡ false → (v : List ℕ) → see (39 ∷ c ∷ v) ≡ stuck 1
off_first c e v = grind (arith, nat_tests)

quoted_sound : (t : List ℕ) → Sound (39 ∷ t) (see_quoted t)
quoted_sound [] = quote_begins
quoted_sound (c ∷ []) =
    cond_both (string_byte c) _ _ (Sound (39 ∷ c ∷ [])) (λ e. (39 ∷ [], (Some Integer, (c, quoted c refl e refl))))
    (λ e. (39 ∷ [], c, [], refl, refl, quote_begins, off_first c e))
quoted_sound (c ∷ x ∷ t) =
    cond_both (string_byte c) _ _ (Sound (39 ∷ c ∷ x ∷ t)) good (λ e. (39 ∷ [], c, x ∷ t, refl, refl, quote_begins, off_first c e))
  where
    good : string_byte c ≡ true → Sound (39 ∷ c ∷ x ∷ t) (cond (eqb x 39) (found (Some Integer) 3) (stuck 2))
    good e =
        cond_both (eqb x 39) (found (Some Integer) 3) (stuck 2) (Sound (39 ∷ c ∷ x ∷ t))
        (λ q. (39 ∷ c ∷ 39 ∷ [], t, ap (λ y. 39 ∷ c ∷ y ∷ t) (eqb-true x 39 q), refl, (c, quoted c refl e refl)))
        (λ q. (39 ∷ c ∷ [], x, t, refl, refl, (39 ∷ [], (Some Integer, (c, quoted c refl e refl))), λ v. cond-true (string_byte c) _ _ e ∙ cond-false (eqb x 39) _ _ q))

-- separators

starts_front : (v t : List ℕ) → starts v t ≡ true → (r : List ℕ) × (t ≡ v ++ r)
starts_front [] t e = (t, refl)
starts_front (a ∷ v) [] e = cc
starts_front (a ∷ v) (b ∷ t) e =
    let h = and_parts (eqb a b) (starts v t) e in
    let p = eqb-true a b h.0 in
    let q = starts_front v t h.1 in
    let m : t ≡ v ++ q.0 = q.1 in
    (q.0, cc)

abbrev Off : List Separator → List ℕ → Type 0
Off [] t = Unit {0}
Off (s ∷ ss) t = (starts (sign s) t ≡ false) × Off ss t

abbrev Marked : List Separator → List ℕ → Sight → Type 0
Marked ss t (found f n) = (s : Separator) × (f ≡ Some (Mark s)) × (n ≡ length (sign s)) × (starts (sign s) t ≡ true)
Marked ss t short = ⊥
Marked ss t (stuck n) = (n ≡ 0) × Off ss t

more : (s : Separator) (ss : List Separator) (t : List ℕ) → starts (sign s) t ≡ false → (x : Sight) → Marked ss t x → Marked (s ∷ ss) t x
more s ss t e x h = grind arith

marked : (ss : List Separator) (t : List ℕ) → Marked ss t (see_mark ss t)
marked [] t = (refl, tt)
marked (s ∷ ss) t =
    let rest = marked ss t in
    cond_both (starts (sign s) t) _ _ (Marked (s ∷ ss) t) (λ e. (s, refl, refl, e)) (λ e. more s ss t e (see_mark ss t) rest)

see_off : (ss : List Separator) (t : List ℕ) → Off ss t → see_mark ss t ≡ stuck 0
see_off [] t h = refl
see_off (s ∷ ss) t h = cond-false (starts (sign s) t) _ _ h.0 ∙ see_off ss t h.1

-- a separator of one byte is not there: no separator begins with that byte
off_byte : (a b : ℕ) (t : List ℕ) → starts (a ∷ []) (b ∷ t) ≡ false → eqb a b ≡ false
off_byte a b t e = grind (arith, nat_tests)

off_any : (b : ℕ) (t v : List ℕ) → Off marks (b ∷ t) → Off marks (b ∷ v)
off_any b t v h =
    let colon : eqb 58 b ≡ false = off_byte 58 b t h.1.1.1.1.1.1.1.1.1.1.1.1.1.1.1.0 in
    let slash : eqb 47 b ≡ false = off_byte 47 b t h.1.1.1.1.1.1.1.1.1.1.1.1.1.1.0 in
    let less : eqb 60 b ≡ false = off_byte 60 b t h.1.1.1.1.1.1.1.1.1.1.1.1.1.1.1.1.1.0 in
    let more : eqb 62 b ≡ false = off_byte 62 b t h.1.1.1.1.1.1.1.1.1.1.1.1.1.1.1.1.1.1.1.0 in
    simp (colon, slash, less, more) (search rules)

-- the item of a byte that begins no other than a separator
other_first :
    (b : ℕ) (v : List ℕ)
    → letter b ≡ false
    → digit b ≡ false
    → eqb b 34 ≡ false
    → eqb b 37 ≡ false
    → eqb b 39 ≡ false
    → see (b ∷ v) ≡ see_mark marks (b ∷ v)
other_first b v l d s c q =
    cond-false (letter b) _ _ l ∙ cond-false (digit b) _ _ d ∙ cond-false (eqb b 34) _ _ s ∙ cond-false (eqb b 37) _ _ c
    ∙ cond-false (eqb b 39) _ _ q

nothing_begins : Begins []
nothing_begins = (40 ∷ [], (Some (Mark LeftBracket), refl))

mark_sound :
    (b : ℕ) (t : List ℕ)
    → ((v : List ℕ) → see (b ∷ v) ≡ see_mark marks (b ∷ v))
    → (x : Sight)
    → Marked marks (b ∷ t) x
    → Sound (b ∷ t) x
mark_sound b t at (found f n) h =
    let front = starts_front (sign h.0) (b ∷ t) h.3 in
    (sign h.0, front.0, front.1, sym h.2, subst (λ g. IsItem g (sign h.0)) (sym h.1) refl)
mark_sound b t at short h = absurd h
mark_sound b t at (stuck n) h =
    ([], b, t, refl, sym h.0, nothing_begins, λ v. at v ∙ see_off marks (b ∷ v) (off_any b t v h.1) ∙ ap stuck (sym h.0))

pub sound : (t : List ℕ) → Sound t (see t)
sound [] = nothing_begins
sound (b ∷ t) =
    let P : Sight → Type 0 = Sound (b ∷ t) in
    cond_both (letter b) _ _ P (λ e. word_sound b t e) (λ l.
    cond_both (digit b) _ _ P (λ e. decimal_sound b t e) (λ d.
    cond_both (eqb b 34) _ _ P (λ e. subst (λ x. Sound (x ∷ t) (see_enclosed (Some Text) 34 string_byte t)) (sym (eqb-true b 34 e)) (string_sound t)) (λ s.
    cond_both (eqb b 37) _ _ P (λ e. subst (λ x. Sound (x ∷ t) (see_enclosed None 37 comment_byte t)) (sym (eqb-true b 37 e)) (comment_sound t)) (λ c.
    cond_both (eqb b 39) _ _ P (λ e. subst (λ x. Sound (x ∷ t) (see_quoted t)) (sym (eqb-true b 39 e)) (quoted_sound t)) (λ q.
    mark_sound b t (λ v. other_first b v l d s c q) (see_mark marks (b ∷ t)) (marked marks (b ∷ t)))))))
