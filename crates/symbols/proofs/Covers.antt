-- Whatever stands behind an item, the twin finds an item that is no shorter there; and of the item alone it finds just that.
use Rattle.std.proofs.Common.{◌≡◌, ℕ, suc, ◌+◌, ◌≤◌, Bool, true, false, ◌&&◌, eqb, ltb, List, [], ◌∷◌, ◌++◌, length, take, drop, replicate, Some, None, Option, sym, refl, ap, ◌∙◌, subst, append_assoc, append-nil, arith}
use Rattle.std.specs.List.{prefix_len}
use Rattle.std.proofs.lemmas.List.{take_at, drop_at, length-append, length-replicate}
use Rattle.std.proofs.lemmas.Bool.{cond-true, cond-false, cond_both, and_from, lt-ltb}
use Rattle.names.specs.Spelling.{uppers}
use Rattle.symbols.specs.Bytes.{letter, digit, name_byte, space, string_byte, comment_byte, Each}
use Rattle.symbols.specs.Spellings.{sign, base_word, digit_in}
use Rattle.symbols.specs.Items.{IsName, IsInteger, decimal, based, quoted, Enclosed, IsItem}
use Rattle.symbols.specs.See.{Sight, found, short, stuck, named, base_of, see_name, see_based, see_behind, see_word, see_closing, see_enclosed, see}
use Rattle.symbols.specs.declared.Base.{Base}
use Rattle.symbols.specs.declared.Symbol.{Symbol}
use Rattle.symbols.specs.declared.Symbol.TheVariants.{Name, Integer, Text, Word, Mark}
use Rattle.symbols.specs.declared.Separator.{Separator}
use Rattle.symbols.proofs.Lookup.{keyword_is, base_is}
use Rattle.symbols.proofs.Runs.{Stops, leading_front, leading_run, leading_all, each_map, each_space}
use Rattle.symbols.proofs.Bytewise.{digit_no_letter, letter_names, letters_from_uppers, base_letters, base_some, digit_no_space}

abbrev pub Reaches : ℕ → Sight → Type 0
Reaches n (found f m) = n ≤ m
Reaches n short = ⊥
Reaches n (stuck m) = ⊥

less : (m n : ℕ) (x : Sight) → m ≤ n → Reaches n x → Reaches m x
less m n x l h = grind arith

-- names

-- the first n bytes of t are its word, behind which r stands
pub word_at :
    (t : List ℕ) (n : ℕ) (w r : List ℕ)
    → prefix_len name_byte t ≡ n
    → take n t ≡ w
    → drop n t ≡ r
    → see_word t ≡ see_behind w n r (base_of w)
word_at t n w r e p q =
    ap (λ k. see_behind (take k t) k (drop k t) (base_of (take k t))) e
    ∙ ap (λ v. see_behind v n (drop n t) (base_of v)) p
    ∙ ap (λ s. see_behind w n s (base_of w)) q

pub letter_first : (b : ℕ) (t : List ℕ) → letter b ≡ true → see (b ∷ t) ≡ see_word (b ∷ t)
letter_first b t h = cond-true (letter b) _ _ h

behind_covers : (w : List ℕ) (n : ℕ) (r : List ℕ) (o : Option Base) → Reaches n (see_behind w n r o)
behind_covers w n r None = omega arith
behind_covers w n r (Some base) =
    let s = prefix_len space r in
    let d = prefix_len (digit_in base) (drop s r) in
    cond_both (ltb 0 s && ltb 0 d) _ _ (Reaches n) (λ e. let l : n ≤ n + s + d = omega arith in l) (λ e. let l : n ≤ n = omega arith in l)

name_bytes : (b : ℕ) (w : List ℕ) → IsName (b ∷ w) → Each name_byte (b ∷ w)
name_bytes b w h = (letter_names b h.0, h.1)

name_covers : (w r : List ℕ) → IsName w → Reaches (length w) (see (w ++ r))
name_covers [] r h = absurd h
name_covers (b ∷ w) r h =
    let t = b ∷ (w ++ r) in
    let n = prefix_len name_byte t in
    let l : length (b ∷ w) ≤ n = omega (arith, leading_front name_byte (b ∷ w) r (name_bytes b w h)) in
    subst (Reaches (length (b ∷ w))) (sym (letter_first b (w ++ r) h.0))
    (less (length (b ∷ w)) n _ l (behind_covers (take n t) n (drop n t) (base_of (take n t))))

behind_nothing : (w : List ℕ) (n : ℕ) (o : Option Base) → see_behind w n [] o ≡ see_name w n
behind_nothing w n o = grind arith

name_self : (w : List ℕ) → IsName w → see w ≡ see_name w (length w)
name_self [] h = absurd h
name_self (b ∷ w) h =
    let t = b ∷ w in
    let nil = append-nil t in
    letter_first b w h.0
    ∙ word_at t (length t) t [] (leading_all name_byte t (name_bytes b w h)) (ap (take (length t)) (sym nil) ∙ take_at t [] (length t) refl) (ap (drop (length t)) (sym nil) ∙ drop_at t [] (length t) refl)
    ∙ behind_nothing t (length t) (base_of t)

-- integers

pub decimal_see : (d : ℕ) (t : List ℕ) → digit d ≡ true → see (d ∷ t) ≡ found (Some Integer) (prefix_len digit (d ∷ t))
decimal_see d t h = cond-false (letter d) _ _ (digit_no_letter d h) ∙ cond-true (digit d) _ _ h

-- behind the word, spaces sp, and then digits of the base up to the end of t
pub based_see :
    (base : Base) (word : List ℕ) (n : ℕ) (d : ℕ) (t : List ℕ)
    → uppers word ≡ base_word base
    → digit_in base d ≡ true
    → see (word ++ (replicate (suc n) 32 ++ (d ∷ t))) ≡ found (Some Integer) (length word + suc n + prefix_len (digit_in base) (d ∷ t))
based_see base [] n d t e h = absurd (base_some base (ap length e))
based_see base (b ∷ w) n d t e h =
    let word = b ∷ w in
    let sp = replicate (suc n) 32 in
    let r = sp ++ (d ∷ t) in
    let s = prefix_len space r in
    let letters = letters_from_uppers word (subst (Each letter) (sym e) (base_letters base)) in
    let count : s ≡ suc n =
    leading_run space sp (d ∷ t) (each_space (suc n)) (digit_no_space base d h) ∙ length-replicate {A = ℕ} (suc n) 32 in
    let rest : drop s r ≡ d ∷ t =
    ap (λ k. drop k r) count ∙ drop_at sp (d ∷ t) (suc n) (length-replicate {A = ℕ} (suc n) 32) in
    let k = prefix_len (digit_in base) (d ∷ t) in
    let many : prefix_len (digit_in base) (drop s r) ≡ k = ap (prefix_len (digit_in base)) rest in
    let some : ltb 0 k ≡ true = lt-ltb 0 k (omega (arith, cond-true (digit_in base d) (1 + prefix_len (digit_in base) t) 0 h)) in
    letter_first b (w ++ r) letters.0
    ∙ word_at (word ++ r) (length word) word r (leading_run name_byte word r (each_map letter name_byte letter_names word letters) refl) (take_at word r (length word) refl) (drop_at word r (length word) refl)
    ∙ ap (see_behind word (length word) r) (base_is word (Some base) e)
    ∙ ap (λ m. see_based word (length word) m (prefix_len (digit_in base) (drop s r))) count
    ∙ ap (see_based word (length word) (suc n)) many
    ∙ cond-true (ltb 0 (suc n) && ltb 0 k) (found (Some Integer) (length word + suc n + k)) (see_name word (length word)) (and_from (ltb 0 (suc n)) (ltb 0 k) (lt-ltb 0 (suc n) (omega arith)) some)

based_length : (word ds : List ℕ) (n : ℕ) → length (word ++ (replicate n 32 ++ ds)) ≡ length word + n + length ds
based_length word ds n =
    omega (arith, length-append word (replicate n 32 ++ ds), length-append (replicate n 32) ds, length-replicate {A = ℕ} n 32)

quoted_see : (c : ℕ) (t : List ℕ) → string_byte c ≡ true → see (39 ∷ c ∷ 39 ∷ t) ≡ found (Some Integer) 3
quoted_see c t h = cond-true (string_byte c) _ _ h

spread : (word : List ℕ) (n : ℕ) (ds r : List ℕ)
    → (word ++ (replicate n 32 ++ ds)) ++ r ≡ word ++ (replicate n 32 ++ (ds ++ r))
spread word n ds r =
    append_assoc word (replicate n 32 ++ ds) r ∙ ap (λ y. word ++ y) (append_assoc (replicate n 32) ds r)

integer_covers : (w r : List ℕ) (v : ℕ) → IsInteger w v → Reaches (length w) (see (w ++ r))
integer_covers w r v (decimal d ds e h _) =
    subst (λ y. Reaches (length y) (see (y ++ r))) (sym e)
    (subst (Reaches (length (d ∷ ds))) (sym (decimal_see d (ds ++ r) h.0))
    (let l : length (d ∷ ds) ≤ prefix_len digit (d ∷ (ds ++ r)) = omega (arith, leading_front digit (d ∷ ds) r h) in l))
integer_covers w r v (based base word n d ds e u h _) =
    subst (λ y. Reaches (length y) (see (y ++ r))) (sym e)
    (subst (Reaches (length (word ++ (replicate (suc n) 32 ++ (d ∷ ds))))) (sym (ap see (spread word (suc n) (d ∷ ds) r) ∙ based_see base word n d (ds ++ r) u h.0))
    (let l : length (word ++ (replicate (suc n) 32 ++ (d ∷ ds))) ≤ length word + suc n + prefix_len (digit_in base) (d ∷ (ds ++ r)) =
    omega (arith, based_length word (d ∷ ds) (suc n), leading_front (digit_in base) (d ∷ ds) r h) in l))
integer_covers w r v (quoted c e h _) =
    subst (λ y. Reaches (length y) (see (y ++ r))) (sym e)
    (subst (Reaches 3) (sym (quoted_see c r h)) (let l : 3 ≤ 3 = omega arith in l))

integer_self : (w : List ℕ) (v : ℕ) → IsInteger w v → see w ≡ found (Some Integer) (length w)
integer_self w v (decimal d ds e h _) =
    ap see e ∙ decimal_see d ds h.0 ∙ ap (found (Some Integer)) (leading_all digit (d ∷ ds) h ∙ ap length (sym e))
integer_self w v (based base word n d ds e u h _) =
    ap see e ∙ based_see base word n d ds u h.0
    ∙ ap (found (Some Integer)) (ap (λ k. length word + suc n + k) (leading_all (digit_in base) (d ∷ ds) h) ∙ sym (based_length word (d ∷ ds) (suc n)) ∙ ap length (sym e))
integer_self w v (quoted c e h _) = ap see e ∙ quoted_see c [] h ∙ ap (λ y. found (Some Integer) (length y)) (sym e)

-- strings and comments

pub enclosed_at :
    (f : Option Symbol) (q : ℕ) (p : ℕ → Bool) (cs r : List ℕ)
    → Each p cs
    → Stops p r
    → see_enclosed f q p (cs ++ r) ≡ see_closing f q (length cs) r
enclosed_at f q p cs r h s =
    let e = leading_run p cs r h s in
    ap (λ n. see_closing f q n (drop n (cs ++ r))) e ∙ ap (see_closing f q (length cs)) (drop_at cs r (length cs) refl)

enclosed_see :
    (f : Option Symbol) (q : ℕ) (p : ℕ → Bool) (w r : List ℕ)
    → p q ≡ false
    → eqb q q ≡ true
    → ((t : List ℕ) → see (q ∷ t) ≡ see_enclosed f q p t)
    → Enclosed q p w
    → see (w ++ r) ≡ found f (length w)
enclosed_see f q p w r off same at i =
    let cs = i.0 in
    let e = i.1.0 in
    let h = i.1.1 in
    ap (λ y. see (y ++ r)) e
    ∙ at ((cs ++ (q ∷ [])) ++ r)
    ∙ ap (see_enclosed f q p) (append_assoc cs (q ∷ []) r)
    ∙ enclosed_at f q p cs (q ∷ r) h off
    ∙ cond-true (eqb q q) _ _ same
    ∙ ap (found f) (let m : length cs + 2 ≡ length (q ∷ (cs ++ (q ∷ []))) = omega (arith, length-append cs (q ∷ [])) in m ∙ ap length (sym e))

string_see : (w r : List ℕ) → Enclosed 34 string_byte w → see (w ++ r) ≡ found (Some Text) (length w)
string_see w r h = enclosed_see (Some Text) 34 string_byte w r refl refl (λ t. refl) h

comment_see : (w r : List ℕ) → Enclosed 37 comment_byte w → see (w ++ r) ≡ found None (length w)
comment_see w r h = enclosed_see None 37 comment_byte w r refl refl (λ t. refl) h

exactly : (w r : List ℕ) (f : Option Symbol) → see (w ++ r) ≡ found f (length w) → Reaches (length w) (see (w ++ r))
exactly w r f e = subst (Reaches (length w)) (sym e) (let l : length w ≤ length w = omega arith in l)

-- separators

sign_covers : (s : Separator) (r : List ℕ) → Reaches (length (sign s)) (see (sign s ++ r))
sign_covers s r = grind arith

sign_self : (s : Separator) → see (sign s) ≡ found (Some (Mark s)) (length (sign s))
sign_self s = grind arith

-- all items

pub covers : (f : Option Symbol) (w r : List ℕ) → IsItem f w → Reaches (length w) (see (w ++ r))
covers None w r h = exactly w r None (comment_see w r h)
covers (Some Name) w r h = name_covers w r h.0
covers (Some (Word k)) w r h = name_covers w r h.0
covers (Some Integer) w r h = integer_covers w r h.0 h.1
covers (Some Text) w r h = exactly w r (Some Text) (string_see w r h)
covers (Some (Mark s)) w r h = subst (λ y. Reaches (length y) (see (y ++ r))) (sym h) (sign_covers s r)

pub self : (f : Option Symbol) (w : List ℕ) → IsItem f w → see w ≡ found f (length w)
self None w h = ap see (sym (append-nil w)) ∙ comment_see w [] h
self (Some Name) w h =
    name_self w h.0 ∙ ap (λ o. found (Some (named o)) (length w)) (keyword_is w None h.1)
self (Some (Word k)) w h =
    name_self w h.0 ∙ ap (λ o. found (Some (named o)) (length w)) (keyword_is w (Some k) h.1)
self (Some Integer) w h = integer_self w h.0 h.1
self (Some Text) w h = ap see (sym (append-nil w)) ∙ string_see w [] h
self (Some (Mark s)) w h = ap see h ∙ sign_self s ∙ ap (λ y. found (Some (Mark s)) (length y)) (sym h)
