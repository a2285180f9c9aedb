-- What the twin sees is what the rules say of the front of a text, and they say no other thing.
use Rattle.std.proofs.Common.{◌≡◌, ℕ, ◌<◌, ◌≤◌, List, [], ◌∷◌, ◌++◌, length, take, Option, sym, refl, ap, ◌∙◌, subst, ⊎_elim, append_assoc, arith}
use Rattle.std.proofs.lemmas.List.{take_at}
use Rattle.std.proofs.lemmas.Bool.{cases_order}
use Rattle.symbols.specs.Items.{IsItem, Item, Begins}
use Rattle.symbols.specs.Cut.{Longest, NoItem}
use Rattle.symbols.specs.See.{Sight, found, short, stuck, see}
use Rattle.symbols.specs.declared.Symbol.{Symbol}
use Rattle.symbols.proofs.Covers.{Reaches, covers, self}
use Rattle.symbols.proofs.Sound.{Sound, sound}

pub reached : (t v s : List ℕ) → t ≡ v ++ s → Item v → (x : Sight) → see t ≡ x → Reaches (length v) x
reached t v s e i x h = subst (Reaches (length v)) (ap see (sym e) ∙ h) (covers i.0 v s i.1)

-- an item is seen: it is the longest
pub record Taken (f : Option Symbol) (n : ℕ) (t : List ℕ) : Type 0 where
  pub front : List ℕ
  pub rest : List ℕ
  pub whole : t ≡ front ++ rest
  pub size : length front ≡ n
  pub longest : Longest f front rest

pub taken : (t : List ℕ) (f : Option Symbol) (n : ℕ) → see t ≡ found f n → Taken f n t
taken t f n e = go (subst (Sound t) e (sound t))
  where
    go : Sound t (found f n) → Taken f n t
    go h =
        record {
          front = h.0;
          rest = h.1;
          whole = h.2;
          size = h.3;
          longest = record { item = h.4; longest = λ v s p i. let m : length v ≤ n = reached t v s (h.2 ∙ p) i (found f n) e in omega (arith, h.3) };
        }

pub no_item_short : (t : List ℕ) → see t ≡ short → NoItem t
no_item_short t e v s p i = reached t v s p i short e

pub no_item_stuck : (t : List ℕ) (n : ℕ) → see t ≡ stuck n → NoItem t
no_item_stuck t n e v s p i = reached t v s p i (stuck n) e

pub begins_short : (t : List ℕ) → see t ≡ short → Begins t
begins_short t e = subst (Sound t) e (sound t)

-- no item goes on with the byte at which the twin stops
pub record Stopped (n : ℕ) (t : List ℕ) : Type 0 where
  pub front : List ℕ
  pub byte : ℕ
  pub rest : List ℕ
  pub whole : t ≡ front ++ (byte ∷ rest)
  pub size : length front ≡ n
  pub begins : Begins front
  pub ends : Begins (front ++ (byte ∷ [])) → ⊥

apart : (x : Sight) (f : Option Symbol) (m n : ℕ) → x ≡ found f m → x ≡ stuck n → ⊥
apart x f m n p q = cc

pub stopped : (t : List ℕ) (n : ℕ) → see t ≡ stuck n → Stopped n t
stopped t n e = go (subst (Sound t) e (sound t))
  where
    go : Sound t (stuck n) → Stopped n t
    go h =
        record {
          front = h.0;
          byte = h.1;
          rest = h.2;
          whole = h.3;
          size = h.4;
          begins = h.5;
          ends = λ b. apart (see ((h.0 ++ (h.1 ∷ [])) ++ b.0)) b.1.0 (length ((h.0 ++ (h.1 ∷ [])) ++ b.0)) n (self b.1.0 ((h.0 ++ (h.1 ∷ [])) ++ b.0) b.1.1) (ap see (append_assoc h.0 (h.1 ∷ []) b.0) ∙ h.6 b.0);
        }

-- a front part of what begins an item begins one
pub front_begins : (u v : List ℕ) → Begins (u ++ v) → Begins u
front_begins u v b = (v ++ b.0, (b.1.0, subst (IsItem b.1.0) (append_assoc u v b.0) b.1.1))

-- the other way round: what the rules say is seen

same_symbol : (f g : Option Symbol) (w : List ℕ) → IsItem f w → IsItem g w → f ≡ g
same_symbol f g w h k = let p = self f w h in let q = self g w k in cc

pub longest_seen : (f : Option Symbol) (w r : List ℕ) → Longest f w r → see (w ++ r) ≡ found f (length w)
longest_seen f w r h = go (see (w ++ r)) refl
  where
    go : (x : Sight) → see (w ++ r) ≡ x → x ≡ found f (length w)
    go (found g n) e =
        let t = taken (w ++ r) g n e in
        let a : length w ≤ n = reached (w ++ r) w r refl (f, h.item) (found g n) e in
        let b : length t.front ≤ length w = h.longest t.front t.rest t.whole (g, t.longest.item) in
        let m : n ≡ length w = omega (arith, t.size) in
        let k : length t.front ≡ length w = t.size ∙ m in
        let u : t.front ≡ w =
        sym (take_at t.front t.rest (length w) k) ∙ ap (take (length w)) (sym t.whole) ∙ take_at w r (length w) refl in
        let s : g ≡ f = same_symbol g f w (subst (IsItem g) u t.longest.item) h.item in
        cc
    go short e = absurd (reached (w ++ r) w r refl (f, h.item) short e)
    go (stuck n) e = absurd (reached (w ++ r) w r refl (f, h.item) (stuck n) e)

none_found : (t : List ℕ) (f : Option Symbol) (n : ℕ) → NoItem t → see t ≡ found f n → ⊥
none_found t f n h e = let k = taken t f n e in h k.front k.rest k.whole (f, k.longest.item)

pub short_seen : (t : List ℕ) → NoItem t → Begins t → see t ≡ short
short_seen t h b = go (see t) refl
  where
    go : (x : Sight) → see t ≡ x → x ≡ short
    go (found f n) e = absurd (none_found t f n h e)
    go short e = refl
    go (stuck n) e =
        let s = stopped t n e in
        absurd (s.ends (front_begins (s.front ++ (s.byte ∷ [])) s.rest (subst Begins (s.whole ∙ sym (append_assoc s.front (s.byte ∷ []) s.rest)) b)))

-- of two front parts of one text the shorter, with the byte behind it, is a front part of the longer
longer_part :
    (u v : List ℕ) (c : ℕ) (r s : List ℕ)
    → u ++ (c ∷ r) ≡ v ++ s
    → length u < length v
    → (x : List ℕ) × (v ≡ (u ++ (c ∷ [])) ++ x)
longer_part [] [] c r s e l = absurd (omega arith)
longer_part [] (b ∷ v) c r s e l = let p : c ≡ b = cc in (v, ap (λ y. y ∷ v) (sym p))
longer_part (a ∷ u) [] c r s e l = absurd (omega arith)
longer_part (a ∷ u) (b ∷ v) c r s e l =
    let p : a ≡ b = cc in
    let q : u ++ (c ∷ r) ≡ v ++ s = cc in
    let h = longer_part u v c r s q (omega arith) in
    let k : v ≡ (u ++ (c ∷ [])) ++ h.0 = h.1 in
    (h.0, cc)

pub stuck_seen :
    (u : List ℕ) (c : ℕ) (r : List ℕ)
    → NoItem (u ++ (c ∷ r))
    → Begins u
    → (Begins (u ++ (c ∷ [])) → ⊥)
    → see (u ++ (c ∷ r)) ≡ stuck (length u)
stuck_seen u c r h b no_more = go (see (u ++ (c ∷ r))) refl
  where
    go : (x : Sight) → see (u ++ (c ∷ r)) ≡ x → x ≡ stuck (length u)
    go (found f n) e = absurd (none_found (u ++ (c ∷ r)) f n h e)
    go short e =
        absurd (no_more (front_begins (u ++ (c ∷ [])) r (subst Begins (sym (append_assoc u (c ∷ []) r)) (begins_short (u ++ (c ∷ r)) e))))
    go (stuck n) e =
        let s = stopped (u ++ (c ∷ r)) n e in
        ⊎_elim (λ p. ap stuck (sym s.size ∙ sym p))
        (λ d. ⊎_elim
        (λ l. let x = longer_part u s.front c r (s.byte ∷ s.rest) s.whole l in absurd (no_more (front_begins (u ++ (c ∷ [])) x.0 (subst Begins x.1 s.begins))))
        (λ l. let x = longer_part s.front u s.byte s.rest (c ∷ r) (sym s.whole) l in absurd (s.ends (front_begins (s.front ++ (s.byte ∷ [])) x.0 (subst Begins x.1 b))))
        d)
        (cases_order (length u) (length s.front))
