-- A loop over the entries of a list, from the last to the first, fills a table from its end downward. Assumes nothing.
use Rattle.std.proofs.Common.{◌≡◌, ℕ, ◌+◌, ◌-◌, ◌<◌, ◌≤◌, List, [], ◌∷◌, ◌++◌, map, length, take, drop, refl, ap, sym, ◌∙◌, subst, append_assoc, append-nil, arith, length-append, length-drop, length-take-le, take-add, take-take, take_at, drop_at}
use Rattle.std.proofs.lemmas.List.{map-append, drop_all}
use Rattle.std.proofs.lemmas.Slice.{take-put_mid}
use borrow.Rule.Slice.PartMut.{put_mid}
use Rattle.grammar.specs.Trees.{Many}
use Rattle.nodes.specs.declared.Node.{Node}
use Rattle.nodes.specs.Nodes.{Reading}
use Rattle.statics.specs.Written.{gather}
use Rattle.lists.specs.Lists.{Stand, of_many, from_last, in_order}
use Rattle.lists.proofs.Loops.{Going, going_in, going_on, going_out, from_last_in_order, many_in_order}
use Rattle.frames.specs.Frames.{Kept, Ahead, Behind}

-- what the entries of a list give by F, one behind the other
abbrev pub put_together : {A U : Type 0} → (A → List U) → List A → List U
put_together F ts = in_order (λ us vs. us ++ vs) [] F ts

module _ {U : Type 0} where
  -- what is gathered from the entries, and mapped
  pub gathered : {A V : Type 0} (g : V → U) (F : A → List V) (m : Many A) → map g (gather F m) ≡ put_together (λ t. map g (F t)) (of_many m)
  gathered g F m = many_in_order (λ us vs. us ++ vs) [] append_assoc (λ us. refl) append-nil (λ t. map g (F t)) (λ n. map g (gather F n)) (λ t. refl) (λ n t. map-append g (gather F n) (F t)) m

  pub gathered_plain : {A : Type 0} (F : A → List U) (m : Many A) → gather F m ≡ put_together F (of_many m)
  gathered_plain F m = many_in_order (λ us vs. us ++ vs) [] append_assoc (λ us. refl) append-nil F (λ n. gather F n) (λ t. refl) (λ n t. refl) m

  -- what a loop puts in front only grows
  grown : {A : Type 0} (F : A → List U) (us : List U) (ts : List A) → length us ≤ length (from_last (λ t vs. F t ++ vs) us ts)
  grown F us [] = omega arith
  grown F us (t ∷ ts) = let more : length (F t ++ us) ≤ length (from_last (λ t vs. F t ++ vs) (F t ++ us) ts) = grown F (F t ++ us) ts in omega (arith, length-append (F t) us)

-- what was put in front of others, and then more in front of it
module _ {T : Type 0} where
  pub kept_all : (a : ℕ) (old : List T) → Kept a old a old
  kept_all a old = record { lower = omega arith; length = refl; front = refl }

  pub kept_on : (a : ℕ) (old : List T) (b : ℕ) (mid : List T) (c : ℕ) (new : List T) → Kept a old b mid → Kept b mid c new → Kept a old c new
  kept_on a old b mid c new k h = record {
    lower = omega arith;
    length = h.length ∙ k.length;
    front = h.front ∙ sym (take-take c b mid h.lower) ∙ ap (take c) k.front ∙ take-take c b old h.lower;
  }

-- In such a loop, which is to put us in front of what began at `before` in the old table: the entries at ks are left.
abbrev pub Filling : {T U A : Type 0} → (T → U) → (A → List U) → Reading A → List Node → List ℕ → List U → ℕ → List T → ℕ → List T → Type 0
Filling {U = U} f F Is ns ks us before old start new =
    length us ≤ before → before ≤ length old → (vs : List U) × Going (λ t ws. F t ++ ws) Is ns ks vs us × (start + length vs ≡ before) × (map f (drop start new) ≡ vs ++ map f (drop before old))

module _ {T U A : Type 0} (f : T → U) (F : A → List U) (Is : Reading A) (ns : List Node) where
  pub filling_in : (ts : List A) (ks : List ℕ) (us : List U) (before : ℕ) (old : List T) → Stand Is ts ns ks → us ≡ put_together F ts → Filling f F Is ns ks us before old before old
  filling_in ts ks us before old s e room within =
      let total = from_last_in_order (λ us vs. us ++ vs) [] append_assoc (λ us. refl) append-nil F ts in
      ([], subst (λ (ws : List U). Going (λ t ws. F t ++ ws) Is ns ks [] ws) (total ∙ sym e) (going_in (λ t ws. F t ++ ws) Is ns ts ks [] s), omega arith, refl)

  -- an entry is taken, and what it gives is put in front
  pub filling_on : (ks : List ℕ) (k : ℕ) (ls : List ℕ) (us : List U) (before : ℕ) (old : List T) (start : ℕ) (mid : List T) (begin : ℕ) (new : List T) → ks ≡ k ∷ ls → length mid ≡ length old → ((t : A) → Is t ns k → Ahead f (F t) start mid begin new) → Filling f F Is ns ks us before old start mid → Filling f F Is ns ls us before old begin new
  filling_on ks k ls us before old start mid begin new e len step filled room within =
      let x = filled room within in
      let on = going_on (λ t ws. F t ++ ws) Is ns ks k ls x.0 us e x.1 in
      let sum : length (F on.0 ++ x.0) ≡ length (F on.0) + length x.0 = length-append (F on.0) x.0 in
      let most : length (F on.0 ++ x.0) ≤ length us = subst (λ (ws : List U). length (F on.0 ++ x.0) ≤ length ws) on.2.2 (grown F (F on.0 ++ x.0) on.2.0) in
      let y = step on.0 on.1 (omega (arith, sum, most, x.2)) (omega (arith, len, x.2)) in
      (F on.0 ++ x.0, on.2, omega (arith, sum, y.0, x.2), y.1 ∙ ap (λ ws. F on.0 ++ ws) x.3 ∙ sym (append_assoc (F on.0) x.0 (map f (drop before old))))

  pub filling_out : (ks : List ℕ) (us : List U) (before : ℕ) (old : List T) (start : ℕ) (new : List T) → ks ≡ [] → Filling f F Is ns ks us before old start new → Ahead f us before old start new
  filling_out ks us before old start new e filled room within =
      let x = filled room within in
      let out = going_out (λ t ws. F t ++ ws) Is ns ks x.0 us e x.1 in
      (omega (arith, ap length out, x.2), x.3 ∙ ap (λ ws. ws ++ map f (drop before old)) out)

-- one entry of a table put in front
pub ahead_one : {T U : Type 0} (f : T → U) (entry : T) (us : List U) (before : ℕ) (old : List T) (start : ℕ) (new : List T) → f entry ∷ [] ≡ us → (0 < before → before ≤ length old → (start + 1 ≡ before) × (drop start new ≡ entry ∷ drop before old)) → Ahead f us before old start new
ahead_one f entry us before old start new e put room within =
    let one : length us ≡ 1 = sym (ap length e) in
    let x = put (omega (arith, one)) within in
    (omega (arith, one, x.0), ap (map f) x.1 ∙ ap (λ ws. ws ++ map f (drop before old)) e)

pub ahead_same : {T U : Type 0} (f : T → U) (us vs : List U) (before : ℕ) (old : List T) (start : ℕ) (new : List T) → us ≡ vs → Ahead f us before old start new → Ahead f vs before old start new
ahead_same f us vs before old start new e a = subst (λ ws. Ahead f ws before old start new) e a

-- the part of a table from i on was written, and the first n entries there count
take_part : {T : Type 0} (old new : List T) (i k n : ℕ) → i ≤ length old → length new ≡ k → n ≤ k → take (i + n) (put_mid i k old new) ≡ take i old ++ take n new
take_part old new i k n within len few =
    let front = length-take-le i old within in
    sym (take-take (i + n) (i + k) (put_mid i k old new) (omega arith))
    ∙ ap (take (i + n)) (take-put_mid i k old new (i + k) (omega arith) within)
    ∙ take-add i n (take i old ++ new)
    ∙ (λ j. take_at (take i old) new i front j ++ take n (drop_at (take i old) new i front j))

-- the part of a table behind the first `count` entries
abbrev pub behind_first : {T : Type 0} → ℕ → List T → List T
behind_first count old = take (length old - count) (drop count old)

-- There some were put at its end, and then moved to its beginning.
pub declared : {T U : Type 0} (f : T → U) (us : List U) (count : ℕ) (old : List T) (start : ℕ) (mid : List T) (moved : ℕ) (new : List T) → count ≤ length old → Kept (length (behind_first count old)) (behind_first count old) start mid → Ahead f us (length (behind_first count old)) (behind_first count old) start mid → length new ≡ length mid → (start ≤ length mid → (moved ≡ length mid - start) × (take moved new ≡ drop start mid)) → Behind f us count old (count + moved) (put_mid count (length old - count) old new)
declared f us count old start mid moved new within kept ahead len move enough =
    let room = behind_first count old in
    let size : length room ≡ length old - count = length-take-le (length old - count) (drop count old) (omega (arith, length-drop count old)) in
    let x = ahead (omega arith) (omega arith) in
    let y = move (omega (arith, kept.lower, kept.length)) in
    let some : moved ≡ length us = omega (arith, x.0, y.0, kept.length) in
    let none : drop (length room) room ≡ [] = drop_all (length room) room (omega arith) in (
      ap (λ k. count + k) some,
      ap (map f) (take_part old new count (length old - count) moved within (omega (arith, kept.length)) (omega arith))
          ∙ map-append f (take count old) (take moved new)
          ∙ ap (λ ws. map f (take count old) ++ ws) (ap (map f) y.1 ∙ x.1 ∙ ap (λ ts. us ++ map f ts) none ∙ append-nil us),
    )
