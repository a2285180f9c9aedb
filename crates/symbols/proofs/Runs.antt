-- Runs of bytes of one class at the front of a text.
use Rattle.std.proofs.Common.{◌≡◌, ℕ, zero, suc, ◌+◌, Bool, true, false, List, [], ◌∷◌, ◌++◌, length, replicate, append-nil, sym, refl, ap, ◌∙◌, arith}
use Rattle.std.specs.List.{prefix_len}
use Rattle.std.proofs.lemmas.Bool.{cond-true, cond-false, eqb-true}
use Rattle.symbols.specs.Bytes.{Each, space}

-- a text does not go on with a byte of the class
abbrev pub Stops : (ℕ → Bool) → List ℕ → Type 0
Stops p [] = Unit {0}
Stops p (c ∷ r) = p c ≡ false

pub record Parted (p : ℕ → Bool) (t : List ℕ) : Type 0 where
  pub front : List ℕ
  pub rest : List ℕ
  pub whole : t ≡ front ++ rest
  pub each : Each p front
  pub count : prefix_len p t ≡ length front
  pub stops : Stops p rest

pub leading_front : (p : ℕ → Bool) (u r : List ℕ) → Each p u → prefix_len p (u ++ r) ≡ length u + prefix_len p r
leading_front p [] r h = omega arith
leading_front p (b ∷ u) r h =
    let e = leading_front p u r h.1 in
    cond-true (p b) (1 + prefix_len p (u ++ r)) 0 h.0 ∙ omega (arith, e)

pub leading_stops : (p : ℕ → Bool) (r : List ℕ) → Stops p r → prefix_len p r ≡ 0
leading_stops p [] h = refl
leading_stops p (c ∷ r) h = cond-false (p c) (1 + prefix_len p r) 0 h

pub leading_run : (p : ℕ → Bool) (u r : List ℕ) → Each p u → Stops p r → prefix_len p (u ++ r) ≡ length u
leading_run p u r h s = omega (arith, leading_front p u r h, leading_stops p r s)

pub leading_all : (p : ℕ → Bool) (u : List ℕ) → Each p u → prefix_len p u ≡ length u
leading_all p u h = ap (prefix_len p) (sym (append-nil u)) ∙ leading_run p u [] h tt

pub parted : (p : ℕ → Bool) (t : List ℕ) → Parted p t
parted p [] = record { front = []; rest = []; whole = refl; each = tt; count = refl; stops = tt }
parted p (b ∷ t) = go (p b) refl (parted p t)
  where
    go : (x : Bool) → p b ≡ x → Parted p t → Parted p (b ∷ t)
    go true e h =
        record {
          front = b ∷ h.front;
          rest = h.rest;
          whole = ap (λ y. b ∷ y) h.whole;
          each = (e, h.each);
          count = cond-true (p b) (1 + prefix_len p t) 0 e ∙ omega (arith, h.count);
          stops = h.stops;
        }
    go false e h =
        record {
          front = [];
          rest = b ∷ t;
          whole = refl;
          each = tt;
          count = cond-false (p b) (1 + prefix_len p t) 0 e;
          stops = e;
        }

pub each_map : (p q : ℕ → Bool) → ((b : ℕ) → p b ≡ true → q b ≡ true) → (u : List ℕ) → Each p u → Each q u
each_map p q f [] h = tt
each_map p q f (b ∷ u) h = (f b h.0, each_map p q f u h.1)

-- spaces
pub each_space : (n : ℕ) → Each space (replicate n 32)
each_space zero = tt
each_space (suc n) = (refl, each_space n)

pub spaces : (u : List ℕ) → Each space u → u ≡ replicate (length u) 32
spaces [] h = refl
spaces (b ∷ u) h =
    let p = eqb-true b 32 h.0 in
    let q = spaces u h.1 in
    cc
