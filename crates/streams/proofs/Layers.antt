use Rattle.std.proofs.Common.{◌≡◌, ℕ, ◌+◌, ◌<◌, List, [], ◌∷◌, ◌++◌, length, set, Ok, refl, ap, append-nil, arith, length-append, length-set}
use native.Mathlib.Numerals.{unary_clauses}
use Rattle.std.proofs.lemmas.List.{take_more_set, nil_from_length}
use Rattle.streams.specs.Recorders.{Meaning, State, Kept, Put, flushed}
use Rattle.streams.specs.Kinds.{filled, over}

-- one more byte is written
pub stored_put :
    (b : ℕ) (bs : List ℕ) (u : ℕ) {through through' : List ℕ}
    → u < length bs
    → through' ≡ through
    → Kept (Put (Ok tt) b) (filled bs u through) (filled (set bs u b) (u + 1) through')
stored_put b bs u l e =
    record {
      lent = e;
      stays = λ h. h;
      does = λ _. record { spends = simp length-set (omega arith); passes = (b ∷ [], take_more_set bs u b l, refl) };
    }

-- a buffer that is flushed has nothing of its own left: it means what lies below it
pub ended :
    (own own' : List ℕ) (s t : State)
    → Kept (λ s t. t ≡ flushed s) (over own s) (over own' t)
    → Kept (λ s t. t ≡ flushed s) (over own s) t
ended own own' s t p =
    record {
      lent = p.lent;
      stays = λ h. (p.stays h).0;
      does =
          λ h.
          let held : t.means.held ++ own' ≡ [] = ap (λ (x : Meaning). x.held) (p.does h) in
          let none : own' ≡ [] = nil_from_length own' (omega (arith, length-append t.means.held own', ap length held)) in
          simp (append-nil, unary_clauses) at (rw none at (p.does h));
    }
