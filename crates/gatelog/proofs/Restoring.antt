use Rattle.std.proofs.Common.{◌≡◌, ℕ, ◌+◌, ◌*◌, ◌≤◌, List, [], ◌∷◌, ◌++◌, length, take, drop, ℤ, Some, None, Option, sym, refl, ap, ◌∙◌, subst, append-nil, add-one, arith, take_all}
use Rattle.std.proofs.Math.Seq.{drop-append_seam}
use Rattle.std.proofs.lemmas.List.{drop-drop, take-append-le}
use Rattle.std.specs.Option.{option_to_list}
use Rattle.gatelog.specs.declared.entries.Entry.{Entry}
use Rattle.gatelog.specs.declared.positions.Positions.{Positions}
use Rattle.gatelog.specs.Entries.{decoded}
use Rattle.gatelog.specs.Restored.{record_at, entries_in, moved, moved_all, position_of, Stands}

moved_push :
    (gate : ℕ) (es : List Entry) (e : Entry) (p : Option ℤ)
    → moved_all gate (es ++ e ∷ []) p ≡ moved gate e (moved_all gate es p)
moved_push gate [] e p = refl
moved_push gate (d ∷ es) e p = moved_push gate es e (moved gate d p)

entries_more :
    (n : ℕ) (bytes : List ℕ) (r : Option Entry)
    → r ≡ decoded (record_at n bytes)
    → entries_in (n + 1) bytes ≡ entries_in n bytes ++ option_to_list r
entries_more n bytes r e =
    ap (λ x. entries_in x bytes) (add-one n) ∙ ap (λ x. entries_in n bytes ++ option_to_list x) (sym e)

-- the next six bytes, and those behind them
pub next_record :
    (n : ℕ) (bytes x rest : List ℕ)
    → drop (6 * n) bytes ≡ x ++ rest
    → length x ≡ 6
    → (x ≡ record_at n bytes) × (rest ≡ drop (6 * (n + 1)) bytes)
next_record n bytes x rest e l = (
  sym (ap (take 6) e ∙ take-append-le 6 x rest (omega (arith, l)) ∙ take_all 6 x (omega (arith, l))),
  sym (ap (λ k. drop k bytes) (omega arith) ∙ sym (drop-drop 6 (6 * n) bytes) ∙ ap (drop 6) e ∙ ap (λ k. drop k (x ++ rest)) (sym l) ∙ drop-append_seam x rest),
)

-- a turn of the loop at six bytes that are no record
pub stands_same :
    (n : ℕ) (bytes x : List ℕ) (p : Positions)
    → x ≡ record_at n bytes
    → None ≡ decoded x
    → Stands p (entries_in n bytes)
    → Stands p (entries_in (n + 1) bytes)
stands_same n bytes x p i e s =
    subst (λ (x : List Entry). Stands p x) (sym (entries_more n bytes None (e ∙ ap decoded i) ∙ append-nil (entries_in n bytes))) s

-- and at a record
pub stands_more :
    (n : ℕ) (bytes x : List ℕ) (p q : Positions) (d : Entry)
    → x ≡ record_at n bytes
    → Some d ≡ decoded x
    → Stands p (entries_in n bytes)
    → ((gate : ℕ) → 1 ≤ gate → gate ≤ 9 → position_of q gate ≡ moved gate d (position_of p gate))
    → Stands q (entries_in (n + 1) bytes)
stands_more n bytes x p q d i e s m =
    subst (λ (x : List Entry). Stands q x) (sym (entries_more n bytes (Some d) (e ∙ ap decoded i))) (λ gate l h. m gate l h ∙ ap (moved gate d) (s gate l h) ∙ sym (moved_push gate (entries_in n bytes) d None))
