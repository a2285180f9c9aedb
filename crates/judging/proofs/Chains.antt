-- A chain of operators taken apart from its end. Assumes nothing.
use Rattle.std.proofs.Common.{◌≡◌, ℕ, Bool, true, false, cond, ◌&&◌, ◌⊎◌, inl, inr, Ok, Err, Result, IfOk, refl, ap, ◌∙◌}
use Rattle.grammar.specs.Trees.{Dyadic, land, lor, nev}
use Rattle.statics.specs.declared.Refusal.{Refusal}
use Rattle.statics.specs.Modes.{Mode, INT, BYTE, value, Need, mode, number}
use Rattle.statics.specs.Expressions.{operand, result, is_byte}
use Rattle.statics.specs.JudgeExpressions.{then}
use Rattle.judging.specs.Chains.{Apt, before}

none : (a : Bool) → INT ≡ cond (a && false) BYTE INT
none true = refl
none false = refl

two : (a b : Bool) → cond (a && b) BYTE INT ≡ cond (a && is_byte (cond (is_byte (cond b BYTE INT) && true) BYTE INT)) BYTE INT
two true true = refl
two true false = refl
two false b = refl

three : (a b c : Bool) → cond (is_byte (cond (a && b) BYTE INT) && c) BYTE INT ≡ cond (a && is_byte (cond (is_byte (cond b BYTE INT) && c) BYTE INT)) BYTE INT
three true true true = refl
three true true false = refl
three true false c = refl
three false b c = refl

-- what is before an operator counts only where it is an INT
alone : {n : ℕ} (o : Dyadic n) (m p : Mode) → result o m p ≡ result land m (result land (result o BYTE p) BYTE)
alone land m p = two (is_byte m) (is_byte p)
alone lor m p = two (is_byte m) (is_byte p)
alone nev m p = two (is_byte m) (is_byte p)
alone _ m p = none (is_byte m)

chained : {n : ℕ} (o : Dyadic n) (m p k : Mode) → result land (result o m p) k ≡ result land m (result land (result o BYTE p) k)
chained land m p k = three (is_byte m) (is_byte p) (is_byte k)
chained lor m p k = three (is_byte m) (is_byte p) (is_byte k)
chained nev m p k = three (is_byte m) (is_byte p) (is_byte k)
chained _ m p k = none (is_byte m)

one_of : (b : Bool) → (cond b BYTE INT ≡ BYTE) ⊎ (cond b BYTE INT ≡ INT)
one_of true = inl refl
one_of false = inr refl

plain_result : {n : ℕ} (o : Dyadic n) (m p : Mode) → (result o m p ≡ BYTE) ⊎ (result o m p ≡ INT)
plain_result land m p = one_of (is_byte m && is_byte p)
plain_result lor m p = one_of (is_byte m && is_byte p)
plain_result nev m p = one_of (is_byte m && is_byte p)
plain_result _ m p = inr refl

narrowed : (w : Result Mode Refusal) → IfOk w (λ k. k ≡ INT) → then w (λ k. Ok (value (result land INT k))) ≡ then w (λ k. Ok (value (result land BYTE k)))
narrowed (Err f) h = refl
narrowed (Ok k) h = rw h refl

-- a number behind which the whole is w
widened : (n : Need) (s : ℕ) (w : Result Mode Refusal) (r : Mode) → Apt n w → (r ≡ BYTE) ⊎ (r ≡ INT) → before n s (Ok (value r)) w ≡ then w (λ k. Ok (value (result land r k)))
widened number s w r a (inl e) = rw e refl
widened number s w r a (inr e) = rw e refl
widened (mode m) s w r a (inl e) = rw (a.0, e) (narrowed w a.1)
widened (mode m) s w r a (inr e) = rw (a.0, e) refl
widened _ s w r a e = absurd a

-- what stands before an operator gives x, and what stands behind it y
module _ {n : ℕ} (o : Dyadic n) where
  abbrev pub behind_it : Result Mode Refusal → Result Mode Refusal → Result Mode Refusal
  behind_it y w = then y (λ m. then w (λ k. Ok (result land (result o BYTE m) k)))

  -- an operator alone, and one with more behind it
  pub last_one : (x y : Result Mode Refusal) → then x (λ m. then y (λ p. Ok (value (result o m p)))) ≡ then x (λ m. then (behind_it y (Ok BYTE)) (λ k. Ok (value (result land m k))))
  last_one (Err f) y = refl
  last_one (Ok m) (Err f) = refl
  last_one (Ok m) (Ok p) = ap (λ (k : Mode). Ok (value k)) (alone o m p)

  same_whole : (m p : Mode) (w : Result Mode Refusal) → then w (λ k. Ok (value (result land (result o m p) k))) ≡ then (behind_it (Ok p) w) (λ k. Ok (value (result land m k)))
  same_whole m p (Err f) = refl
  same_whole m p (Ok k) = ap (λ (i : Mode). Ok (value i)) (chained o m p k)

  pub one_more : (l : Need) (s : ℕ) (x y w : Result Mode Refusal) → Apt l w → before l s (then x (λ m. then y (λ p. Ok (value (result o m p))))) w ≡ then x (λ m. then (behind_it y w) (λ k. Ok (value (result land m k))))
  one_more l s (Err f) y w a = refl
  one_more l s (Ok m) (Err f) w a = refl
  one_more l s (Ok m) (Ok p) w a = widened l s w (result o m p) a (plain_result o m p) ∙ same_whole m p w

int_behind : (y w : Result Mode Refusal) → IfOk (then y (λ (m : Mode). then w (λ k. Ok (result land INT k)))) (λ k. k ≡ INT)
int_behind (Err f) w = tt
int_behind (Ok m) (Err f) = tt
int_behind (Ok m) (Ok k) = refl

pub apt : {n : ℕ} (o : Dyadic n) (y w : Result Mode Refusal) → Apt (operand o) (behind_it o y w)
apt land y w = tt
apt lor y w = tt
apt nev y w = tt
apt _ y w = (refl, int_behind y w)
