-- What is said of a result, said otherwise. Assumes nothing.
use Rattle.std.proofs.Common.{Ok, Err, Result, MatchResult, IsErrAnd, ◌≡◌, sym, subst}

pub otherwise : {T E : Type 0} (r : Result T E) {P P' : T → Type 0} {Q Q' : E → Type 0} → ((p : T) → P p → P' p) → ((f : E) → Q f → Q' f) → MatchResult r P Q → MatchResult r P' Q'
otherwise (Ok p) a b c = a p c
otherwise (Err f) a b c = b f c

-- an error that a `?` hands on
pub passed : {T E : Type 0} {e : E} (P : T → Type 0) (Q : E → Type 0) (r : Result T E) → IsErrAnd r (λ f. f ≡ e) → Q e → MatchResult r P Q
passed P Q (Ok p) h q = absurd h
passed P Q (Err f) h q = subst Q (sym h) q
