-- What library methods on results say, turned round. Assumes nothing.
use Rattle.std.proofs.Common.{◌≡◌, Option, Some, None, Result, Ok, Err, MatchResult, sym, refl, ap, subst}
use Rattle.std.specs.Option.{ok_or}
use Rattle.std.specs.Result.{IsOkAnd}

pub refused_or : {T E : Type 0} (o : Option T) (x e : E) → ok_or o x ≡ Err e → (o ≡ None) × (e ≡ x)
refused_or None x e h = let k : x ≡ e = cc in (refl, sym k)
refused_or (Some v) x e h = cc

pub given_or : {T E : Type 0} (o : Option T) (x : E) (v : T) → ok_or o x ≡ Ok v → o ≡ Some v
given_or None x v h = cc
given_or (Some w) x v h = let e : w ≡ v = cc in ap Some e

-- what is said of a result, and of what `map` makes of it
pub mapped : {T U E : Type 0} (r : Result T E) (q : Result U E) {P : T → Type 0} {Q : E → Type 0} {S : T → U → Type 0} (G : Result U E → Type 0) → ((x : T) (u : U) → P x → S x u → G (Ok u)) → ((e : E) → Q e → G (Err e)) → MatchResult r P Q → MatchResult r (λ x. IsOkAnd q (S x)) (λ e. q ≡ Err e) → G q
mapped (Ok x) (Ok u) G a b p e = a x u p e
mapped (Ok x) (Err f) G a b p e = absurd e
mapped (Err f) q G a b p e = subst G (sym e) (b f p)
