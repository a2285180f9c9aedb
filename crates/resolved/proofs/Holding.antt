-- What holds of a result where it is right. Assumes nothing.
use Rattle.std.proofs.Common.{◌≡◌, ◌+◌, Bool, true, false, List, ◌++◌, length, Ok, Err, Result, refl, subst, arith, length-append}
use Rattle.std.proofs.lemmas.List.{get_or_append_left, get_or-append-add}
use Rattle.std.specs.Prelude.{All}
use Rattle.std.proofs.lemmas.List.Elements.{All-append}
use Rattle.statics.specs.declared.Refusal.{Refusal}
use Rattle.grammar.specs.Trees.{Many, one, more}
use Rattle.statics.specs.Written.{gather}
use Rattle.statics.specs.JudgeExpressions.{then, check}
use Rattle.resolved.specs.Forms.{Part}
use Rattle.resolved.specs.ResolveExpressions.{resolve_each}
use Rattle.resolved.specs.ResolveModules.{all_parts}

-- of the first, and of the rest
pub all_left : {A : Type 0} (P : A → Type 0) (xs ys : List A) → All P (xs ++ ys) → All P xs
all_left P xs ys h k d l = subst P (get_or_append_left xs ys d k l) (h k d (let e = length-append xs ys in omega arith))

pub all_right : {A : Type 0} (P : A → Type 0) (xs ys : List A) → All P (xs ++ ys) → All P ys
all_right P xs ys h k d l = subst P (get_or-append-add xs ys k d) (h (length xs + k) d (let e = length-append xs ys in omega arith))

-- P holds of what is right
pub data Of {A : Type 0} (P : A → Type 0) : Result A Refusal → Type 0 where
  holds : {a : A} → P a → Of P (Ok a)
  refused : {f : Refusal} → Of P (Err f)

pub of_then : {A B : Type 0} {P : A → Type 0} {Q : B → Type 0} {r : Result A Refusal} {k : A → Result B Refusal} → Of P r → ((a : A) → P a → Of Q (k a)) → Of Q (then r k)
of_then (holds {a} p) h = h a p
of_then refused h = refused

pub of_like : {A : Type 0} {P Q : A → Type 0} {r : Result A Refusal} → ((a : A) → P a → Q a) → Of P r → Of Q r
of_like h (holds {a} p) = holds (h a p)
of_like h refused = refused

pub of_check : {B : Type 0} {Q : B → Type 0} (b : Bool) (f : Refusal) {k : Unit {0} → Result B Refusal} → ((u : Unit {0}) → b ≡ true → Of Q (k u)) → Of Q (then (check b f) k)
of_check true f h = h tt refl
of_check false f h = refused

pub of_any : {A B : Type 0} {Q : B → Type 0} (r : Result A Refusal) {k : A → Result B Refusal} → ((a : A) → Of Q (k a)) → Of Q (then r k)
of_any (Ok a) h = h a
of_any (Err f) h = refused

pub of_fact : {A : Type 0} {Q : A → Type 0} (r : Result A Refusal) → ((a : A) → Q a) → Of Q r
of_fact (Ok a) h = holds (h a)
of_fact (Err f) h = refused

pub of_right : {A : Type 0} {Q : A → Type 0} {r : Result A Refusal} → Of Q r → (a : A) → r ≡ Ok a → Q a
of_right {Q = Q} (holds {a = b} q) a e = subst Q (let p : b ≡ a = cc in p) q
of_right refused a e = grind arith

pub each_holds : {A : Type 0} {f : A → Result (List Part) Refusal} (P : Part → Type 0) → ((a : A) → Of (All P) (f a)) → (m : Many A) → Of (λ ps. All P (gather (λ p. p) ps)) (resolve_each f m)
each_holds P h (one a) = of_then (h a) (λ b p. holds p)
each_holds P h (more m a) = of_then (each_holds P h m) (λ bs p. of_then (h a) (λ b q. holds (All-append P (gather (λ l. l) bs) b p q)))

pub parts_hold : {A : Type 0} {f : A → Result (List Part) Refusal} (P : Part → Type 0) → ((a : A) → Of (All P) (f a)) → (m : Many A) → Of (All P) (all_parts f m)
parts_hold P h m = of_then (each_holds P h m) (λ ps p. holds p)

-- the same where each has what is known to hold of all
each_held :
    {A B : Type 0} {f : A → Result (List Part) Refusal} (P : Part → Type 0) (Q : B → Type 0) (g : A → List B) → ((a : A) → All Q (g a) → Of (All P) (f a)) → (m : Many A) → All Q (gather g m)
    → Of (λ ps. All P (gather (λ p. p) ps)) (resolve_each f m)
each_held P Q g h (one a) l = of_then (h a l) (λ b p. holds p)
each_held P Q g h (more m a) l = of_then (each_held P Q g h m (all_left Q (gather g m) (g a) l)) (λ bs p. of_then (h a (all_right Q (gather g m) (g a) l)) (λ b q. holds (All-append P (gather (λ l. l) bs) b p q)))

pub parts_held : {A B : Type 0} {f : A → Result (List Part) Refusal} (P : Part → Type 0) (Q : B → Type 0) (g : A → List B) → ((a : A) → All Q (g a) → Of (All P) (f a)) → (m : Many A) → All Q (gather g m) → Of (All P) (all_parts f m)
parts_held P Q g h m l = of_then (each_held P Q g h m l) (λ ps p. holds p)
