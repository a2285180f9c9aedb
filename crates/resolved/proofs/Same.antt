-- Two results that agree: both right, what is right of the one being f of what is right of the other; or both refused alike. Assumes nothing.
use Rattle.std.proofs.Common.{◌≡◌, Some, None, Ok, Err, Option, Result, ok_or, option_map, refl}
use Rattle.statics.specs.declared.Refusal.{Refusal}
use Rattle.statics.specs.JudgeExpressions.{then}
use Rattle.resolved.specs.ResolveExpressions.{with}

pub data Same {A B : Type 0} (f : A → B) : Result A Refusal → Result B Refusal → Type 0 where
  right : {a : A} → Same f (Ok a) (Ok (f a))
  wrong : {e : Refusal} → Same f (Err e) (Err e)

pub agreed : {A B : Type 0} {f : A → B} {r : Result A Refusal} {s : Result B Refusal} → Same f r s → then r (λ a. Ok (f a)) ≡ s
agreed right = refl
agreed wrong = refl

-- one after the other
pub same_then :
    {A B C D : Type 0} {f : A → B} {g : C → D} {r : Result A Refusal} {s : Result B Refusal} {k : A → Result C Refusal} (l : B → Result D Refusal)
    → Same f r s
    → ((a : A) → Same g (k a) (l (f a)))
    → Same g (then r k) (then s l)
same_then l (right {a}) h = h a
same_then l wrong h = wrong

-- what is made of the one
pub same_made : {A B C : Type 0} {h : C → B} {r : Result A Refusal} {s : Result B Refusal} (g : A → C) → Same (λ a. h (g a)) r s → Same h (then r (λ a. Ok (g a))) s
same_made g right = right
same_made g wrong = wrong

-- an option, and what is made of what it holds
pub same_option : {A B C : Type 0} {h : C → B} (g : A → C) (o : Option A) (e : Refusal) → Same h (ok_or (option_map g o) e) (ok_or (option_map (λ a. h (g a)) o) e)
same_option g None e = wrong
same_option g (Some a) e = right

pub same_with : {A B : Type 0} (b : B) (o : Option A) (e : Refusal) → Same (λ k. k.0) (ok_or (option_map (with b) o) e) (ok_or o e)
same_with b None e = wrong
same_with b (Some a) e = right
