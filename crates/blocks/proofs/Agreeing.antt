-- The common mode of destinations, taken from the last to the first. Assumes nothing.
use Rattle.std.proofs.Common.{◌≡◌, Bool, true, false, Ok, Err, Result, IfOk, Some, None, Option, refl, ap}
use Rattle.std.specs.Bool.{then_some}
use Rattle.grammar.specs.Trees.{Many, one, more, Destination}
use Rattle.statics.specs.declared.Refusal.{Refusal}
use Rattle.statics.specs.Modes.{Mode}
use Rattle.statics.specs.Scopes.{Env}
use Rattle.statics.specs.Fronts.{front_destination, front_destinations}
use Rattle.statics.specs.JudgeExpressions.{then, same_mode}
use Rattle.statics.specs.JudgeStatements.{join, judge_target, judge_targets}
use Rattle.scopes.proofs.Following.{stops}
use Rattle.blocks.specs.Statements.{first_of}

-- a mode that all have is that of the first, m
abbrev pub Held : Mode → Option Mode → Type 0
Held m None = Unit {0}
Held m (Some k) = k ≡ m

-- a, if those behind have a common mode
abbrev pub meet : Option Mode → Option Mode → Option Mode
meet a None = None
meet a (Some k) = a

none_met : (c : Option Mode) → None ≡ meet None c
none_met None = refl
none_met (Some k) = refl

all_met : (m k : Mode) (b : Bool) → then_some b m ≡ meet (Some m) (then_some b m)
all_met m k true = refl
all_met m k false = refl

swapped : (m k : Mode) (a c : Option Mode) → Held m a → Held m c → meet (join a k) c ≡ meet a (join c k)
swapped m k None None h g = refl
swapped m k None (Some i) h g = none_met (join (Some i) k)
swapped m k (Some j) None h g = refl
swapped m k (Some j) (Some i) h g = rw (h, g) (all_met m k (same_mode m k))

held_cond : (m : Mode) (b : Bool) → Held m (then_some b m)
held_cond m true = refl
held_cond m false = tt

held_join : (m k : Mode) (a : Option Mode) → Held m a → Held m (join a k)
held_join m k None h = tt
held_join m k (Some i) h = rw h (held_cond m (same_mode m k))

-- the first has the mode m
held_more : (m : Mode) (r : Result (Option Mode) Refusal) (t : Result Mode Refusal) → IfOk r (Held m) → IfOk (then r (λ a. then t (λ k. Ok (join a k)))) (Held m)
held_more m (Err f) t h = tt
held_more m (Ok a) (Err f) h = tt
held_more m (Ok a) (Ok k) h = held_join m k a h

held_one : (m : Mode) (t : Result Mode Refusal) → t ≡ Ok m → IfOk (then t (λ k. Ok (Some k))) (Held m)
held_one m t h = rw h refl

pub held : (Γ : Env) (m : Mode) (ds : Many Destination) → judge_target Γ (first_of ds) ≡ Ok m → IfOk (judge_targets Γ ds) (Held m)
held Γ m (one d) h = held_one m (judge_target Γ d) h
held Γ m (more ds d) h = held_more m (judge_targets Γ ds) (judge_target Γ d) (held Γ m ds h)

-- what is behind the destination k
pub held_behind : (m : Mode) (t : Result Mode Refusal) (c : Result (Option Mode) Refusal) → IfOk c (Held m) → IfOk (then t (λ k. then c (λ a. Ok (join a k)))) (Held m)
held_behind m (Err f) c h = tt
held_behind m (Ok k) (Err f) h = tt
held_behind m (Ok k) (Ok a) h = held_join m k a h

pub one_more : (m : Mode) (r : Result (Option Mode) Refusal) (t : Result Mode Refusal) (c : Result (Option Mode) Refusal) → IfOk r (Held m) → IfOk c (Held m) → then (then r (λ a. then t (λ k. Ok (join a k)))) (λ a. then c (λ i. Ok (meet a i))) ≡ then r (λ a. then (then t (λ k. then c (λ i. Ok (join i k)))) (λ i. Ok (meet a i)))
one_more m (Err f) t c h g = refl
one_more m (Ok a) (Err f) c h g = refl
one_more m (Ok a) (Ok k) (Err f) h g = refl
one_more m (Ok a) (Ok k) (Ok i) h g = ap Ok (swapped m k a i h g)

pub none_behind : (m : Mode) (r : Result (Option Mode) Refusal) → r ≡ then r (λ a. then (Ok (Some m)) (λ i. Ok (meet a i)))
none_behind m (Err f) = refl
none_behind m (Ok a) = refl

pub all_behind : (m : Mode) (t : Result Mode Refusal) (c : Result (Option Mode) Refusal) → t ≡ Ok m → IfOk c (Held m) → then (then t (λ k. Ok (Some k))) (λ a. then c (λ i. Ok (meet a i))) ≡ c
all_behind m t (Err f) h g = rw h refl
all_behind m t (Ok None) h g = rw h refl
all_behind m t (Ok (Some k)) h g = rw (h, g) refl

-- the first is wrong
pub fails : (Γ : Env) (ds : Many Destination) (f : Refusal) → judge_target Γ (first_of ds) ≡ Err f → judge_targets Γ ds ≡ Err f
fails Γ (one d) f h = stops _ _ f h
fails Γ (more ds d) f h = stops _ _ f (fails Γ ds f h)

pub front_of_first : (ds : Many Destination) → front_destination (first_of ds) ≡ front_destinations ds
front_of_first (one d) = refl
front_of_first (more ds d) = front_of_first ds
