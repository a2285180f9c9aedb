-- The judging of a whole module as a function. Theorems says that it is right.
use Rattle.std.specs.Prelude.{ℕ, ◌+◌, cond, List, [], ◌∷◌, ◌++◌, filter, flat_map, Some, None, Ok, Err, Option, Result, option_to_list, nat_lt, slice_get}
use Rattle.statics.specs.declared.Refusal.{Refusal}
use Rattle.statics.specs.declared.Refusal.TheVariants.{DeclaredTwice, TooManyPlaces, TooManyLocals}
use Rattle.grammar.specs.Trees.{Module}
use Rattle.statics.specs.Scopes.{Text, same_word}
use Rattle.statics.specs.Written.{gather}
use Rattle.statics.specs.DeclaredTwice.{scopes}
use Rattle.statics.specs.Space.{Charge, charges}
use Rattle.statics.specs.Crowds.{Allowance, moditem_allowances}
use Rattle.statics.specs.JudgeExpressions.{then}
use Rattle.statics.specs.JudgeModules.{judge_module}

-- nothing, or k at the item that is there
abbrev pub report : (ℕ → Refusal) → Option ℕ → Result (Unit {0}) Refusal
report k None = Ok tt
report k (Some p) = Err (k p)

abbrev pub lower : ℕ → Option ℕ → ℕ
lower a None = a
lower a (Some b) = cond (nat_lt a b) a b

abbrev pub least : List ℕ → Option ℕ
least [] = None
least (a ∷ rest) = Some (lower a (least rest))

-- the names of a scope that stand behind one of the same word
abbrev pub alike_in : Text → ℕ → List ℕ → List ℕ
alike_in x n = filter (λ q. same_word (x.word q) (x.word n))

abbrev pub doubles : Text → List ℕ → List ℕ
doubles x [] = []
doubles x (n ∷ ns) = alike_in x n ns ++ doubles x ns

abbrev pub passing : ℕ → ℕ → List Charge → Option ℕ
passing limit used [] = None
passing limit used (c ∷ cs) = cond (nat_lt limit (used + c.amount)) (Some c.item) (passing limit (used + c.amount) cs)

abbrev pub beyond : Allowance → List ℕ
beyond a = option_to_list (slice_get a.names a.most)

abbrev pub judge_twice : Text → Module → Result (Unit {0}) Refusal
judge_twice x m = report DeclaredTwice (least (flat_map (doubles x) (scopes x m)))

abbrev pub judge_space : Text → Module → Result (Unit {0}) Refusal
judge_space x m = report TooManyPlaces (passing 4096 0 (charges x m))

abbrev pub judge_locals : Text → Module → Result (Unit {0}) Refusal
judge_locals x m = report TooManyLocals (least (flat_map beyond (gather (moditem_allowances x) m)))

abbrev pub judge_static : Text → Module → Result (Unit {0}) Refusal
judge_static x m = then (judge_twice x m) (λ a. then (judge_module x m) (λ b. then (judge_space x m) (λ c. judge_locals x m)))
