-- Wrongs, and how those of a construct are made of those of its parts. Assumes nothing.
use Rattle.std.specs.Prelude.{◌≡◌, ◌<◌, ◌⊎◌, List, [], ◌∷◌, Ok, Err, Result}
use Rattle.statics.specs.declared.Refusal.{Refusal}
use Rattle.statics.specs.Refusals.{place_of}

-- what is wrong: which refusals hold
abbrev pub Wrongs : Type 1
Wrongs = Refusal → Type 0

-- nothing; f
abbrev pub Never : Wrongs
Never g = ⊥

abbrev pub At : Refusal → Wrongs
At f g = g ≡ f

-- the wrongs of two parts
abbrev pub Both : Wrongs → Wrongs → Wrongs
Both W V f = W f ⊎ V f

-- what is wrong where H holds of something
abbrev pub Under : {A : Type 0} → (A → Type 0) → (A → Wrongs) → Wrongs
Under {A} H V f = (a : A) × H a × V a f

-- f, if K holds of nothing
abbrev pub Lacks : {A : Type 0} → (A → Type 0) → Refusal → Wrongs
Lacks {A} K f g = ((a : A) → K a → ⊥) × At f g

-- k a for each a of which P holds
abbrev pub Wherever : {A : Type 0} → (A → Refusal) → (A → Type 0) → Wrongs
Wherever {A} k P f = (a : A) × P a × At (k a) f

-- nothing is wrong
abbrev pub Clean : Wrongs → Unit {0} → Type 0
Clean W u = (f : Refusal) → W f → ⊥

-- H holds of something of which K then says b
abbrev pub Pair : {A B : Type 0} → (A → Type 0) → (A → B → Type 0) → B → Type 0
Pair {A} H K b = (a : A) × H a × K a b

-- P holds of some of a list
abbrev pub Any : {A : Type 0} → (A → Type 0) → List A → Type 0
Any P [] = ⊥
Any P (a ∷ rest) = P a ⊎ Any P rest

-- THE LAW. The refusal is the only wrong at its place, and every other is further on.
abbrev pub Earliest : Wrongs → Refusal → Type 0
Earliest W f = W f × ((g : Refusal) → W g → (place_of f < place_of g) ⊎ At f g)

-- The verdict on something: H says what holds of what is accepted, W what is wrong.
abbrev pub Verdict : {A : Type 0} → (A → Type 0) → Wrongs → Result A Refusal → Type 0
Verdict H W (Ok a) = H a × Clean W tt
Verdict H W (Err f) = Earliest W f
