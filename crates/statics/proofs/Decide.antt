-- What a result decides, and how decisions are put together: nothing here knows the language. Assumes nothing.
use Rattle.std.proofs.Common.{◌≡◌, ℕ, ◌<◌, ◌≤◌, ◌⊎◌, Some, None, Ok, Err, Option, Result, ok_or, refl, subst, inl, inr, arith}
use Rattle.statics.specs.declared.Refusal.{Refusal}
use Rattle.statics.specs.Refusals.{place_of}
use Rattle.statics.specs.Laws.{Wrongs, Never, At, Both, Under, Lacks, Clean, Pair, Earliest, Verdict}
use Rattle.statics.specs.Order.{Span}
use Rattle.statics.specs.JudgeExpressions.{then, done}

-- all wrongs lie from lo up to hi; each of W is one of V
abbrev pub Within : ℕ → ℕ → Wrongs → Type 0
Within lo hi W = (f : Refusal) → W f → Span lo hi (place_of f)

abbrev pub Also : Wrongs → Wrongs → Type 0
Also W V = (f : Refusal) → W f → V f

-- H holds of just one value, and nothing is wrong; or H holds of none, and f is the earliest wrong
pub data Decided {A : Type 0} (H : A → Type 0) (W : Wrongs) : Result A Refusal → Type 0 where
  fine : {a : A} → H a → ((b : A) → H b → b ≡ a) → Clean W tt → Decided H W (Ok a)
  refused : {f : Refusal} → ((b : A) → H b → ⊥) → Earliest W f → Decided H W (Err f)

pub record Judged (lo hi : ℕ) {A : Type 0} (H : A → Type 0) (W : Wrongs) (r : Result A Refusal) : Type 0 where
  pub order : lo ≤ hi
  pub within : Within lo hi W
  pub decided : Decided H W r

-- what an option tells
pub data Tells {A : Type 0} (K : A → Type 0) : Option A → Type 0 where
  found : {a : A} → K a → ((b : A) → K b → b ≡ a) → Tells K (Some a)
  none : ((a : A) → K a → ⊥) → Tells K None

pub verdict : {A : Type 0} {H : A → Type 0} {W : Wrongs} {r : Result A Refusal} → Decided H W r → Verdict H W r
verdict (fine h one clean) = (h, clean)
verdict (refused never e) = e

-- nothing can be wrong
pub sure : {A : Type 0} {lo hi : ℕ} (a : A) → lo ≤ hi → Judged lo hi (λ b. b ≡ a) Never (Ok a)
sure a o = record { order = o; within = λ f w. absurd w; decided = fine refl (λ b e. e) (λ f w. w) }

-- f where the option has nothing
pub lacking : {A : Type 0} {K : A → Type 0} {o : Option A} (lo hi : ℕ) (f : Refusal) → Span lo hi (place_of f) → Tells K o → Judged lo hi K (Lacks K f) (ok_or o f)
lacking {A} {K} lo hi f s t = record { order = omega (arith, s.0, s.1); within = λ g w. rw w.1 s; decided = go t }
  where
    go : {o : Option A} → Tells K o → Decided K (Lacks K f) (ok_or o f)
    go (none t) = refused t ((t, refl), λ g w. inr w.1)
    go (found {a} t one) = fine t one (λ g w. w.0 a t)

-- the same, in other words
pub like : {A : Type 0} {lo hi : ℕ} {H : A → Type 0} {W : Wrongs} {r : Result A Refusal} (K : A → Type 0) (V : Wrongs) → ((a : A) → H a → K a) → ((a : A) → K a → H a) → Also W V → Also V W → Judged lo hi H W r → Judged lo hi K V r
like {A} {lo} {hi} {H} {W} {r} K V hk kh wv vw j = record { order = j.order; within = λ f v. j.within f (vw f v); decided = go j.decided }
  where
    go : {r : Result A Refusal} → Decided H W r → Decided K V r
    go (fine h one clean) = fine (hk _ h) (λ b k. one b (kh b k)) (λ f v. clean f (vw f v))
    go (refused never e) = refused (λ b k. never b (kh b k)) (wv _ e.0, λ f v. e.1 f (vw f v))

-- of what has no value
pub cleaned : {lo hi : ℕ} {H : Unit {0} → Type 0} {W : Wrongs} {r : Result (Unit {0}) Refusal} → Judged lo hi H W r → Judged lo hi (Clean W) W r
cleaned {lo} {hi} {H} {W} j = record { order = j.order; within = j.within; decided = go j.decided }
  where
    go : {r : Result (Unit {0}) Refusal} → Decided H W r → Decided (Clean W) W r
    go (fine h one clean) = fine clean (λ b k. refl) clean
    go (refused never e) = refused (λ b k. k _ e.0) e

-- between other items
pub wider : {A : Type 0} {lo hi : ℕ} {H : A → Type 0} {W : Wrongs} {r : Result A Refusal} (lo' hi' : ℕ) → lo' ≤ lo → hi ≤ hi' → Judged lo hi H W r → Judged lo' hi' H W r
wider lo' hi' a b j = let o = j.order in record { order = omega arith; within = λ f w. let s = j.within f w in (omega arith, omega arith); decided = j.decided }

-- the second where the first is right
pub chain :
    {A B : Type 0} {lo hi : ℕ} {H : A → Type 0} {W : Wrongs} {r : Result A Refusal} (K : A → B → Type 0) (V : A → Wrongs) (f : A → Result B Refusal)
    → Judged lo hi H W r
    → ((a : A) → H a → Judged lo hi (K a) (V a) (f a))
    → Judged lo hi (Pair H K) (Both W (Under H V)) (then r f)
chain {A} {B} {lo} {hi} {H} {W} K V f j g = record { order = j.order; within = inside; decided = go j.decided }
  where
    inside : Within lo hi (Both W (Under H V))
    inside e (inl w) = j.within e w
    inside e (inr v) = (g v.0 v.1).within e v.2

    second : {a : A} {s : Result B Refusal} → H a → ((b : A) → H b → b ≡ a) → Clean W tt → Decided (K a) (V a) s → Decided (Pair H K) (Both W (Under H V)) s
    second {a} h one clean (fine k only pure) =
        fine (a, h, k) (λ b x. only b (subst (λ y. K y b) (one x.0 x.1) x.2))
        (λ e w. elim w [ inl x ↦ clean e x | inr y ↦ pure e (subst (λ z. V z e) (one y.0 y.1) y.2) ])
    second {a} h one clean (refused never first) =
        refused (λ b x. never b (subst (λ y. K y b) (one x.0 x.1) x.2))
        (inr (a, h, first.0), λ e w. elim w [ inl x ↦ absurd (clean e x) | inr y ↦ first.1 e (subst (λ z. V z e) (one y.0 y.1) y.2) ])

    go : {r : Result A Refusal} → Decided H W r → Decided (Pair H K) (Both W (Under H V)) (then r f)
    go (fine {a} h one clean) = second h one clean (g a h).decided
    go (refused never first) =
        refused (λ b x. never x.0 x.1) (inl first.0, λ e w. elim w [ inl x ↦ first.1 e x | inr y ↦ absurd (never y.0 y.1) ])

-- the same, where some of what is wrong with the second, E, is so whether or not the first is right
pub alone :
    {A B : Type 0} {lo mid hi : ℕ} {H : A → Type 0} {W : Wrongs} {r : Result A Refusal} (K : A → B → Type 0) (V : A → Wrongs) (E : Wrongs) (f : A → Result B Refusal)
    → Judged lo mid H W r
    → mid ≤ hi
    → Within mid hi E
    → ((a : A) → Also E (V a))
    → ((a : A) → H a → Judged lo hi (K a) (V a) (f a))
    → Judged lo hi (Pair H K) (Both W (Both E (Under H V))) (then r f)
alone {A} {B} {lo} {mid} {hi} {H} {W} {r} K V E f j y far inc g = record { order = base.order; within = inside; decided = go j.decided base.decided }
  where
    base : Judged lo hi (Pair H K) (Both W (Under H V)) (then r f)
    base = chain K V f (wider lo hi (omega arith) y j) g

    inside : Within lo hi (Both W (Both E (Under H V)))
    inside e (inl w) = base.within e (inl w)
    inside e (inr (inl v)) = let o = j.order in let s = far e v in (omega arith, omega arith)
    inside e (inr (inr u)) = base.within e (inr u)

    add : Also (Both W (Under H V)) (Both W (Both E (Under H V)))
    add e (inl w) = inl w
    add e (inr u) = inr (inr u)

    drop : (a : A) → H a → Also (Both W (Both E (Under H V))) (Both W (Under H V))
    drop a h e (inl w) = inl w
    drop a h e (inr (inl v)) = inr (a, h, inc a e v)
    drop a h e (inr (inr u)) = inr u

    first : (t : Refusal) → ((a : A) → H a → ⊥) → Earliest W t → Earliest (Both W (Both E (Under H V))) t
    first t never k = (inl k.0, later)
      where
        later : (e : Refusal) → Both W (Both E (Under H V)) e → (place_of t < place_of e) ⊎ At t e
        later e (inl w) = k.1 e w
        later e (inr (inl v)) = let m = j.within _ k.0 in let l = far e v in inl (omega arith)
        later e (inr (inr u)) = absurd (never u.0 u.1)

    go : {r : Result A Refusal} → Decided H W r → Decided (Pair H K) (Both W (Under H V)) (then r f) → Decided (Pair H K) (Both W (Both E (Under H V))) (then r f)
    go (fine {a} h one clean) d = (like _ _ (λ b z. z) (λ b z. z) add (drop a h) (record { order = base.order; within = base.within; decided = d })).decided
    go (refused {f = t} never k) d = refused (λ b z. never z.0 z.1) (first t never k)

-- the same, where all of it is
pub behind :
    {A B : Type 0} {lo mid hi : ℕ} {H : A → Type 0} {W : Wrongs} {r : Result A Refusal} (K : A → B → Type 0) (V : Wrongs) (f : A → Result B Refusal)
    → Judged lo mid H W r
    → mid ≤ hi
    → Within mid hi V
    → ((a : A) → H a → Judged mid hi (K a) V (f a))
    → Judged lo hi (Pair H K) (Both W V) (then r f)
behind {A} {B} {lo} {mid} {hi} {H} {W} {r} K V f j y far g =
    like _ _ (λ b z. z) (λ b z. z) to back (alone K (λ a. V) V f j y far (λ a e v. v) (λ a h. wider lo hi j.order (omega arith) (g a h)))
  where
    to : Also (Both W (Both V (Under H (λ a. V)))) (Both W V)
    to e (inl w) = inl w
    to e (inr (inl v)) = inr v
    to e (inr (inr u)) = inr u.2

    back : Also (Both W V) (Both W (Both V (Under H (λ a. V))))
    back e (inl w) = inl w
    back e (inr v) = inr (inl v)

-- what is made of one
pub turn :
    {A C : Type 0} {lo hi : ℕ} {H : A → Type 0} {W : Wrongs} {r : Result A Refusal} (g : A → C)
    → Judged lo hi H W r
    → Judged lo hi (λ c. (a : A) × H a × (c ≡ g a)) W (then r (λ a. Ok (g a)))
turn {A} {C} {lo} {hi} {H} {W} g j = like _ _ (λ c z. z) (λ c z. z) to (λ e w. inl w) (chain (λ a c. c ≡ g a) (λ a. Never) _ j (λ a h. sure (g a) j.order))
  where
    to : Also (Both W (Under H (λ a. Never))) W
    to e (inl w) = w
    to e (inr u) = absurd u.2

-- what is made of two, one after the other in the order of the text
abbrev pub Made : {A B C : Type 0} → (A → Type 0) → (B → Type 0) → (A → B → C) → C → Type 0
Made {A} {B} H K g c = (a : A) × H a × (b : B) × K b × (c ≡ g a b)

pub two :
    {A B C : Type 0} {lo mid hi : ℕ} {H : A → Type 0} {W : Wrongs} {r : Result A Refusal} {K : B → Type 0} {V : Wrongs} {s : Result B Refusal} (g : A → B → C)
    → Judged lo mid H W r
    → Judged mid hi K V s
    → Judged lo hi (Made H K g) (Both W V) (then r (λ a. then s (λ b. Ok (g a b))))
two {A} {B} {C} {lo} {mid} {hi} {H} {W} {r} {K} {V} g i j =
    like _ _ (λ c z. (z.0, z.1, z.2.0, z.2.1, z.2.2)) (λ c z. (z.0, z.1, (z.2, z.3, z.4))) (λ e w. w) (λ e w. w)
    (behind (λ a c. (b : B) × K b × (c ≡ g a b)) V _ i j.order j.within (λ a h. turn (g a) j))

-- what has no value
pub plainly : {A : Type 0} {lo hi : ℕ} {H : A → Type 0} {W : Wrongs} {r : Result A Refusal} → Judged lo hi H W r → Judged lo hi (Clean W) W (then r done)
plainly j = cleaned (turn (λ a. tt) j)

-- one check after the other
pub next :
    {lo mid hi : ℕ} {W V : Wrongs} {r s : Result (Unit {0}) Refusal}
    → Judged lo mid (Clean W) W r
    → Judged mid hi (Clean V) V s
    → Judged lo hi (Clean (Both W V)) (Both W V) (then r (λ u. s))
next {V = V} i j = cleaned (behind (λ u. Clean V) V _ i j.order j.within (λ u h. j))

pub nothing : {lo hi : ℕ} → lo ≤ hi → Judged lo hi (Clean Never) Never (Ok tt)
nothing o = cleaned (sure tt o)
