-- The steps of `run` at an index of the symbols, for the proofs of a parser. Assumes nothing.
use Rattle.std.proofs.Common.{◌≡◌, ℕ, zero, suc, ◌+◌, ◌<◌, false, List, [], ◌∷◌, length, get_or, drop, sym, refl, ap, ◌∙◌, subst, add-one, drop-cons}
use Rattle.grammar.specs.Symbols.{STOP, Symbol}
use Rattle.grammar.specs.Trees.{mark, Opt, none, some}
use Rattle.grammar.specs.Sentences.{items, Answer, bad, deep}
use Rattle.grammar.specs.Machine.{arrange, Goal, links_on, a_term, an_expr, Tree, Move, shift, skip, refuse, mapped, followed, move, void, Left, taken, step, pair, done, onto_stack, step_to, is_some, may_end, level, end, go, run}

pub found : (s : List Symbol) (i : ℕ) (c : Symbol) → i < length s → get_or s i STOP ≡ c → drop i s ≡ c ∷ drop (i + 1) s
found s i c h e = rw (add-one, ← e) (drop-cons s i STOP h)

-- the items from the number i on
pub items_here : (s : List Symbol) (i : ℕ) (c : Symbol) → i < length s → get_or s i STOP ≡ c → items i (drop i s) ≡ mark c i ∷ items (i + 1) (drop (i + 1) s)
items_here s i c h e = ap (items i) (found s i c h e) ∙ ap (λ (j : ℕ). mark c i ∷ items j (drop (i + 1) s)) (sym (add-one i))

abbrev first_of : List Symbol → Symbol
first_of [] = STOP
first_of (c ∷ w) = c

first_drop : (s : List Symbol) (i : ℕ) → get_or s i STOP ≡ first_of (drop i s)
first_drop [] zero = refl
first_drop [] (suc i) = refl
first_drop (c ∷ s) zero = refl
first_drop (c ∷ s) (suc i) = first_drop s i

-- the answer from the index i on, with d more allowed, where γ may still come
abbrev pub at : ℕ → List Goal → List Symbol → ℕ → Answer
at d γ s i = run d γ i (drop i s)

-- the symbol c is taken, and leaves β; it can follow, and opens one too many
pub step_at : (d : ℕ) (γ β : List Goal) (s : List Symbol) (i e : ℕ) (c : Symbol) → i < length s → get_or s i STOP ≡ c → step_to γ c ≡ some β → level d c ≡ some e → at d γ s i ≡ at e β s (i + 1)
step_at d γ β s i e c h q m l =
    ap (run d γ i) (found s i c h q)
    ∙ ap (λ (o : Opt (List Goal)). go i o (level d c) (λ f δ. run f δ (suc i) (drop (i + 1) s))) m
    ∙ ap (λ (o : Opt ℕ). go i (some β) o (λ f δ. run f δ (suc i) (drop (i + 1) s))) l
    ∙ ap (λ (j : ℕ). run e β j (drop (i + 1) s)) (sym (add-one i))

pub sink_at : (d : ℕ) (γ β : List Goal) (s : List Symbol) (i : ℕ) (c : Symbol) → i < length s → get_or s i STOP ≡ c → step_to γ c ≡ some β → level d c ≡ none → at d γ s i ≡ deep i
sink_at d γ β s i c h q m l =
    ap (run d γ i) (found s i c h q)
    ∙ ap (λ (o : Opt (List Goal)). go i o (level d c) (λ f δ. run f δ (suc i) (drop (i + 1) s))) m
    ∙ ap (λ (o : Opt ℕ). go i (some β) o (λ f δ. run f δ (suc i) (drop (i + 1) s))) l

-- the symbol at i, or the text's end, is refused
refused_word : (d : ℕ) (γ : List Goal) (i : ℕ) (w : List Symbol) → may_end γ ≡ false → step_to γ (first_of w) ≡ none → run d γ i w ≡ bad i
refused_word d γ i [] v m = ap (end i) v
refused_word d γ i (c ∷ w) v m = ap (λ (o : Opt (List Goal)). go i o (level d c) (λ f δ. run f δ (suc i) w)) m

pub refuse_at : (d : ℕ) (γ : List Goal) (s : List Symbol) (i : ℕ) → may_end γ ≡ false → step_to γ (get_or s i STOP) ≡ none → at d γ s i ≡ bad i
refuse_at d γ s i v m = refused_word d γ i (drop i s) v (subst (λ (c : Symbol). step_to γ c ≡ none) (first_drop s i) m)

-- two stacks that take the symbol at i alike
like_word : (d : ℕ) (γ β : List Goal) (i : ℕ) (w : List Symbol) → may_end γ ≡ may_end β → step_to γ (first_of w) ≡ step_to β (first_of w) → run d γ i w ≡ run d β i w
like_word d γ β i [] v m = ap (end i) v
like_word d γ β i (c ∷ w) v m = ap (λ (o : Opt (List Goal)). go i o (level d c) (λ f δ. run f δ (suc i) w)) m

pub like_at : (d : ℕ) (γ β : List Goal) (s : List Symbol) (i : ℕ) → may_end γ ≡ may_end β → step_to γ (get_or s i STOP) ≡ step_to β (get_or s i STOP) → at d γ s i ≡ at d β s i
like_at d γ β s i v m = like_word d γ β i (drop i s) v (subst (λ (c : Symbol). step_to γ c ≡ step_to β c) (first_drop s i) m)

-- a goal that refuses, or is empty
pub refuses : (x : Goal) (α : List Goal) (c : Symbol) → move x c ≡ refuse → step_to (x ∷ α) c ≡ none
refuses x α c e = ap (λ (m : Move (Tree x)). onto_stack (x ∷ α) (taken x α m (step α c))) e

skips_on : (x : Goal) (α : List Goal) (t : Tree x) (o : Opt (Left α)) → onto_stack (x ∷ α) (taken x α (skip t) o) ≡ onto_stack α o
skips_on x α t none = refl
skips_on x α t (some l) = refl

pub skips : (x : Goal) (α : List Goal) (c : Symbol) (t : Tree x) → move x c ≡ skip t → step_to (x ∷ α) c ≡ step_to α c
skips x α c t e = ap (λ (m : Move (Tree x)). onto_stack (x ∷ α) (taken x α m (step α c))) e ∙ skips_on x α t (step α c)

some_pair : {A B : Type 0} (t : A) (o : Opt B) → is_some (pair (some t) o) ≡ is_some o
some_pair t none = refl
some_pair t (some b) = refl

pub may_skip : (x : Goal) (α : List Goal) (t : Tree x) → void x ≡ some t → may_end (x ∷ α) ≡ may_end α
may_skip x α t e = ap (λ (o : Opt (Tree x)). is_some (pair o (done α))) e ∙ some_pair t (done α)

pub skip_at : (d : ℕ) (x : Goal) (α : List Goal) (s : List Symbol) (i : ℕ) (t u : Tree x) → void x ≡ some t → move x (get_or s i STOP) ≡ skip u → at d (x ∷ α) s i ≡ at d α s i
skip_at d x α s i t u v m = like_at d (x ∷ α) α s i (may_skip x α t v) (skips x α (get_or s i STOP) u m)

-- a goal that moves as another does
pub mapped_on : (x y : Goal) (f : Tree y → Tree x) (α : List Goal) (m : Move (Tree y)) (o : Opt (Left α)) → onto_stack (x ∷ α) (taken x α (mapped f m) o) ≡ onto_stack (y ∷ α) (taken y α m o)
mapped_on x y f α (skip t) none = refl
mapped_on x y f α _ _ = refl

-- a goal that is one and then another
followed_on : (x z y : Goal) (α : List Goal) (c : Symbol) (join : Tree z → Tree y → Tree x) (m : Move (Tree z)) → onto_stack (x ∷ α) (taken x α (followed m y (move y c) join) (step α c)) ≡ onto_stack (z ∷ y ∷ α) (taken z (y ∷ α) m (step (y ∷ α) c))
followed_on x z y α c join (shift push build) = refl
followed_on x z y α c join (skip t) = by (move y c) (step α c)
  where
    by : (m : Move (Tree y)) (o : Opt (Left α)) → onto_stack (x ∷ α) (taken x α (mapped (join t) m) o) ≡ onto_stack (z ∷ y ∷ α) (taken z (y ∷ α) (skip t) (taken y α m o))
    by (skip u) none = refl
    by _ _ = refl
followed_on x z y α c join refuse = refl

pub followed_at : (d : ℕ) (x z y : Goal) (α : List Goal) (s : List Symbol) (i : ℕ) (join : Tree z → Tree y → Tree x) → may_end (x ∷ α) ≡ may_end (z ∷ y ∷ α) → move x (get_or s i STOP) ≡ followed (move z (get_or s i STOP)) y (move y (get_or s i STOP)) join → at d (x ∷ α) s i ≡ at d (z ∷ y ∷ α) s i
followed_at d x z y α s i join v m = like_at d (x ∷ α) (z ∷ y ∷ α) s i v (ap (λ (m : Move (Tree x)). onto_stack (x ∷ α) (taken x α m (step α (get_or s i STOP)))) m ∙ followed_on x z y α (get_or s i STOP) join (move z (get_or s i STOP)))

pub expr_at : (d : ℕ) (α : List Goal) (s : List Symbol) (i : ℕ) → at d (an_expr ∷ α) s i ≡ at d (a_term ∷ links_on ∷ α) s i
expr_at d α s i = followed_at d an_expr a_term links_on α s i arrange refl refl
