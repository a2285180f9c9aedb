-- Reading items into trees, what is done with the trees being handed in. Assumes nothing.
use Rattle.std.proofs.Common.{◌≡◌, ℕ, List, [], ◌∷◌, sym, refl, ap, ◌∙◌}
use Rattle.grammar.specs.Symbols.{Symbol}
use Rattle.grammar.specs.Trees.{Token, symbol, number, Opt, none, some}
use Rattle.grammar.specs.Sentences.{symbols}
use Rattle.grammar.specs.Machine.{arrange, Repetition, ors, ands, Goal, all, each, rest, links_on, a_term, an_expr, Single, Whole, begun, adds, Tree, Forest, Move, shift, skip, refuse, mapped, followed, move, void_each, map_opt, void, Left, taken, step, pair, done, onto_stack, is_some, onward, accepts}

abbrev pub passes : {R : Type 0} (γ : List Goal) → Opt (Left γ) → ((β : List Goal) → (ℕ → Forest β → Forest γ) → Opt R) → Opt R
passes γ none k = none
passes γ (some l) k = k l.0 l.1

abbrev pub read : {R : Type 0} (γ : List Goal) → List Token → (Forest γ → R) → Opt R
read γ [] k = map_opt k (done γ)
read γ (t ∷ w) k = passes γ (step γ (symbol t)) (λ β h. read β w (λ g. k (h (number t) g)))

-- what can be read is accepted
some_map : {A B : Type 0} (f : A → B) (o : Opt A) → is_some (map_opt f o) ≡ is_some o
some_map f none = refl
some_map f (some a) = refl

passes_accepts : {R : Type 0} (γ : List Goal) (n : ℕ) (w : List Token) (k : Forest γ → R) (o : Opt (Left γ)) → ((β : List Goal) (k : Forest β → R) → is_some (read β w k) ≡ accepts β (symbols w)) → is_some (passes γ o (λ β h. read β w (λ g. k (h n g)))) ≡ onward (onto_stack γ o) (λ β. accepts β (symbols w))
passes_accepts γ n w k none ih = refl
passes_accepts γ n w k (some l) ih = ih l.0 _

pub read_accepts : {R : Type 0} (γ : List Goal) (w : List Token) (k : Forest γ → R) → is_some (read γ w k) ≡ accepts γ (symbols w)
read_accepts γ [] k = some_map k (done γ)
read_accepts γ (t ∷ w) k = passes_accepts γ (number t) w k (step γ (symbol t)) (λ β k. read_accepts β w k)

-- the goal x is empty in front of v, its tree being t
abbrev pub Off : (x : Goal) → Tree x → List Token → Type 0
Off x t [] = void x ≡ some t
Off x t (u ∷ w) = move x (symbol u) ≡ skip t

abbrev pub Like : (x y : Goal) → (Tree y → Tree x) → List Token → Type 0
Like x y f [] = void x ≡ map_opt f (void y)
Like x y f (u ∷ w) = move x (symbol u) ≡ mapped f (move y (symbol u))

abbrev join_opt : {A B C : Type 0} → (A → B → C) → Opt A → Opt B → Opt C
join_opt f none o = none
join_opt f (some a) o = map_opt (f a) o

abbrev pub Chains : (x z y : Goal) → (Tree z → Tree y → Tree x) → List Token → Type 0
Chains x z y join [] = void x ≡ join_opt join (void z) (void y)
Chains x z y join (u ∷ w) = move x (symbol u) ≡ followed (move z (symbol u)) y (move y (symbol u)) join

-- a repetition is one and then the rest
abbrev pub repeats : (r : Repetition) → Single r → List (Single r) → Whole r
repeats r u us = adds r (begun r u) us

void_all : (r : Repetition) (o : Opt (Single r)) → map_opt (begun r) o ≡ join_opt (repeats r) o (some [])
void_all r none = refl
void_all r (some u) = refl

all_chains : (r : Repetition) (v : List Token) → Chains (all r) (each r) (rest r) (repeats r) v
all_chains r [] = void_all r (void_each r)
all_chains r (u ∷ w) = refl

ors_chains : (v : List Token) → Chains (each ors) (each ands) (rest ands) (repeats ands) v
ors_chains [] = refl
ors_chains (u ∷ w) = refl

expr_chains : (v : List Token) → Chains an_expr a_term links_on arrange v
expr_chains [] = refl
expr_chains (u ∷ w) = refl

module _ {R : Type 0} where
  skip_passes : (x : Goal) (t : Tree x) (α : List Goal) (u : Token) (w : List Token) (k : Forest (x ∷ α) → R) (o : Opt (Left α)) → passes (x ∷ α) (taken x α (skip t) o) (λ β h. read β w (λ g. k (h (number u) g))) ≡ passes α o (λ β h. read β w (λ g. k (t, h (number u) g)))
  skip_passes x t α u w k none = refl
  skip_passes x t α u w k (some l) = refl

  map_pair : {A B : Type 0} (t : A) (k : A × B → R) (o : Opt B) → map_opt k (pair (some t) o) ≡ map_opt (λ f. k (t, f)) o
  map_pair t k none = refl
  map_pair t k (some b) = refl

  pub off : (x : Goal) (t : Tree x) (α : List Goal) (v : List Token) (k : Forest (x ∷ α) → R) → Off x t v → read (x ∷ α) v k ≡ read α v (λ f. k (t, f))
  off x t α [] k e = ap (λ (o : Opt (Tree x)). map_opt k (pair o (done α))) e ∙ map_pair t k (done α)
  off x t α (u ∷ w) k e = ap (λ (m : Move (Tree x)). passes (x ∷ α) (taken x α m (step α (symbol u))) (λ β h. read β w (λ g. k (h (number u) g)))) e ∙ skip_passes x t α u w k (step α (symbol u))

  -- a goal that moves as another does
  mapped_passes : (x y : Goal) (f : Tree y → Tree x) (α : List Goal) (n : ℕ) (w : List Token) (k : Forest (x ∷ α) → R) (m : Move (Tree y)) (o : Opt (Left α)) → passes (x ∷ α) (taken x α (mapped f m) o) (λ β h. read β w (λ g. k (h n g))) ≡ passes (y ∷ α) (taken y α m o) (λ β h. read β w (λ g. k (f (h n g).0, (h n g).1)))
  mapped_passes x y f α n w k (skip t) none = refl
  mapped_passes x y f α n w k _ _ = refl

  mapped_ends : {A B C : Type 0} (f : B → A) (k : A × C → R) (o : Opt B) (p : Opt C) → map_opt k (pair (map_opt f o) p) ≡ map_opt (λ g. k (f g.0, g.1)) (pair o p)
  mapped_ends f k (some b) none = refl
  mapped_ends f k _ _ = refl

  pub like : (x y : Goal) (f : Tree y → Tree x) (α : List Goal) (v : List Token) (k : Forest (x ∷ α) → R) → Like x y f v → read (x ∷ α) v k ≡ read (y ∷ α) v (λ g. k (f g.0, g.1))
  like x y f α [] k e = ap (λ (o : Opt (Tree x)). map_opt k (pair o (done α))) e ∙ mapped_ends f k (void y) (done α)
  like x y f α (u ∷ w) k e = ap (λ (m : Move (Tree x)). passes (x ∷ α) (taken x α m (step α (symbol u))) (λ β h. read β w (λ g. k (h (number u) g)))) e ∙ mapped_passes x y f α (number u) w k (move y (symbol u)) (step α (symbol u))

  -- a goal that is one and then another
  followed_passes : (x z y : Goal) (join : Tree z → Tree y → Tree x) (α : List Goal) (c : Symbol) (n : ℕ) (w : List Token) (k : Forest (x ∷ α) → R) (m : Move (Tree z)) → passes (x ∷ α) (taken x α (followed m y (move y c) join) (step α c)) (λ β h. read β w (λ g. k (h n g))) ≡ passes (z ∷ y ∷ α) (taken z (y ∷ α) m (step (y ∷ α) c)) (λ β h. read β w (λ g. k (join (h n g).0 (h n g).1.0, (h n g).1.1)))
  followed_passes x z y join α c n w k (shift push build) = refl
  followed_passes x z y join α c n w k (skip t) = mapped_passes x y (join t) α n w k (move y c) (step α c) ∙ sym (skip_all (taken y α (move y c) (step α c)))
    where
      skip_all : (o : Opt (Left (y ∷ α))) → passes (z ∷ y ∷ α) (taken z (y ∷ α) (skip t) o) (λ β h. read β w (λ g. k (join (h n g).0 (h n g).1.0, (h n g).1.1))) ≡ passes (y ∷ α) o (λ β h. read β w (λ g. k (join t (h n g).0, (h n g).1)))
      skip_all none = refl
      skip_all (some l) = refl
  followed_passes x z y join α c n w k refuse = refl

  followed_ends : {A B C D : Type 0} (join : A → B → C) (k : C × D → R) (o : Opt A) (p : Opt B) (q : Opt D) → map_opt k (pair (join_opt join o p) q) ≡ map_opt (λ g. k (join g.0 g.1.0, g.1.1)) (pair o (pair p q))
  followed_ends join k (some a) (some b) none = refl
  followed_ends join k _ _ _ = refl

  pub chains : (x z y : Goal) (join : Tree z → Tree y → Tree x) (α : List Goal) (v : List Token) (k : Forest (x ∷ α) → R) → Chains x z y join v → read (x ∷ α) v k ≡ read (z ∷ y ∷ α) v (λ g. k (join g.0 g.1.0, g.1.1))
  chains x z y join α [] k e = ap (λ (o : Opt (Tree x)). map_opt k (pair o (done α))) e ∙ followed_ends join k (void z) (void y) (done α)
  chains x z y join α (u ∷ w) k e = ap (λ (m : Move (Tree x)). passes (x ∷ α) (taken x α m (step α (symbol u))) (λ β h. read β w (λ g. k (h (number u) g)))) e ∙ followed_passes x z y join α (symbol u) (number u) w k (move z (symbol u))

  pub all_is : (r : Repetition) (α : List Goal) (v : List Token) (k : Forest (all r ∷ α) → R) → read (all r ∷ α) v k ≡ read (each r ∷ rest r ∷ α) v (λ g. k (repeats r g.0 g.1.0, g.1.1))
  all_is r α v k = chains (all r) (each r) (rest r) (repeats r) α v k (all_chains r v)

  pub ors_is : (α : List Goal) (v : List Token) (k : Forest (each ors ∷ α) → R) → read (each ors ∷ α) v k ≡ read (each ands ∷ rest ands ∷ α) v (λ g. k (repeats ands g.0 g.1.0, g.1.1))
  ors_is α v k = chains (each ors) (each ands) (rest ands) (repeats ands) α v k (ors_chains v)

  pub expr_is : (α : List Goal) (v : List Token) (k : Forest (an_expr ∷ α) → R) → read (an_expr ∷ α) v k ≡ read (a_term ∷ links_on ∷ α) v (λ g. k (arrange g.0 g.1.0, g.1.1))
  expr_is α v k = chains an_expr a_term links_on arrange α v k (expr_chains v)
