-- The entries of a list one after the other. Assumes nothing.
use Rattle.std.proofs.Common.{◌≡◌, ℕ, zero, suc, Bool, true, false, cond, nat_lt, ◌<◌, List, [], ◌∷◌, slice_index_or, Some, refl, ap, sym, ◌∙◌, subst, arith}
use Rattle.std.proofs.lemmas.Bool.{ltb-true, lt-ltb}
use Rattle.grammar.specs.Trees.{Many, one, more}
use Rattle.nodes.specs.declared.Node.{Node}
use Rattle.nodes.specs.Nodes.{Reading, IsMany, blank_node}
use Rattle.lists.specs.declared.Shape.{Shape}
use Rattle.lists.specs.declared.Shape.TheVariants.{Empty, One, More}
use Rattle.lists.specs.declared.Backwards.{Backwards}
use Rattle.lists.specs.Lists.{shape_of, joined, listed_below, listed, listed_from, left, of_many, Stand}

-- which list stands at k
abbrev pub Shaped : List Node → ℕ → Shape → Type 0
Shaped ns k s = shape_of k (slice_index_or ns k blank_node) ≡ s

module _ (f g : ℕ → List ℕ) (k : ℕ) (alike : (l : ℕ) → l < k → f l ≡ g l) where
  same_front : (l : ℕ) (b : Bool) → nat_lt l k ≡ b → cond b (f l) [] ≡ cond b (g l) []
  same_front l false n = refl
  same_front l true n = alike l (ltb-true l k n)

  same_joined : (s : Shape) → joined f k s ≡ joined g k s
  same_joined Empty = refl
  same_joined (One e) = refl
  same_joined (More l e) = ap (λ rs. e ∷ rs) (same_front l (nat_lt l k) refl)

module _ (ns : List Node) where
  -- how many nodes are looked at does not matter, where they are enough
  enough : (d e k : ℕ) → k < d → k < e → listed_below d ns k ≡ listed_below e ns k
  enough zero e k h g = absurd (omega (arith, h))
  enough (suc d) zero k h g = absurd (omega (arith, g))
  enough (suc d) (suc e) k h g = same_joined (listed_below d ns) (listed_below e ns) k (λ l below. enough d e l (omega arith) (omega arith)) (shape_of k (slice_index_or ns k blank_node))

  pub listed_empty : (k : ℕ) → Shaped ns k Empty → listed ns k ≡ []
  listed_empty k is = ap (joined (listed_below k ns) k) is

  pub listed_one : (k e : ℕ) → Shaped ns k (One e) → listed ns k ≡ e ∷ []
  listed_one k e is = ap (joined (listed_below k ns) k) is

  pub listed_more : (k l e : ℕ) → l < k → Shaped ns k (More l e) → listed ns k ≡ e ∷ listed ns l
  listed_more k l e h is = ap (joined (listed_below k ns) k) is ∙ ap (λ b. e ∷ cond b (listed_below k ns l) []) (lt-ltb l k h) ∙ ap (λ rs. e ∷ rs) (enough k (suc l) l h (omega arith))

  module _ {A : Type 0} (Is : Reading A) where
    pub stand_one : (t : A) (k : ℕ) → Shaped ns k (One k) → Is t ns k → Stand Is (t ∷ []) ns (listed ns k)
    stand_one t k s is = subst (λ ks. Stand Is (t ∷ []) ns ks) (sym (listed_one k k s)) (is, tt)

    pub stand_more : (t : A) (ts : List A) (k l e : ℕ) → l < k → Shaped ns k (More l e) → Is t ns e → Stand Is ts ns (listed ns l) → Stand Is (t ∷ ts) ns (listed ns k)
    stand_more t ts k l e h s is all = subst (λ ks. Stand Is (t ∷ ts) ns ks) (sym (listed_more k l e h s)) (is, all)

    -- of entries that are no lists themselves
    pub stand_many : ((t : A) (k : ℕ) → Is t ns k → Shaped ns k (One k)) → (m : Many A) (k : ℕ) → IsMany Is m ns k → Stand Is (of_many m) ns (listed ns k)
    stand_many f (one t) k is = stand_one t k (f t k is) is
    stand_many f (more m t) k is = stand_more t (of_many m) k is.0 is.1 is.2 (ap (shape_of k) is.4) is.6 (stand_many f m is.0 is.5)

-- what a call of `next` leaves of a list whose last entry it takes
pub taken : (s : Backwards) (k l e : ℕ) (n : Node) → Some k ≡ s.rest → n ≡ slice_index_or s.nodes.now k blank_node → More l e ≡ shape_of k n → l < k → left s ≡ e ∷ listed s.nodes.now l
taken s k l e n at node is h = ap (listed_from s.nodes.now) (sym at) ∙ listed_more s.nodes.now k l e h (sym (is ∙ ap (shape_of k) node))
