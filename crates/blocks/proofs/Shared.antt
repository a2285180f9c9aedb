-- How many names a list of names has, and the names of a declaration. Assumes nothing.
use Rattle.std.proofs.Common.{◌≡◌, ℕ, suc, ◌≤◌, List, [], ◌∷◌, length, refl, ap, arith, length-append}
use Rattle.grammar.specs.Trees.{Expr, Many, one, more, Init, plain, given}
use Rattle.nodes.specs.declared.Node.{Node}
use Rattle.nodes.specs.declared.Node.TheVariants.{Given}
use Rattle.nodes.specs.Nodes.{At, Reading, IsMany, IsName, IsInit, IsExpr}
use Rattle.lists.specs.Lists.{Stand, of_many}
use Rattle.statics.specs.Written.{gather, item_names}

module _ (ns : List Node) where
  pub as_many : {A : Type 0} (Is : Reading A) (ts : List A) (ks : List ℕ) → Stand Is ts ns ks → length ks ≡ length ts
  as_many Is [] [] s = refl
  as_many Is [] (k ∷ ks) s = absurd s
  as_many Is (t ∷ ts) [] s = absurd s
  as_many Is (t ∷ ts) (k ∷ ks) s = ap suc (as_many Is ts ks s.1)

  few : (m : Many ℕ) (k : ℕ) → IsMany IsName m ns k → length (of_many m) ≤ suc k
  few (one n) k is = omega arith
  few (more m n) k is = omega (arith, few m is.0 is.5, is.2)

names_many : (m : Many ℕ) → length (gather (λ n. n ∷ []) m) ≡ length (of_many m)
names_many (one n) = refl
names_many (more m n) = omega (arith, names_many m, length-append (gather (λ n. n ∷ []) m) (n ∷ []))

-- the names that share a value
pub shared : (ns : List Node) (k l r : ℕ) (i : Init (Expr 5)) → At ns k (Given l r) → IsInit IsExpr i ns k → (m : Many ℕ) × IsMany IsName m ns l × (length (item_names i) ≡ length (of_many m)) × (length (of_many m) ≤ k)
shared ns k l r (plain n) at is = absurd (cc (at, is))
shared ns k l r (given m e) at is =
    let p : is.0 ≡ l = cc (at, is.4) in
    (m, rw p at is.5, names_many m, omega (arith, few ns m is.0 is.5, is.2))

-- a local alone
pub unshared : (ns : List Node) (k : ℕ) (i : Init (Expr 5)) → ((l r : ℕ) → At ns k (Given l r) → ⊥) → IsInit IsExpr i ns k → 1 ≡ length (item_names i)
unshared ns k (plain n) none is = refl
unshared ns k (given m e) none is = absurd (none is.0 is.1 is.4)
