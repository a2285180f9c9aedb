-- What the nodes of array references tell. Assumes nothing.
use Rattle.std.proofs.Common.{◌≡◌, ℕ, List, refl, subst}
use Rattle.grammar.specs.Trees as tree
use Rattle.grammar.specs.Trees.{Amode}
use Rattle.nodes.specs.declared.Node.{Node}
use Rattle.nodes.specs.declared.Node.TheVariants.{RefArray, RefArrayBrackets}
use Rattle.nodes.specs.Nodes.{At, IsAmode}
use Rattle.modes.specs.Meanings.{IsArrayOf}

pub is_array : (ns : List Node) (k r : ℕ) (m : Amode) → At ns k (RefArray r) → IsAmode m ns k → IsArrayOf ns m r
is_array ns k r (tree.simple (tree.ref_array n)) a h =
    let e : h.0 ≡ r = cc in
    (n, subst (λ (j : ℕ). IsAmode n ns j) e h.3, λ x. refl)
is_array ns k r m a h = absurd cc

pub is_array_brackets : (ns : List Node) (k i r : ℕ) (m : Amode) → At ns k (RefArrayBrackets i r) → IsAmode m ns k → IsArrayOf ns m r
is_array_brackets ns k i r (tree.simple (tree.ref_array_brackets j n)) a h =
    let e : h.0 ≡ r = cc in
    (n, subst (λ (j : ℕ). IsAmode n ns j) e h.3, λ x. refl)
is_array_brackets ns k i r m a h = absurd cc
