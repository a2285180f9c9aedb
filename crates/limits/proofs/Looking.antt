-- A loop over the entries of a list looks for the least that they have. Assumes nothing.
use Rattle.std.proofs.Common.{◌≡◌, ℕ, List, [], ◌∷◌, flat_map, Option, None, ap, sym, ◌∙◌, subst}
use Rattle.grammar.specs.Trees.{Many}
use Rattle.nodes.specs.declared.Node.{Node}
use Rattle.nodes.specs.Nodes.{Reading}
use Rattle.statics.specs.Written.{gather}
use Rattle.statics.specs.JudgeLimits.{least}
use Rattle.lists.specs.Lists.{Stand, of_many, from_last}
use Rattle.lists.proofs.Loops.{Going, going_on, going_out}
use Rattle.frames.proofs.Filled.{put_together, gathered_plain}
use Rattle.frames.proofs.Entering.{Having}
use Rattle.limits.proofs.Least.{meet, meet_none, meet_comm, meet_assoc, least_parts}

-- An entry has what f gives of it, and each of these the numbers that g gives.
module _ {A B : Type 0} (g : B → List ℕ) (f : A → List B) where
  abbrev pub of_one : A → Option ℕ
  of_one t = least (flat_map g (f t))

  abbrev pub of_all : List A → Option ℕ
  of_all ts = least (flat_map g (put_together f ts))

  least_of_all : (ts : List A) (b : Option ℕ) → from_last (λ t r. meet r (of_one t)) b ts ≡ meet b (of_all ts)
  least_of_all [] b = sym (meet_none b) ∙ meet_comm None b
  least_of_all (t ∷ ts) b =
      least_of_all ts (meet b (of_one t))
      ∙ meet_assoc b (of_one t) (of_all ts)
      ∙ ap (meet b) (meet_comm (of_one t) (of_all ts) ∙ sym (least_parts g (put_together f ts) (f t)))

  module _ (Is : Reading A) (ns : List Node) where
    -- the entries at ks are left, and going on from b with them comes to r
    abbrev pub Looking : List ℕ → Option ℕ → Option ℕ → Type 0
    Looking ks b r = Going (λ t c. meet c (of_one t)) Is ns ks b r

    pub looking_in : (ts : List A) (ks js : List ℕ) (b r : Option ℕ) → ks ≡ js → Stand Is ts ns js → r ≡ meet b (of_all ts) → Looking ks b r
    looking_in ts ks js b r e s h = (ts, subst (λ (is : List ℕ). Stand Is ts ns is) (sym e) s, least_of_all ts b ∙ sym h)

    pub looking_in_many : (m : Many A) (ks js : List ℕ) (b r : Option ℕ) → ks ≡ js → Stand Is (of_many m) ns js → r ≡ meet b (least (flat_map g (gather f m))) → Looking ks b r
    looking_in_many m ks js b r e s h = looking_in (of_many m) ks js b r e s (h ∙ ap (λ (us : List B). meet b (least (flat_map g us))) (gathered_plain f m))

    pub looking_out : (ks : List ℕ) (b r : Option ℕ) → ks ≡ [] → Looking ks b r → b ≡ r
    looking_out ks b r e h = going_out (λ t c. meet c (of_one t)) Is ns ks b r e h

  -- an entry is taken, which has its room in a table of n; the table is as long as before
  module _ (P : ℕ → A → Type 0) (n : ℕ) (Is : Reading A) (ns : List Node) (ks : List ℕ) (k : ℕ) (ls : List ℕ) (b r : Option ℕ) (e : ks ≡ k ∷ ls) where
    pub looking_on : (new o : Option ℕ) (m : ℕ) → m ≡ n → o ≡ meet b new → ((t : A) → Is t ns k → P m t → new ≡ of_one t) → Looking (Having (P n) Is) ns ks b r → Looking (Having (P n) Is) ns ls o r
    looking_on new o m same d found h =
        let on = going_on (λ t c. meet c (of_one t)) (Having (P n) Is) ns ks k ls b r e h in
        let next : o ≡ meet b (of_one on.0) = d ∙ ap (meet b) (found on.0 on.1.0 (subst (λ (j : ℕ). P j on.0) (sym same) on.1.1)) in
        subst (λ (c : Option ℕ). Looking (Having (P n) Is) ns ls c r) (sym next) on.2

    -- none stands there
    pub looking_past : ((t : A) → Is t ns k → ⊥) → Looking (Having (P n) Is) ns ks b r → Looking (Having (P n) Is) ns ls b r
    looking_past none h =
        let on = going_on (λ t c. meet c (of_one t)) (Having (P n) Is) ns ks k ls b r e h in
        absurd (none on.0 on.1.0)
