-- A loop over the entries of a list works out what they give in their order. Assumes nothing.
use Rattle.std.proofs.Common.{◌≡◌, ℕ, List, [], ◌∷◌, ◌++◌, refl, ap, sym, ◌∙◌, subst}
use Rattle.grammar.specs.Trees.{Many, one, more, Comparison, Subcondition, Condition, Statement, Sequence, single, sequel, Arms, when, elsewhen}
use Rattle.nodes.specs.declared.Node.{Node}
use Rattle.nodes.specs.Nodes.{Reading}
use Rattle.lists.specs.Lists.{Stand, of_many, of_sequence, of_arms, comparisons, from_last, in_order}

-- where op is associative, and e neutral
module _ {B : Type 0} (op : B → B → B) (e : B) (assoc : (a b c : B) → op (op a b) c ≡ op a (op b c)) (before : (b : B) → op e b ≡ b) (behind : (b : B) → op b e ≡ b) where
  pub worked_out : {A : Type 0} (f : A → B) (b : B) (ts : List A) → from_last (λ t c. op (f t) c) b ts ≡ op (in_order op e f ts) b
  worked_out f b [] = sym (before b)
  worked_out f b (t ∷ ts) = worked_out f (op (f t) b) ts ∙ sym (assoc (in_order op e f ts) (f t) b)

  pub from_last_in_order : {A : Type 0} (f : A → B) (ts : List A) → from_last (λ t c. op (f t) c) e ts ≡ in_order op e f ts
  from_last_in_order f ts = worked_out f e ts ∙ behind (in_order op e f ts)

  in_order_append : {A : Type 0} (f : A → B) (ts us : List A) → in_order op e f (ts ++ us) ≡ op (in_order op e f us) (in_order op e f ts)
  in_order_append f [] us = sym (behind (in_order op e f us))
  in_order_append f (t ∷ ts) us = ap (λ b. op b (f t)) (in_order_append f ts us) ∙ assoc (in_order op e f us) (in_order op e f ts) (f t)

  -- What is worked out by recursion over one and more is what the entries give in their order.
  pub many_in_order : {A : Type 0} (f : A → B) (F : Many A → B) → ((t : A) → F (one t) ≡ f t) → ((m : Many A) (t : A) → F (more m t) ≡ op (F m) (f t)) → (m : Many A) → F m ≡ in_order op e f (of_many m)
  many_in_order f F at_one at_more (one t) = at_one t ∙ sym (before (f t))
  many_in_order f F at_one at_more (more m t) = at_more m t ∙ ap (λ b. op b (f t)) (many_in_order f F at_one at_more m)

  pub sequence_in_order : (f : Statement → B) (F : Sequence → B) → ((t : Statement) → F (single t) ≡ f t) → ((ss : Sequence) (t : Statement) → F (sequel ss t) ≡ op (F ss) (f t)) → (ss : Sequence) → F ss ≡ in_order op e f (of_sequence ss)
  sequence_in_order f F at_one at_more (single t) = at_one t ∙ sym (before (f t))
  sequence_in_order f F at_one at_more (sequel ss t) = at_more ss t ∙ ap (λ b. op b (f t)) (sequence_in_order f F at_one at_more ss)

  pub arms_in_order : (F : Arms → B) → ((ws : Arms) (c : Condition) (s : Sequence) → F (elsewhen ws c s) ≡ op (F ws) (F (when c s))) → (ws : Arms) → F ws ≡ in_order op e F (of_arms ws)
  arms_in_order F at_more (when c s) = sym (before (F (when c s)))
  arms_in_order F at_more (elsewhen ws c s) = at_more ws c s ∙ ap (λ b. op b (F (when c s))) (arms_in_order F at_more ws)

  pub condition_in_order : (f : Comparison → B) (G : Subcondition → B) (F : Condition → B) → ((s : Subcondition) → G s ≡ in_order op e f (of_many s)) → ((s : Subcondition) → F (one s) ≡ G s) → ((c : Condition) (s : Subcondition) → F (more c s) ≡ op (F c) (G s)) → (c : Condition) → F c ≡ in_order op e f (comparisons c)
  condition_in_order f G F inner at_one at_more (one s) = at_one s ∙ inner s
  condition_in_order f G F inner at_one at_more (more c s) =
      at_more c s
      ∙ ap (λ b. op b (G s)) (condition_in_order f G F inner at_one at_more c)
      ∙ ap (λ b. op (in_order op e f (comparisons c)) b) (inner s)
      ∙ sym (in_order_append f (of_many s) (comparisons c))

-- In a loop over the entries of a list: those at ks are left, and going on from b with them comes to r.
abbrev pub Going : {A B : Type 0} → (A → B → B) → Reading A → List Node → List ℕ → B → B → Type 0
Going {A = A} g Is ns ks b r = (ts : List A) × Stand Is ts ns ks × (from_last g b ts ≡ r)

module _ {A B : Type 0} (g : A → B → B) (Is : Reading A) (ns : List Node) where
  pub going_in : (ts : List A) (ks : List ℕ) (b : B) → Stand Is ts ns ks → Going g Is ns ks b (from_last g b ts)
  going_in ts ks b s = (ts, s, refl)

  pub going_on : (ks : List ℕ) (k : ℕ) (ls : List ℕ) (b r : B) → ks ≡ k ∷ ls → Going g Is ns ks b r → (t : A) × Is t ns k × Going g Is ns ls (g t b) r
  going_on ks k ls b r e h = by_first h.0 (subst (λ js. Stand Is h.0 ns js) e h.1) h.2
    where
      by_first : (ts : List A) → Stand Is ts ns (k ∷ ls) → from_last g b ts ≡ r → (t : A) × Is t ns k × Going g Is ns ls (g t b) r
      by_first [] s f = absurd s
      by_first (t ∷ ts) s f = (t, s.0, (ts, s.1, f))

  pub going_out : (ks : List ℕ) (b r : B) → ks ≡ [] → Going g Is ns ks b r → b ≡ r
  going_out ks b r e h = by_none h.0 (subst (λ js. Stand Is h.0 ns js) e h.1) h.2
    where
      by_none : (ts : List A) → Stand Is ts ns [] → from_last g b ts ≡ r → b ≡ r
      by_none [] s f = f
      by_none (t ∷ ts) s f = absurd s

  -- over a whole list of entries, as one of those of a condition is
  pub going_over : (ks ls : List ℕ) (b r : B) → Going g Is ns (ks ++ ls) b r → (ts : List A) × Stand Is ts ns ks × Going g Is ns ls (from_last g b ts) r
  going_over [] ls b r h = ([], tt, h)
  going_over (k ∷ ks) ls b r h =
      let on = going_on (k ∷ (ks ++ ls)) k (ks ++ ls) b r refl h in
      let over = going_over ks ls (g on.0 b) r on.2 in
      (on.0 ∷ over.0, (on.1, over.1), over.2)
