-- The items of a declaration, and the declarations of a block, judged from the last to the first. Assumes nothing.
use Rattle.std.proofs.Common.{◌≡◌, ℕ, ◌+◌, ◌-◌, ◌≤◌, List, [], ◌∷◌, ◌++◌, length, Ok, Result, ap, sym, ◌∙◌, subst, arith, length-append}
use Rattle.std.proofs.lemmas.List.{length-map}
use Rattle.grammar.specs.Trees.{Expr, Many, one, more, Mode as TreeMode, Init, local, Locals, no_locals, locals}
use Rattle.nodes.specs.declared.Node.{Node}
use Rattle.nodes.specs.declared.Node.TheVariants.{Local as LocalNode}
use Rattle.nodes.specs.Nodes.{At, IsMany, IsMode, IsInit, IsExpr, IsLocal}
use Rattle.lists.specs.Lists.{Stand, of_many, of_locals}
use Rattle.statics.specs.declared.Refusal.{Refusal}
use Rattle.statics.specs.Modes.{Mode}
use Rattle.statics.specs.Scopes.{Env, after}
use Rattle.statics.specs.Scopes as rules
use Rattle.statics.specs.Written.{item_names, list_names, mode_of, site}
use Rattle.statics.specs.Statements.{local_names, entries}
use Rattle.statics.specs.JudgeStatements.{judge_local_item, judge_local_items, judge_local_dec, judge_local_decs}
use Rattle.blocks.specs.Statements.{with_ready}
use Rattle.blocks.proofs.Joined.{both, both_assoc}

-- how many names items have that are listed from the last to the first, and how they are judged
abbrev pub named : List (Init (Expr 5)) → ℕ
named [] = 0
named (i ∷ is) = named is + length (item_names i)

abbrev pub judge_listed : Env → Mode → List (Init (Expr 5)) → Result (Unit {0}) Refusal
judge_listed Γ m [] = Ok tt
judge_listed Γ m (i ∷ is) = both (judge_listed Γ m is) (judge_local_item (after Γ (named is)) m i)

pub named_many : (is : Many (Init (Expr 5))) → named (of_many is) ≡ length (list_names is)
named_many (one i) = omega arith
named_many (more is i) = omega (arith, named_many is, length-append (list_names is) (item_names i))

pub listed_many : (Γ : Env) (m : Mode) (is : Many (Init (Expr 5))) → judge_listed Γ m (of_many is) ≡ judge_local_items Γ m is
listed_many Γ m (one i) =
    let e : Γ.ready + 0 ≡ Γ.ready = omega arith in
    ap (λ (n : ℕ). judge_local_item (with_ready Γ n) m i) e
listed_many Γ m (more is i) =
    ap (λ (r : Result (Unit {0}) Refusal). both r (judge_local_item (after Γ (named (of_many is))) m i)) (listed_many Γ m is)
    ∙ ap (λ (n : ℕ). both (judge_local_items Γ m is) (judge_local_item (after Γ n) m i)) (named_many is)

-- The items at ks are left to be judged: the first of them begins behind n names, and the last ends behind r; b is what the others came to,
-- and j what all come to.
abbrev pub Items : Env → Mode → List Node → List ℕ → ℕ → ℕ → Result (Unit {0}) Refusal → Result (Unit {0}) Refusal → Type 0
Items Γ m ns ks n r b j = (is : List (Init (Expr 5))) × Stand (IsInit IsExpr) is ns ks × (n + named is ≡ r) × (both (judge_listed (with_ready Γ n) m is) b ≡ j)

module _ (Γ : Env) (m : Mode) (ns : List Node) where
  pub items_on : (ks : List ℕ) (k : ℕ) (ls : List ℕ) (n r : ℕ) (b j : Result (Unit {0}) Refusal) → ks ≡ k ∷ ls → Items Γ m ns ks n r b j → (i : Init (Expr 5)) × IsInit IsExpr i ns k × (length (item_names i) ≤ r) × Items Γ m ns ls n (r - length (item_names i)) (both (judge_local_item (with_ready Γ (r - length (item_names i))) m i) b) j
  items_on ks k ls n r b j e h = by_last h.0 (subst (λ (js : List ℕ). Stand (IsInit IsExpr) h.0 ns js) e h.1) h.2 h.3
    where
      by_last : (is : List (Init (Expr 5))) → Stand (IsInit IsExpr) is ns (k ∷ ls) → n + named is ≡ r → both (judge_listed (with_ready Γ n) m is) b ≡ j → (i : Init (Expr 5)) × IsInit IsExpr i ns k × (length (item_names i) ≤ r) × Items Γ m ns ls n (r - length (item_names i)) (both (judge_local_item (with_ready Γ (r - length (item_names i))) m i) b) j
      by_last [] s f g = absurd s
      by_last (i ∷ is) s f g =
          let before : n + named is ≡ r - length (item_names i) = omega (arith, f) in
          (i, s.0, omega (arith, f), (is, s.1, before, ap (λ (p : ℕ). both (judge_listed (with_ready Γ n) m is) (both (judge_local_item (with_ready Γ p) m i) b)) (sym before) ∙ sym (both_assoc (judge_listed (with_ready Γ n) m is) (judge_local_item (after (with_ready Γ n) (named is)) m i) b) ∙ g))

  pub items_out : (ks : List ℕ) (n r : ℕ) (b j : Result (Unit {0}) Refusal) → ks ≡ [] → Items Γ m ns ks n r b j → (n ≡ r) × (b ≡ j)
  items_out ks n r b j e h = by_none h.0 (subst (λ (js : List ℕ). Stand (IsInit IsExpr) h.0 ns js) e h.1) h.2 h.3
    where
      by_none : (is : List (Init (Expr 5))) → Stand (IsInit IsExpr) is ns [] → n + named is ≡ r → both (judge_listed (with_ready Γ n) m is) b ≡ j → (n ≡ r) × (b ≡ j)
      by_none [] s f g = (omega (arith, f), g)
      by_none (i ∷ is) s f g = absurd s

-- The declarations at ks are left to be judged: the names of the last end behind r.
abbrev pub Decs : Env → List Node → List ℕ → ℕ → Result (Unit {0}) Refusal → Result (Unit {0}) Refusal → Type 0
Decs Γ ns ks r b j = (ls : Locals) × Stand IsLocal (of_locals ls) ns ks × (Γ.ready + length (entries Γ.text ls) ≡ r) × (both (judge_local_decs Γ ls) b ≡ j)

module _ (Γ : Env) (ns : List Node) where
  -- what the last of them is, and how to go on
  abbrev pub Last : List ℕ → ℕ → ℕ → Result (Unit {0}) Refusal → Result (Unit {0}) Refusal → Type 0
  Last ls k r b j = (m : TreeMode) × (is : Many (Init (Expr 5))) × IsLocal (local m is) ns k × (length (list_names is) ≤ r) × ((n : ℕ) → n + length (list_names is) ≡ r → Decs Γ ns ls n (both (judge_local_dec (with_ready Γ n) (local m is)) b) j)

  pub decs_on : (ks : List ℕ) (k : ℕ) (ls : List ℕ) (r : ℕ) (b j : Result (Unit {0}) Refusal) → ks ≡ k ∷ ls → Decs Γ ns ks r b j → Last ls k r b j
  decs_on ks k ls r b j e h = by_last h.0 (subst (λ (js : List ℕ). Stand IsLocal (of_locals h.0) ns js) e h.1) h.2 h.3
    where
      by_last : (ds : Locals) → Stand IsLocal (of_locals ds) ns (k ∷ ls) → Γ.ready + length (entries Γ.text ds) ≡ r → both (judge_local_decs Γ ds) b ≡ j → Last ls k r b j
      by_last no_locals s f g = absurd s
      by_last (locals ds (local m is)) s f g =
          let size : length (entries Γ.text ds ++ local_names Γ.text (local m is)) ≡ length (entries Γ.text ds) + length (list_names is) = length-append (entries Γ.text ds) (local_names Γ.text (local m is)) ∙ ap (λ (n : ℕ). length (entries Γ.text ds) + n) (length-map (list_names is) (site (rules.local (mode_of Γ.text m)))) in (
            m,
            is,
            s.0,
            omega (arith, size, f),
            λ n h.
                let before : Γ.ready + length (entries Γ.text ds) ≡ n = omega (arith, size, f, h) in
                (ds, s.1, before, ap (λ (p : ℕ). both (judge_local_decs Γ ds) (both (judge_local_dec (with_ready Γ p) (local m is)) b)) (sym before) ∙ sym (both_assoc (judge_local_decs Γ ds) (judge_local_dec (after Γ (length (entries Γ.text ds))) (local m is)) b) ∙ g),
          )

  pub decs_out : (ks : List ℕ) (r : ℕ) (b j : Result (Unit {0}) Refusal) → ks ≡ [] → Decs Γ ns ks r b j → b ≡ j
  decs_out ks r b j e h = by_none h.0 (subst (λ (js : List ℕ). Stand IsLocal (of_locals h.0) ns js) e h.1) h.3
    where
      by_none : (ds : Locals) → Stand IsLocal (of_locals ds) ns [] → both (judge_local_decs Γ ds) b ≡ j → b ≡ j
      by_none no_locals s g = g
      by_none (locals ds l) s g = absurd s

-- the parts of a declaration
pub parts_of : (ns : List Node) (k l r : ℕ) (m : TreeMode) (is : Many (Init (Expr 5))) → At ns k (LocalNode l r) → IsLocal (local m is) ns k → IsMode m ns l × IsMany (IsInit IsExpr) is ns r
parts_of ns k l r m is at here =
    let p : here.0 ≡ l = cc (at, here.4) in
    let q : here.1 ≡ r = cc (at, here.4) in
    (subst (λ (n : ℕ). IsMode m ns n) p here.5, subst (λ (n : ℕ). IsMany (IsInit IsExpr) is ns n) q here.6)
