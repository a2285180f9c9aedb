-- What the functions of a parser answer, step by step. Assumes nothing.
use Rattle.std.proofs.Common.{[], ◌≡◌, ℕ, zero, suc, ◌+◌, ◌-◌, ◌*◌, ◌<◌, ◌≤◌, false, eqb, List, ◌∷◌, length, get_or, drop, set, sym, refl, ap, ◌∙◌, arith}
use borrow.Author.Tests.{eqb-false}
use Rattle.grammar.specs.Symbols.{code, not_same, STOP}
use Rattle.grammar.specs.declared.Symbol.{Symbol}
use Rattle.grammar.specs.Trees.{Spelling, Opt, some}
use Rattle.grammar.specs.Sentences.{items, bad}
use Rattle.grammar.specs.Machine.{Goal, Forest, Move, refuse, on, tok, step_to, go, level, fewer, run}
use Rattle.grammar.proofs.Expressions.{on_not}
use Rattle.grammar.proofs.Steps.{found, refuse_at, refuses}
use Rattle.nodes.proofs.Keep.{agree_set, at_set, agree_trans}
use Rattle.nodes.specs.Made.{at, Made}
use Rattle.nodes.specs.Nodes.{At, Agree}
use Rattle.nodes.specs.declared.Node.{Node}
use Rattle.nodes.specs.declared.Parsed.{Parsed}

-- a terminal that is k is not the mark past the end
pub far : (k r : Symbol) → eqb (code k) 0 ≡ false → r ≡ k → r ≡ STOP → ⊥
far k r h e f = eqb-false (code k) 0 h (ap code (sym e ∙ f))

-- a terminal that is not the mark past the end is inside
pub inside : (s : List Symbol) (j : ℕ) (c : Symbol) → eqb (code c) 0 ≡ false → get_or s j STOP ≡ c → j < length s
inside [] zero c h e = absurd (far c STOP h e refl)
inside [] (suc j) c h e = absurd (far c STOP h e refl)
inside (x ∷ s) zero c h e = omega arith
inside (x ∷ s) (suc j) c h e = let i = inside s j c h e in omega (arith, i)

pub not_on : {T : Type 0} (c k : Symbol) (push : List Goal → List Goal) (build : ℕ → (α : List Goal) → Forest (push α) → T × Forest α) (m : Move T) → (c ≡ k → ⊥) → on c k push build m ≡ m
not_on c k push build m h = on_not c k push build m (not_same c k h)

pub fewer_is : (d : ℕ) → 0 < d → fewer d ≡ some (d - 1)
fewer_is zero h = let z : ◌≡◌ {A = ℕ} 0 1 = omega arith in cc
fewer_is (suc d) h = let e : d ≡ suc d - 1 = omega arith in ap some e

pub more_is : (d : ℕ) → 0 < d → some (suc (d - 1)) ≡ some d
more_is d h = let e : suc (d - 1) ≡ d = omega arith in ap some e

-- two stacks that take the terminal at i alike
pub alike : (d : ℕ) (γ β : List Goal) (s : List Symbol) (i : ℕ) (c : Symbol) → i < length s → get_or s i STOP ≡ c → step_to γ c ≡ step_to β c → at d γ s i ≡ at d β s i
alike d γ β s i c h q e =
    ap (run d γ i) (found s i c h q)
    ∙ ap (λ (o : Opt (List Goal)). go i o (level d c) (λ f δ. run f δ (suc i) (drop (i + 1) s))) e
    ∙ sym (ap (run d β i) (found s i c h q))

-- a tree whose node is written last, at u
module _ (x : ℕ) {T : Type 0} (Is : T → List Node → ℕ → Type 0) (of : Spelling T) (M : T → ℕ → Type 0) (s : List Symbol) (i used : ℕ) (ns ms : List Node) (u next : ℕ) (n : Node) (room : u < length ms) where
  pub grown : (t : T) → next ≤ length s → used ≤ u → u + 2 * i < 2 * next + used + x → Agree used ns ms → (Agree u ms (set ms u n) → At (set ms u n) u n → Is t (set ms u n) u) → items i (drop i s) ≡ of t (items next (drop next s)) → M t next → Made x T Is of M s i used ns (set ms u n) (record { next = next; used = u + 1; root = u })
  grown t h m f k is e w =
      let g : Agree u ms (set ms u n) = agree_set u u ms n (omega arith) in
      record { within = h; more = omega arith; few = omega arith; below = omega arith; kept = agree_trans used u ns ms _ m k g; tree = t; is = is g (at_set u ms n room); text = e; met = w }

module _ (x : ℕ) {T : Type 0} (Is : T → List Node → ℕ → Type 0) (of : Spelling T) (M : T → ℕ → Type 0) (s : List Symbol) (i used : ℕ) (ns ms os : List Node) (p : Parsed) where
  -- the same seen from other nodes
  pub rebased : Agree used os ms → Made x T Is of M s i used ns ms p → Made x T Is of M s i used os ms p
  rebased k m = record { within = m.within; more = m.more; few = m.few; below = m.below; kept = k; tree = m.tree; is = m.is; text = m.text; met = m.met }

-- another terminal than the one that must come
pub token_refused : (d : ℕ) (k : Symbol) (α : List Goal) (s : List Symbol) (j : ℕ) → (get_or s j STOP ≡ k → ⊥) → at d (tok k ∷ α) s j ≡ bad j
token_refused d k α s j n = refuse_at d (tok k ∷ α) s j refl (refuses (tok k) α (get_or s j STOP) (not_on (get_or s j STOP) k _ _ refuse n))
