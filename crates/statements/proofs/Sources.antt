-- Assignments behind their first destination, step by step. Assumes nothing.
use Rattle.std.proofs.Common.{◌≡◌, ℕ, ◌+◌, ◌*◌, ◌<◌, List, [], ◌∷◌, length, set, ap, ◌∙◌, arith}
use Rattle.grammar.specs.declared.Symbol.{Symbol}
use Rattle.grammar.specs.Trees.{Many, more, Destination, Statement, assign, of_statement}
use Rattle.grammar.specs.Machine.{Goal, a_source, a_statement, an_expr}
use Rattle.nodes.proofs.Build.{grown}
use Rattle.nodes.proofs.Keep.{agree_trans, keep_expr, keep_many, keep_destination}
use Rattle.nodes.specs.Made.{Fewer, at, Made, Way}
use Rattle.nodes.specs.Nodes.{Agree, IsMany, IsDestination, IsStatement}
use Rattle.nodes.specs.declared.Node.{Node}
use Rattle.nodes.specs.declared.Node.TheVariants.{Also, Assign}
use Rattle.nodes.specs.declared.Parsed.{Parsed}
use Rattle.expressions.proofs.Forms.{ExprMade}
use Rattle.statements.specs.Assigning.{of_targets, TargetsWay, TargetWay}
use Rattle.statements.proofs.Targets.{Destined, TargetsMade}

abbrev pub StatementMade : ℕ → List Symbol → ℕ → ℕ → List Node → List Node → Parsed → Type 0
StatementMade d s i used ns ms p = Made 1 Statement IsStatement of_statement (Way (a_statement ∷ []) d s i) s i used ns ms p

keep_targets : (n : ℕ) (ns ms : List Node) (g : Agree n ns ms) (t : Many Destination) (k : ℕ) → k < n → IsMany IsDestination t ns k → IsMany IsDestination t ms k
keep_targets n ns ms g = keep_many n ns ms g IsDestination (keep_destination n ns ms g)

module _ (d : ℕ) (s : List Symbol) (i used : ℕ) (os ns : List Node) (p : Parsed) (m : TargetsMade d s i used os ns p) (l : Fewer i used p) where
  pub targets_more : (ms : List Node) (e : Parsed) → e.used < length ms → Destined (TargetWay d s p.next) s p.next p.used ns ms e → TargetsMade d s i used os (set ms e.used (Also p.root e.root)) (record { next = e.next; used = e.used + 1; root = e.used }) × (e.used + 1 + 2 * i < 2 * e.next + used)
  targets_more ms e r (b, k) = (
    grown 0 (IsMany IsDestination) of_targets (TargetsWay d s i) s i used os ms e.used e.next (Also p.root e.root) r (more m.tree b.tree) b.within (omega (arith, m.more, b.more)) (omega (arith, l, k))
        (agree_trans used p.used os ns ms m.more m.kept b.kept)
        (λ g a. (p.root, e.root, omega (arith, m.below, b.more), b.below, a, keep_targets e.used ms _ g m.tree p.root (omega (arith, m.below, b.more)) (keep_targets p.used ns ms b.kept m.tree p.root m.below m.is), keep_destination e.used ms _ g b.tree e.root b.below b.is))
        (m.text ∙ ap (of_targets m.tree) b.text)
        (λ α. m.met α ∙ b.met α),
    omega (arith, l, k),
  )

  -- no further destination
  module _ (ms : List Node) (k : Agree p.used ns ms) (w : (α : List Goal) → at d (a_source ∷ α) s p.next ≡ at d (an_expr ∷ α) s p.next) where
    pub made_assign : (qs : List Node) (e : Parsed) → e.used < length qs → ExprMade d s p.next p.used ms qs e → StatementMade d s i used os (set qs e.used (Assign p.root e.root)) (record { next = e.next; used = e.used + 1; root = e.used })
    made_assign qs e r b =
        let g₁ : Agree p.used ns qs = agree_trans p.used p.used ns ms qs (omega arith) k b.kept in
        grown 1 IsStatement of_statement (Way (a_statement ∷ []) d s i) s i used os qs e.used e.next (Assign p.root e.root) r (assign m.tree b.tree) b.within (omega (arith, m.more, b.more)) (omega (arith, l, b.few))
        (agree_trans used p.used os ns qs m.more m.kept g₁)
        (λ g a. (p.root, e.root, omega (arith, m.below, b.more), b.below, a, keep_targets e.used qs _ g m.tree p.root (omega (arith, m.below, b.more)) (keep_targets p.used ns qs g₁ m.tree p.root m.below m.is), keep_expr e.used qs _ g b.tree e.root b.below b.is))
        (m.text ∙ ap (of_targets m.tree) b.text)
        (λ α. m.met α ∙ w α ∙ b.met α)
