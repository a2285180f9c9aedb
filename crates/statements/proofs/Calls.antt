-- Forms that begin with a name, as statements of their own, step by step. Assumes nothing.
use Rattle.std.proofs.Common.{◌≡◌, ℕ, ◌+◌, ◌<◌, List, [], ◌∷◌, length, get_or, set, Some, None, ◌∙◌, subst, arith}
use Rattle.grammar.specs.Symbols.{STOP, NAME, BECOMES}
use Rattle.grammar.specs.declared.Symbol.{Symbol}
use Rattle.grammar.specs.Trees.{Primary, variable, call, call_on, name, element, first, comma, invoke, invoke_on, of_statement}
use Rattle.grammar.specs.Machine.{start, seen, a_statement}
use Rattle.nodes.proofs.Build.{grown}
use Rattle.nodes.proofs.Keep.{keep_expr, keep_exprs}
use Rattle.nodes.specs.Made.{Way, Refused}
use Rattle.nodes.specs.Nodes.{IsStatement}
use Rattle.nodes.specs.declared.Node.{Node}
use Rattle.nodes.specs.declared.Node.TheVariants.{Invoke, InvokeOn}
use Rattle.nodes.specs.declared.Parsed.{Parsed}
use Rattle.nodes.specs.declared.Fault.TheVariants.{Syntax}
use Rattle.expressions.proofs.Forms.{FormMade}
use Rattle.statements.specs.Assigning.{Shows, IsPlace, invocation}
use Rattle.statements.specs.declared.assignments.Shape.{Shape}
use Rattle.statements.specs.declared.assignments.Shape.TheVariants.{Place, Indexed, Called, CalledOn}
use Rattle.statements.proofs.Places.{start_off, start_called, statement_way, text_as, met_as}
use Rattle.statements.proofs.Sources.{StatementMade}

module _ (d : ℕ) (s : List Symbol) (i used : ℕ) (h : i < length s) (q : get_or s i STOP ≡ NAME) (ns ms : List Node) (p : Parsed) (m : FormMade d s i used ns ms p) where
  -- a variable that nothing is assigned to
  pub named_off : (k : Shape) → Shows k ms p.root m.tree → (IsPlace k × (get_or s p.next STOP ≡ BECOMES) → ⊥) → invocation k ≡ None → Refused (a_statement ∷ []) d s i (Syntax p.next)
  named_off Place y n e α =
      let w = met_as d s i used h q ns ms p m (variable y.0) y.1 in
      statement_way d s i used h q α ∙ w.0 start α ∙ start_off d s p.next α w.1 (λ b. n (tt, b)) (seen y.0) y.2
  named_off (Indexed b j r) y n e α = let z : ◌≡◌ {A = ℕ} 0 1 = cc in absurd (omega arith)
  named_off (Called b j) y n e α = let z : ◌≡◌ {A = ℕ} 0 1 = cc in absurd (omega arith)
  named_off (CalledOn b j r) y n e α = let z : ◌≡◌ {A = ℕ} 0 1 = cc in absurd (omega arith)

  abbrev MadeWith : Node → Type 0
  MadeWith node = StatementMade d s i used ns (set ms p.used node) (record { next = p.next; used = p.used + 1; root = p.used })

  module _ (r : p.used < length ms) where
    pub made_invoked : (k : Shape) → Shows k ms p.root m.tree → (IsPlace k × (get_or s p.next STOP ≡ BECOMES) → ⊥) → (node : Node) → invocation k ≡ Some node → MadeWith node
    made_invoked Place y n node e = let z : ◌≡◌ {A = ℕ} 0 1 = cc in absurd (omega arith)
    made_invoked (Indexed b j g) y n node e =
        let a : InvokeOn b j g ≡ node = cc in
        let t : Primary = variable (element (name b) j y.0) in
        let w = met_as d s i used h q ns ms p m t y.1 in
        let l : g < p.used = omega (arith, y.2, m.below) in
        subst MadeWith a (grown 1 IsStatement of_statement (Way (a_statement ∷ []) d s i) s i used ns ms p.used p.next (InvokeOn b j g) r (invoke_on b j (first y.0)) m.within m.more (omega (arith, m.few)) m.kept (λ k o. (g, l, o, keep_expr p.used ms _ k y.0 g l y.3)) (text_as d s i used h q ns ms p m t y.1) (λ α. statement_way d s i used h q α ∙ w.0 start α ∙ start_called d s p.next α w.1 (λ x. n (tt, x))))
    made_invoked (Called b j) y n node e =
        let a : Invoke b j ≡ node = cc in
        subst MadeWith a (grown 1 IsStatement of_statement (Way (a_statement ∷ []) d s i) s i used ns ms p.used p.next (Invoke b j) r (invoke b j) m.within m.more (omega (arith, m.few)) m.kept (λ k o. o) (text_as d s i used h q ns ms p m (call b j) y) (λ α. statement_way d s i used h q α ∙ met_as d s i used h q ns ms p m (call b j) y start α))
    made_invoked (CalledOn b j g) y n node e =
        let a : InvokeOn b j g ≡ node = cc in
        let l : g < p.used = omega (arith, y.3, m.below) in
        let t : Primary = call_on b j y.0 y.1 in
        subst MadeWith a (grown 1 IsStatement of_statement (Way (a_statement ∷ []) d s i) s i used ns ms p.used p.next (InvokeOn b j g) r (invoke_on b j (comma y.0 y.1)) m.within m.more (omega (arith, m.few)) m.kept (λ k o. (g, l, o, keep_exprs p.used ms _ k (comma y.0 y.1) g l y.4)) (text_as d s i used h q ns ms p m t y.2) (λ α. statement_way d s i used h q α ∙ met_as d s i used h q ns ms p m t y.2 start α))
