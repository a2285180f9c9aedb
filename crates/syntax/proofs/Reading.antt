-- From what the parser's functions answer to what a text is answered by. Assumes nothing.
use Rattle.std.specs.Result.{IsErrAnd}
use Rattle.std.proofs.Common.{◌≡◌, ℕ, suc, ◌-◌, ◌≤◌, List, [], ◌∷◌, length, take, drop, Ok, Err, sym, refl, ap, ◌∙◌, subst, arith, Result, MatchResult}
use Rattle.std.proofs.lemmas.List.{take_all}
use Rattle.answers.specs.declared.Place.{Place}
use Rattle.symbols.specs.Cut.{Verdict, whole}
use Rattle.symbols.specs.declared.Entry.{Entry}
use Rattle.grammar.specs.declared.Symbol.{Symbol}
use Rattle.grammar.specs.Trees.{Module}
use Rattle.grammar.specs.Sentences.{Answer, fine, Made, Meaning}
use Rattle.grammar.specs.Machine.{a_module, run}
use Rattle.grammar.proofs.Right.{run_right_lem, unique}
use Rattle.nodes.specs.Made.{answer}
use Rattle.nodes.specs.Nodes.{IsModule}
use Rattle.nodes.specs.declared.Node.{Node}
use Rattle.nodes.specs.declared.Fault.{Fault}
use Rattle.nodes.specs.declared.Fault.TheVariants.{Syntax, Deep}
use Rattle.terminals.specs.Signs.{signs}
use Rattle.syntax.specs.Parsing.{Parses, module_read, unexpected, too_deep}
use Rattle.syntax.specs.Declining.{declined as declined_by}

length_signs : (es : List Entry) → length (signs es) ≡ length es
length_signs [] = refl
length_signs (e ∷ es) = ap suc (length_signs es)

-- the terminals that were written are those of the items
pub same_signs : (es : List Entry) (out : List Symbol) (n : ℕ) → length es ≤ n → take n out ≡ take n (signs es) → take (n - 0) (drop 0 out) ≡ signs es
same_signs es out n h e =
    let z : n - 0 ≡ n = omega arith in
    ap (λ (m : ℕ). take m out) z ∙ e ∙ take_all n (signs es) (omega (arith, length_signs es))

-- what the parser found out of them is the answer
module _ (es : List Entry) (end : Place) (ns : List Node) (s : List Symbol) (e : s ≡ signs es) where
  meant : (a : Answer) → run 32 a_module 0 s ≡ a → Meaning 32 (signs es) a
  meant a h = subst (Meaning 32 (signs es)) (subst (λ (w : List Symbol). run 32 a_module 0 w ≡ a) e h) (run_right_lem 32 (signs es))

  pub tree_answer : (k : ℕ) → (m : Module) × IsModule m ns k × Made m s × (run 32 a_module 0 s ≡ fine) → Parses es end ns (Ok k)
  tree_answer k x =
      let made : Made x.0 (signs es) = subst (Made x.0) e x.2 in
      module_read k x.0 (meant fine x.3) made (λ n h. unique x.0 n (made ∙ sym h)) x.1

  pub fault_answer : (f : Fault) → run 32 a_module 0 s ≡ answer f → Parses es end ns (Err (declined_by es end f))
  fault_answer (Syntax i) h = unexpected i (meant (answer (Syntax i)) h)
  fault_answer (Deep i) h = too_deep i (meant (answer (Deep i)) h)

-- a text that is cut is short
pub short_text : (t : List ℕ) (es : List Entry) → Verdict t (Ok es) → length t ≤ 32768
short_text t es (whole xs l c n) = l

-- what is said of a result, and of what `map_err` makes of it
pub answered : {T E D : Type 0} (r : Result T E) (q : Result T D) {P : T → Type 0} {Q : E → Type 0} {S : E → D → Type 0} (G : Result T D → Type 0) → ((x : T) → P x → G (Ok x)) → ((e : E) (d : D) → Q e → S e d → G (Err d)) → MatchResult r P Q → MatchResult r (λ x. q ≡ Ok x) (λ e. IsErrAnd q (S e)) → G q
answered (Ok x) q G a b p e = subst G (sym e) (a x p)
answered (Err f) (Err d) G a b p e = b f d p e
answered (Err f) (Ok x) G a b p e = absurd e
