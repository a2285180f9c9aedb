-- What stands at the node of declared arrays, and how it is judged where their elements are right. Assumes nothing.
use Rattle.std.proofs.Common.{◌≡◌, ℕ, List, Ok, Result, ap, subst, ◌∙◌}
use Rattle.grammar.specs.Trees.{Amode, Many, Init, Value, Dec, nothing, variables, arrays, structures}
use Rattle.nodes.specs.declared.Node.{Node}
use Rattle.nodes.specs.declared.Node.TheVariants.{Arrays}
use Rattle.nodes.specs.Nodes.{At, IsAmode, IsMany, IsInit, IsValue, IsDec}
use Rattle.statics.specs.declared.Refusal.{Refusal}
use Rattle.statics.specs.Scopes.{Env}
use Rattle.statics.specs.Values.{several}
use Rattle.statics.specs.Written.{element_of}
use Rattle.statics.specs.JudgeExpressions.{then, judge_each}
use Rattle.statics.specs.JudgeStatements.{judge_element}
use Rattle.statics.specs.JudgeModules.{judge_data_item, judge_data_dec}

module _ (ns : List Node) (k : ℕ) where
  pub arrayed : (d : Dec (Many (Init Value))) (b n l r : ℕ) → At ns k (Arrays b n l r) → IsDec (IsMany (IsInit IsValue)) d ns k → (m : Amode) × (is : Many (Init Value)) × IsAmode m ns l × IsMany (IsInit IsValue) is ns r × ((Γ : Env) → judge_element Γ m ≡ Ok tt → judge_data_dec Γ d ≡ judge_each (judge_data_item Γ (several (Γ.text.value n) (element_of Γ.text m))) is)
  arrayed nothing b n l r at is = absurd (cc (at, is))
  arrayed (variables m i) b n l r at is = absurd (cc (at, is.4))
  arrayed (arrays c o m i) b n l r at is =
      let p : is.0 ≡ l = cc (at, is.4) in
      let q : is.1 ≡ r = cc (at, is.4) in
      let e : o ≡ n = cc (at, is.4) in
      let judged : (Γ : Env) → judge_element Γ m ≡ Ok tt → judge_data_dec Γ (arrays c o m i) ≡ judge_each (judge_data_item Γ (several (Γ.text.value n) (element_of Γ.text m))) i = λ Γ h.
      ap (λ (x : Result (Unit {0}) Refusal). then x (λ u. judge_each (judge_data_item Γ (several (Γ.text.value o) (element_of Γ.text m))) i)) h
      ∙ ap (λ j. judge_each (judge_data_item Γ (several (Γ.text.value j) (element_of Γ.text m))) i) e in
      (m, i, subst (λ (j : ℕ). IsAmode m ns j) p is.5, subst (λ (j : ℕ). IsMany (IsInit IsValue) i ns j) q is.6, judged)
  arrayed (structures s i) b n l r at is = absurd (cc (at, is.2))
