-- A loop that judges each entry of a list, the last one first. Assumes nothing.
use Rattle.std.proofs.Common.{◌≡◌, ℕ, List, [], ◌∷◌, Ok, Result, refl, sym, ap, subst, ◌∙◌}
use Rattle.std.specs.Result.{result_and}
use Rattle.grammar.specs.Trees.{Many, one, more, Fields, field, also, next}
use Rattle.nodes.specs.declared.Node.{Node}
use Rattle.nodes.specs.Nodes.{Reading, IsFields}
use Rattle.statics.specs.declared.Refusal.{Refusal}
use Rattle.statics.specs.Scopes.{Env}
use Rattle.statics.specs.JudgeExpressions.{judge_each}
use Rattle.statics.specs.JudgeModules.{judge_fields}
use Rattle.scopes.specs.Meanings.{Answers}
use Rattle.lists.specs.Lists.{of_many, of_fields, in_order, Stand}
use Rattle.lists.proofs.Loops.{Going, going_on, going_out}
use Rattle.blocks.proofs.Joined.{both, both_behind, stepped, answers_same, in_their_order}
use Rattle.moditems.specs.Described.{judge_last}

each_in_order : {A : Type 0} (f : A → Result (Unit {0}) Refusal) (m : Many A) → judge_each f m ≡ in_order both (Ok tt) f (of_many m)
each_in_order f (one a) = refl
each_in_order f (more m a) = ap (λ (b : Result (Unit {0}) Refusal). both b (f a)) (each_in_order f m)

fields_in_order : (Γ : Env) (fs : Fields) → judge_fields Γ fs ≡ in_order both (Ok tt) (judge_last Γ) (of_fields fs)
fields_in_order Γ (field m n) = refl
fields_in_order Γ (also fs n) = fields_in_order Γ fs ∙ sym (both_behind (in_order both (Ok tt) (judge_last Γ) (of_fields fs)))
fields_in_order Γ (next fs m n) = ap (λ (b : Result (Unit {0}) Refusal). both b (judge_last Γ (next fs m n))) (fields_in_order Γ fs)

module _ {A : Type 0} (f : A → Result (Unit {0}) Refusal) (Is : Reading A) (ns : List Node) where
  -- the entries at ks are left, and judging them before b comes to r
  abbrev pub Judging : List ℕ → Result (Unit {0}) Refusal → Result (Unit {0}) Refusal → Type 0
  Judging ks b r = Going (λ t c. both (f t) c) Is ns ks b r

  judging_in : (ts : List A) (ks ls : List ℕ) (r : Result (Unit {0}) Refusal) → ks ≡ ls → Stand Is ts ns ks → r ≡ in_order both (Ok tt) f ts → Judging ls (Ok tt) r
  judging_in ts ks ls r e s h = (ts, subst (λ (js : List ℕ). Stand Is ts ns js) e s, in_their_order f ts ∙ sym h)

  pub judging_each : (m : Many A) (ks ls : List ℕ) → ks ≡ ls → Stand Is (of_many m) ns ks → Judging ls (Ok tt) (judge_each f m)
  judging_each m ks ls e s = judging_in (of_many m) ks ls (judge_each f m) e s (each_in_order f m)

  pub judging_none : (ks ls : List ℕ) → ks ≡ ls → ks ≡ [] → Judging ls (Ok tt) (Ok tt)
  judging_none ks ls e n = judging_in [] [] ls (Ok tt) (sym n ∙ e) tt refl

  pub judging_on : (ks ls : List ℕ) (k : ℕ) (b r x a : Result (Unit {0}) Refusal) → ks ≡ k ∷ ls → Judging ks b r → ((t : A) → Is t ns k → Answers (λ u. tt) x (f t)) → a ≡ result_and x b → Judging ls a r
  judging_on ks ls k b r x a e h j i =
      let on = going_on (λ t c. both (f t) c) Is ns ks k ls b r e h in
      subst (λ (c : Result (Unit {0}) Refusal). Judging ls c r) (stepped x (f on.0) b a (j on.0 on.1) i) on.2

  pub judging_out : (ks : List ℕ) (b r : Result (Unit {0}) Refusal) → ks ≡ [] → Judging ks b r → Answers (λ u. tt) b r
  judging_out ks b r e h = answers_same b r (going_out (λ t c. both (f t) c) Is ns ks b r e h)

module _ (Γ : Env) (ns : List Node) where
  pub judging_fields : (fs : Fields) (ks ls : List ℕ) → ks ≡ ls → Stand IsFields (of_fields fs) ns ks → Judging (judge_last Γ) IsFields ns ls (Ok tt) (judge_fields Γ fs)
  judging_fields fs ks ls e s = judging_in (judge_last Γ) IsFields ns (of_fields fs) ks ls (judge_fields Γ fs) e s (fields_in_order Γ fs)
