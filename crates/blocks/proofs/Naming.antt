-- What stands at the node of a mode, and how it is judged. Assumes nothing.
use Rattle.std.proofs.Common.{◌≡◌, ◌∙◌, ◌⊎◌, inl, inr, ℕ, ◌<◌, List, Ok, refl, ap, subst, arith}
use Rattle.grammar.specs.Trees as tree
use Rattle.grammar.specs.Trees.{Amode}
use Rattle.nodes.specs.declared.Node.{Node}
use Rattle.nodes.specs.declared.Node.TheVariants.{RefArray, RefArrayBrackets, RefRecord, Records}
use Rattle.nodes.specs.Nodes.{At, IsAmode}
use Rattle.statics.specs.Scopes.{Env}
use Rattle.statics.specs.JudgeStatements.{judge_element, judge_record_name}

module _ (Γ : Env) (ns : List Node) (k : ℕ) where
  -- m is judged as what stands at r, further in front
  abbrev pub As : Amode → ℕ → Type 0
  As m r = (r < k) × (n : Amode) × IsAmode n ns r × (judge_element Γ m ≡ judge_element Γ n)

  behind_plain : (m : Amode) (r : ℕ) → At ns k (RefArray r) → IsAmode m ns k → As m r
  behind_plain (tree.simple (tree.ref_array n)) r at is =
      let e : is.0 ≡ r = cc (at, is.2) in
      (omega (arith, e, is.1), n, subst (λ (j : ℕ). IsAmode n ns j) e is.3, refl)
  behind_plain m r at is = absurd cc

  behind_brackets : (m : Amode) (i r : ℕ) → At ns k (RefArrayBrackets i r) → IsAmode m ns k → As m r
  behind_brackets (tree.simple (tree.ref_array_brackets j n)) i r at is =
      let e : is.0 ≡ r = cc (at, is.2) in
      (omega (arith, e, is.1), n, subst (λ (j : ℕ). IsAmode n ns j) e is.3, refl)
  behind_brackets m i r at is = absurd cc

  pub behind : (m : Amode) (x : Node) (r : ℕ) → At ns k x → (x ≡ RefArray r) ⊎ ((i : ℕ) × (x ≡ RefArrayBrackets i r)) → IsAmode m ns k → As m r
  behind m x r at is h = elim is [
    | inl a ↦ behind_plain m r (at ∙ a) h
    | inr a ↦ behind_brackets m a.0 r (at ∙ a.1) h
  ]

  to_record : (m : Amode) (n : ℕ) → At ns k (RefRecord n) → IsAmode m ns k → judge_element Γ m ≡ judge_record_name Γ n
  to_record (tree.simple (tree.ref_record p)) n at is =
      let e : p ≡ n = cc (at, is) in
      ap (judge_record_name Γ) e
  to_record m n at is = absurd cc

  no_simple : {A : Type 0} (m : tree.Mode) (n : ℕ) → At ns k (Records n) → IsAmode (tree.simple m) ns k → A
  no_simple tree.int n at is = absurd (cc (at, is))
  no_simple (tree.byte i) n at is = absurd (cc (at, is))
  no_simple tree.ref_int n at is = absurd (cc (at, is))
  no_simple (tree.ref_byte i) n at is = absurd (cc (at, is))
  no_simple (tree.ref_record p) n at is = absurd (cc (at, is))
  no_simple (tree.ref_array p) n at is = absurd (cc (at, is.2))
  no_simple (tree.ref_array_brackets i p) n at is = absurd (cc (at, is.2))

  of_records : (m : Amode) (n : ℕ) → At ns k (Records n) → IsAmode m ns k → judge_element Γ m ≡ judge_record_name Γ n
  of_records (tree.records p) n at is =
      let e : p ≡ n = cc (at, is) in
      ap (judge_record_name Γ) e
  of_records (tree.simple m) n at is = no_simple m n at is

  pub names : (m : Amode) (x : Node) (n : ℕ) → At ns k x → (x ≡ RefRecord n) ⊎ (x ≡ Records n) → IsAmode m ns k → judge_element Γ m ≡ judge_record_name Γ n
  names m x n at is h = elim is [
    | inl a ↦ to_record m n (at ∙ a) h
    | inr a ↦ of_records m n (at ∙ a) h
  ]

  -- a mode of none of these nodes names none
  pub nameless : (m : Amode) → ((r : ℕ) → At ns k (RefArray r) → ⊥) → ((i r : ℕ) → At ns k (RefArrayBrackets i r) → ⊥) → ((n : ℕ) → At ns k (RefRecord n) → ⊥) → ((n : ℕ) → At ns k (Records n) → ⊥) → IsAmode m ns k → judge_element Γ m ≡ Ok tt
  nameless (tree.simple (tree.ref_array n)) a b c d is = absurd (a is.0 is.2)
  nameless (tree.simple (tree.ref_array_brackets i n)) a b c d is = absurd (b i is.0 is.2)
  nameless (tree.simple (tree.ref_record n)) a b c d is = absurd (c n is)
  nameless (tree.records n) a b c d is = absurd (d n is)
  nameless (tree.simple tree.int) a b c d is = refl
  nameless (tree.simple (tree.byte i)) a b c d is = refl
  nameless (tree.simple tree.ref_int) a b c d is = refl
  nameless (tree.simple (tree.ref_byte i)) a b c d is = refl
