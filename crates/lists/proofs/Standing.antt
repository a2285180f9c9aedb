-- The entries of each list stand where they are listed. Assumes nothing.
use Rattle.std.proofs.Common.{◌≡◌, ℕ, List, [], ◌∷◌, ◌++◌, refl, ap, sym, ◌∙◌, subst}
use Rattle.grammar.specs.Trees.{Exprs, first, comma, Condition, one, more, Fields, field, also, next, Values, only, and, Locals, no_locals, locals, Sequence, single, sequel, Arms, when, elsewhen}
use Rattle.grammar.specs.Machine.{Repetition, exprs, ors, ands, statements, modes, entries, moditems, declareds, decs, Whole}
use Rattle.nodes.specs.declared.Node.{Node}
use Rattle.nodes.specs.Nodes.{Reading, IsExpr, IsExprs, IsComparison, IsCondition, IsFields, IsEntry, IsValues, IsLocal, IsLocals, IsStatement, IsSequence, IsArms}
use Rattle.nodes.specs.Lists.{IsSingle, IsWhole}
use Rattle.lists.specs.Lists.{shape_of, listed, Stand, Flat, of_many, of_exprs, of_values, of_sequence, of_arms, of_locals, of_fields, of_whole, of_each, comparisons}
use Rattle.lists.proofs.Listed.{listed_empty, listed_one, listed_more, stand_one, stand_more, stand_many}
use Rattle.lists.proofs.Alone.{Alone, alone_expr, alone_comparison, alone_entry, alone_statement, alone_single}

module _ (ns : List Node) where
  stand_exprs : (t : Exprs) (k : ℕ) → IsExprs t ns k → Stand IsExpr (of_exprs t) ns (listed ns k)
  stand_exprs (first e) k is = stand_one ns IsExpr e k (alone_expr ns e k is) is
  stand_exprs (comma es e) k is = stand_more ns IsExpr e (of_exprs es) k is.0 is.1 is.2 (ap (shape_of k) is.4) is.6 (stand_exprs es is.0 is.5)

  stand_values : (t : Values) (k : ℕ) → IsValues t ns k → Stand IsEntry (of_values t) ns (listed ns k)
  stand_values (only e) k is = stand_one ns IsEntry e k (alone_entry ns e k is) is
  stand_values (and vs e) k is = stand_more ns IsEntry e (of_values vs) k is.0 is.1 is.2 (ap (shape_of k) is.4) is.6 (stand_values vs is.0 is.5)

  stand_sequence : (t : Sequence) (k : ℕ) → IsSequence t ns k → Stand IsStatement (of_sequence t) ns (listed ns k)
  stand_sequence (single s) k is = stand_one ns IsStatement s k (alone_statement ns s k is) is
  stand_sequence (sequel ss s) k is = stand_more ns IsStatement s (of_sequence ss) k is.0 is.1 is.2 (ap (shape_of k) is.4) is.6 (stand_sequence ss is.0 is.5)

  pub stand_arms : (t : Arms) (k : ℕ) → IsArms t ns k → Stand IsArms (of_arms t) ns (listed ns k)
  stand_arms (when c s) k is = stand_one ns IsArms (when c s) k (ap (shape_of k) is.4) is
  stand_arms (elsewhen ws c s) k is = stand_more ns IsArms (when c s) (of_arms ws) k is.0 is.1 is.2 (ap (shape_of k) is.4) (is.6, is.7, is.8, is.9, is.10, is.11, is.12) (stand_arms ws is.0 is.5)

  pub stand_locals : (t : Locals) (k : ℕ) → IsLocals t ns k → Stand IsLocal (of_locals t) ns (listed ns k)
  stand_locals no_locals k is = subst (λ ks. Stand IsLocal [] ns ks) (sym (listed_empty ns k (ap (shape_of k) is))) tt
  stand_locals (locals ls x) k is = stand_more ns IsLocal x (of_locals ls) k is.0 is.1 is.2 (ap (shape_of k) is.4) is.6 (stand_locals ls is.0 is.5)

  pub stand_fields : (t : Fields) (k : ℕ) → IsFields t ns k → Stand IsFields (of_fields t) ns (listed ns k)
  stand_fields (field m n) k is = stand_one ns IsFields (field m n) k (ap (shape_of k) is.2) is
  stand_fields (also fs n) k is = stand_more ns IsFields (also fs n) (of_fields fs) k is.0 k is.1 (ap (shape_of k) is.2) is (stand_fields fs is.0 is.3)
  stand_fields (next fs m n) k is = stand_more ns IsFields (next fs m n) (of_fields fs) k is.0 k is.2 (ap (shape_of k) is.4) is (stand_fields fs is.0 is.5)

  pub stand_whole : (r : Repetition) (t : Whole r) (k : ℕ) → Flat r → IsWhole r t ns k → Stand (IsSingle r) (of_whole r t) ns (listed ns k)
  stand_whole exprs t k f is = stand_exprs t k is
  stand_whole ors t k f is = absurd f
  stand_whole ands t k f is = stand_many ns (IsSingle ands) (alone_single ns ands f) t k is
  stand_whole statements t k f is = stand_sequence t k is
  stand_whole modes t k f is = stand_many ns (IsSingle modes) (alone_single ns modes f) t k is
  stand_whole entries t k f is = stand_values t k is
  stand_whole moditems t k f is = stand_many ns (IsSingle moditems) (alone_single ns moditems f) t k is
  stand_whole (declareds s) t k f is = stand_many ns (IsSingle (declareds s)) (alone_single ns (declareds s) f) t k is
  stand_whole (decs s) t k f is = stand_many ns (IsSingle (decs s)) (alone_single ns (decs s) f) t k is

  -- entries that are no lists are the entries of each of them
  each_alone : {A : Type 0} (Is : Reading A) → Alone ns Is → (ts : List A) (ks : List ℕ) → Stand Is ts ns ks → of_each ns ks ≡ ks
  each_alone Is f [] [] s = refl
  each_alone Is f [] (k ∷ ks) s = absurd s
  each_alone Is f (t ∷ ts) [] s = absurd s
  each_alone Is f (t ∷ ts) (k ∷ ks) s = ap (λ ls. ls ++ of_each ns ks) (listed_one ns k k (f t k s.0)) ∙ ap (λ ls. k ∷ ls) (each_alone Is f ts ks s.1)

  stand_append : {A : Type 0} (Is : Reading A) (ts us : List A) (ks ls : List ℕ) → Stand Is ts ns ks → Stand Is us ns ls → Stand Is (ts ++ us) ns (ks ++ ls)
  stand_append Is [] us [] ls s r = r
  stand_append Is [] us (k ∷ ks) ls s r = absurd s
  stand_append Is (t ∷ ts) us [] ls s r = absurd s
  stand_append Is (t ∷ ts) us (k ∷ ks) ls s r = (s.0, stand_append Is ts us ks ls s.1 r)

  pub stand_condition : (t : Condition) (k : ℕ) → IsCondition t ns k → Stand IsComparison (comparisons t) ns (of_each ns (listed ns k))
  stand_condition (one s) k is =
      let all = stand_many ns IsComparison (alone_comparison ns) s k is in
      subst (λ ks. Stand IsComparison (of_many s) ns ks) (sym (each_alone IsComparison (alone_comparison ns) (of_many s) (listed ns k) all)) all
  stand_condition (more c s) k is =
      let last = stand_many ns IsComparison (alone_comparison ns) s is.1 is.6 in
      let e : of_each ns (listed ns k) ≡ listed ns is.1 ++ of_each ns (listed ns is.0) = ap (of_each ns) (listed_more ns k is.0 is.1 is.2 (ap (shape_of k) is.4)) in
      subst (λ ks. Stand IsComparison (of_many s ++ comparisons c) ns ks) (sym e) (stand_append IsComparison (of_many s) (comparisons c) (listed ns is.1) (of_each ns (listed ns is.0)) last (stand_condition c is.0 is.5))
