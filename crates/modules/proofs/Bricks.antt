-- Data bricks and procedures, step by step. Assumes nothing.
use Rattle.std.proofs.Common.{◌≡◌, ℕ, ◌+◌, ◌-◌, ◌*◌, ◌<◌, ◌≤◌, List, [], ◌∷◌, ◌++◌, length, get_or, drop, set, refl, ap, ◌∙◌, arith}
use Rattle.grammar.specs.Symbols.{STOP, NAME, SEMI, DATA, ENDDATA, PROC, ENDPROC, LEFT, RIGHT}
use Rattle.grammar.specs.declared.Symbol.{Symbol}
use Rattle.grammar.specs.Trees.{Token, token, key, Many, of_many, Opt, of_opt, Dec, of_dec, Fields, of_fields, Mode, of_mode, of_body, Brick, store, procedure, of_brick}
use Rattle.grammar.specs.Sentences.{items}
use Rattle.grammar.specs.Machine.{Goal, refuse, tok, all, decs, maybe_fields, maybe_mode, a_brick, a_body, Sort, set as set_sort, stored}
use Rattle.grammar.proofs.Steps.{items_here, step_at, refuse_at, refuses}
use Rattle.nodes.proofs.Build.{grown, not_on, token_refused, fewer_is, more_is}
use Rattle.nodes.proofs.Keep.{keep_many, keep_opt, keep_dec, keep_init, keep_value, keep_fields, keep_mode, keep_body, agree_trans}
use Rattle.nodes.specs.Made.{Fewer, at, Made, Way, Refused}
use Rattle.nodes.specs.Nodes.{Agree, IsMany, IsOpt, IsInit, IsValue, IsDec, IsFields, IsMode, IsBrick}
use Rattle.nodes.specs.declared.Node.{Node}
use Rattle.nodes.specs.declared.Node.TheVariants as node
use Rattle.nodes.specs.declared.Parsed.{Parsed}
use Rattle.nodes.specs.declared.Fault.{Fault}
use Rattle.nodes.specs.declared.Fault.TheVariants.{Syntax}
use Rattle.declarations.specs.Declaring.{Listing, IsListing, of_listing}
use Rattle.statements.proofs.Blocks.{BodyMade}
use Rattle.modules.specs.Bricks.{Storing, of_storing, Head, of_head, IsHead, HeadWay}

abbrev pub DecsMade : (how : Sort) → ℕ → List Symbol → ℕ → ℕ → List Node → List Node → Parsed → Type 0
DecsMade how d s i used ns ms p = Made 1 (Many (Dec (Listing how))) (IsMany (IsDec (IsListing how))) (of_many (of_dec (of_listing how)) SEMI) (Way (all (decs how) ∷ []) d s i) s i used ns ms p

abbrev pub StoringMade : (how : Sort) → ℕ → List Symbol → ℕ → ℕ → List Node → List Node → Parsed → Type 0
StoringMade how d s i used ns ms p = Made 0 (Many (Dec (Listing how))) (IsMany (IsDec (IsListing how))) (of_storing how i) (Way (Storing how) d s i) s i used ns ms p

abbrev pub BrickMade : ℕ → List Symbol → ℕ → ℕ → List Node → List Node → Parsed → Type 0
BrickMade d s i used ns ms p = Made 0 Brick IsBrick of_brick (Way (a_brick ∷ []) d s i) s i used ns ms p

abbrev pub HeadMade : ℕ → List Symbol → ℕ → ℕ → List Node → List Node → Parsed → Type 0
HeadMade d s i used ns ms p = Made 0 Head (IsHead i) (of_head i) (HeadWay d s i) s i used ns ms p

-- a name and declarations
module _ (how : Sort) (d : ℕ) (s : List Symbol) (i used : ℕ) where
  module _ (h : i < length s) (q : get_or s i STOP ≡ NAME) where
    name_way : (α : List Goal) → at d (Storing how ++ α) s i ≡ at d (tok SEMI ∷ all (decs how) ∷ tok ENDDATA ∷ α) s (i + 1)
    name_way α = step_at d (Storing how ++ α) (tok SEMI ∷ all (decs how) ∷ tok ENDDATA ∷ α) s i d NAME h q refl refl

    module _ (h' : i + 1 < length s) (q' : get_or s (i + 1) STOP ≡ SEMI) where
      two : i + 1 + 1 ≡ i + 2
      two = omega arith

      semi_way : (α : List Goal) → at d (Storing how ++ α) s i ≡ at d (all (decs how) ∷ tok ENDDATA ∷ α) s (i + 2)
      semi_way α = name_way α ∙ step_at d (tok SEMI ∷ all (decs how) ∷ tok ENDDATA ∷ α) (all (decs how) ∷ tok ENDDATA ∷ α) s (i + 1) d SEMI h' q' refl refl ∙ ap (λ (j : ℕ). at d (all (decs how) ∷ tok ENDDATA ∷ α) s j) two

      pub decs_refused : (f : Fault) → Refused (all (decs how) ∷ []) d s (i + 2) f → Refused (Storing how) d s i f
      decs_refused f r α = semi_way α ∙ r (tok ENDDATA ∷ α)

      module _ (ns ms : List Node) (p : Parsed) (m : DecsMade how d s (i + 2) used ns ms p) where
        pub no_enddata : (get_or s p.next STOP ≡ ENDDATA → ⊥) → Refused (Storing how) d s i (Syntax p.next)
        no_enddata n α = semi_way α ∙ m.met (tok ENDDATA ∷ α) ∙ token_refused d ENDDATA α s p.next n

        pub made_storing : p.next < length s → get_or s p.next STOP ≡ ENDDATA → StoringMade how d s i used ns ms (record { next = p.next + 1; used = p.used; root = p.root })
        made_storing h'' q'' = record {
          within = omega arith;
          more = m.more;
          few = omega (arith, m.few);
          below = m.below;
          kept = m.kept;
          tree = m.tree;
          is = m.is;
          text = items_here s i NAME h q ∙ ap (λ (v : List Token). token NAME i ∷ v) (items_here s (i + 1) SEMI h' q' ∙ ap (λ (j : ℕ). key SEMI ∷ items j (drop j s)) two ∙ ap (λ (v : List Token). key SEMI ∷ v) (m.text ∙ ap (of_many (of_dec (of_listing how)) SEMI m.tree) (items_here s p.next ENDDATA h'' q'')));
          met = λ α. semi_way α ∙ m.met (tok ENDDATA ∷ α) ∙ step_at d (tok ENDDATA ∷ α) α s p.next d ENDDATA h'' q'' refl refl;
        }

keep_decs : (n : ℕ) (ns ms : List Node) → Agree n ns ms → (t : Many (Dec (Listing (set_sort stored)))) (k : ℕ) → k < n → IsMany (IsDec (IsListing (set_sort stored))) t ns k → IsMany (IsDec (IsListing (set_sort stored))) t ms k
keep_decs n ns ms a t k h is = keep_many n ns ms a (IsDec (IsMany (IsInit IsValue))) (keep_dec n ns ms a (IsMany (IsInit IsValue)) (keep_many n ns ms a (IsInit IsValue) (keep_init n ns ms a IsValue (keep_value n ns ms a)))) t k h is

-- a data brick
module _ (d : ℕ) (s : List Symbol) (i used : ℕ) (h : i < length s) (q : get_or s i STOP ≡ DATA) where
  data_way : (α : List Goal) → at d (a_brick ∷ α) s i ≡ at d (Storing (set_sort stored) ++ α) s (i + 1)
  data_way α = step_at d (a_brick ∷ α) (Storing (set_sort stored) ++ α) s i d DATA h q refl refl

  pub made_data : (ns ms : List Node) (p : Parsed) → p.used < length ms → StoringMade (set_sort stored) d s (i + 1) used ns ms p → BrickMade d s i used ns (set ms p.used (node.Store (i + 1) p.root)) (record { next = p.next; used = p.used + 1; root = p.used }) × (p.used + 1 + 2 * i < 2 * p.next + used)
  made_data ns ms p r m = (
    grown 0 IsBrick of_brick (Way (a_brick ∷ []) d s i) s i used ns ms p.used p.next (node.Store (i + 1) p.root) r (store (i + 1) m.tree) m.within m.more (omega (arith, m.few)) m.kept
        (λ g a. (p.root, m.below, a, keep_decs p.used ms _ g m.tree p.root m.below m.is))
        (items_here s i DATA h q ∙ ap (λ (v : List Token). key DATA ∷ v) m.text)
        (λ α. data_way α ∙ m.met α),
    omega (arith, m.few),
  )

-- a procedure up to its body
abbrev pub FieldsMade : ℕ → List Symbol → ℕ → ℕ → List Node → List Node → Parsed → Type 0
FieldsMade d s i used ns ms p = Made 1 (Opt Fields) (IsOpt IsFields) (of_opt of_fields) (Way (maybe_fields ∷ []) d s i) s i used ns ms p

abbrev pub ResultMade : ℕ → List Symbol → ℕ → ℕ → List Node → List Node → Parsed → Type 0
ResultMade d s i used ns ms p = Made 1 (Opt Mode) (IsOpt IsMode) (of_opt of_mode) (Way (maybe_mode ∷ []) d s i) s i used ns ms p

module _ (d : ℕ) (s : List Symbol) (i used : ℕ) (h : i < length s) (q : get_or s i STOP ≡ PROC) where
  -- what follows the brackets, and the bracket's inside
  abbrev behind : List Goal → List Goal
  behind α = tok SEMI ∷ a_body ∷ tok ENDPROC ∷ α

  proc_way : (α : List Goal) → at d (a_brick ∷ α) s i ≡ at d (tok NAME ∷ tok LEFT ∷ maybe_fields ∷ tok RIGHT ∷ maybe_mode ∷ behind α) s (i + 1)
  proc_way α = step_at d (a_brick ∷ α) (tok NAME ∷ tok LEFT ∷ maybe_fields ∷ tok RIGHT ∷ maybe_mode ∷ behind α) s i d PROC h q refl refl

  module _ (h₁ : i + 1 < length s) (q₁ : get_or s (i + 1) STOP ≡ NAME) where
    one_more : i + 1 + 1 ≡ i + 2
    one_more = omega arith

    named_way : (α : List Goal) → at d (a_brick ∷ α) s i ≡ at d (tok LEFT ∷ maybe_fields ∷ tok RIGHT ∷ maybe_mode ∷ behind α) s (i + 2)
    named_way α = proc_way α ∙ step_at d (tok NAME ∷ tok LEFT ∷ maybe_fields ∷ tok RIGHT ∷ maybe_mode ∷ behind α) (tok LEFT ∷ maybe_fields ∷ tok RIGHT ∷ maybe_mode ∷ behind α) s (i + 1) d NAME h₁ q₁ refl refl ∙ ap (λ (j : ℕ). at d (tok LEFT ∷ maybe_fields ∷ tok RIGHT ∷ maybe_mode ∷ behind α) s j) one_more

    pub no_proc_left : (get_or s (i + 2) STOP ≡ LEFT → ⊥) → Refused (a_brick ∷ []) d s i (Syntax (i + 2))
    no_proc_left n α = named_way α ∙ token_refused d LEFT (maybe_fields ∷ tok RIGHT ∷ maybe_mode ∷ behind α) s (i + 2) n

    module _ (h₂ : i + 2 < length s) (q₂ : get_or s (i + 2) STOP ≡ LEFT) where
      module _ (z : 0 < d) where
        left_way : (α : List Goal) → at d (a_brick ∷ α) s i ≡ at (d - 1) (maybe_fields ∷ tok RIGHT ∷ maybe_mode ∷ behind α) s (i + 2 + 1)
        left_way α = named_way α ∙ step_at d (tok LEFT ∷ maybe_fields ∷ tok RIGHT ∷ maybe_mode ∷ behind α) (maybe_fields ∷ tok RIGHT ∷ maybe_mode ∷ behind α) s (i + 2) (d - 1) LEFT h₂ q₂ refl (fewer_is d z)

        pub parameters_refused : (f : Fault) → Refused (maybe_fields ∷ []) (d - 1) s (i + 2 + 1) f → Refused (a_brick ∷ []) d s i f
        parameters_refused f r α = left_way α ∙ r (tok RIGHT ∷ maybe_mode ∷ behind α)

        module _ (ns ms : List Node) (p : Parsed) (m : FieldsMade (d - 1) s (i + 2 + 1) used ns ms p) where
          pub no_proc_right : (get_or s p.next STOP ≡ RIGHT → ⊥) → Refused (a_brick ∷ []) d s i (Syntax p.next)
          no_proc_right n α = left_way α ∙ m.met (tok RIGHT ∷ maybe_mode ∷ behind α) ∙ token_refused (d - 1) RIGHT (maybe_mode ∷ behind α) s p.next n

          module _ (h₃ : p.next < length s) (q₃ : get_or s p.next STOP ≡ RIGHT) where
            right_way : (α : List Goal) → at d (a_brick ∷ α) s i ≡ at d (maybe_mode ∷ behind α) s (p.next + 1)
            right_way α = left_way α ∙ m.met (tok RIGHT ∷ maybe_mode ∷ behind α) ∙ step_at (d - 1) (tok RIGHT ∷ maybe_mode ∷ behind α) (maybe_mode ∷ behind α) s p.next d RIGHT h₃ q₃ refl (more_is d z)

            pub result_refused : (f : Fault) → Refused (maybe_mode ∷ []) d s (p.next + 1) f → Refused (a_brick ∷ []) d s i f
            result_refused f r α = right_way α ∙ r (behind α)

            module _ (os : List Node) (e : Parsed) (o : ResultMade d s (p.next + 1) p.used ms os e) where
              pub no_proc_semi : (get_or s e.next STOP ≡ SEMI → ⊥) → Refused (a_brick ∷ []) d s i (Syntax e.next)
              no_proc_semi n α = right_way α ∙ o.met (behind α) ∙ token_refused d SEMI (a_body ∷ tok ENDPROC ∷ α) s e.next n

              pub made_head : e.next < length s → get_or s e.next STOP ≡ SEMI → e.used < length os → HeadMade d s i used ns (set os e.used (node.Heading (i + 1) (i + 2) p.root e.root)) (record { next = e.next + 1; used = e.used + 1; root = e.used }) × Fewer (i + 1) used (record { next = e.next + 1; used = e.used + 1; root = e.used })
              made_head h₄ q₄ r = (
                grown 0 (IsHead i) (of_head i) (HeadWay d s i) s i used ns os e.used (e.next + 1) (node.Heading (i + 1) (i + 2) p.root e.root) r (m.tree, o.tree) (omega arith) (omega (arith, m.more, o.more)) (omega (arith, m.few, o.few))
                    (agree_trans used p.used ns ms os m.more m.kept o.kept)
                    (λ g a. (p.root, e.root, omega (arith, m.below, o.more), o.below, a, keep_opt e.used os _ g IsFields (keep_fields e.used os _ g) m.tree p.root (omega (arith, m.below, o.more)) (keep_opt p.used ms os o.kept IsFields (keep_fields p.used ms os o.kept) m.tree p.root m.below m.is), keep_opt e.used os _ g IsMode (keep_mode e.used os _ g) o.tree e.root o.below o.is))
                    (items_here s i PROC h q ∙ ap (λ (v : List Token). key PROC ∷ v) (items_here s (i + 1) NAME h₁ q₁ ∙ ap (λ (j : ℕ). token NAME (i + 1) ∷ items j (drop j s)) one_more ∙ ap (λ (v : List Token). token NAME (i + 1) ∷ v) (items_here s (i + 2) LEFT h₂ q₂ ∙ ap (λ (v : List Token). token LEFT (i + 2) ∷ v) (m.text ∙ ap (of_opt of_fields m.tree) (items_here s p.next RIGHT h₃ q₃ ∙ ap (λ (v : List Token). key RIGHT ∷ v) (o.text ∙ ap (of_opt of_mode o.tree) (items_here s e.next SEMI h₄ q₄)))))))
                    (λ α. right_way α ∙ o.met (behind α) ∙ step_at d (behind α) (a_body ∷ tok ENDPROC ∷ α) s e.next d SEMI h₄ q₄ refl refl),
                omega (arith, m.few, o.few),
              )

-- a procedure
module _ (d : ℕ) (s : List Symbol) (i used : ℕ) (ns ms : List Node) (p : Parsed) (m : HeadMade d s i used ns ms p) (few : Fewer (i + 1) used p) where
  module _ (os : List Node) (b : Parsed) (o : BodyMade d s p.next p.used ms os b) where
    pub no_endproc : (get_or s b.next STOP ≡ ENDPROC → ⊥) → Refused (a_brick ∷ []) d s i (Syntax b.next)
    no_endproc n α = m.met α ∙ o.met (tok ENDPROC ∷ α) ∙ token_refused d ENDPROC α s b.next n

    pub made_procedure : b.next < length s → get_or s b.next STOP ≡ ENDPROC → b.used < length os → BrickMade d s i used ns (set os b.used (node.Procedure p.root b.root b.next)) (record { next = b.next + 1; used = b.used + 1; root = b.used }) × (b.used + 1 + 2 * i < 2 * (b.next + 1) + used)
    made_procedure h q r = (
      grown 0 IsBrick of_brick (Way (a_brick ∷ []) d s i) s i used ns os b.used (b.next + 1) (node.Procedure p.root b.root b.next) r (procedure (i + 1) (i + 2) m.tree.0 m.tree.1 o.tree b.next) (omega arith) (omega (arith, m.more, o.more)) (omega (arith, few, o.few))
          (agree_trans used p.used ns ms os m.more m.kept o.kept)
          (λ g a.
          let t = m.is in
          let l : p.root < p.used = m.below in
          let u : p.used ≤ b.used = o.more in (
            p.root,
            t.0,
            t.1,
            b.root,
            omega (arith, l, u),
            o.below,
            t.2,
            t.3,
            a,
            g p.root (omega (arith, l, u)) ∙ o.kept p.root l ∙ t.4,
            keep_opt b.used os _ g IsFields (keep_fields b.used os _ g) m.tree.0 t.0 (omega (arith, l, u, t.2)) (keep_opt p.used ms os o.kept IsFields (keep_fields p.used ms os o.kept) m.tree.0 t.0 (omega (arith, l, t.2)) t.5),
            keep_opt b.used os _ g IsMode (keep_mode b.used os _ g) m.tree.1 t.1 (omega (arith, l, u, t.3)) (keep_opt p.used ms os o.kept IsMode (keep_mode p.used ms os o.kept) m.tree.1 t.1 (omega (arith, l, t.3)) t.6),
            keep_body b.used os _ g o.tree b.root o.below o.is,
          ))
          (m.text ∙ ap (of_head i m.tree) (o.text ∙ ap (of_body o.tree) (items_here s b.next ENDPROC h q)))
          (λ α. m.met α ∙ o.met (tok ENDPROC ∷ α) ∙ step_at d (tok ENDPROC ∷ α) α s b.next d ENDPROC h q refl refl),
      omega (arith, few, o.few),
    )

pub brick_none : (d : ℕ) (s : List Symbol) (i : ℕ) → (get_or s i STOP ≡ DATA → ⊥) → (get_or s i STOP ≡ PROC → ⊥) → Refused (a_brick ∷ []) d s i (Syntax i)
brick_none d s i a b α = let k : Symbol = get_or s i STOP in refuse_at d (a_brick ∷ α) s i refl (refuses a_brick α k (not_on k DATA _ _ _ a ∙ not_on k PROC _ _ refuse b))
