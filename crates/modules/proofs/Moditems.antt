-- Module items, step by step. Assumes nothing.
use Rattle.std.proofs.Common.{◌≡◌, ℕ, zero, suc, ◌+◌, ◌-◌, ◌<◌, ◌≤◌, true, List, [], ◌∷◌, ◌++◌, length, get_or, drop, set, sym, refl, ap, ◌∙◌, arith}
use Rattle.grammar.specs.Symbols.{among, STOP, COMMA, NAME, DATA, PROC, EXT, MODE, ENT, LEFT, RIGHT}
use Rattle.grammar.specs.declared.Symbol.{Symbol}
use Rattle.grammar.specs.Trees.{Token, token, key, Many, of_many, Opt, of_opt, Fields, of_fields, Mode, of_mode, of_names, Brick, Moditem, blank, external_procs, external_store, record_mode, own, entry, of_moditem, Module, of_module}
use Rattle.grammar.specs.Sentences.{items, fine, bad, Made as MadeOf}
use Rattle.grammar.specs.Machine.{Goal, Move, refuse, mapped, orelse, tok, each, all, moditems, declareds, unset, an_external, a_brick, the_fields, maybe_mode, maybe_modes, a_module, at_brick, fewer, run, step_to}
use Rattle.grammar.proofs.Right.{clash, among_but as found_in}
use Rattle.grammar.proofs.Steps.{items_here, step_at, sink_at, refuse_at, refuses, skip_at}
use Rattle.nodes.proofs.Build.{grown, not_on, alike, token_refused, fewer_is, more_is}
use Rattle.nodes.proofs.Keep.{keep_many, keep_opt, keep_name, keep_dec, keep_fields, keep_mode, keep_brick, agree_trans}
use Rattle.nodes.specs.Made.{at, Made, Way, Refused}
use Rattle.nodes.specs.Nodes.{Agree, IsMany, IsOpt, IsName, IsDec, IsFields, IsMode, IsModitem, IsModule}
use Rattle.nodes.specs.declared.Node.{Node}
use Rattle.nodes.specs.declared.Node.TheVariants as node
use Rattle.nodes.specs.declared.Parsed.{Parsed}
use Rattle.nodes.specs.declared.Fault.{Fault}
use Rattle.nodes.specs.declared.Fault.TheVariants.{Syntax}
use Rattle.modules.specs.Bricks.{brick_firsts, Storing}
use Rattle.modules.proofs.Bricks.{StoringMade, BrickMade, ResultMade}

abbrev pub ModitemMade : ℕ → List Symbol → ℕ → ℕ → List Node → List Node → Parsed → Type 0
ModitemMade d s i used ns ms p = Made 1 Moditem IsModitem of_moditem (Way (each moditems ∷ []) d s i) s i used ns ms p

abbrev pub ModesMade : ℕ → List Symbol → ℕ → ℕ → List Node → List Node → Parsed → Type 0
ModesMade d s i used ns ms p = Made 1 (Opt (Many Mode)) (IsOpt (IsMany IsMode)) (of_opt (of_many of_mode COMMA)) (Way (maybe_modes ∷ []) d s i) s i used ns ms p

abbrev pub NamesMade : ℕ → List Symbol → ℕ → ℕ → List Node → List Node → Parsed → Type 0
NamesMade d s i used ns ms p = Made 0 (Many ℕ) (IsMany IsName) of_names (Way (all (declareds unset) ∷ []) d s i) s i used ns ms p

abbrev pub FieldsMade : ℕ → List Symbol → ℕ → ℕ → List Node → List Node → Parsed → Type 0
FieldsMade d s i used ns ms p = Made 0 Fields IsFields of_fields (Way (the_fields ∷ []) d s i) s i used ns ms p

-- an empty item; bricks
module _ (d : ℕ) (s : List Symbol) (i used : ℕ) where
  pub made_blank : (ns : List Node) → i ≤ length s → used < length ns → (get_or s i STOP ≡ EXT → ⊥) → (get_or s i STOP ≡ MODE → ⊥) → (get_or s i STOP ≡ ENT → ⊥) → (get_or s i STOP ≡ DATA → ⊥) → (get_or s i STOP ≡ PROC → ⊥) → ModitemMade d s i used ns (set ns used node.Blank) (record { next = i; used = used + 1; root = used })
  made_blank ns h r a b c e f =
      let k : Symbol = get_or s i STOP in
      grown 1 IsModitem of_moditem (Way (each moditems ∷ []) d s i) s i used ns ns used i node.Blank r blank h (omega arith) (omega arith) (λ j l. refl) (λ g x. x) refl
      (λ α. skip_at d (each moditems) α s i blank blank refl (not_on k EXT _ _ _ a ∙ not_on k MODE _ _ _ b ∙ not_on k ENT _ _ _ c ∙ ap (λ (m : Move Brick). orelse (mapped own m) (Rattle.grammar.specs.Machine.skip blank)) (not_on k DATA _ _ _ e ∙ not_on k PROC _ _ refuse f)))

  module _ (h : i < length s) (q : among brick_firsts (get_or s i STOP) ≡ true) where
    own_way : (α : List Goal) → at d (each moditems ∷ α) s i ≡ at d (a_brick ∷ α) s i
    own_way α = alike d (each moditems ∷ α) (a_brick ∷ α) s i (get_or s i STOP) h refl (firsts (get_or s i STOP) q)
      where
        firsts : (c : Symbol) → among brick_firsts c ≡ true → step_to (each moditems ∷ α) c ≡ step_to (a_brick ∷ α) c
        firsts c e = found_in DATA (PROC ∷ []) (λ k. step_to (each moditems ∷ α) k ≡ step_to (a_brick ∷ α) k) c refl (found_in PROC [] (λ k. step_to (each moditems ∷ α) k ≡ step_to (a_brick ∷ α) k) c refl (λ x. absurd (clash x refl))) e

    pub own_refused : (f : Fault) → Refused (a_brick ∷ []) d s i f → Refused (each moditems ∷ []) d s i f
    own_refused f r α = own_way α ∙ r α

    pub made_own : (ns ms : List Node) (p : Parsed) → p.used < length ms → BrickMade d s i used ns ms p → ModitemMade d s i used ns (set ms p.used (node.Own p.root)) (record { next = p.next; used = p.used + 1; root = p.used })
    made_own ns ms p r m =
        grown 1 IsModitem of_moditem (Way (each moditems ∷ []) d s i) s i used ns ms p.used p.next (node.Own p.root) r (own m.tree) m.within m.more (omega (arith, m.few)) m.kept
        (λ g x. (p.root, m.below, x, keep_brick p.used ms _ g m.tree p.root m.below m.is))
        m.text (λ α. own_way α ∙ m.met α)

  module _ (h : i < length s) (q : get_or s i STOP ≡ ENT) where
    ent_way : (α : List Goal) → at d (each moditems ∷ α) s i ≡ at d (a_brick ∷ α) s (i + 1)
    ent_way α = step_at d (each moditems ∷ α) (a_brick ∷ α) s i d ENT h q refl refl

    pub ent_refused : (f : Fault) → Refused (a_brick ∷ []) d s (i + 1) f → Refused (each moditems ∷ []) d s i f
    ent_refused f r α = ent_way α ∙ r α

    pub made_entry : (ns ms : List Node) (p : Parsed) → p.used < length ms → BrickMade d s (i + 1) used ns ms p → ModitemMade d s i used ns (set ms p.used (node.Ent p.root)) (record { next = p.next; used = p.used + 1; root = p.used })
    made_entry ns ms p r m =
        grown 1 IsModitem of_moditem (Way (each moditems ∷ []) d s i) s i used ns ms p.used p.next (node.Ent p.root) r (entry m.tree) m.within m.more (omega (arith, m.few)) m.kept
        (λ g x. (p.root, m.below, x, keep_brick p.used ms _ g m.tree p.root m.below m.is))
        (items_here s i ENT h q ∙ ap (λ (v : List Token). key ENT ∷ v) m.text) (λ α. ent_way α ∙ m.met α)

-- a record mode
module _ (d : ℕ) (s : List Symbol) (i used : ℕ) (h : i < length s) (q : get_or s i STOP ≡ MODE) where
  mode_way : (α : List Goal) → at d (each moditems ∷ α) s i ≡ at d (tok NAME ∷ tok LEFT ∷ the_fields ∷ tok RIGHT ∷ α) s (i + 1)
  mode_way α = step_at d (each moditems ∷ α) (tok NAME ∷ tok LEFT ∷ the_fields ∷ tok RIGHT ∷ α) s i d MODE h q refl refl

  module _ (h₁ : i + 1 < length s) (q₁ : get_or s (i + 1) STOP ≡ NAME) where
    one_more : i + 1 + 1 ≡ i + 2
    one_more = omega arith

    record_way : (α : List Goal) → at d (each moditems ∷ α) s i ≡ at d (tok LEFT ∷ the_fields ∷ tok RIGHT ∷ α) s (i + 2)
    record_way α = mode_way α ∙ step_at d (tok NAME ∷ tok LEFT ∷ the_fields ∷ tok RIGHT ∷ α) (tok LEFT ∷ the_fields ∷ tok RIGHT ∷ α) s (i + 1) d NAME h₁ q₁ refl refl ∙ ap (λ (j : ℕ). at d (tok LEFT ∷ the_fields ∷ tok RIGHT ∷ α) s j) one_more

    module _ (h₂ : i + 2 < length s) (q₂ : get_or s (i + 2) STOP ≡ LEFT) where
      module _ (z : 0 < d) where
        inside_way : (α : List Goal) → at d (each moditems ∷ α) s i ≡ at (d - 1) (the_fields ∷ tok RIGHT ∷ α) s (i + 2 + 1)
        inside_way α = record_way α ∙ step_at d (tok LEFT ∷ the_fields ∷ tok RIGHT ∷ α) (the_fields ∷ tok RIGHT ∷ α) s (i + 2) (d - 1) LEFT h₂ q₂ refl (fewer_is d z)

        pub components_refused : (f : Fault) → Refused (the_fields ∷ []) (d - 1) s (i + 2 + 1) f → Refused (each moditems ∷ []) d s i f
        components_refused f r α = inside_way α ∙ r (tok RIGHT ∷ α)

        module _ (ns ms : List Node) (p : Parsed) (m : FieldsMade (d - 1) s (i + 2 + 1) used ns ms p) where
          pub no_record_right : (get_or s p.next STOP ≡ RIGHT → ⊥) → Refused (each moditems ∷ []) d s i (Syntax p.next)
          no_record_right n α = inside_way α ∙ m.met (tok RIGHT ∷ α) ∙ token_refused (d - 1) RIGHT α s p.next n

          pub made_record : p.next < length s → get_or s p.next STOP ≡ RIGHT → p.used < length ms → ModitemMade d s i used ns (set ms p.used (node.RecordMode (i + 1) (i + 2) p.root)) (record { next = p.next + 1; used = p.used + 1; root = p.used })
          made_record h₃ q₃ r =
              grown 1 IsModitem of_moditem (Way (each moditems ∷ []) d s i) s i used ns ms p.used (p.next + 1) (node.RecordMode (i + 1) (i + 2) p.root) r (record_mode (i + 1) (i + 2) m.tree) (omega arith) m.more (omega (arith, m.few)) m.kept
              (λ g x. (p.root, m.below, x, keep_fields p.used ms _ g m.tree p.root m.below m.is))
              (items_here s i MODE h q ∙ ap (λ (v : List Token). key MODE ∷ v) (items_here s (i + 1) NAME h₁ q₁ ∙ ap (λ (j : ℕ). token NAME (i + 1) ∷ items j (drop j s)) one_more ∙ ap (λ (v : List Token). token NAME (i + 1) ∷ v) (items_here s (i + 2) LEFT h₂ q₂ ∙ ap (λ (v : List Token). token LEFT (i + 2) ∷ v) (m.text ∙ ap (of_fields m.tree) (items_here s p.next RIGHT h₃ q₃)))))
              (λ α. inside_way α ∙ m.met (tok RIGHT ∷ α) ∙ step_at (d - 1) (tok RIGHT ∷ α) α s p.next d RIGHT h₃ q₃ refl (more_is d z))

-- what is described as external
module _ (d : ℕ) (s : List Symbol) (i used : ℕ) (h : i < length s) (q : get_or s i STOP ≡ EXT) where
  two : i + 1 + 1 ≡ i + 2
  two = omega arith

  ext_way : (α : List Goal) → at d (each moditems ∷ α) s i ≡ at d (an_external ∷ α) s (i + 1)
  ext_way α = step_at d (each moditems ∷ α) (an_external ∷ α) s i d EXT h q refl refl

  pub external_none : (get_or s (i + 1) STOP ≡ PROC → ⊥) → (get_or s (i + 1) STOP ≡ DATA → ⊥) → Refused (each moditems ∷ []) d s i (Syntax (i + 1))
  external_none a b α = let k : Symbol = get_or s (i + 1) STOP in ext_way α ∙ refuse_at d (an_external ∷ α) s (i + 1) refl (refuses an_external α k (not_on k PROC _ _ _ a ∙ not_on k DATA _ _ refuse b))

  module _ (h₁ : i + 1 < length s) where
    module _ (q₁ : get_or s (i + 1) STOP ≡ DATA) where
      ext_data_way : (α : List Goal) → at d (each moditems ∷ α) s i ≡ at d (Storing unset ++ α) s (i + 2)
      ext_data_way α = ext_way α ∙ step_at d (an_external ∷ α) (Storing unset ++ α) s (i + 1) d DATA h₁ q₁ refl refl ∙ ap (λ (j : ℕ). at d (Storing unset ++ α) s j) two

      pub ext_data_refused : (f : Fault) → Refused (Storing unset) d s (i + 2) f → Refused (each moditems ∷ []) d s i f
      ext_data_refused f r α = ext_data_way α ∙ r α

      pub made_ext_data : (ns ms : List Node) (p : Parsed) → p.used < length ms → StoringMade unset d s (i + 2) used ns ms p → ModitemMade d s i used ns (set ms p.used (node.ExternalStore (i + 2) p.root)) (record { next = p.next; used = p.used + 1; root = p.used })
      made_ext_data ns ms p r m =
          grown 1 IsModitem of_moditem (Way (each moditems ∷ []) d s i) s i used ns ms p.used p.next (node.ExternalStore (i + 2) p.root) r (external_store (i + 2) m.tree) m.within m.more (omega (arith, m.few)) m.kept
          (λ g x. (p.root, m.below, x, keep_many p.used ms _ g (IsDec (IsMany IsName)) (keep_dec p.used ms _ g (IsMany IsName) (keep_many p.used ms _ g IsName (keep_name p.used ms _ g))) m.tree p.root m.below m.is))
          (items_here s i EXT h q ∙ ap (λ (v : List Token). key EXT ∷ v) (items_here s (i + 1) DATA h₁ q₁ ∙ ap (λ (j : ℕ). key DATA ∷ items j (drop j s)) two ∙ ap (λ (v : List Token). key DATA ∷ v) m.text))
          (λ α. ext_data_way α ∙ m.met α)

    module _ (q₁ : get_or s (i + 1) STOP ≡ PROC) where
      ext_proc_way : (α : List Goal) → at d (each moditems ∷ α) s i ≡ at d (tok LEFT ∷ maybe_modes ∷ tok RIGHT ∷ maybe_mode ∷ all (declareds unset) ∷ α) s (i + 2)
      ext_proc_way α = ext_way α ∙ step_at d (an_external ∷ α) (tok LEFT ∷ maybe_modes ∷ tok RIGHT ∷ maybe_mode ∷ all (declareds unset) ∷ α) s (i + 1) d PROC h₁ q₁ refl refl ∙ ap (λ (j : ℕ). at d (tok LEFT ∷ maybe_modes ∷ tok RIGHT ∷ maybe_mode ∷ all (declareds unset) ∷ α) s j) two

      module _ (h₂ : i + 2 < length s) (q₂ : get_or s (i + 2) STOP ≡ LEFT) where
        module _ (z : 0 < d) where
          ext_left_way : (α : List Goal) → at d (each moditems ∷ α) s i ≡ at (d - 1) (maybe_modes ∷ tok RIGHT ∷ maybe_mode ∷ all (declareds unset) ∷ α) s (i + 2 + 1)
          ext_left_way α = ext_proc_way α ∙ step_at d (tok LEFT ∷ maybe_modes ∷ tok RIGHT ∷ maybe_mode ∷ all (declareds unset) ∷ α) (maybe_modes ∷ tok RIGHT ∷ maybe_mode ∷ all (declareds unset) ∷ α) s (i + 2) (d - 1) LEFT h₂ q₂ refl (fewer_is d z)

          pub ext_modes_refused : (f : Fault) → Refused (maybe_modes ∷ []) (d - 1) s (i + 2 + 1) f → Refused (each moditems ∷ []) d s i f
          ext_modes_refused f r α = ext_left_way α ∙ r (tok RIGHT ∷ maybe_mode ∷ all (declareds unset) ∷ α)

          module _ (ns ms : List Node) (p : Parsed) (m : ModesMade (d - 1) s (i + 2 + 1) used ns ms p) where
            pub no_ext_right : (get_or s p.next STOP ≡ RIGHT → ⊥) → Refused (each moditems ∷ []) d s i (Syntax p.next)
            no_ext_right n α = ext_left_way α ∙ m.met (tok RIGHT ∷ maybe_mode ∷ all (declareds unset) ∷ α) ∙ token_refused (d - 1) RIGHT (maybe_mode ∷ all (declareds unset) ∷ α) s p.next n

            module _ (h₃ : p.next < length s) (q₃ : get_or s p.next STOP ≡ RIGHT) where
              ext_right_way : (α : List Goal) → at d (each moditems ∷ α) s i ≡ at d (maybe_mode ∷ all (declareds unset) ∷ α) s (p.next + 1)
              ext_right_way α = ext_left_way α ∙ m.met (tok RIGHT ∷ maybe_mode ∷ all (declareds unset) ∷ α) ∙ step_at (d - 1) (tok RIGHT ∷ maybe_mode ∷ all (declareds unset) ∷ α) (maybe_mode ∷ all (declareds unset) ∷ α) s p.next d RIGHT h₃ q₃ refl (more_is d z)

              pub ext_result_refused : (f : Fault) → Refused (maybe_mode ∷ []) d s (p.next + 1) f → Refused (each moditems ∷ []) d s i f
              ext_result_refused f r α = ext_right_way α ∙ r (all (declareds unset) ∷ α)

              module _ (os : List Node) (e : Parsed) (o : ResultMade d s (p.next + 1) p.used ms os e) where
                ext_names_way : (α : List Goal) → at d (each moditems ∷ α) s i ≡ at d (all (declareds unset) ∷ α) s e.next
                ext_names_way α = ext_right_way α ∙ o.met (all (declareds unset) ∷ α)

                pub ext_names_refused : (f : Fault) → Refused (all (declareds unset) ∷ []) d s e.next f → Refused (each moditems ∷ []) d s i f
                ext_names_refused f r α = ext_names_way α ∙ r α

                pub made_ext_procs : (xs : List Node) (t : Parsed) → t.used < length xs → NamesMade d s e.next e.used os xs t → ModitemMade d s i used ns (set xs t.used (node.ExternalProcs (i + 2) p.root e.root t.root)) (record { next = t.next; used = t.used + 1; root = t.used })
                made_ext_procs xs t r b =
                    let lp : p.root < t.used = omega (arith, m.below, o.more, b.more) in
                    let le : e.root < t.used = omega (arith, o.below, b.more) in
                    let ko : Agree p.used ms xs = agree_trans p.used e.used ms os xs o.more o.kept b.kept in
                    grown 1 IsModitem of_moditem (Way (each moditems ∷ []) d s i) s i used ns xs t.used t.next (node.ExternalProcs (i + 2) p.root e.root t.root) r (external_procs (i + 2) m.tree o.tree b.tree) b.within (omega (arith, m.more, o.more, b.more)) (omega (arith, m.few, o.few, b.few))
                    (agree_trans used p.used ns ms xs m.more m.kept ko)
                    (λ g x. (
                      p.root,
                      e.root,
                      t.root,
                      lp,
                      le,
                      b.below,
                      x,
                      keep_opt t.used xs _ g (IsMany IsMode) (keep_many t.used xs _ g IsMode (keep_mode t.used xs _ g)) m.tree p.root lp (keep_opt p.used ms xs ko (IsMany IsMode) (keep_many p.used ms xs ko IsMode (keep_mode p.used ms xs ko)) m.tree p.root m.below m.is),
                      keep_opt t.used xs _ g IsMode (keep_mode t.used xs _ g) o.tree e.root le (keep_opt e.used os xs b.kept IsMode (keep_mode e.used os xs b.kept) o.tree e.root o.below o.is),
                      keep_many t.used xs _ g IsName (keep_name t.used xs _ g) b.tree t.root b.below b.is,
                    ))
                    (items_here s i EXT h q ∙ ap (λ (v : List Token). key EXT ∷ v) (items_here s (i + 1) PROC h₁ q₁ ∙ ap (λ (j : ℕ). key PROC ∷ items j (drop j s)) two ∙ ap (λ (v : List Token). key PROC ∷ v) (items_here s (i + 2) LEFT h₂ q₂ ∙ ap (λ (v : List Token). token LEFT (i + 2) ∷ v) (m.text ∙ ap (of_opt (of_many of_mode COMMA) m.tree) (items_here s p.next RIGHT h₃ q₃ ∙ ap (λ (v : List Token). key RIGHT ∷ v) (o.text ∙ ap (of_opt of_mode o.tree) b.text))))))
                    (λ α. ext_names_way α ∙ b.met α)

-- the whole
abbrev pub ModuleMade : List Symbol → List Node → List Node → Parsed → Type 0
ModuleMade s ns ms p = Made 1 Module IsModule of_module (Way (all moditems ∷ []) 32 s 0) s 0 0 ns ms p

pub past : (s : List Symbol) (j : ℕ) → j < length s → at 32 [] s j ≡ bad j
past s j h = refuse_at_end (drop j s) (Rattle.grammar.proofs.Steps.found s j (get_or s j STOP) h refl)
  where
    refuse_at_end : (w : List Symbol) → w ≡ get_or s j STOP ∷ drop (j + 1) s → run 32 [] j w ≡ bad j
    refuse_at_end w e = ap (run 32 [] j) e

drop_all : {A : Type 0} (s : List A) (j : ℕ) → length s ≤ j → drop j s ≡ []
drop_all [] zero h = refl
drop_all [] (suc j) h = refl
drop_all (x ∷ s) zero h = absurd (omega arith)
drop_all (x ∷ s) (suc j) h = drop_all s j (omega arith)

module _ (s : List Symbol) (ns ms : List Node) (p : Parsed) (m : ModuleMade s ns ms p) where
  pub too_long : p.next < length s → run 32 a_module 0 s ≡ bad p.next
  too_long h = m.met [] ∙ past s p.next h

  pub whole : length s ≤ p.next → (t : Module) × IsModule t ms p.root × MadeOf t s × (run 32 a_module 0 s ≡ fine)
  whole h =
      let e : drop p.next s ≡ [] = drop_all s p.next h in
      (m.tree, m.is, sym (m.text ∙ ap (λ (w : List Symbol). of_module m.tree (items p.next w)) e), m.met [] ∙ ap (run 32 [] p.next) e)
