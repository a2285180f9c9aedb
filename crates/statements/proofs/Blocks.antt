-- Blocks, branches, loops and returns, step by step. Assumes nothing.
use Rattle.std.proofs.Common.{◌≡◌, ℕ, suc, ◌+◌, ◌-◌, ◌*◌, ◌<◌, ◌≤◌, List, [], ◌∷◌, ◌++◌, length, get_or, set, sym, refl, ap, ◌∙◌, arith}
use Rattle.grammar.specs.Symbols.{STOP, BLOCK, ENDBLOCK, IF, THEN, ELSEIF, ELSE, END, TO, WHILE, DO, REP, RETURN, VAL, NAME, LEFT}
use Rattle.grammar.specs.declared.Symbol.{Symbol}
use Rattle.grammar.specs.Trees.{Token, token, key, none, some, Expr, of_expr, Condition, of_condition, Body, Sequence, dummy, block, branch, branch_else, repeat, loop, return, return_with, Arms, when, elsewhen, of_body, of_sequence, of_statement, of_arms}
use Rattle.grammar.specs.Machine.{Goal, tok, all, ors, statements, an_expr, a_body, a_statement, arms_on, returned, step_to, level, fewer}
use Rattle.grammar.proofs.Steps.{items_here, step_at, sink_at, skip_at}
use Rattle.nodes.proofs.Build.{grown, not_on, token_refused, alike, fewer_is, more_is}
use Rattle.nodes.proofs.Keep.{keep_expr, keep_condition, keep_body, keep_sequence, keep_arms, agree_trans}
use Rattle.nodes.specs.Made.{Fewer, at, Made, Way, Refused}
use Rattle.nodes.specs.Nodes.{Agree, IsExpr, IsCondition, IsBody, IsSequence, IsStatement, IsArms}
use Rattle.nodes.specs.declared.Node.{Node}
use Rattle.nodes.specs.declared.Node.TheVariants as node
use Rattle.nodes.specs.declared.Parsed.{Parsed}
use Rattle.nodes.specs.declared.Fault.{Fault}
use Rattle.nodes.specs.declared.Fault.TheVariants.{Syntax, Deep}
use Rattle.expressions.proofs.Forms.{Brackets, ExprMade, of_brackets}
use Rattle.statements.proofs.Sources.{StatementMade}
use Rattle.statements.specs.Bodies.{Arm, IsArm, of_arm, ArmsWay}

abbrev pub SequenceMade : ℕ → List Symbol → ℕ → ℕ → List Node → List Node → Parsed → Type 0
SequenceMade d s i used ns ms p = Made 1 Sequence IsSequence of_sequence (Way (all statements ∷ []) d s i) s i used ns ms p

abbrev pub BodyMade : ℕ → List Symbol → ℕ → ℕ → List Node → List Node → Parsed → Type 0
BodyMade d s i used ns ms p = Made 3 Body IsBody of_body (Way (a_body ∷ []) d s i) s i used ns ms p

abbrev pub ConditionMade : ℕ → List Symbol → ℕ → ℕ → List Node → List Node → Parsed → Type 0
ConditionMade d s i used ns ms p = Made 0 Condition IsCondition of_condition (Way (all ors ∷ []) d s i) s i used ns ms p

abbrev pub ArmMade : ℕ → List Symbol → ℕ → ℕ → List Node → List Node → Parsed → Type 0
ArmMade d s i used ns ms p = Made 0 Arm IsArm of_arm (Way (all ors ∷ tok THEN ∷ all statements ∷ []) d s i) s i used ns ms p

abbrev pub ArmsMade : ℕ → List Symbol → ℕ → ℕ → List Node → List Node → Parsed → Type 0
ArmsMade d s i used ns ms p = Made 0 Arms IsArms of_arms (ArmsWay d s i) s i used ns ms p

-- one deeper
module _ (d low : ℕ) (z : (low ≡ d - 1) × (0 < d)) where
  fewer_low : fewer d ≡ some low
  fewer_low = fewer_is d z.1 ∙ ap some (sym z.0)

  more_low : some (suc low) ≡ some d
  more_low = ap (λ (v : ℕ). some (suc v)) z.0 ∙ more_is d z.1

module _ (d : ℕ) (s : List Symbol) (i used : ℕ) where
  -- nothing
  pub made_dummy : (ns : List Node) → i ≤ length s → used < length ns → (get_or s i STOP ≡ BLOCK → ⊥) → (get_or s i STOP ≡ IF → ⊥) → (get_or s i STOP ≡ TO → ⊥) → (get_or s i STOP ≡ WHILE → ⊥) → (get_or s i STOP ≡ RETURN → ⊥) → (get_or s i STOP ≡ VAL → ⊥) → (get_or s i STOP ≡ NAME → ⊥) → StatementMade d s i used ns (set ns used node.Dummy) (record { next = i; used = used + 1; root = used })
  made_dummy ns h r a b c e f v n =
      let k : Symbol = get_or s i STOP in
      grown 1 IsStatement of_statement (Way (a_statement ∷ []) d s i) s i used ns ns used i node.Dummy r dummy h (omega arith) (omega arith) (λ j l. refl) (λ g x. x) refl
      (λ α. skip_at d a_statement α s i dummy dummy refl (not_on k BLOCK _ _ _ a ∙ not_on k IF _ _ _ b ∙ not_on k TO _ _ _ c ∙ not_on k WHILE _ _ _ e ∙ not_on k RETURN _ _ _ f ∙ not_on k VAL _ _ _ v ∙ not_on k NAME _ _ _ n))

  -- a block
  module _ (h : i < length s) (q : get_or s i STOP ≡ BLOCK) where
    module _ (low : ℕ) (z : (low ≡ d - 1) × (0 < d)) where
      block_way : (α : List Goal) → at d (a_statement ∷ α) s i ≡ at low (a_body ∷ tok ENDBLOCK ∷ α) s (i + 1)
      block_way α = step_at d (a_statement ∷ α) (a_body ∷ tok ENDBLOCK ∷ α) s i low BLOCK h q refl (fewer_low d low z)

      pub block_refused : (f : Fault) → Refused (a_body ∷ []) low s (i + 1) f → Refused (a_statement ∷ []) d s i f
      block_refused f r α = block_way α ∙ r (tok ENDBLOCK ∷ α)

      module _ (ns ms : List Node) (b : Parsed) (m : BodyMade low s (i + 1) used ns ms b) where
        pub block_unclosed : (get_or s b.next STOP ≡ ENDBLOCK → ⊥) → Refused (a_statement ∷ []) d s i (Syntax b.next)
        block_unclosed n α = block_way α ∙ m.met (tok ENDBLOCK ∷ α) ∙ token_refused low ENDBLOCK α s b.next n

        pub made_block : b.next < length s → get_or s b.next STOP ≡ ENDBLOCK → b.used < length ms → StatementMade d s i used ns (set ms b.used (node.Block b.root)) (record { next = b.next + 1; used = b.used + 1; root = b.used })
        made_block h' q' r =
            grown 1 IsStatement of_statement (Way (a_statement ∷ []) d s i) s i used ns ms b.used (b.next + 1) (node.Block b.root) r (block m.tree) (omega arith) m.more (omega (arith, m.few)) m.kept
            (λ g a. (b.root, m.below, a, keep_body b.used ms _ g m.tree b.root m.below m.is))
            (items_here s i BLOCK h q ∙ ap (λ (v : List Token). key BLOCK ∷ v) (m.text ∙ ap (of_body m.tree) (items_here s b.next ENDBLOCK h' q')))
            (λ α. block_way α ∙ m.met (tok ENDBLOCK ∷ α) ∙ step_at low (tok ENDBLOCK ∷ α) α s b.next d ENDBLOCK h' q' refl (more_low d low z))

  -- a condition with its statements
  module _ (ns ms : List Node) (c : Parsed) (m : ConditionMade d s i used ns ms c) where
    module _ (h : c.next < length s) (q : get_or s c.next STOP ≡ THEN) where
      then_way : (α : List Goal) → at d (all ors ∷ tok THEN ∷ all statements ∷ α) s i ≡ at d (all statements ∷ α) s (c.next + 1)
      then_way α = m.met (tok THEN ∷ all statements ∷ α) ∙ step_at d (tok THEN ∷ all statements ∷ α) (all statements ∷ α) s c.next d THEN h q refl refl

      pub then_refused : (f : Fault) → Refused (all statements ∷ []) d s (c.next + 1) f → Refused (all ors ∷ tok THEN ∷ all statements ∷ []) d s i f
      then_refused f r α = then_way α ∙ r α

      pub made_arm : (os : List Node) (p : Parsed) → p.used < length os → SequenceMade d s (c.next + 1) c.used ms os p → ArmMade d s i used ns (set os p.used (node.When c.root p.root)) (record { next = p.next; used = p.used + 1; root = p.used })
      made_arm os p r n =
          grown 0 IsArm of_arm (Way (all ors ∷ tok THEN ∷ all statements ∷ []) d s i) s i used ns os p.used p.next (node.When c.root p.root) r (m.tree, n.tree) n.within (omega (arith, m.more, n.more)) (omega (arith, m.few, n.few))
          (agree_trans used c.used ns ms os m.more m.kept n.kept)
          (λ g a. (c.root, p.root, omega (arith, m.below, n.more), n.below, a, keep_condition p.used os _ g m.tree c.root (omega (arith, m.below, n.more)) (keep_condition c.used ms os n.kept m.tree c.root m.below m.is), keep_sequence p.used os _ g n.tree p.root n.below n.is))
          (m.text ∙ ap (of_condition m.tree) (items_here s c.next THEN h q ∙ ap (λ (v : List Token). key THEN ∷ v) n.text))
          (λ α. then_way α ∙ n.met α)

keep_arm : (n : ℕ) (ns ms : List Node) → Agree n ns ms → (t : Arm) (k : ℕ) → k < n → IsArm t ns k → IsArm t ms k
keep_arm n ns ms a t k h is = (is.0, is.1, is.2, is.3, a k h ∙ is.4, keep_condition n ns ms a t.0 is.0 (omega arith) is.5, keep_sequence n ns ms a t.1 is.1 (omega arith) is.6)

-- what follows IF
module _ (d : ℕ) (s : List Symbol) (i used : ℕ) (h : i < length s) (q : get_or s i STOP ≡ IF) where
  module _ (z : 0 < d) where
    if_way : (α : List Goal) → at d (a_statement ∷ α) s i ≡ at (d - 1) (all ors ∷ tok THEN ∷ all statements ∷ arms_on ∷ α) s (i + 1)
    if_way α = step_at d (a_statement ∷ α) (all ors ∷ tok THEN ∷ all statements ∷ arms_on ∷ α) s i (d - 1) IF h q refl (fewer_is d z)

    pub first_arm_refused : (f : Fault) → Refused (all ors ∷ tok THEN ∷ all statements ∷ []) (d - 1) s (i + 1) f → Refused (a_statement ∷ []) d s i f
    first_arm_refused f r α = if_way α ∙ r (arms_on ∷ α)

    pub first_arm : (ns ms : List Node) (p : Parsed) → ArmMade (d - 1) s (i + 1) used ns ms p → ArmsMade d s i used ms ms p × Fewer i used p
    first_arm ns ms p m = (record { within = m.within; more = m.more; few = omega (arith, m.few); below = m.below; kept = λ j l. refl; tree = when m.tree.0 m.tree.1; is = m.is; text = items_here s i IF h q ∙ ap (λ (v : List Token). key IF ∷ v) m.text; met = λ α. if_way α ∙ m.met (arms_on ∷ α) }, omega (arith, m.few))

module _ (d : ℕ) (s : List Symbol) (i used : ℕ) (es ns : List Node) (p : Parsed) (m : ArmsMade d s i used es ns p) (strict : Fewer i used p) where
  pub arms_end : (os : List Node) → Agree used os es → ArmsMade d s i used os ns p × Fewer i used p
  arms_end os a = (record { within = m.within; more = m.more; few = m.few; below = m.below; kept = agree_trans used used os es ns (omega arith) a m.kept; tree = m.tree; is = m.is; text = m.text; met = m.met }, strict)

  module _ (h : p.next < length s) where
    module _ (q : get_or s p.next STOP ≡ ELSEIF) where
      elseif_way : (α : List Goal) → at d (a_statement ∷ α) s i ≡ at (d - 1) (all ors ∷ tok THEN ∷ all statements ∷ arms_on ∷ α) s (p.next + 1)
      elseif_way α = m.met α ∙ step_at (d - 1) (arms_on ∷ α) (all ors ∷ tok THEN ∷ all statements ∷ arms_on ∷ α) s p.next (d - 1) ELSEIF h q refl refl

      pub further_arm_refused : (f : Fault) → Refused (all ors ∷ tok THEN ∷ all statements ∷ []) (d - 1) s (p.next + 1) f → Refused (a_statement ∷ []) d s i f
      further_arm_refused f r α = elseif_way α ∙ r (arms_on ∷ α)

      pub further_arm : (ms : List Node) (a : Parsed) → a.used < length ms → ArmMade (d - 1) s (p.next + 1) p.used ns ms a → ArmsMade d s i used es (set ms a.used (node.Also p.root a.root)) (record { next = a.next; used = a.used + 1; root = a.used }) × (a.used + 1 + 2 * i < 2 * a.next + used)
      further_arm ms a r o = (
        grown 0 IsArms of_arms (ArmsWay d s i) s i used es ms a.used a.next (node.Also p.root a.root) r (elsewhen m.tree o.tree.0 o.tree.1) o.within (omega (arith, m.more, o.more)) (omega (arith, strict, o.few))
            (agree_trans used p.used es ns ms m.more m.kept o.kept)
            (λ g x. let k = keep_arm a.used ms _ g o.tree a.root o.below o.is in (p.root, a.root, omega (arith, m.below, o.more), o.below, x, keep_arms a.used ms _ g m.tree p.root (omega (arith, m.below, o.more)) (keep_arms p.used ns ms o.kept m.tree p.root m.below m.is), k.0, k.1, k.2, k.3, k.4, k.5, k.6))
            (m.text ∙ ap (of_arms m.tree) (items_here s p.next ELSEIF h q ∙ ap (λ (v : List Token). key ELSEIF ∷ v) o.text))
            (λ α. elseif_way α ∙ o.met (arms_on ∷ α)),
        omega (arith, strict, o.few),
      )

    module _ (z : 0 < d) where
      pub made_branch : (os : List Node) → Agree used os es → get_or s p.next STOP ≡ END → p.used < length ns → StatementMade d s i used os (set ns p.used (node.Branch p.root)) (record { next = p.next + 1; used = p.used + 1; root = p.used })
      made_branch os a q r =
          grown 1 IsStatement of_statement (Way (a_statement ∷ []) d s i) s i used os ns p.used (p.next + 1) (node.Branch p.root) r (branch m.tree) (omega arith) m.more (omega (arith, m.few))
          (agree_trans used used os es ns (omega arith) a m.kept)
          (λ g x. (p.root, m.below, x, keep_arms p.used ns _ g m.tree p.root m.below m.is))
          (m.text ∙ ap (of_arms m.tree) (items_here s p.next END h q))
          (λ α. m.met α ∙ step_at (d - 1) (arms_on ∷ α) α s p.next d END h q refl (more_is d z))

      module _ (q : get_or s p.next STOP ≡ ELSE) where
        else_way : (α : List Goal) → at d (a_statement ∷ α) s i ≡ at (d - 1) (all statements ∷ tok END ∷ α) s (p.next + 1)
        else_way α = m.met α ∙ step_at (d - 1) (arms_on ∷ α) (all statements ∷ tok END ∷ α) s p.next (d - 1) ELSE h q refl refl

        pub else_refused : (f : Fault) → Refused (all statements ∷ []) (d - 1) s (p.next + 1) f → Refused (a_statement ∷ []) d s i f
        else_refused f r α = else_way α ∙ r (tok END ∷ α)

        module _ (ms : List Node) (e : Parsed) (o : SequenceMade (d - 1) s (p.next + 1) p.used ns ms e) where
          pub else_unclosed : (get_or s e.next STOP ≡ END → ⊥) → Refused (a_statement ∷ []) d s i (Syntax e.next)
          else_unclosed n α = else_way α ∙ o.met (tok END ∷ α) ∙ token_refused (d - 1) END α s e.next n

          pub made_else : e.next < length s → get_or s e.next STOP ≡ END → e.used < length ms → StatementMade d s i used es (set ms e.used (node.BranchElse p.root e.root)) (record { next = e.next + 1; used = e.used + 1; root = e.used })
          made_else h' q' r =
              grown 1 IsStatement of_statement (Way (a_statement ∷ []) d s i) s i used es ms e.used (e.next + 1) (node.BranchElse p.root e.root) r (branch_else m.tree o.tree) (omega arith) (omega (arith, m.more, o.more)) (omega (arith, strict, o.few))
              (agree_trans used p.used es ns ms m.more m.kept o.kept)
              (λ g x. (p.root, e.root, omega (arith, m.below, o.more), o.below, x, keep_arms e.used ms _ g m.tree p.root (omega (arith, m.below, o.more)) (keep_arms p.used ns ms o.kept m.tree p.root m.below m.is), keep_sequence e.used ms _ g o.tree e.root o.below o.is))
              (m.text ∙ ap (of_arms m.tree) (items_here s p.next ELSE h q ∙ ap (λ (v : List Token). key ELSE ∷ v) (o.text ∙ ap (of_sequence o.tree) (items_here s e.next END h' q'))))
              (λ α. else_way α ∙ o.met (tok END ∷ α) ∙ step_at (d - 1) (tok END ∷ α) α s e.next d END h' q' refl (more_is d z))

-- Loops: the keyword K, what is read first by the goal G, DO, what is repeated by the goal B, and REP.
module _ (K : Symbol) (G B : Goal) (opens : (α : List Goal) → step_to (a_statement ∷ α) K ≡ some (G ∷ tok DO ∷ B ∷ tok REP ∷ α)) (same : (d : ℕ) → level d K ≡ some d) (d : ℕ) (s : List Symbol) (i : ℕ) (h : i < length s) (q : get_or s i STOP ≡ K) where
  loop-way : (α : List Goal) → at d (a_statement ∷ α) s i ≡ at d (G ∷ tok DO ∷ B ∷ tok REP ∷ α) s (i + 1)
  loop-way α = step_at d (a_statement ∷ α) (G ∷ tok DO ∷ B ∷ tok REP ∷ α) s i d K h q (opens α) (same d)

  pub head_refused : (f : Fault) → Refused (G ∷ []) d s (i + 1) f → Refused (a_statement ∷ []) d s i f
  head_refused f r α = loop-way α ∙ r (tok DO ∷ B ∷ tok REP ∷ α)

  module _ (j : ℕ) (m : (α : List Goal) → at d (G ∷ α) s (i + 1) ≡ at d α s j) where
    head_way : (α : List Goal) → at d (a_statement ∷ α) s i ≡ at d (tok DO ∷ B ∷ tok REP ∷ α) s j
    head_way α = loop-way α ∙ m (tok DO ∷ B ∷ tok REP ∷ α)

    pub no_do : (get_or s j STOP ≡ DO → ⊥) → Refused (a_statement ∷ []) d s i (Syntax j)
    no_do n α = head_way α ∙ token_refused d DO (B ∷ tok REP ∷ α) s j n

    module _ (h' : j < length s) (q' : get_or s j STOP ≡ DO) where
      pub do_deep : d ≡ 0 → Refused (a_statement ∷ []) d s i (Deep j)
      do_deep z α = head_way α ∙ sink_at d (tok DO ∷ B ∷ tok REP ∷ α) (B ∷ tok REP ∷ α) s j DO h' q' refl (ap fewer z)

      module _ (low : ℕ) (z : (low ≡ d - 1) × (0 < d)) where
        do_way : (α : List Goal) → at d (a_statement ∷ α) s i ≡ at low (B ∷ tok REP ∷ α) s (j + 1)
        do_way α = head_way α ∙ step_at d (tok DO ∷ B ∷ tok REP ∷ α) (B ∷ tok REP ∷ α) s j low DO h' q' refl (fewer_low d low z)

        pub do_refused : (f : Fault) → Refused (B ∷ []) low s (j + 1) f → Refused (a_statement ∷ []) d s i f
        do_refused f r α = do_way α ∙ r (tok REP ∷ α)

        module _ (k : ℕ) (o : (α : List Goal) → at low (B ∷ α) s (j + 1) ≡ at low α s k) where
          pub no_rep : (get_or s k STOP ≡ REP → ⊥) → Refused (a_statement ∷ []) d s i (Syntax k)
          no_rep n α = do_way α ∙ o (tok REP ∷ α) ∙ token_refused low REP α s k n

          pub rep_way : k < length s → get_or s k STOP ≡ REP → (α : List Goal) → at d (a_statement ∷ α) s i ≡ at d α s (k + 1)
          rep_way h'' q'' α = do_way α ∙ o (tok REP ∷ α) ∙ step_at low (tok REP ∷ α) α s k d REP h'' q'' refl (more_low d low z)

pub to_opens : (α : List Goal) → step_to (a_statement ∷ α) TO ≡ some (an_expr ∷ tok DO ∷ a_body ∷ tok REP ∷ α)
to_opens α = refl

pub to_same : (d : ℕ) → level d TO ≡ some d
to_same d = refl

pub while_opens : (α : List Goal) → step_to (a_statement ∷ α) WHILE ≡ some (all ors ∷ tok DO ∷ all statements ∷ tok REP ∷ α)
while_opens α = refl

pub while_same : (d : ℕ) → level d WHILE ≡ some d
while_same d = refl

module _ (d : ℕ) (s : List Symbol) (i used : ℕ) (h : i < length s) (low : ℕ) (z : (low ≡ d - 1) × (0 < d)) (ns ms os : List Node) (e b : Parsed) (h' : e.next < length s) (q' : get_or s e.next STOP ≡ DO) (h'' : b.next < length s) (q'' : get_or s b.next STOP ≡ REP) (r : b.used < length os) where
  pub made_repeat : get_or s i STOP ≡ TO → ExprMade d s (i + 1) used ns ms e → BodyMade low s (e.next + 1) e.used ms os b → StatementMade d s i used ns (set os b.used (node.Repeat e.root b.root)) (record { next = b.next + 1; used = b.used + 1; root = b.used })
  made_repeat q m o =
      grown 1 IsStatement of_statement (Way (a_statement ∷ []) d s i) s i used ns os b.used (b.next + 1) (node.Repeat e.root b.root) r (repeat m.tree o.tree) (omega arith) (omega (arith, m.more, o.more)) (omega (arith, m.few, o.few))
      (agree_trans used e.used ns ms os m.more m.kept o.kept)
      (λ g x. (e.root, b.root, omega (arith, m.below, o.more), o.below, x, keep_expr b.used os _ g m.tree e.root (omega (arith, m.below, o.more)) (keep_expr e.used ms os o.kept m.tree e.root m.below m.is), keep_body b.used os _ g o.tree b.root o.below o.is))
      (items_here s i TO h q ∙ ap (λ (v : List Token). key TO ∷ v) (m.text ∙ ap (of_expr m.tree) (items_here s e.next DO h' q' ∙ ap (λ (v : List Token). key DO ∷ v) (o.text ∙ ap (of_body o.tree) (items_here s b.next REP h'' q'')))))
      (rep_way TO an_expr a_body to_opens to_same d s i h q e.next m.met h' q' low z b.next o.met h'' q'')

  pub made_loop : get_or s i STOP ≡ WHILE → ConditionMade d s (i + 1) used ns ms e → SequenceMade low s (e.next + 1) e.used ms os b → StatementMade d s i used ns (set os b.used (node.Loop e.root b.root)) (record { next = b.next + 1; used = b.used + 1; root = b.used })
  made_loop q m o =
      grown 1 IsStatement of_statement (Way (a_statement ∷ []) d s i) s i used ns os b.used (b.next + 1) (node.Loop e.root b.root) r (loop m.tree o.tree) (omega arith) (omega (arith, m.more, o.more)) (omega (arith, m.few, o.few))
      (agree_trans used e.used ns ms os m.more m.kept o.kept)
      (λ g x. (e.root, b.root, omega (arith, m.below, o.more), o.below, x, keep_condition b.used os _ g m.tree e.root (omega (arith, m.below, o.more)) (keep_condition e.used ms os o.kept m.tree e.root m.below m.is), keep_sequence b.used os _ g o.tree b.root o.below o.is))
      (items_here s i WHILE h q ∙ ap (λ (v : List Token). key WHILE ∷ v) (m.text ∙ ap (of_condition m.tree) (items_here s e.next DO h' q' ∙ ap (λ (v : List Token). key DO ∷ v) (o.text ∙ ap (of_sequence o.tree) (items_here s b.next REP h'' q'')))))
      (rep_way WHILE (all ors) (all statements) while_opens while_same d s i h q e.next m.met h' q' low z b.next o.met h'' q'')

-- RETURN
module _ (d : ℕ) (s : List Symbol) (i used : ℕ) (ns : List Node) (h : i < length s) (q : get_or s i STOP ≡ RETURN) where
  return_way : (α : List Goal) → at d (a_statement ∷ α) s i ≡ at d (returned ∷ α) s (i + 1)
  return_way α = step_at d (a_statement ∷ α) (returned ∷ α) s i d RETURN h q refl refl

  pub made_return : (get_or s (i + 1) STOP ≡ LEFT → ⊥) → used < length ns → StatementMade d s i used ns (set ns used (node.Return i)) (record { next = i + 1; used = used + 1; root = used })
  made_return n r =
      grown 1 IsStatement of_statement (Way (a_statement ∷ []) d s i) s i used ns ns used (i + 1) (node.Return i) r (return i) (omega arith) (omega arith) (omega arith) (λ j l. refl) (λ g x. x) (items_here s i RETURN h q)
      (λ α. return_way α ∙ skip_at d returned α s (i + 1) none none refl (not_on (get_or s (i + 1) STOP) LEFT _ _ _ n))

  module _ (h' : i + 1 < length s) (q' : get_or s (i + 1) STOP ≡ LEFT) where
    with_way : (α : List Goal) → at d (a_statement ∷ α) s i ≡ at d (Brackets ++ α) s (i + 1)
    with_way α = return_way α ∙ alike d (returned ∷ α) (Brackets ++ α) s (i + 1) LEFT h' q' refl

    pub return_refused : (f : Fault) → Refused Brackets d s (i + 1) f → Refused (a_statement ∷ []) d s i f
    return_refused f r α = with_way α ∙ r α

    pub made_return_with : (ms : List Node) (e : Parsed) → e.used < length ms → Made 0 (Expr 5) IsExpr (of_brackets (i + 1)) (Way Brackets d s (i + 1)) s (i + 1) used ns ms e → StatementMade d s i used ns (set ms e.used (node.ReturnWith i (i + 1) e.root)) (record { next = e.next; used = e.used + 1; root = e.used })
    made_return_with ms e r m =
        grown 1 IsStatement of_statement (Way (a_statement ∷ []) d s i) s i used ns ms e.used e.next (node.ReturnWith i (i + 1) e.root) r (return_with i (i + 1) m.tree) m.within m.more (omega (arith, m.few)) m.kept
        (λ g x. (e.root, m.below, x, keep_expr e.used ms _ g m.tree e.root m.below m.is))
        (items_here s i RETURN h q ∙ ap (λ (v : List Token). token RETURN i ∷ v) m.text)
        (λ α. with_way α ∙ m.met α)
