-- The locals of a body, step by step. Assumes nothing.
use Rattle.std.proofs.Common.{◌≡◌, ℕ, ◌+◌, ◌<◌, true, false, List, [], ◌∷◌, length, get_or, set, refl, ap, ◌∙◌, arith}
use Rattle.grammar.specs.Symbols.{among, STOP, SEMI}
use Rattle.grammar.specs.declared.Symbol.{Symbol}
use Rattle.grammar.specs.Trees.{Opt, none, some, Many, Init, Expr, of_expr, of_inits, Mode, of_mode, Local, local, Locals, locals, of_locals, Body, body, Sequence, of_body, of_sequence}
use Rattle.grammar.specs.Machine.{Goal, Forest, Move, mapped, orelse, then, never, tok, all, statements, declareds, set as set_sort, inblock, a_mode, a_body, inside, declares, at_all, taken, onto_stack, step, done, is_some, pair, void}
use Rattle.grammar.proofs.Steps.{items_here, step_at, like_at, mapped_on}
use Rattle.nodes.proofs.Build.{grown, token_refused}
use Rattle.nodes.proofs.Keep.{keep_mode, keep_many, keep_init, keep_expr, keep_local, keep_locals, keep_sequence, agree_trans}
use Rattle.nodes.specs.Made.{Fewer, at, Made, Way, Refused}
use Rattle.nodes.specs.Nodes.{Agree, IsMany, IsInit, IsExpr, IsLocal, IsLocals, IsBody, IsSequence}
use Rattle.nodes.specs.declared.Node.{Node}
use Rattle.nodes.specs.declared.Node.TheVariants as node
use Rattle.nodes.specs.declared.Parsed.{Parsed}
use Rattle.nodes.specs.declared.Fault.{Fault}
use Rattle.nodes.specs.declared.Fault.TheVariants.{Syntax}
use Rattle.declarations.proofs.Modes.{ModeMade}
use Rattle.declarations.proofs.Firsts.{mode_alike, no_mode}
use Rattle.declarations.specs.Declaring.{mode_firsts}
use Rattle.declarations.specs.Bodies.{LocalWay, LocalsWay, of_ended}

abbrev pub InitsMade : ℕ → List Symbol → ℕ → ℕ → List Node → List Node → Parsed → Type 0
InitsMade d s i used ns ms p = Made 0 (Many (Init (Expr 5))) (IsMany (IsInit IsExpr)) (of_inits of_expr) (Way (all (declareds (set_sort inblock)) ∷ []) d s i) s i used ns ms p

abbrev pub LocalMade : ℕ → List Symbol → ℕ → ℕ → List Node → List Node → Parsed → Type 0
LocalMade d s i used ns ms p = Made 0 Local IsLocal of_ended (LocalWay d s i) s i used ns ms p

-- locals, of which more may follow; all of them
abbrev pub LocalsSome : ℕ → List Symbol → ℕ → ℕ → List Node → List Node → Parsed → Type 0
LocalsSome d s i used ns ms p = Made 1 Locals IsLocals of_locals (LocalWay d s i) s i used ns ms p

abbrev pub LocalsMade : ℕ → List Symbol → ℕ → ℕ → List Node → List Node → Parsed → Type 0
LocalsMade d s i used ns ms p = Made 1 Locals IsLocals of_locals (LocalsWay d s i) s i used ns ms p

-- one declaration
module _ (d : ℕ) (s : List Symbol) (i used : ℕ) (h : i < length s) (q : among mode_firsts (get_or s i STOP) ≡ true) where
  mode_way : (α : List Goal) → at d (a_body ∷ α) s i ≡ at d (a_mode ∷ all (declareds (set_sort inblock)) ∷ tok SEMI ∷ a_body ∷ α) s i
  mode_way α = mode_alike d (a_body ∷ α) (a_mode ∷ all (declareds (set_sort inblock)) ∷ tok SEMI ∷ a_body ∷ α) s i h q refl refl refl

  pub mode_refused : (f : Fault) → Refused (a_mode ∷ []) d s i f → Refused (a_body ∷ []) d s i f
  mode_refused f r α = mode_way α ∙ r (all (declareds (set_sort inblock)) ∷ tok SEMI ∷ a_body ∷ α)

  module _ (ns ms : List Node) (e : Parsed) (m : ModeMade d s i used ns ms e) where
    inits_way : (α : List Goal) → at d (a_body ∷ α) s i ≡ at d (all (declareds (set_sort inblock)) ∷ tok SEMI ∷ a_body ∷ α) s e.next
    inits_way α = mode_way α ∙ m.met (all (declareds (set_sort inblock)) ∷ tok SEMI ∷ a_body ∷ α)

    pub inits_refused : (f : Fault) → Refused (all (declareds (set_sort inblock)) ∷ []) d s e.next f → Refused (a_body ∷ []) d s i f
    inits_refused f r α = inits_way α ∙ r (tok SEMI ∷ a_body ∷ α)

    module _ (os : List Node) (p : Parsed) (l : InitsMade d s e.next e.used ms os p) where
      end_way : (α : List Goal) → at d (a_body ∷ α) s i ≡ at d (tok SEMI ∷ a_body ∷ α) s p.next
      end_way α = inits_way α ∙ l.met (tok SEMI ∷ a_body ∷ α)

      pub local_unended : (get_or s p.next STOP ≡ SEMI → ⊥) → Refused (a_body ∷ []) d s i (Syntax p.next)
      local_unended n α = end_way α ∙ token_refused d SEMI (a_body ∷ α) s p.next n

      pub made_local : p.next < length s → get_or s p.next STOP ≡ SEMI → p.used < length os → LocalMade d s i used ns (set os p.used (node.Local e.root p.root)) (record { next = p.next + 1; used = p.used + 1; root = p.used })
      made_local h' q' r =
          grown 0 IsLocal of_ended (LocalWay d s i) s i used ns os p.used (p.next + 1) (node.Local e.root p.root) r (local m.tree l.tree) (omega arith) (omega (arith, m.more, l.more)) (omega (arith, m.few, l.few))
          (agree_trans used e.used ns ms os m.more m.kept l.kept)
          (λ g a. (e.root, p.root, omega (arith, m.below, l.more), l.below, a, keep_mode p.used os _ g m.tree e.root (omega (arith, m.below, l.more)) (keep_mode e.used ms os l.kept m.tree e.root m.below m.is), keep_many p.used os _ g (IsInit IsExpr) (keep_init p.used os _ g IsExpr (keep_expr p.used os _ g)) l.tree p.root l.below l.is))
          (m.text ∙ ap (of_mode m.tree) (l.text ∙ ap (of_inits of_expr l.tree) (items_here s p.next SEMI h' q')))
          (λ α. end_way α ∙ step_at d (tok SEMI ∷ a_body ∷ α) (a_body ∷ α) s p.next d SEMI h' q' refl refl)

-- all declarations
body_end : (α : List Goal) (o : Opt (Forest α)) → is_some (pair (void a_body) o) ≡ is_some (pair (void (all statements)) o)
body_end α none = refl
body_end α (some f) = refl

-- where no mode begins, a body goes on as its statements do
statements_way : (d : ℕ) (s : List Symbol) (j : ℕ) → among mode_firsts (get_or s j STOP) ≡ false → (α : List Goal) → at d (a_body ∷ α) s j ≡ at d (all statements ∷ α) s j
statements_way d s j n α =
    let k : Symbol = get_or s j STOP in
    like_at d (a_body ∷ α) (all statements ∷ α) s j (body_end α (done α)) (ap (λ (m : Move Mode). onto_stack (a_body ∷ α) (taken a_body α (orelse (then m (λ α. all (declareds (set_sort inblock)) ∷ tok SEMI ∷ a_body ∷ α) (λ e α g. (declares (local e g.0) g.1.1.0, g.1.1.1)) never) (mapped inside (at_all statements k))) (step α k))) (no_mode k n) ∙ mapped_on a_body (all statements) inside α (at_all statements k) (step α k))

module _ (d : ℕ) (s : List Symbol) (i used : ℕ) where
  module _ (es ns : List Node) (p : Parsed) (m : LocalsSome d s i used es ns p) where
    pub made_locals : (ms : List Node) (t : Parsed) → t.used < length ms → LocalMade d s p.next p.used ns ms t → Fewer p.next p.used t → LocalsSome d s i used es (set ms t.used (node.Locals p.root t.root)) (record { next = t.next; used = t.used + 1; root = t.used })
    made_locals ms t r l w =
        grown 1 IsLocals of_locals (LocalWay d s i) s i used es ms t.used t.next (node.Locals p.root t.root) r (locals m.tree l.tree) l.within (omega (arith, m.more, l.more)) (omega (arith, m.few, w))
        (agree_trans used p.used es ns ms m.more m.kept l.kept)
        (λ g a. (p.root, t.root, omega (arith, m.below, l.more), l.below, a, keep_locals t.used ms _ g m.tree p.root (omega (arith, m.below, l.more)) (keep_locals p.used ns ms l.kept m.tree p.root m.below m.is), keep_local t.used ms _ g l.tree t.root l.below l.is))
        (m.text ∙ ap (of_locals m.tree) l.text)
        (λ α. m.met α ∙ l.met α)

    pub locals_end : (os : List Node) → Agree used os es → among mode_firsts (get_or s p.next STOP) ≡ false → LocalsMade d s i used os ns p
    locals_end os a n = record { within = m.within; more = m.more; few = m.few; below = m.below; kept = agree_trans used used os es ns (omega arith) a m.kept; tree = m.tree; is = m.is; text = m.text; met = λ α. m.met α ∙ statements_way d s p.next n α }

  -- a body: the locals, and the statements behind them
  module _ (ns ms : List Node) (p : Parsed) (m : LocalsMade d s i used ns ms p) where
    pub made_body : (x : ℕ) (os : List Node) (e : Parsed) → e.used < length os → Made x Sequence IsSequence of_sequence (Way (all statements ∷ []) d s p.next) s p.next p.used ms os e → Made (x + 2) Body IsBody of_body (Way (a_body ∷ []) d s i) s i used ns (set os e.used (node.Body p.root e.root)) (record { next = e.next; used = e.used + 1; root = e.used })
    made_body x os e r b =
        grown (x + 2) IsBody of_body (Way (a_body ∷ []) d s i) s i used ns os e.used e.next (node.Body p.root e.root) r (body m.tree b.tree) b.within (omega (arith, m.more, b.more)) (omega (arith, m.few, b.few))
        (agree_trans used p.used ns ms os m.more m.kept b.kept)
        (λ g a. (p.root, e.root, omega (arith, m.below, b.more), b.below, a, keep_locals e.used os _ g m.tree p.root (omega (arith, m.below, b.more)) (keep_locals p.used ms os b.kept m.tree p.root m.below m.is), keep_sequence e.used os _ g b.tree e.root b.below b.is))
        (m.text ∙ ap (of_locals m.tree) b.text)
        (λ α. m.met α ∙ b.met α)
