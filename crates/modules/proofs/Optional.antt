-- What may be left out, step by step. Assumes nothing.
use Rattle.std.proofs.Common.{◌≡◌, ◌+◌, ◌<◌, ◌≤◌, true, false, List, [], ◌∷◌, length, get_or, set, sym, refl, ap, ◌∙◌, Result, arith}
use Rattle.grammar.specs.Symbols.{among, STOP}
use Rattle.grammar.specs.declared.Symbol.{Symbol}
use Rattle.grammar.specs.Trees.{Spelling, Opt, none, some, of_opt, Mode, field}
use Rattle.grammar.specs.Machine.{Goal, Move, optional, then, never, tok, fields_on, fielded, modes, all, a_mode, the_fields, maybe_fields, maybe_mode, maybe_modes, at_whole}
use Rattle.grammar.specs.Symbols.{NAME}
use Rattle.grammar.proofs.Steps.{skip_at}
use Rattle.grammar.proofs.Right.{clash}
use Rattle.nodes.proofs.Build.{grown}
use Rattle.nodes.proofs.Results.{otherwise}
use Rattle.nodes.specs.Made.{at, MadeFrom, ReadsTo, Way}
use Rattle.nodes.specs.Nodes.{Reading, IsOpt}
use Rattle.nodes.specs.declared.Node.{Node}
use Rattle.nodes.specs.declared.Node.TheVariants as node
use Rattle.nodes.specs.declared.Parsed.{Parsed}
use Rattle.nodes.specs.declared.Spot.{Spot}
use Rattle.nodes.specs.declared.Fault.{Fault}
use Rattle.declarations.specs.Declaring.{mode_firsts}
use Rattle.declarations.proofs.Firsts.{mode_alike, no_mode}

-- The goal G is the goal H or nothing; the terminal c says which.
module _ {T : Type 0} (Is : Reading T) (of : Spelling T) (G : Goal) (a : Spot) (c : Symbol) (e : c ≡ get_or a.symbols.now a.next STOP) where
  pub present : (H : Goal) → (a.next < length a.symbols.now → among mode_firsts (get_or a.symbols.now a.next STOP) ≡ true → (α : List Goal) → at a.depth (G ∷ α) a.symbols.now a.next ≡ at a.depth (H ∷ α) a.symbols.now a.next) → ((c ≡ STOP → ⊥) → a.next < length a.symbols.now) → among mode_firsts c ≡ true → (ns ms : List Node) (r : Result Parsed Fault) → ReadsTo 0 T Is of (H ∷ []) a ns ms r → ReadsTo 1 (Opt T) (IsOpt Is) (of_opt of) (G ∷ []) a ns ms r
  present H w h q ns ms r =
      let v = w (h (λ x. clash q (ap (among mode_firsts) x))) (ap (among mode_firsts) (sym e) ∙ q) in
      otherwise r (λ p m. record { within = m.within; more = m.more; few = omega (arith, m.few); below = m.below; kept = m.kept; tree = some m.tree; is = m.is; text = m.text; met = λ α. v α ∙ m.met α }) (λ f n α. v α ∙ n α)

  pub absent : (among mode_firsts (get_or a.symbols.now a.next STOP) ≡ false → (α : List Goal) → at a.depth (G ∷ α) a.symbols.now a.next ≡ at a.depth α a.symbols.now a.next) → among mode_firsts c ≡ false → (ns : List Node) → a.next ≤ length a.symbols.now → a.used < length ns → MadeFrom 1 (Opt T) (IsOpt Is) (of_opt of) (Way (G ∷ [])) a ns (set ns a.used node.Absent) (record { next = a.next; used = a.used + 1; root = a.used })
  absent w q ns h r = grown 1 (IsOpt Is) (of_opt of) (Way (G ∷ []) a.depth a.symbols.now a.next) a.symbols.now a.next a.used ns ns a.used a.next node.Absent r none h (omega arith) (omega arith) (λ j l. refl) (λ g x. x) refl (w (ap (among mode_firsts) (sym e) ∙ q))

module _ (a : Spot) where
  module _ (h : a.next < length a.symbols.now) (q : among mode_firsts (get_or a.symbols.now a.next STOP) ≡ true) where
    pub mode_there : (α : List Goal) → at a.depth (maybe_mode ∷ α) a.symbols.now a.next ≡ at a.depth (a_mode ∷ α) a.symbols.now a.next
    mode_there α = mode_alike a.depth (maybe_mode ∷ α) (a_mode ∷ α) a.symbols.now a.next h q refl refl refl

    pub modes_there : (α : List Goal) → at a.depth (maybe_modes ∷ α) a.symbols.now a.next ≡ at a.depth (all modes ∷ α) a.symbols.now a.next
    modes_there α = mode_alike a.depth (maybe_modes ∷ α) (all modes ∷ α) a.symbols.now a.next h q refl refl refl

    pub fields_there : (α : List Goal) → at a.depth (maybe_fields ∷ α) a.symbols.now a.next ≡ at a.depth (the_fields ∷ α) a.symbols.now a.next
    fields_there α = mode_alike a.depth (maybe_fields ∷ α) (the_fields ∷ α) a.symbols.now a.next h q refl refl refl

  module _ (q : among mode_firsts (get_or a.symbols.now a.next STOP) ≡ false) where
    pub no_mode_there : (α : List Goal) → at a.depth (maybe_mode ∷ α) a.symbols.now a.next ≡ at a.depth α a.symbols.now a.next
    no_mode_there α = skip_at a.depth maybe_mode α a.symbols.now a.next none none refl (ap (λ (m : Move Mode). optional m) (no_mode (get_or a.symbols.now a.next STOP) q))

    pub no_modes_there : (α : List Goal) → at a.depth (maybe_modes ∷ α) a.symbols.now a.next ≡ at a.depth α a.symbols.now a.next
    no_modes_there α = skip_at a.depth maybe_modes α a.symbols.now a.next none none refl (ap (λ (m : Move Mode). optional (at_whole modes (get_or a.symbols.now a.next STOP) m)) (no_mode (get_or a.symbols.now a.next STOP) q))

    pub no_fields_there : (α : List Goal) → at a.depth (maybe_fields ∷ α) a.symbols.now a.next ≡ at a.depth α a.symbols.now a.next
    no_fields_there α = skip_at a.depth maybe_fields α a.symbols.now a.next none none refl (ap (λ (m : Move Mode). optional (then m (λ α. tok NAME ∷ fields_on ∷ α) (λ e α g. (fielded (field e g.0) g.1.0, g.1.1)) never)) (no_mode (get_or a.symbols.now a.next STOP) q))
