-- Destinations that begin with VAL, and several, each with ':=' behind it, step by step. Assumes nothing.
use Rattle.std.proofs.Common.{◌≡◌, ℕ, ◌+◌, ◌<◌, List, [], ◌∷◌, ◌++◌, length, get_or, set, refl, ap, ◌∙◌, arith}
use Rattle.grammar.specs.Symbols.{STOP, NAME, VAL, LEFT, DOT, BECOMES}
use Rattle.grammar.specs.declared.Symbol.{Symbol}
use Rattle.grammar.specs.Trees.{Token, token, Many, one, name, of_variable, Destination, val}
use Rattle.grammar.specs.Machine.{Goal, refuse, mapped, no_parts, tok, parts, start, a_source, a_statement}
use Rattle.grammar.proofs.Steps.{items_here, step_at, refuse_at, refuses}
use Rattle.nodes.proofs.Build.{grown, not_on}
use Rattle.nodes.proofs.Keep.{keep_variable}
use Rattle.nodes.specs.Made.{Fewer, at, Made, Refused, by_val, PartsWay, VariableRefused}
use Rattle.nodes.specs.Nodes.{IsMany, IsVariable, IsDestination}
use Rattle.nodes.specs.declared.Node.{Node}
use Rattle.nodes.specs.declared.Node.TheVariants.{Name, Val}
use Rattle.nodes.specs.declared.Parsed.{Parsed}
use Rattle.nodes.specs.declared.Fault.{Fault}
use Rattle.nodes.specs.declared.Fault.TheVariants.{Syntax}
use Rattle.expressions.proofs.Forms.{VariableMade, VariableEnded}
use Rattle.statements.specs.Assigning.{of_target, of_targets, TargetsWay, TargetWay, ValWay}

-- a destination that meets M, with fewer than two nodes to an item
abbrev pub Destined : (Destination → ℕ → Type 0) → List Symbol → ℕ → ℕ → List Node → List Node → Parsed → Type 0
Destined M s i used ns ms p = Made 0 Destination IsDestination of_target M s i used ns ms p × Fewer i used p

abbrev pub TargetsMade : ℕ → List Symbol → ℕ → ℕ → List Node → List Node → Parsed → Type 0
TargetsMade d s i used ns ms p = Made 0 (Many Destination) (IsMany IsDestination) of_targets (TargetsWay d s i) s i used ns ms p

module _ (M N : Destination → ℕ → Type 0) (s : List Symbol) (i used : ℕ) (ns ms : List Node) (p : Parsed) where
  pub remet : ((t : Destination) → M t p.next → N t p.next) → Destined M s i used ns ms p → Destined N s i used ns ms p
  remet f (m, l) = (record { within = m.within; more = m.more; few = m.few; below = m.below; kept = m.kept; tree = m.tree; is = m.is; text = m.text; met = f m.tree m.met }, l)

-- the first destination of a statement
pub first_target : (d : ℕ) (s : List Symbol) (i used : ℕ) (ns ms : List Node) (p : Parsed) → Destined (TargetsWay d s i) s i used ns ms p → TargetsMade d s i used ns ms p
first_target d s i used ns ms p o = let m = o.0 in record { within = m.within; more = m.more; few = m.few; below = m.below; kept = m.kept; tree = one m.tree; is = m.is; text = m.text; met = m.met }

-- behind VAL
abbrev pub BehindVal : List Goal
BehindVal = tok NAME ∷ parts start ∷ []

pub val_name : (d : ℕ) (s : List Symbol) (i used : ℕ) (ns : List Node) → i < length s → get_or s i STOP ≡ NAME → used < length ns → VariableMade by_val d s i used ns (set ns used (Name i)) (record { next = i + 1; used = used + 1; root = used })
val_name d s i used ns h q r = grown 0 IsVariable of_variable (PartsWay by_val d s i) s i used ns ns used (i + 1) (Name i) r (name i) (omega arith) (omega arith) (omega arith) (λ j l. refl) (λ g a. a) (items_here s i NAME h q) (λ w α. refl, tt)

module _ (d : ℕ) (s : List Symbol) (i used : ℕ) where
  module _ (h : i + 1 < length s) (q : get_or s (i + 1) STOP ≡ NAME) where
    behind_way : (α : List Goal) → at d (BehindVal ++ α) s (i + 1) ≡ at d (parts start ∷ α) s (i + 1 + 1)
    behind_way α = step_at d (BehindVal ++ α) (parts start ∷ α) s (i + 1) d NAME h q refl refl

    pub val_refused : (f : Fault) → VariableRefused by_val d s (i + 1) f → Refused BehindVal d s (i + 1) f
    val_refused f r α = behind_way α ∙ r start α

    module _ (ns ms : List Node) (v : Parsed) (m : VariableEnded by_val d s (i + 1) used ns ms v) where
      pub val_no_becomes : (get_or s v.next STOP ≡ BECOMES → ⊥) → Refused BehindVal d s (i + 1) (Syntax v.next)
      val_no_becomes n α =
          let c : Symbol = get_or s v.next STOP in
          behind_way α ∙ m.met.0 start α
          ∙ refuse_at d (parts start ∷ α) s v.next refl (refuses (parts start) α c (not_on c LEFT _ _ _ m.met.1.0 ∙ not_on c DOT _ _ _ m.met.1.1 ∙ ap (mapped no_parts) (not_on c BECOMES _ _ refuse n)))

      pub made_val : i < length s → get_or s i STOP ≡ VAL → v.next < length s → get_or s v.next STOP ≡ BECOMES → v.used < length ms → Destined (ValWay d s i) s i used ns (set ms v.used (Val i v.root)) (record { next = v.next + 1; used = v.used + 1; root = v.used })
      made_val h₀ q₀ h₁ q₁ r = (
        grown 0 IsDestination of_target (ValWay d s i) s i used ns ms v.used (v.next + 1) (Val i v.root) r (val i m.tree) (omega arith) m.more (omega (arith, m.few)) m.kept
            (λ g a. (v.root, m.below, a, keep_variable v.used ms _ g m.tree v.root m.below m.is))
            (items_here s i VAL h₀ q₀ ∙ ap (λ (w : List Token). token VAL i ∷ w) (m.text ∙ ap (of_variable m.tree) (items_here s v.next BECOMES h₁ q₁)))
            (λ α. behind_way α ∙ m.met.0 start α ∙ step_at d (parts start ∷ α) (a_source ∷ α) s v.next d BECOMES h₁ q₁ refl refl),
        omega (arith, m.few),
      )

  -- VAL behind ':=', and first in a statement
  module _ (h : i < length s) (q : get_or s i STOP ≡ VAL) where
    onward_way : (α : List Goal) → at d (a_source ∷ α) s i ≡ at d (BehindVal ++ α) s (i + 1)
    onward_way α = step_at d (a_source ∷ α) (BehindVal ++ α) s i d VAL h q refl refl

    first_way : (α : List Goal) → at d (a_statement ∷ α) s i ≡ at d (BehindVal ++ α) s (i + 1)
    first_way α = step_at d (a_statement ∷ α) (BehindVal ++ α) s i d VAL h q refl refl

    pub onward_refused : (f : Fault) → Refused BehindVal d s (i + 1) f → Refused (a_source ∷ []) d s i f
    onward_refused f r α = onward_way α ∙ r α

    pub valued_refused : (f : Fault) → Refused BehindVal d s (i + 1) f → Refused (a_statement ∷ []) d s i f
    valued_refused f r α = first_way α ∙ r α

    module _ (ns ms : List Node) (p : Parsed) (o : Destined (ValWay d s i) s i used ns ms p) where
      pub val_onward : Destined (TargetWay d s i) s i used ns ms p
      val_onward = remet (ValWay d s i) (TargetWay d s i) s i used ns ms p (λ t w α. onward_way α ∙ w α) o

      pub val_first : TargetsMade d s i used ns ms p
      val_first = first_target d s i used ns ms p (remet (ValWay d s i) (TargetsWay d s i) s i used ns ms p (λ t w α. first_way α ∙ w α) o)
