-- The terminal that decides: a mode begins, or none does. Assumes nothing.
use Rattle.std.proofs.Common.{◌≡◌, ℕ, ◌<◌, true, false, List, [], ◌∷◌, length, get_or, refl, ap, ◌∙◌}
use Rattle.grammar.specs.Symbols.{among, STOP, INT, BYTE, REF}
use Rattle.grammar.specs.declared.Symbol.{Symbol}
use Rattle.grammar.specs.Machine.{Goal, refuse, at_mode, step_to}
use Rattle.grammar.proofs.Right.{clash, among_but as found_in}
use Rattle.nodes.proofs.Build.{alike, not_on}
use Rattle.nodes.specs.Made.{at}
use Rattle.declarations.specs.Declaring.{mode_firsts}

-- what holds of each terminal that a mode begins with
firsts : (P : Symbol → Type 0) → P INT → P BYTE → P REF → (c : Symbol) → among mode_firsts c ≡ true → P c
firsts P a b e c h = found_in INT (BYTE ∷ REF ∷ []) P c a (found_in BYTE (REF ∷ []) P c b (found_in REF [] P c e (λ x. absurd (clash x refl)))) h

-- two stacks that take alike each terminal that a mode begins with
pub mode_alike : (d : ℕ) (γ β : List Goal) (s : List Symbol) (i : ℕ) → i < length s → among mode_firsts (get_or s i STOP) ≡ true → step_to γ INT ≡ step_to β INT → step_to γ BYTE ≡ step_to β BYTE → step_to γ REF ≡ step_to β REF → at d γ s i ≡ at d β s i
mode_alike d γ β s i h q a b e = alike d γ β s i (get_or s i STOP) h refl (firsts (λ c. step_to γ c ≡ step_to β c) a b e (get_or s i STOP) q)

-- no mode begins
pub mode_refuses : (c : Symbol) → (c ≡ INT → ⊥) → (c ≡ BYTE → ⊥) → (c ≡ REF → ⊥) → at_mode c ≡ refuse
mode_refuses c a b e = not_on c INT _ _ _ a ∙ not_on c BYTE _ _ _ b ∙ not_on c REF _ _ refuse e

pub no_mode : (c : Symbol) → among mode_firsts c ≡ false → at_mode c ≡ refuse
no_mode c h = mode_refuses c (λ e. clash (ap (among mode_firsts) e) h) (λ e. clash (ap (among mode_firsts) e) h) (λ e. clash (ap (among mode_firsts) e) h)
