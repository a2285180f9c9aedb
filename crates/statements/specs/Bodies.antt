-- What the functions that read statements answer. Assumes nothing.
use Rattle.std.specs.Prelude.{◌≡◌, ℕ, ◌-◌, ◌<◌, List, ◌∷◌}
use Rattle.grammar.specs.Symbols.{THEN}
use Rattle.grammar.specs.declared.Symbol.{Symbol}
use Rattle.grammar.specs.Trees.{Token, key, Condition, Sequence, of_condition, of_sequence}
use Rattle.grammar.specs.Machine.{Goal, a_statement, arms_on}
use Rattle.nodes.specs.Made.{at}
use Rattle.nodes.specs.Nodes.{At, IsCondition, IsSequence}
use Rattle.nodes.specs.declared.Node.{Node}
use Rattle.nodes.specs.declared.Node.TheVariants.{When}

-- a condition and what is obeyed where it holds
abbrev pub Arm : Type 0
Arm = Condition × Sequence

abbrev pub of_arm : Arm → List Token → List Token
of_arm t r = of_condition t.0 (key THEN ∷ of_sequence t.1 r)

abbrev pub IsArm : Arm → List Node → ℕ → Type 0
IsArm t ns k = (l : ℕ) × (r : ℕ) × (l < k) × (r < k) × At ns k (When l r) × IsCondition t.0 ns l × IsSequence t.1 ns r

-- what follows IF, as far as it was read
abbrev pub ArmsWay : {T : Type 0} → ℕ → List Symbol → ℕ → T → ℕ → Type 0
ArmsWay d s i t j = (α : List Goal) → at d (a_statement ∷ α) s i ≡ at (d - 1) (arms_on ∷ α) s j
