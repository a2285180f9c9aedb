-- The locals at the beginning of a body. Assumes nothing.
use Rattle.std.specs.Prelude.{◌≡◌, ℕ, List, ◌∷◌}
use Rattle.grammar.specs.Symbols.{SEMI}
use Rattle.grammar.specs.declared.Symbol.{Symbol}
use Rattle.grammar.specs.Trees.{Token, key, Local, of_local}
use Rattle.grammar.specs.Machine.{Goal, a_body, all, statements}
use Rattle.nodes.specs.Made.{at}

-- locals were read up to j, where further ones or statements may come; or where statements alone may come
abbrev pub LocalWay : {T : Type 0} → ℕ → List Symbol → ℕ → T → ℕ → Type 0
LocalWay d s i t j = (α : List Goal) → at d (a_body ∷ α) s i ≡ at d (a_body ∷ α) s j

abbrev pub LocalsWay : {T : Type 0} → ℕ → List Symbol → ℕ → T → ℕ → Type 0
LocalsWay d s i t j = (α : List Goal) → at d (a_body ∷ α) s i ≡ at d (all statements ∷ α) s j

-- the items of one declaration, with its ';'
abbrev pub of_ended : Local → List Token → List Token
of_ended l r = of_local l (key SEMI ∷ r)
