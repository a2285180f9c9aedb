-- What the functions that read bricks answer. Assumes nothing.
use Rattle.std.specs.Prelude.{◌≡◌, ℕ, ◌+◌, ◌<◌, List, [], ◌∷◌}
use Rattle.grammar.specs.Symbols.{NAME, SEMI, ENDDATA, ENDPROC, PROC, DATA, LEFT, RIGHT}
use Rattle.grammar.specs.declared.Symbol.{Symbol}
use Rattle.grammar.specs.Trees.{Token, token, key, Many, of_many, Opt, of_opt, Dec, of_dec, Fields, of_fields, Mode, of_mode}
use Rattle.grammar.specs.Machine.{Goal, tok, all, decs, a_brick, a_body, Sort}
use Rattle.nodes.specs.Made.{at}
use Rattle.nodes.specs.Nodes.{At, IsOpt, IsFields, IsMode}
use Rattle.nodes.specs.declared.Node.{Node}
use Rattle.nodes.specs.declared.Node.TheVariants.{Heading}
use Rattle.declarations.specs.Declaring.{Listing, of_listing}

-- the terminals that a brick begins with
abbrev pub brick_firsts : List Symbol
brick_firsts = DATA ∷ PROC ∷ []

-- what follows DATA: a name, at i, and declarations up to ENDDATA
abbrev pub Storing : Sort → List Goal
Storing how = tok NAME ∷ tok SEMI ∷ all (decs how) ∷ tok ENDDATA ∷ []

abbrev pub of_storing : (how : Sort) → ℕ → Many (Dec (Listing how)) → List Token → List Token
of_storing how i ds r = token NAME i ∷ key SEMI ∷ of_many (of_dec (of_listing how)) SEMI ds (key ENDDATA ∷ r)

-- a procedure up to its body, PROC being at i: parameters and result
abbrev pub Head : Type 0
Head = Opt Fields × Opt Mode

abbrev pub of_head : ℕ → Head → List Token → List Token
of_head i t r = key PROC ∷ token NAME (i + 1) ∷ token LEFT (i + 2) ∷ of_opt of_fields t.0 (key RIGHT ∷ of_opt of_mode t.1 (key SEMI ∷ r))

abbrev pub IsHead : ℕ → Head → List Node → ℕ → Type 0
IsHead i t ns k = (p : ℕ) × (q : ℕ) × (p < k) × (q < k) × At ns k (Heading (i + 1) (i + 2) p q) × IsOpt IsFields t.0 ns p × IsOpt IsMode t.1 ns q

abbrev pub HeadWay : ℕ → List Symbol → ℕ → Head → ℕ → Type 0
HeadWay d s i t j = (α : List Goal) → at d (a_brick ∷ α) s i ≡ at d (a_body ∷ tok ENDPROC ∷ α) s j
