-- What the derived test of two symbols says. Assumes nothing.
use Rattle.std.proofs.Common.{◌≡◌, Bool, true, false, not, sym, rules}
use Rattle.grammar.specs.Symbols.{Symbol, Says}
use Rattle.grammar.specs.contracts.Symbol.{the_type}
use denote.Enum.Bare.{sameb, same_true, same_false, differs_true, differs_false}

pub said : (a b : Symbol) (r : Bool) → r ≡ sameb the_type a b → Says r (a ≡ b)
said a b true e = same_true the_type (search rules) a b (sym e)
said a b false e = same_false the_type a b (sym e)

-- where a test for being another passes, and where it fails
pub differs : (a b : Symbol) → true ≡ not (sameb the_type a b) → a ≡ b → ⊥
differs a b e = differs_true the_type a b (sym e)

pub agrees : (a b : Symbol) → false ≡ not (sameb the_type a b) → a ≡ b
agrees a b e = differs_false the_type (search rules) a b (sym e)
