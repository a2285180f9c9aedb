-- What the symbol of a dyadic operator says of it. Assumes nothing.
use Rattle.std.proofs.Common.{◌≡◌, ℕ, ◌⊎◌, cond, ◌&&◌, refl, arith}
use Rattle.grammar.specs.declared.Symbol.{Symbol}
use Rattle.grammar.specs.Symbols.{LAND, LOR, NEV}
use Rattle.grammar.specs.Trees.{Dyadic, land, lor, nev, spell}
use Rattle.statics.specs.Modes.{Mode, mode, number, INT, BYTE}
use Rattle.statics.specs.Expressions.{operand, result, is_byte}

-- logical operators
module _ (c : Symbol) (is : (c ≡ LAND) ⊎ ((c ≡ LOR) ⊎ (c ≡ NEV))) where
  pub logical_operand : {n : ℕ} (o : Dyadic n) → c ≡ spell o → number ≡ operand o
  logical_operand land e = refl
  logical_operand lor e = refl
  logical_operand nev e = refl
  logical_operand o e = absurd (grind arith)

  pub logical_result : {n : ℕ} (o : Dyadic n) (m k : Mode) → c ≡ spell o → cond (is_byte m && is_byte k) BYTE INT ≡ result o m k
  logical_result land m k e = refl
  logical_result lor m k e = refl
  logical_result nev m k e = refl
  logical_result o m k e = absurd (grind arith)

-- arithmetic
module _ (c : Symbol) (x : c ≡ LAND → ⊥) (y : c ≡ LOR → ⊥) (z : c ≡ NEV → ⊥) where
  pub arithmetic_operand : {n : ℕ} (o : Dyadic n) → c ≡ spell o → mode INT ≡ operand o
  arithmetic_operand land e = absurd (x e)
  arithmetic_operand lor e = absurd (y e)
  arithmetic_operand nev e = absurd (z e)
  arithmetic_operand _ e = refl

  pub arithmetic_result : {n : ℕ} (o : Dyadic n) (m k : Mode) → c ≡ spell o → INT ≡ result o m k
  arithmetic_result land m k e = absurd (x e)
  arithmetic_result lor m k e = absurd (y e)
  arithmetic_result nev m k e = absurd (z e)
  arithmetic_result _ m k e = refl
