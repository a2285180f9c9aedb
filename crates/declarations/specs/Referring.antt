-- References to arrays whose elements refer to arrays, and so on to the innermost mode. Assumes nothing.
use Rattle.std.specs.Prelude.{◌≡◌, ℕ, ◌+◌, ◌<◌, List, [], ◌∷◌, length, ◌≢◌, slice_index_or}
use Rattle.grammar.specs.Symbols.{STOP, REF, ARRAY, LEFT, RIGHT}
use Rattle.grammar.specs.declared.Symbol.{Symbol}
use Rattle.grammar.specs.Trees.{Amode, of_amode}
use Rattle.grammar.specs.Machine.{an_amode}
use Rattle.nodes.specs.Made.{Made, Way}
use Rattle.nodes.specs.Nodes.{IsAmode}
use Rattle.nodes.specs.declared.Node.{Node}
use Rattle.nodes.specs.declared.Parsed.{Parsed}

-- a reference to an array is at i
abbrev pub Refers : List Symbol → ℕ → Type 0
Refers s i = (slice_index_or s i STOP ≡ REF) × (slice_index_or s (i + 1) STOP ≡ ARRAY) × (i + 1 < length s)

-- From i up to k there is nothing but such references, each without brackets, or with them where d more may be open.
pub data Behind (d : ℕ) (s : List Symbol) (i : ℕ) : ℕ → Type 0 where
  start : Behind d s i i
  bare : (j : ℕ) → Behind d s i j → Refers s j → slice_index_or s (j + 2) STOP ≢ LEFT → Behind d s i (j + 2)
  brackets : (j : ℕ) → Behind d s i j → Refers s j → slice_index_or s (j + 2) STOP ≡ LEFT → slice_index_or s (j + 3) STOP ≡ RIGHT → 0 < d → Behind d s i (j + 4)

-- from i on the mode of an array's elements was read
abbrev pub AmodeMade : ℕ → List Symbol → ℕ → ℕ → List Node → List Node → Parsed → Type 0
AmodeMade d s i used ns ms p = Made 0 Amode IsAmode of_amode (Way (an_amode ∷ []) d s i) s i used ns ms p
