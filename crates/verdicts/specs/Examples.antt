-- Examples: texts, and the lines of the verdicts on them. Assumes nothing.
use Rattle.std.specs.Prelude.{ℕ, List, [], ◌∷◌, ◌++◌, codes}
use Rattle.verdicts.specs.Lines.{accepted, VerdictLine}

-- an INT is brought to a BYTE, in the second line
abbrev pub narrow_text : List ℕ
narrow_text = codes "DATA D; BYTE M; ENDDATA;" ++ (10 ∷ codes "PROC P (); M := M + 1 ENDPROC")

pub record Examples : Type 0 where
  pub empty : VerdictLine [] accepted
  pub narrow : VerdictLine narrow_text (codes "2:17: 11" ++ (10 ∷ []))
