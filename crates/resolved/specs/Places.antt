-- Where data and strings lie: one behind the other, in the order of the text, from place 0 on. Assumes nothing.
use Rattle.std.specs.Prelude.{ℕ, ◌+◌, List, [], ◌∷◌}
use Rattle.grammar.specs.Trees.{Module}
use Rattle.statics.specs.Scopes.{Text}
use Rattle.statics.specs.Space.{Charge, charges}
use Rattle.resolved.specs.Forms.{Span}

abbrev pub laid : ℕ → List Charge → List Span
laid p [] = []
laid p (c ∷ cs) = record { item = c.item; first = p; size = c.amount } ∷ laid (p + c.amount) cs

abbrev pub places : Text → Module → List Span
places x m = laid 0 (charges x m)
