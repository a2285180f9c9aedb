use Rattle.std.proofs.Common.{ℕ, [], ◌∷◌, map}
use Rattle.grammar.specs.Trees.{Many}
use Rattle.nodes.specs.Nodes.{IsMany, IsName}
use Rattle.statics.specs.Modules.{names_of}
use Rattle.lists.specs.Lists.{left}
use Rattle.frames.specs.Frames.{Kept}
use Rattle.space.specs.Charges.{charge, charge_means}
use Rattle.frames.proofs.Filled.{Filling}
use Rattle.space.proofs.charging.put_shared.Given as goal

abbrev pub invariant-loop-name : goal.invariant-loop-name
invariant-loop-name l =
    Kept l.fn.start l.fn.charges l.start l.charges
    × ((ns : Many ℕ) → IsMany IsName ns l.nodes l.list → Filling charge_means (λ n. charge l.amount n ∷ []) IsName l.nodes (left l.name-iterator) (map (charge l.amount) (names_of ns)) l.fn.start l.fn.charges l.start l.charges)
