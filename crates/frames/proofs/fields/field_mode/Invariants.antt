use Rattle.std.proofs.Common.{◌≡◌}
use Rattle.grammar.specs.Trees.{Fields}
use Rattle.nodes.specs.Nodes.{IsFields}
use Rattle.statics.specs.Modules.{last_mode}
use Rattle.lists.specs.Lists.{Stand, of_fields, left}
use Rattle.frames.proofs.fields.field_mode.Given as goal

abbrev pub invariant-loop-field : goal.invariant-loop-field
invariant-loop-field l = (fs : Fields) → IsFields fs l.nodes l.k → (gs : Fields) × Stand IsFields (of_fields gs) l.nodes (left l.field-iterator) × (last_mode fs ≡ last_mode gs)
