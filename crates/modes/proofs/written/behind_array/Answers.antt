use Rattle.std.proofs.Common.{inl, inr, sym, ◌∙◌}
use Rattle.modes.proofs.Arrays.{is_array, is_array_brackets}
use Rattle.modes.proofs.written.behind_array.Goals as goal

pub returns-in-RefArray-clause-cases : goal.returns-in-RefArray-clause-cases
returns-in-RefArray-clause-cases c = λ m h.
    elim c.in-RefArray.is [
      | inl a ↦ is_array c.args.nodes.now c.args.k c.in-RefArray.inner m (sym c.node_at.ensures ∙ a) h
      | inr a ↦ is_array_brackets c.args.nodes.now c.args.k a.0 c.in-RefArray.inner m (sym c.node_at.ensures ∙ a.1) h
    ]
