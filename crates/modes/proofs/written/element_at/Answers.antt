use Rattle.std.proofs.Common.{ap, ◌∙◌, arith}
use Rattle.statics.specs.Written.{element_of}
use Rattle.modes.specs.Meanings.{behind, IsArrayOf}
use Rattle.modes.proofs.Behind.{one_more}
use Rattle.modes.proofs.written.element_at.Goals as goal

pub loop-elements-preserved : goal.loop-elements-preserved
loop-elements-preserved c = record {
  within = omega (arith, c.in-Some.ensures.below);
  reached = λ m h.
      let at = c.loop-elements.invariant.reached m h in
      let next : IsArrayOf c.args.nodes.now at.0 c.in-Some.elements = c.in-Some.ensures.cases at.0 at.1 in
      (next.0, next.1, λ x. at.2 x ∙ ap (behind c.loop-elements.arrays) (next.2 x) ∙ one_more c.loop-elements.arrays (element_of x next.0));
}
