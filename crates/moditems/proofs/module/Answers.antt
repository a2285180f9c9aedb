use Rattle.std.proofs.Common.{ℕ, length, refl, sym, ap, ◌∙◌, subst}
use Rattle.grammar.specs.Machine.{moditems}
use Rattle.statics.specs.Scopes.{Env}
use Rattle.statics.specs.JudgeModules.{judge_moditem}
use Rattle.texts.specs.Facts.{facts}
use Rattle.scopes.specs.Meanings.{Answers}
use Rattle.lists.specs.Lists.{left}
use Rattle.frames.specs.Frames.{frame_means}
use Rattle.frames.specs.Rooms.{Roomy}
use Rattle.frames.proofs.Entering.{Roomed, module_roomed}
use Rattle.blocks.proofs.Framing.{same_frame}
use Rattle.moditems.proofs.Each.{judging_each, judging_on, judging_out}
use Rattle.moditems.proofs.module.Goals as goal

pub loop-item-init : goal.loop-item-init
loop-item-init c = record {
  same = refl;
  front = refl;
  judged = λ m is even many room.
      let x = facts c.args.frame.text in
      let n = length c.args.names.now in
      let all = module_roomed x c.args.frame.count n c.args.nodes.now m _ (c.entries-item-items.ensures.repeated moditems m tt is) room many in
      judging_each (judge_moditem (frame_means c.args.frame c.args.names.now)) (Roomed x c.args.frame.count n) c.args.nodes.now m _ _ (ap left (sym c.into_iter-item-iterator.ensures.into_iter_gives)) all;
}

pub loop-item-preserved : goal.loop-item-preserved
loop-item-preserved c = record {
  same = c.moditem.ensures.length ∙ c.loop-item.invariant.same;
  front = c.moditem.ensures.front ∙ c.loop-item.invariant.front;
  judged = λ m is even many room.
      let x = facts c.args.frame.text in
      let n = length c.args.names.now in
      judging_on (judge_moditem (frame_means c.args.frame c.args.names.now)) (Roomed x c.args.frame.count n) c.args.nodes.now _ _ _ _ _ _ _ c.in-Some.ensures.steps (c.loop-item.invariant.judged m is even many room)
      (λ a h.
      let inner = subst (λ (k : ℕ). Roomy x c.args.frame.count k a) (sym c.loop-item.invariant.same) h.1 in
      subst (λ (Δ : Env). Answers (λ u. tt) c.moditem.result (judge_moditem Δ a)) (same_frame c.args.frame c.loop-item.names c.args.names.now c.loop-item.invariant.front) (c.moditem.ensures.judged a h.0 even inner))
      c.and-result.ensures;
}

pub returns-clause-judged : goal.returns-clause-judged
returns-clause-judged c m is even many room = judging_out (judge_moditem (frame_means c.args.frame c.args.names.now)) (Roomed (facts c.args.frame.text) c.args.frame.count (length c.args.names.now)) c.args.nodes.now _ _ _ c.in-None.ensures.steps.0 (c.loop-item.invariant.judged m is even many room)
