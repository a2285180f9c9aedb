use Rattle.std.proofs.Common.{flat_map, length, None, sym, ap, refl, ◌∙◌}
use Rattle.grammar.specs.Machine.{moditems}
use Rattle.nodes.specs.Nodes.{IsModitem}
use Rattle.statics.specs.declared.Refusal.TheVariants.{TooManyLocals}
use Rattle.statics.specs.Written.{gather}
use Rattle.statics.specs.Crowds.{moditem_allowances}
use Rattle.statics.specs.JudgeLimits.{beyond, least, report}
use Rattle.lists.specs.Lists.{left}
use Rattle.frames.specs.Rooms.{Roomy}
use Rattle.frames.proofs.Entering.{Roomed, module_roomed}
use Rattle.limits.proofs.Least.{meet_none}
use Rattle.limits.proofs.Looking.{looking_in_many, looking_on, looking_out}
use Rattle.limits.proofs.crowds.crowds.Goals as goal

pub loop-item-init : goal.loop-item-init
loop-item-init c = (
  refl,
  refl,
  λ x m is room e.
      let all = least (flat_map beyond (gather (moditem_allowances x) m)) in
      let items = left c.entries-item-items.result in
      looking_in_many beyond (moditem_allowances x) (Roomed x c.args.count (length c.args.names.now)) c.args.nodes.now m (left c.into_iter-item-iterator.result) items None all (ap left c.into_iter-item-iterator.ensures.into_iter_gives)
      (module_roomed x c.args.count (length c.args.names.now) c.args.nodes.now m items (c.entries-item-items.ensures.repeated moditems m tt is) room e)
      (sym (meet_none all)),
)

pub loop-item-preserved : goal.loop-item-preserved
loop-item-preserved c = (
  c.beyond.ensures.length ∙ c.loop-item.invariant.0,
  c.beyond.ensures.front ∙ c.loop-item.invariant.1,
  λ x m is room e.
      looking_on beyond (moditem_allowances x) (Roomy x c.args.count) (length c.args.names.now) IsModitem c.args.nodes.now (left c.loop-item.item-iterator) c.in-Some.item (left c.next.new.self) c.loop-item.found (least (flat_map beyond (gather (moditem_allowances x) m))) c.in-Some.ensures.steps c.beyond.result c.earlier-found.result (length c.loop-item.names) c.loop-item.invariant.0 c.earlier-found.ensures (c.beyond.ensures.found x) (c.loop-item.invariant.2 x m is room e),
)

pub returns-in-Some-found-clause-judged : goal.returns-in-Some-found-clause-judged
returns-in-Some-found-clause-judged c = λ x m is room e.
    ap (report TooManyLocals) (sym (looking_out beyond (moditem_allowances x) (Roomed x c.args.count (length c.args.names.now)) c.args.nodes.now _ _ _ c.in-None.ensures.steps.0 (c.loop-item.invariant.2 x m is room e)) ∙ c.in-Some-found.is)

pub returns-in-None-found-clause-judged : goal.returns-in-None-found-clause-judged
returns-in-None-found-clause-judged c = λ x m is room e.
    ap (report TooManyLocals) (sym (looking_out beyond (moditem_allowances x) (Roomed x c.args.count (length c.args.names.now)) c.args.nodes.now _ _ _ c.in-None.ensures.steps.0 (c.loop-item.invariant.2 x m is room e)) ∙ c.in-None-found.is)
