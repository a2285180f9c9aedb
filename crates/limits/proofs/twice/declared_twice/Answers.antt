use Rattle.std.proofs.Common.{◌≡◌, List, flat_map, length, take, sym, ap, ◌∙◌, refl, arith, length-take-le}
use Rattle.std.proofs.lemmas.List.{length-map}
use Rattle.grammar.specs.Machine.{moditems}
use Rattle.nodes.specs.Nodes.{IsModitem}
use Rattle.statics.specs.declared.Refusal.TheVariants.{DeclaredTwice}
use Rattle.statics.specs.DeclaredTwice.{moditem_scopes, scopes}
use Rattle.statics.specs.JudgeLimits.{doubles, least, report}
use Rattle.texts.specs.Facts.{facts}
use Rattle.lists.specs.Lists.{left}
use Rattle.scopes.specs.declared.Declared.{Declared}
use Rattle.frames.specs.Rooms.{Roomy}
use Rattle.frames.proofs.Entering.{Roomed}
use Rattle.limits.proofs.Looking.{looking_on, looking_out}
use Rattle.limits.proofs.Scoped.{moditems_in}
use Rattle.limits.proofs.Tables.{items_of, lent}
use Rattle.limits.proofs.twice.declared_twice.Goals as goal

pub loop-item-init : goal.loop-item-init
loop-item-init c = record {
  same = refl;
  front = refl;
  left = λ m is room within own.
      let own_names = items_of (take c.args.count c.args.names.now) in
      let part = lent c.get.result _ c.unwrap_or_default.result c.args.names.now 0 c.args.count c.get.ensures.lookup c.unwrap_or_default.ensures (omega arith) within in
      let size : length own_names ≡ c.args.count = length-map (take c.args.count c.args.names.now) (λ (d : Declared). d.item) ∙ length-take-le c.args.count c.args.names.now within in
      moditems_in (facts c.args.text) c.args.nodes.now c.args.count (length c.args.names.now) m (left c.into_iter-item-iterator.result) (left c.entries-item-items.result) own_names c.doubled-found.result (ap left c.into_iter-item-iterator.ensures.into_iter_gives) (c.entries-item-items.ensures.repeated moditems m tt is) room size own (c.doubled-found.ensures ∙ ap (λ (ds : List Declared). least (doubles (facts c.args.text) (items_of ds))) part);
}

pub loop-item-preserved : goal.loop-item-preserved
loop-item-preserved c = record {
  same = c.twice_in_moditem.ensures.length ∙ c.loop-item.invariant.same;
  front = c.twice_in_moditem.ensures.front ∙ c.loop-item.invariant.front;
  left = λ m is room within own.
      let x = facts c.args.text in
      looking_on (doubles x) (moditem_scopes x) (Roomy x c.args.count) (length c.args.names.now) IsModitem c.args.nodes.now (left c.loop-item.item-iterator) c.in-Some.item (left c.next.new.self) c.loop-item.found (least (flat_map (doubles x) (scopes x m))) c.in-Some.ensures.steps c.twice_in_moditem.result c.earlier-found.result (length c.loop-item.names) c.loop-item.invariant.same c.earlier-found.ensures c.twice_in_moditem.ensures.found (c.loop-item.invariant.left m is room within own);
}

pub returns-in-Some-found-clause-judged : goal.returns-in-Some-found-clause-judged
returns-in-Some-found-clause-judged c m is room within own =
    ap (report DeclaredTwice) (sym (looking_out (doubles (facts c.args.text)) (moditem_scopes (facts c.args.text)) (Roomed (facts c.args.text) c.args.count (length c.args.names.now)) c.args.nodes.now (left c.loop-item.item-iterator) c.loop-item.found (least (flat_map (doubles (facts c.args.text)) (scopes (facts c.args.text) m))) c.in-None.ensures.steps.0 (c.loop-item.invariant.left m is room within own)) ∙ c.in-Some-found.is)

pub returns-in-None-found-clause-judged : goal.returns-in-None-found-clause-judged
returns-in-None-found-clause-judged c m is room within own =
    ap (report DeclaredTwice) (sym (looking_out (doubles (facts c.args.text)) (moditem_scopes (facts c.args.text)) (Roomed (facts c.args.text) c.args.count (length c.args.names.now)) c.args.nodes.now (left c.loop-item.item-iterator) c.loop-item.found (least (flat_map (doubles (facts c.args.text)) (scopes (facts c.args.text) m))) c.in-None.ensures.steps.0 (c.loop-item.invariant.left m is room within own)) ∙ c.in-None-found.is)
