use Rattle.std.proofs.Common.{[], ◌∷◌, refl, ap, arith}
use Rattle.texts.specs.Facts.{facts}
use Rattle.space.specs.Charges.{charge_means}
use Rattle.space.specs.Strings.{strings_at}
use Rattle.frames.proofs.Filled.{ahead_one}
use Rattle.space.proofs.Dividing.{Part, Putting, own_none, divided, written, part_some, part_none, put_last, no_last, put_rest, put_out, put_body, put_value}
use Rattle.space.proofs.strings.+put_strings.Goals as goal
use Rattle.space.proofs.strings.+put_strings.Goals.{in-Some, in_default-further}

pub returns-in-Text : goal.returns-in-Text
returns-in-Text t c =
    let put = put_last (facts c.args.text) c.args.nodes.now c.args.k c.args.start c.args.charges.now (strings_at c.args.nodes.now c.loop-item.at) [] (c.in-Text.item ∷ []) (c.in-Text.item ∷ []) c.loop-item.start c.loop-item.charges c.put.result c.put.new.table
    (written c.args.nodes.now c.loop-item.at c.node_at-node.result c.in-Text.item c.node_at-node.ensures c.in-Text.is) refl
    (c.loop-item.invariant.1, c.loop-item.invariant.2) c.put.ensures.kept
    (ahead_one charge_means _ _ c.loop-item.start c.loop-item.charges c.put.result c.put.new.table (ap (λ a. record { item = c.in-Text.item; amount = a } ∷ []) c.size-amount.ensures) c.put.ensures.put) in
    let all = put_out (facts c.args.text) c.args.nodes.now c.args.k c.args.start c.args.charges.now [] c.put.result c.put.new.table refl put in
    record {
      kept = put.0;
      strings = all;
      body = put_body (facts c.args.text) c.args.nodes.now c.args.k c.args.start c.args.charges.now c.put.result c.put.new.table all;
      value = put_value (facts c.args.text) c.args.nodes.now c.args.k c.args.start c.args.charges.now c.put.result c.put.new.table all;
    }

pub loop-item-preserved : goal.loop-item-preserved
loop-item-preserved t c =
    let parts = divided c.args.nodes.now c.loop-item.at c.node_at-node.result c.parts_of-parts.result.front c.parts_of-parts.result.last c.node_at-node.ensures (own_none c.node_at-node.result c.in_default.not-Text c.in_default.not-Literal) c.parts_of-parts.ensures in
    let put : Putting (facts c.args.text) c.args.nodes.now c.args.k c.args.start c.args.charges.now (Part c.args.nodes.now c.loop-item.at c.parts_of-parts.result.front) c.match-further.start c.match-further.charges =
    elim c.match-further.branch [
      | in-Some w ↦ rw (w.charges-is, w.start-is) (put_last (facts c.args.text) c.args.nodes.now c.args.k c.args.start c.args.charges.now _ _ _ _ _ _ _ _ parts (part_some c.args.nodes.now c.loop-item.at _ _ w.in-Some.ensures.same w.in-Some.ensures.below) (c.loop-item.invariant.1, c.loop-item.invariant.2) w.put_strings-start.ensures.kept w.put_strings-start.ensures.strings)
      | in_default-further w ↦ rw (w.charges-is, w.start-is) (no_last (facts c.args.text) c.args.nodes.now c.args.k c.args.start c.args.charges.now _ _ _ _ _ parts (part_none c.args.nodes.now c.loop-item.at _ w.in_default-further.ensures.same) (c.loop-item.invariant.1, c.loop-item.invariant.2))
    ] in
    let rest = put_rest (facts c.args.text) c.args.nodes.now c.args.k c.args.start c.args.charges.now _ _ _ _ (part_some c.args.nodes.now c.loop-item.at _ _ c.in-Some-further.ensures.same c.in-Some-further.ensures.below) put in
    (omega (arith, c.in-Some-further.ensures.below), rest.0, rest.1)

pub returns-in-None : goal.returns-in-None
returns-in-None t c =
    let parts = divided c.args.nodes.now c.loop-item.at c.node_at-node.result c.parts_of-parts.result.front c.parts_of-parts.result.last c.node_at-node.ensures (own_none c.node_at-node.result c.in_default.not-Text c.in_default.not-Literal) c.parts_of-parts.ensures in
    let put : Putting (facts c.args.text) c.args.nodes.now c.args.k c.args.start c.args.charges.now (Part c.args.nodes.now c.loop-item.at c.parts_of-parts.result.front) c.match-further.start c.match-further.charges =
    elim c.match-further.branch [
      | in-Some w ↦ rw (w.charges-is, w.start-is) (put_last (facts c.args.text) c.args.nodes.now c.args.k c.args.start c.args.charges.now _ _ _ _ _ _ _ _ parts (part_some c.args.nodes.now c.loop-item.at _ _ w.in-Some.ensures.same w.in-Some.ensures.below) (c.loop-item.invariant.1, c.loop-item.invariant.2) w.put_strings-start.ensures.kept w.put_strings-start.ensures.strings)
      | in_default-further w ↦ rw (w.charges-is, w.start-is) (no_last (facts c.args.text) c.args.nodes.now c.args.k c.args.start c.args.charges.now _ _ _ _ _ parts (part_none c.args.nodes.now c.loop-item.at _ w.in_default-further.ensures.same) (c.loop-item.invariant.1, c.loop-item.invariant.2))
    ] in
    let all = put_out (facts c.args.text) c.args.nodes.now c.args.k c.args.start c.args.charges.now _ _ _ (part_none c.args.nodes.now c.loop-item.at _ c.in-None.ensures.same) put in
    record {
      kept = put.0;
      strings = all;
      body = put_body (facts c.args.text) c.args.nodes.now c.args.k c.args.start c.args.charges.now _ _ all;
      value = put_value (facts c.args.text) c.args.nodes.now c.args.k c.args.start c.args.charges.now _ _ all;
    }
