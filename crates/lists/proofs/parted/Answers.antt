use Rattle.std.proofs.Common.{◌≡◌, ℕ, ◌<◌, sym, ap, ◌∙◌, arith}
use Rattle.nodes.specs.Nodes.{IsDestination}
use Rattle.lists.specs.declared.Shape.TheVariants.{More}
use Rattle.lists.specs.Lists.{shape_of}
use Rattle.lists.proofs.Listed.{Shaped}
use Rattle.lists.proofs.Alone.{alone_destination}
use Rattle.lists.proofs.Made.{many_more, many_one, exprs_more, exprs_one, values_more, values_one}
use Rattle.lists.proofs.parted.Goals as goal

pub returns-in_default : goal.returns-in_default
returns-in_default c =
    let ns = c.args.nodes.now in
    let k = c.args.list in
    let none : (l r : ℕ) → Shaped ns k (More l r) → l < k → r < k → ⊥ = λ l r s p q. c.in_default.not-More l r (c.shape_of.ensures ∙ ap (shape_of k) c.node_at.ensures ∙ s) in
    record {
      expressions = λ es is. exprs_one ns k es none is;
      values = λ vs is. values_one ns k vs none is;
      destinations = λ ds is. many_one ns k IsDestination ds none is;
      lower = tt;
    }

pub returns-then-last-list-clause-expressions : goal.returns-then-last-list-clause-expressions
returns-then-last-list-clause-expressions c es is = exprs_more c.args.nodes.now c.args.list es _ _ (sym (c.in-More.ensures ∙ ap (shape_of c.args.list) c.node_at.ensures)) is

pub returns-then-last-list-clause-values : goal.returns-then-last-list-clause-values
returns-then-last-list-clause-values c vs is = values_more c.args.nodes.now c.args.list vs _ _ (sym (c.in-More.ensures ∙ ap (shape_of c.args.list) c.node_at.ensures)) is

pub returns-then-last-list-clause-destinations : goal.returns-then-last-list-clause-destinations
returns-then-last-list-clause-destinations c ds is = many_more c.args.nodes.now c.args.list IsDestination (alone_destination c.args.nodes.now) ds _ _ (sym (c.in-More.ensures ∙ ap (shape_of c.args.list) c.node_at.ensures)) is

pub returns-else-front-list-clause-expressions : goal.returns-else-front-list-clause-expressions
returns-else-front-list-clause-expressions c es is = exprs_one c.args.nodes.now c.args.list es (λ l r s p q.
    let h = c.in-More.ensures ∙ ap (shape_of c.args.list) c.node_at.ensures in
    let d : c.in-More.front ≡ l = cc (s, h) in
    let e : c.in-More.last ≡ r = cc (s, h) in
    omega (arith, d, e, p, q, c.else-front-list.either)) is

pub returns-else-front-list-clause-values : goal.returns-else-front-list-clause-values
returns-else-front-list-clause-values c vs is = values_one c.args.nodes.now c.args.list vs (λ l r s p q.
    let h = c.in-More.ensures ∙ ap (shape_of c.args.list) c.node_at.ensures in
    let d : c.in-More.front ≡ l = cc (s, h) in
    let e : c.in-More.last ≡ r = cc (s, h) in
    omega (arith, d, e, p, q, c.else-front-list.either)) is

pub returns-else-front-list-clause-destinations : goal.returns-else-front-list-clause-destinations
returns-else-front-list-clause-destinations c ds is = many_one c.args.nodes.now c.args.list IsDestination ds (λ l r s p q.
    let h = c.in-More.ensures ∙ ap (shape_of c.args.list) c.node_at.ensures in
    let d : c.in-More.front ≡ l = cc (s, h) in
    let e : c.in-More.last ≡ r = cc (s, h) in
    omega (arith, d, e, p, q, c.else-front-list.either)) is
