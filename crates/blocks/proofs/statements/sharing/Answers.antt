use Rattle.std.proofs.Common.{◌≡◌, ℕ, ◌≤◌, length, sym, ap, ◌∙◌, subst, arith}
use Rattle.grammar.specs.Machine.{declareds, unset}
use Rattle.nodes.specs.Nodes.{IsName}
use Rattle.statics.specs.Written.{item_names}
use Rattle.lists.specs.Lists.{left, of_many}
use Rattle.blocks.proofs.Shared.{as_many, shared}
use Rattle.blocks.proofs.statements.sharing.Goals as goal

pub loop-init : goal.loop-init
loop-init c i is =
    let x = shared _ _ _ _ i (sym c.in-Given.ensures) is in
    let all = c.entries-items.ensures.repeated (declareds unset) x.0 tt x.1 in
    let e = ap (λ ks. length ks) (ap left (sym c.into_iter-iterator.ensures.into_iter_gives)) in
    let f : length (left c.into_iter-iterator.result) ≡ length (item_names i) = sym e ∙ as_many _ IsName (of_many x.0) _ all ∙ sym x.2 in
    (omega arith, subst (λ (n : ℕ). n ≤ c.args.init) (sym x.2) x.3)
