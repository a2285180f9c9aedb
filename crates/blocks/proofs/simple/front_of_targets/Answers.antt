use Rattle.std.proofs.Common.{sym, ◌∙◌}
use Rattle.blocks.specs.Statements.{first_of}
use Rattle.blocks.proofs.Agreeing.{front_of_first}
use Rattle.blocks.proofs.Aiming.{valued, unvalued}
use Rattle.blocks.proofs.simple.front_of_targets.Goals as goal

pub returns-in-Val : goal.returns-in-Val
returns-in-Val c ds is =
    let x = valued _ _ (first_of ds) _ _ (sym c.in-Val.ensures) (c.first_target-first.ensures ds is) in
    sym x.3 ∙ front_of_first ds

pub returns-in_default : goal.returns-in_default
returns-in_default c ds is =
    let x = unvalued _ _ (first_of ds) (λ i r at. c.in_default.not-Val i r (c.node_at.ensures ∙ at)) (c.first_target-first.ensures ds is) in
    c.front.ensures.variable x.0 x.1 ∙ sym x.2 ∙ front_of_first ds
