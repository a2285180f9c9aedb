use Rattle.std.proofs.Common.{sym, ◌∙◌}
use Rattle.scopes.specs.Meanings.{env_means}
use Rattle.nodes.proofs.Results.{passed}
use Rattle.scopes.proofs.Following.{stops, goes, answered}
use Rattle.blocks.proofs.Aiming.{assigned}
use Rattle.blocks.proofs.simple.simple.Goals as goal

pub returns-in_err-wanted-in-Assign : goal.returns-in_err-wanted-in-Assign
returns-in_err-wanted-in-Assign c s simple is =
    let x = assigned _ _ s _ _ (sym c.in-Assign.ensures) is in
    passed _ _ c.from_residual.result c.from_residual.ensures.1 (x.4 (env_means c.args.env) ∙ stops _ _ _ (c.in_err-wanted-in-Assign.ensures x.0 x.2))

pub returns-in_ok-wanted-in-Assign : goal.returns-in_ok-wanted-in-Assign
returns-in_ok-wanted-in-Assign c s simple is =
    let x = assigned _ _ s _ _ (sym c.in-Assign.ensures) is in
    answered _ _ _ _ (x.4 (env_means c.args.env) ∙ goes _ _ _ (c.in_ok-wanted-in-Assign.ensures x.0 x.2)) (rw (c.front_of_targets.ensures x.0 x.2) at (c.into.ensures _ x.1 x.3))
