use Rattle.std.proofs.Common.{sym}
use Rattle.scopes.specs.Meanings.{env_means}
use Rattle.scopes.proofs.Following.{answered}
use Rattle.blocks.proofs.Aiming.{valued}
use Rattle.blocks.proofs.simple.target.Goals as goal

pub returns-in-Val : goal.returns-in-Val
returns-in-Val c d is =
    let x = valued _ _ d _ _ (sym c.in-Val.ensures) is in
    answered _ _ _ _ (x.2 (env_means c.args.env)) (c.placed.ensures x.0 x.1)
