use Rattle.std.proofs.Common.{◌∙◌, ap, map, take, drop}
use Rattle.modes.specs.Meanings.{mode_means}
use Rattle.inventory.proofs.Pairs.{first_of, same_routine}
use Rattle.inventory.proofs.module_names.routine.Goals as goal

pub returns : goal.returns
returns c = λ x m is us e ms rest h.
    same_routine _ _ _ _ (ap (λ n. map (mode_means x) (take n (drop c.args.first ms))) c.saturating_sub.ensures ∙ first_of (mode_means x) us rest c.args.first c.args.end ms e h) (c.maybe_mode.ensures m is x)
