use Rattle.std.proofs.Common.{refl, arith}
use Rattle.nodes.proofs.Results.{passed}
use Rattle.nodes.proofs.Build.{rebased}
use Rattle.statements.proofs.Targets.{valued_refused, val_first}
use Rattle.statements.proofs.assignments.valued.Goals as goal

pub returns-in_err-first : goal.returns-in_err-first
returns-in_err-first c =
    passed _ _ c.from_residual.result c.from_residual.ensures.1 (valued_refused c.args.from.depth c.args.from.symbols.now c.args.from.next c.args.from.used c.requires.there c.requires.valued _ c.in_err-first.ensures)

pub assignment-requires : goal.assignment-requires
assignment-requires c =
    let o = c.in_ok-first.ensures in
    record {
      room = omega (arith, c.val_target.auto.nodes);
      begun = rebased 0 _ _ _ _ _ _ _ _ _ _ (λ j l. refl) (val_first c.args.from.depth c.args.from.symbols.now c.args.from.next c.args.from.used c.requires.there c.requires.valued _ _ c.in_ok-first.first o);
      few = o.1;
    }
