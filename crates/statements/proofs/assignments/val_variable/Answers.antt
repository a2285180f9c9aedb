use Rattle.std.proofs.Common.{refl, arith}
use Rattle.nodes.specs.Made.{by_val}
use Rattle.nodes.proofs.Results.{otherwise}
use Rattle.nodes.proofs.Build.{rebased}
use Rattle.nodes.proofs.Keep.{agree_set, agree_trans}
use Rattle.statements.proofs.Targets.{val_name}
use Rattle.statements.proofs.assignments.val_variable.Goals as goal

pub returns : goal.returns
returns c =
    otherwise c.variable.result (λ p m. rebased 0 _ _ _ _ _ _ _ _ _ p (agree_trans c.args.from.used c.args.from.used _ _ _ (omega arith) (rw c.put-name.ensures.written (agree_set c.args.from.used c.args.from.used c.args.nodes.now _ (omega arith))) m.kept) m) (λ f r. r)
    (c.variable.ensures by_val (rw (c.put-name.ensures.written, c.put-name.ensures.is) (rebased 0 _ _ _ _ _ _ _ _ _ _ (λ j l. refl) (val_name c.args.from.depth c.args.from.symbols.now c.args.from.next c.args.from.used c.args.nodes.now c.requires.there c.requires.named (omega arith)))))
