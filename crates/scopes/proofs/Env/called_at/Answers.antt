use Rattle.std.proofs.Common.{arith, None, Some, ap, ◌∙◌}
use Rattle.std.proofs.lemmas.Bool.Decides.{nat_tests}
use Rattle.names.specs.Spelling.{alone}
use Rattle.scopes.proofs.Seeking.{last_declared}
use Rattle.scopes.proofs.Env.called_at.Goals as goal

pub returns-in_err-i-clause-called : goal.returns-in_err-i-clause-called
returns-in_err-i-clause-called c =
    let e = c.args.self in
    rw (last_declared e.text e.takes.now e.names.now c.args.item _ None (c.alone-wanted.ensures ∙ ap alone c.spelling.ensures) c.in_err-i.ensures) c.from_residual.ensures

pub returns-then-i-self-clause-called : goal.returns-then-i-self-clause-called
returns-then-i-self-clause-called c =
    let e = c.args.self in
    rw (last_declared e.text e.takes.now e.names.now c.args.item _ (Some c.in_ok-i.i) (c.alone-wanted.ensures ∙ ap alone c.spelling.ensures) c.in_ok-i.ensures) (grind (arith, nat_tests))

pub returns-else-i-self-clause-called : goal.returns-else-i-self-clause-called
returns-else-i-self-clause-called c =
    let e = c.args.self in
    rw (last_declared e.text e.takes.now e.names.now c.args.item _ (Some c.in_ok-i.i) (c.alone-wanted.ensures ∙ ap alone c.spelling.ensures) c.in_ok-i.ensures) (grind (arith, nat_tests))
