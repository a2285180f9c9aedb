use Rattle.std.proofs.Common.{sym}
use Rattle.scopes.proofs.Seeking.{last_component}
use Rattle.scopes.proofs.Env.component_called.Goals as goal

pub returns-clause-called : goal.returns-clause-called
returns-clause-called c =
    let e = c.args.self in
    sym (last_component e.text e.parts.now c.args.owner c.args.item _ _ c.last.result c.spelling.ensures c.spelling-2.ensures c.last.ensures)
