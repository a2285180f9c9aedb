use Rattle.std.proofs.Common.{rules, tests}
use Rattle.names.specs.Spelling.{full}
use Rattle.names.proofs.Laws.{last_found}
use Rattle.names.proofs.last.Goals as goal

pub returns : goal.returns
returns g c = last_found (g.N.Named.spelled c.args.context.now) (full c.args.wanted) c.args.entries.now c.rposition.result (search (rules, tests))
