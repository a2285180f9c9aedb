use Rattle.std.proofs.Common.{arith}
use Rattle.std.proofs.lemmas.Grind.{common_steps}
use Rattle.symbols.specs.See.{value_of}
use Rattle.scanner.specs.Seen.{Small}
use Rattle.scanner.proofs.Numbers.{by_rule}
use Rattle.scanner.proofs.value.integer_value.Goals as goal

pub returns-in_default-clause-rule : goal.returns-in_default-clause-rule
returns-in_default-clause-rule c =
    let s : Small (value_of c.args.bytes.now) c.number_behind.result = grind (arith, common_steps) in
    by_rule c.args.bytes.now c.number_behind.result s
