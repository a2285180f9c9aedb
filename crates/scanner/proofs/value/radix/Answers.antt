use Rattle.std.proofs.Common.{None, sym, ap}
use Rattle.symbols.specs.See.{base_radix}
use Rattle.symbols.proofs.Lookup.{base_is}
use Rattle.scanner.proofs.value.radix.Goals as goal

pub returns-in-None-clause-is : goal.returns-in-None-clause-is
returns-in-None-clause-is c = ap base_radix (sym (base_is c.args.word.now None c.in-None.ensures))
