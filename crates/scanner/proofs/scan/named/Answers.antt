use Rattle.std.proofs.Common.{Some, None, sym, ap}
use Rattle.symbols.specs.See.{named as named_as}
use Rattle.symbols.proofs.Lookup.{keyword_is}
use Rattle.scanner.proofs.scan.named.Goals as goal

pub returns-in-Some-clause-symbol : goal.returns-in-Some-clause-symbol
returns-in-Some-clause-symbol c =
    ap (λ o. Some (named_as o)) (sym (keyword_is c.args.name.now (Some c.in-Some.word) c.in-Some.ensures))

pub returns-in-None-clause-symbol : goal.returns-in-None-clause-symbol
returns-in-None-clause-symbol c =
    ap (λ o. Some (named_as o)) (sym (keyword_is c.args.name.now None c.in-None.ensures))
