use Rattle.std.proofs.Common.{refl, arith}
use Rattle.grammar.specs.Symbols.{NAME}
use Rattle.nodes.proofs.Build.{inside}
use Rattle.declarations.proofs.Sharing.{made_bare}
use Rattle.declarations.proofs.bare_name.Goals as goal

pub returns : goal.returns
returns c =
    let e = c.in_ok-expect.ensures in
    let h = inside _ _ NAME refl e in
    rw (c.put.ensures.written, c.put.ensures.is) (made_bare c.args.from.depth c.args.from.symbols.now c.args.from.next c.args.from.used c.args.nodes.now h e (omega (arith, h)))
