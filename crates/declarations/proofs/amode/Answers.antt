use Rattle.std.proofs.Common.{arith}
use Rattle.nodes.proofs.Results.{passed}
use Rattle.declarations.proofs.Referring.{not_before, behind_refused}
use Rattle.declarations.proofs.amode.Goals as goal

pub bare_amode-requires-clause-room : goal.bare_amode-requires-clause-room
bare_amode-requires-clause-room c =
    let h = not_before c.args.from.depth c.args.from.symbols.now c.args.from.next _ c.in_ok-begin.ensures.0 in
    omega (arith, h, c.requires.room)

pub returns-in_err-mode : goal.returns-in_err-mode
returns-in_err-mode c =
    passed _ _ c.from_residual-in_err-mode.result c.from_residual-in_err-mode.ensures.1 (behind_refused c.args.from.depth c.args.from.symbols.now c.args.from.next _ c.in_ok-begin.ensures.0 _ c.in_err-mode.ensures)
