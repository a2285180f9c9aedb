use Rattle.std.proofs.Common.{arith}
use Rattle.nodes.proofs.Results.{passed}
use Rattle.modules.proofs.Moditems.{ext_data_refused, made_ext_data}
use Rattle.modules.proofs.external_store.Goals as goal

pub returns-in_err-d : goal.returns-in_err-d
returns-in_err-d c =
    passed _ _ c.from_residual.result c.from_residual.ensures.1 (ext_data_refused c.args.from.depth c.args.from.symbols.now c.args.from.next c.args.from.used (omega (arith, c.requires.there)) c.requires.opening c.requires.there c.requires.second _ c.in_err-d.ensures)

pub returns : goal.returns
returns c =
    let m = c.in_ok-d.ensures in
    rw (c.put.ensures.written, c.put.ensures.is) (made_ext_data c.args.from.depth c.args.from.symbols.now c.args.from.next c.args.from.used (omega (arith, c.requires.there)) c.requires.opening c.requires.there c.requires.second _ _ c.in_ok-d.d (omega (arith, m.few, m.within, c.requires.room)) m)
