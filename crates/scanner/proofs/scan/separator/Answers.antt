use Rattle.std.proofs.Common.{sym, ◌∙◌}
use Rattle.std.proofs.lemmas.Result.{err_from_is_err_and}
use Rattle.scanner.proofs.Marks.{unmarked}
use Rattle.scanner.proofs.scan.separator.Goals as goal

pub returns-in_err-separator : goal.returns-in_err-separator
returns-in_err-separator c =
    let p = err_from_is_err_and c.from_residual.result c.from_residual.ensures.1 in
    let e = sym c.in_err-separator.was ∙ c.ok_or.ensures.value in
    rw (p.1, p.2) (unmarked c.args.text.now c.mark.result c.in_err-separator.field-0.0 c.mark.ensures e)
