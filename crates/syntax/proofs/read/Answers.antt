use Rattle.std.proofs.Common.{arith}
use Rattle.std.proofs.lemmas.Result.{err_from_is_err_and}
use Rattle.syntax.specs.Parsing.{uncut, cut}
use Rattle.syntax.proofs.Reading.{short_text}
use Rattle.syntax.proofs.read.Goals as goal

pub returns-in_err-cut : goal.returns-in_err-cut
returns-in_err-cut c =
    let p = err_from_is_err_and c.from_residual.result c.from_residual.ensures.1 in
    rw (p.1, p.2) (uncut _ c.in_err-cut.ensures.meets)

pub overflow_cast-end : goal.overflow_cast-end
overflow_cast-end c = omega (arith, short_text _ _ c.in_ok-cut.ensures.meets)

pub returns : goal.returns
returns c = cut _ c.in_ok-cut.ensures.meets c.parse.ensures
