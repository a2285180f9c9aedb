use Rattle.std.proofs.Common.{◌≡◌, ap, ◌∙◌, subst, append_assoc, arith}
use Rattle.std.specs.Fmt.{decimal}
use Rattle.answers.specs.Declines.{place_of}
use Rattle.answers.specs.Figures.{IsDecimal}
use Rattle.answers.specs.Lines.{column_of, line_of}
use Rattle.answers.proofs.Figures.{decimal_of}
use Rattle.answers.proofs.Decline.line.Goals as goal

pub returns : goal.returns
returns c =
    let at : c.place-place.result ≡ place_of c.args.self = c.place-place.ensures in
    record {
      row = decimal c.line.result;
      column = decimal c.column.result;
      number = decimal c.from.result;
      row_is = subst (λ v. IsDecimal v (decimal c.line.result)) (c.line.ensures.is ∙ ap (λ q. line_of c.args.text.now q.offset) at) (decimal_of c.line.result (omega arith));
      column_is = subst (λ v. IsDecimal v (decimal c.column.result)) (c.column.ensures.is ∙ ap (λ q. column_of c.args.text.now q.offset) at) (decimal_of c.column.result (omega arith));
      number_is = subst (λ v. IsDecimal v (decimal c.from.result)) (c.from.ensures ∙ c.number.ensures) (decimal_of c.from.result (omega arith));
      parts = simp (c.push_str-3.ensures.bytes, c.push_figures-3.ensures.bytes, c.push_str-2.ensures.bytes, c.push_figures-2.ensures.bytes, c.push_str.ensures.bytes, c.push_figures.ensures.bytes, c.new-line.ensures, append_assoc);
    }
