use Rattle.std.proofs.Common.{length, Some, option_map, take, zero-add, refl, ap, sym, ◌∙◌}
use Rattle.std.specs.List.{sum_by}
use Rattle.std.proofs.lemmas.Option.{slice_get_past, slice_get_read}
use Rattle.resolving.specs.Meanings.{span_means}
use Rattle.resolving.proofs.Laid.{lies, laid_at}
use Rattle.resolving.proofs.span_at.Goals as goal

pub returns-in_err-charge : goal.returns-in_err-charge
returns-in_err-charge c = λ few.
    let cs = c.args.charges.now in
    ap (option_map span_means) c.from_residual.ensures
    ∙ sym (laid_at cs 0 c.args.i ∙ ap (option_map (lies _)) (slice_get_past cs c.args.i c.in_err-charge.ensures.lookup.3))

pub returns : goal.returns
returns c = λ few.
    let cs = c.args.charges.now in
    let charge = c.in_ok-charge.charge.now in
    let found = c.in_ok-charge.ensures.lookup in
    ap (λ p. Some (lies p charge)) (c.places.ensures few ∙ sym (zero-add (sum_by (λ d. d.amount) (take c.args.i cs))))
    ∙ sym (laid_at cs 0 c.args.i ∙ ap (option_map (lies _)) (slice_get_read cs (length cs) c.args.i charge refl found.3.0 found.1))
