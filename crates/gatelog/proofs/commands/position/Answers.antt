use Rattle.std.proofs.Common.{[], ◌∷◌, refl, rules}
use Rattle.std.proofs.lemmas.Bool.Decides.{Decides-eqb}
use Rattle.std.proofs.lemmas.Slice.Eq.{strip_prefix_is}
use Rattle.std.specs.Str.{IsUtf8}
use Rattle.gatelog.proofs.Reading.{figures_utf8}
use Rattle.gatelog.proofs.commands.position.Goals as goal

pub returns-in_err-ok : goal.returns-in_err-ok
returns-in_err-ok c =
    let sign = strip_prefix_is Decides-eqb c.args.text.now (45 ∷ []) c.strip_prefix.result c.strip_prefix.ensures.cases in
    let figures = rw c.unwrap_or-figures.ensures at (c.if-not-are_figures.ensures.0 refl) in
    let utf8 : IsUtf8 c.args.text.now = figures_utf8 c.args.text c.strip_prefix.result sign figures in
    search rules
