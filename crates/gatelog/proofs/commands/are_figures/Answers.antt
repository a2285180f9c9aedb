use Rattle.std.proofs.Common.{rules}
use Rattle.std.proofs.lemmas.Str.Parse.{numerals_by_value, tells_by_index}
use Rattle.gatelog.proofs.commands.are_figures.Goals as goal

pub returns : goal.returns
returns c =
    let own = numerals_by_value _ tells_by_index in (
      λ e. record { some = search rules; few = search rules; digits = own.to c.args.text.now (search rules) },
      λ f. let h = own.from c.args.text.now f.digits in search rules,
    )
