use Rattle.std.proofs.Common.{rules, ◌∙◌}
use borrow.Author.Tests.{tests}
use Rattle.std.proofs.lemmas.Iterator.{YieldsList-from_slice}
use Rattle.std.proofs.lemmas.Iterator.Consumers.{YieldsList-from_filter}
use Rattle.std.proofs.lemmas.Iterator.Search.{all_from_yields_List}
use Rattle.statics.specs.JudgeStatements.{is_plain}
use Rattle.modes.specs.Meanings.{mode_means}
use Rattle.texts.specs.Facts.{facts}
use Rattle.values.proofs.Parts.{all_plain}
use Rattle.scopes.proofs.Parts.{is_of}
use Rattle.values.proofs.plain_parts.Goals as goal

pub returns : goal.returns
returns c =
    let x = facts c.args.env.text in
    let r = x.word c.args.name in
    all_from_yields_List (λ c. is_plain (mode_means x c.mode)) _ _ c.all.result c.all.ensures.ran (YieldsList-from_filter _ (is_of x r) (YieldsList-from_slice c.args.env.parts.now cc) c.filter.ensures.closure (λ y b q k. search (rules, tests))) (λ y b q k. search (rules, tests))
    ∙ all_plain x c.args.env.parts.now r
