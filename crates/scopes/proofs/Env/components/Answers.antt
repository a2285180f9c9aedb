use Rattle.std.proofs.Common.{rules, length, ap, ◌∙◌, sym}
use borrow.Author.Tests.{tests}
use Rattle.std.proofs.lemmas.Iterator.{YieldsList-from_slice}
use Rattle.std.proofs.lemmas.Iterator.Consumers.{count_from_yields_List, YieldsList-from_filter}
use Rattle.std.proofs.lemmas.List.{length-map}
use Rattle.texts.specs.Facts.{facts}
use Rattle.scopes.proofs.Parts.{is_of, record_modes_are}
use Rattle.scopes.proofs.Env.components.Goals as goal

pub returns : goal.returns
returns c =
    let x = facts c.args.self.text in
    let r = x.word c.args.owner in
    count_from_yields_List c.filter.result _ c.count.ensures.ran (YieldsList-from_filter _ (is_of x r) (YieldsList-from_slice c.args.self.parts.now cc) c.filter.ensures.closure (λ y b q k. search (rules, tests)))
    ∙ sym (ap length (record_modes_are x c.args.self.parts.now r) ∙ length-map _ _)
