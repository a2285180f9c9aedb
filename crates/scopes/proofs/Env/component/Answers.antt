use Rattle.std.proofs.Common.{rules, ◌≡◌, option_map, ◌∙◌}
use borrow.Author.Tests.{tests}
use Rattle.std.proofs.lemmas.Iterator.{YieldsList-from_slice}
use Rattle.std.proofs.lemmas.Iterator.Consumers.{nth_from_yields_List, YieldsList-from_filter}
use Rattle.texts.specs.Facts.{facts}
use Rattle.modes.specs.Meanings.{mode_means}
use Rattle.scopes.proofs.Parts.{is_of, record_mode_at}
use Rattle.scopes.proofs.Env.component.Goals as goal

pub returns : goal.returns
returns c =
    let x = facts c.args.self.text in
    let r = x.word c.args.owner in
    let same : option_map (mode_means x) c.map.result ≡ option_map (λ y. mode_means x y.now.mode) c.nth.result = search rules in
    same
    ∙ record_mode_at x c.args.self.parts.now r c.args.k c.nth.result
    (nth_from_yields_List c.nth.result c.nth.new.self c.args.k c.nth.ensures.ran (YieldsList-from_filter _ (is_of x r) (YieldsList-from_slice c.args.self.parts.now cc) c.filter.ensures.closure (λ y b q k. search (rules, tests))))
