use Rattle.std.proofs.Common.{ℕ, List, map, Option, sym, ap, ◌∙◌}
use Rattle.scopes.specs.declared.Declared.{Declared}
use Rattle.statics.specs.JudgeLimits.{alike_in, least}
use Rattle.statics.specs.JudgeLimits.{doubles as doubles_of}
use Rattle.texts.specs.Facts.{facts}
use Rattle.limits.proofs.Least.{meet, meet_assoc, least_append}
use Rattle.limits.proofs.doubles.doubled.Goals as goal

pub loop-first-preserved : goal.loop-first-preserved
loop-first-preserved c =
    let x = facts c.args.text in
    let names = map (λ (d : Declared). d.item) c.in-Some.behind.now in
    let here = alike_in x c.in-Some.first.now.item names in
    let behind = doubles_of x names in
    let rest = ap (λ (ds : List Declared). meet c.loop-first.found (least (doubles_of x (map (λ (d : Declared). d.item) ds)))) c.in-Some.ensures.cases.0 in
    ap (λ (o : Option ℕ). meet o (least behind)) (c.earlier-found.ensures ∙ ap (meet c.loop-first.found) c.alike.ensures)
    ∙ meet_assoc c.loop-first.found (least here) (least behind)
    ∙ ap (meet c.loop-first.found) (sym (least_append here behind))
    ∙ sym rest
    ∙ c.loop-first.invariant
