use Rattle.std.proofs.Common.{◌≡◌, sym, subst, rules, tests}
use Rattle.std.specs.List.{list_all, zip}
use Rattle.std.proofs.lemmas.Iterator.{YieldsList-from_slice, YieldsList-from_zip}
use Rattle.std.proofs.lemmas.Iterator.Search.{all_from_yields_List}
use Rattle.names.specs.Spelling.{Says, SameName}
use Rattle.names.proofs.Laws.{alike, all_alike}
use Rattle.names.proofs.same_name.Goals as goal

pub returns-then-a-b : goal.returns-then-a-b
returns-then-a-b c =
    let a = c.args.a.now in
    let b = c.args.b.now in
    let r : c.all.result ≡ list_all alike (zip a b) = all_from_yields_List alike c.all.new.self _ c.all.result c.all.ensures.ran (YieldsList-from_zip (YieldsList-from_slice a cc) (YieldsList-from_slice b cc)) (λ x t q k. search (rules, tests)) in
    subst (λ t. Says t (SameName a b)) (sym r) (all_alike a b c.if-a-b.true)
