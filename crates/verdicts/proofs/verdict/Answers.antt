use Rattle.std.proofs.Common.{◌≡◌, length, Ok, Err, sym, subst, arith, rules}
use Rattle.std.proofs.lemmas.Result.{err_from_is_err_and}
use Rattle.answers.specs.Declines.{place}
use Rattle.syntax.specs.Parsing.{Reads}
use Rattle.syntax.proofs.Reading.{short_text, answered}
use Rattle.verdicts.specs.Verdicts.{decline_of, Verdict}
use Rattle.verdicts.proofs.Verdicts.{unread, tree_read, few_signs, verdict_at_places}
use Rattle.verdicts.proofs.verdict.Goals as goal

pub returns-in_err-root : goal.returns-in_err-root
returns-in_err-root c =
    let p = err_from_is_err_and c.from_residual.result c.from_residual.ensures.1 in
    rw (p.1, p.2) (unread _ _ _ _ c.in_err-root.ensures)

pub overflow_cast-end : goal.overflow_cast-end
overflow_cast-end c = omega (arith, short_text _ _ (tree_read _ _ _ _ c.in_ok-root.ensures).cut)

pub returns : goal.returns
returns c =
    let text = c.args.text.now in
    let items = c.items-items.result.now in
    let k = c.in_ok-root.root in
    let ns = c.read.new.tree.nodes in
    let t = tree_read text items ns k (subst (λ xs. Reads text xs ns (Ok k)) (sym c.items-items.ensures.is) c.in_ok-root.ensures) in
    answered c.check-checked.result c.map_err.result (Verdict text) (λ u e. verdict_at_places text items ns k t (Ok u) e)
    (λ f d e h.
    let same : d ≡ decline_of items (place (length text)) f = search rules in
    subst (λ x. Verdict text (Err x)) (sym same) (verdict_at_places text items ns k t (Err f) e))
    (c.check-checked.ensures t.module_of _ t.made (few_signs text items t.cut) t.is) c.map_err.ensures.cases
