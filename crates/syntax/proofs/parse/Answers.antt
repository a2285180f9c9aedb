use Rattle.std.proofs.Common.{Err, sym, ap, ◌∙◌, subst, arith}
use native.Mathlib.Numerals.{unary_clauses}
use Rattle.lexer.specs.Tables.{items_of}
use Rattle.terminals.specs.Signs.{signs}
use Rattle.syntax.specs.Parsing.{Parses}
use Rattle.syntax.specs.Declining.{declined}
use Rattle.syntax.proofs.Reading.{same_signs, tree_answer, fault_answer}
use Rattle.syntax.proofs.parse.Goals as goal

pub returns-in-Ok : goal.returns-in-Ok
returns-in-Ok c =
    let e = c.items-items.ensures.is in
    let n = c.classify-length.ensures in
    tree_answer _ _ _ _ (same_signs c.items-items.result.now _ c.classify-length.result (omega (arith, n.count, c.items-items.ensures.few)) n.front ∙ ap signs e) c.in-Ok.root (simp unary_clauses c.in-Ok.ensures)

pub returns-in-Err : goal.returns-in-Err
returns-in-Err c =
    let e = c.items-items.ensures.is in
    let n = c.classify-length.ensures in
    let d = c.decline.ensures ∙ ap (λ es. declined es c.args.end c.in-Err.fault) e in
    subst (λ x. Parses (items_of c.args.items.now) c.args.end c.read_module.new.nodes (Err x)) (sym d)
    (fault_answer _ _ _ _ (same_signs c.items-items.result.now _ c.classify-length.result (omega (arith, n.count, c.items-items.ensures.few)) n.front ∙ ap signs e) c.in-Err.fault (simp unary_clauses c.in-Err.ensures))
