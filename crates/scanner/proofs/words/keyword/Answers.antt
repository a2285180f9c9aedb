use Rattle.std.proofs.Common.{map, length, None, Some, sym, ap, subst, ◌∙◌}
use Rattle.std.proofs.lemmas.List.{length-map}
use Rattle.names.specs.Spelling.{uppers, alone, Last}
use Rattle.symbols.specs.Spellings.{spelling}
use Rattle.symbols.specs.See.{Spelt, keywords, lookup}
use Rattle.symbols.proofs.Lookup.{keyword_is}
use Rattle.scanner.proofs.Reserved.{entry_spelt, none_spelt, lookup_kept}
use Rattle.scanner.proofs.words.keyword.Goals as goal

pub returns-in_err-i : goal.returns-in_err-i
returns-in_err-i c =
    let w = c.args.name.now in
    let words = c.of_length-words in
    let none = subst (λ n. Last (map (λ x. alone x.0.now) words.result.now) n None) c.alone.ensures c.in_err-i.ensures in
    subst (Spelt spelling (uppers w)) (sym c.from_residual.ensures)
    (λ k e.
    none_spelt (λ x. x.0.now) (λ x. x.1) spelling words.result.now w k words.ensures.spelled none
    (ap (lookup spelling (uppers w)) words.ensures.meanings ∙ lookup_kept spelling (uppers w) (length w) keywords k (length-map w _) (keyword_is w (Some k) e)))

pub returns : goal.returns
returns c =
    let words = c.of_length-words in
    let found = subst (λ n. Last (map (λ x. alone x.0.now) words.result.now) n (Some c.in_ok-i.i)) c.alone.ensures c.in_ok-i.ensures in
    entry_spelt (λ x. x.0.now) (λ x. x.1) spelling words.result.now c.in_ok-i.i _ c.args.name.now words.ensures.spelled found.0 found.1
