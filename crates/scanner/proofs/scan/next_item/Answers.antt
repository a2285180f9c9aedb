use Rattle.std.proofs.Common.{◌≡◌, drop, get_or, Some, None, sym, subst, rules}
use Rattle.symbols.specs.Bytes.{string_byte, comment_byte}
use Rattle.symbols.specs.See.{see_enclosed}
use Rattle.symbols.specs.declared.Symbol.TheVariants.{Text}
use Rattle.scanner.specs.Seen.{Sees}
use Rattle.scanner.proofs.Scans.{enclosed_seen, see_at}
use Rattle.scanner.proofs.scan.next_item.Goals as goal

pub returns-in-34 : goal.returns-in-34
returns-in-34 c =
    let t = c.args.text.now in
    let b : get_or t 0 0 ≡ 34 = search rules in
    subst (λ x. Sees t x c.map.result) (sym (see_at t 34 c.in-34.len_at_least b))
    (enclosed_seen t (λ f. see_enclosed f 34 string_byte (drop 1 t)) (Some Text) _ (λ p i h. search rules) c.enclosed.result c.map.result c.enclosed.ensures c.map.ensures.cases)

pub returns-in-37 : goal.returns-in-37
returns-in-37 c =
    let t = c.args.text.now in
    let b : get_or t 0 0 ≡ 37 = search rules in
    subst (λ x. Sees t x c.map-in-37.result) (sym (see_at t 37 c.in-37.len_at_least b))
    (enclosed_seen t (λ f. see_enclosed f 37 comment_byte (drop 1 t)) None _ (λ p i h. search rules) c.enclosed-in-37.result c.map-in-37.result c.enclosed-in-37.ensures c.map-in-37.ensures.cases)
