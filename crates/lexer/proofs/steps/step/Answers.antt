use Rattle.std.proofs.Common.{[], drop, Some, Ok, Err, sym, subst, arith}
use Rattle.answers.specs.declared.Decline.TheVariants.{IntegerTooLarge}
use Rattle.symbols.specs.Cut.{Cut}
use Rattle.lexer.proofs.Stepping.{blank_joins, rest_seen, item_stepped, large_declined, stop_declined, stop_within}
use Rattle.lexer.proofs.steps.step.Goals as goal

pub returns-then-is_blank : goal.returns-then-is_blank
returns-then-is_blank c =
    (omega arith, omega arith, blank_joins c.args.text.now c.args.at c.requires.within (sym c.if-is_blank.ensures))

pub declined-requires : goal.declined-requires
declined-requires c =
    let t = c.args.text.now in
    let at = c.args.at in
    let s = rest_seen t at (Err c.in-Err.stop) c.in-Err.ensures in
    omega (arith, stop_within t at c.in-Err.stop c.requires.within s)

pub returns-in-Ok : goal.returns-in-Ok
returns-in-Ok c =
    let t = c.args.text.now in
    let at = c.args.at in
    let s = rest_seen t at (Ok c.in-Ok.item) c.in-Ok.ensures in
    subst (λ p. Cut at (drop at t) [] (Some (IntegerTooLarge p))) (sym c.place.ensures) (large_declined t at c.in-Ok.item s (sym c.if-is_too_large.ensures))

pub returns-in-Ok-2 : goal.returns-in-Ok-2
returns-in-Ok-2 c =
    let t = c.args.text.now in
    let at = c.args.at in
    let s = rest_seen t at (Ok c.in-Ok.item) c.in-Ok.ensures in
    item_stepped t at c.in-Ok.item c.symbol.result c.bytes.result.now c.requires.within s (sym c.if-is_too_large.ensures) c.symbol.ensures c.bytes.ensures

pub returns-in-Err : goal.returns-in-Err
returns-in-Err c =
    let t = c.args.text.now in
    let at = c.args.at in
    let s = rest_seen t at (Err c.in-Err.stop) c.in-Err.ensures in
    subst (λ d. Cut at (drop at t) [] (Some d)) (sym c.declined.ensures) (stop_declined t at c.in-Err.stop c.requires.within (sym c.if-is_blank.ensures) s)
