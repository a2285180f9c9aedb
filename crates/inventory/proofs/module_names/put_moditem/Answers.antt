use Rattle.std.proofs.Common.{[], map, sym, ap, refl}
use Rattle.grammar.specs.Trees.{external_store, store}
use Rattle.grammar.specs.Machine.{set, stored, unset}
use Rattle.statics.specs.Written.{site}
use Rattle.statics.specs.Modules.{brick_names, modes, moditem_names, names_of}
use Rattle.frames.specs.Frames.{site_means}
use Rattle.frames.specs.Rooms.{brick_takes, moditem_takes}
use Rattle.frames.proofs.Filled.{ahead_same}
use Rattle.inventory.specs.declared.module_names.Starts.{Starts}
use Rattle.inventory.proofs.Items.{of_procs, of_external, of_brick_at, of_store, of_procedure}
use Rattle.inventory.proofs.Pairs.{fills_as, fills_brick, fills_names, fills_routine}
use Rattle.inventory.proofs.module_names.put_moditem.Goals as goal

pub returns-in-ExternalProcs-clause-put : goal.returns-in-ExternalProcs-clause-put
returns-in-ExternalProcs-clause-put c = λ x a is.
    let y = of_procs _ _ a _ _ _ _ is (sym c.in-ExternalProcs.ensures) in
    let after : Starts = record { names = c.put_names.result; takes = c.put_described-first.result } in
    fills_as x _ _ _ _ c.args.starts c.args.names.now c.args.takes.now after _ _ (ap (moditem_takes x) y.6) (ap (moditem_names x) y.6)
    (fills_routine x (modes x y.0) _ c.args.starts after c.args.names.now _ c.args.takes.now _ (c.put_described-first.ensures.put x y.0 y.3)
    (λ e ts rest h. ahead_same (site_means x ts) _ _ _ _ _ _ (ap (λ u. map (site u) (names_of y.2)) (c.routine-class.ensures x y.1 y.4 (modes x y.0) e ts rest h)) (c.put_names.ensures.put x ts y.2 y.5)))

pub returns-in-ExternalStore-clause-put : goal.returns-in-ExternalStore-clause-put
returns-in-ExternalStore-clause-put c = λ x a is.
    let y = of_external _ _ a _ _ is (sym c.in-ExternalStore.ensures) in
    let after : Starts = record { names = c.put_store.result; takes = c.args.starts.takes } in
    fills_as x [] _ (moditem_names x (external_store c.in-ExternalStore.name y.0)) _ c.args.starts c.args.names.now c.args.takes.now after _ _ (ap (moditem_takes x) y.2) (ap (moditem_names x) y.2)
    (fills_names x (moditem_names x (external_store c.in-ExternalStore.name y.0)) c.args.starts after c.args.names.now _ c.args.takes.now refl (λ ts. c.put_store.ensures.put x ts unset y.0 y.1))

pub returns-in-Store-clause-put : goal.returns-in-Store-clause-put
returns-in-Store-clause-put c = λ x a is.
    let y = of_brick_at _ _ a _ _ c.node_at.ensures c.in-Own.is is in
    let z = of_store _ _ y.0 _ _ y.1 (sym c.in-Store.ensures) in
    let after : Starts = record { names = c.put_store-in-Store.result; takes = c.args.starts.takes } in
    fills_brick x a y.0 c.args.starts c.args.names.now c.args.takes.now after _ _ y.2
    (fills_as x [] _ (brick_names x (store c.in-Store.name z.0)) _ c.args.starts c.args.names.now c.args.takes.now after _ _ (ap (brick_takes x) z.2) (ap (brick_names x) z.2)
    (fills_names x (brick_names x (store c.in-Store.name z.0)) c.args.starts after c.args.names.now _ c.args.takes.now refl (λ ts. c.put_store-in-Store.ensures.put x ts (set stored) z.0 z.1)))

pub returns-in-Procedure-clause-put : goal.returns-in-Procedure-clause-put
returns-in-Procedure-clause-put c = λ x a is.
    let y = of_brick_at _ _ a _ _ c.node_at.ensures c.in-Own.is is in
    let z = of_procedure _ _ y.0 _ _ _ y.1 (sym c.in-Procedure.ensures) in
    fills_brick x a y.0 c.args.starts c.args.names.now c.args.takes.now c.put_procedure.result _ _ y.2
    (fills_as x _ _ _ _ c.args.starts c.args.names.now c.args.takes.now c.put_procedure.result _ _ (z.9 x) (z.10 x) (c.put_procedure.ensures.put x z.0 z.1 z.2 z.3 z.4 z.5 z.6 z.7 z.8))
