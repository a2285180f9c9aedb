use Rattle.std.proofs.Common.{◌≡◌, ℕ, List, length, map, drop, ◌++◌, ◌-◌, refl, ap, sym, ◌∙◌, arith, length-drop}
use Rattle.std.proofs.lemmas.List.{take_all}
use Rattle.statics.specs.Written.{gather}
use Rattle.statics.specs.Modules.{moditem_names, moditem_parts}
use Rattle.statics.proofs.Places.{made_in_order}
use Rattle.texts.specs.Facts.{facts}
use Rattle.scopes.specs.declared.Declared.{Declared}
use Rattle.scopes.specs.declared.Component.{Component}
use Rattle.scopes.specs.Meanings.{component_means}
use Rattle.frames.specs.Frames.{site_means}
use Rattle.frames.proofs.Counts.{module_names_few, module_takes_few, module_parts_few, module_charges_few}
use Rattle.checker.proofs.Staged.{put_whole}
use Rattle.checker.proofs.check.Goals as goal

pub returns : goal.returns
returns c m w made few is =
    let x = facts c.args.text in
    let names : length c.args.tables.now.names ≡ 4096 = search in
    let takes : length c.args.tables.now.takes ≡ 4096 = search in
    let parts : length c.args.tables.now.parts ≡ 4096 = search in
    let charges : length c.args.tables.now.charges ≡ 4096 = search in
    let order = made_in_order m w made in
    let fills = c.names_of_module-starts.ensures.put x m is in
    let kept = c.names_of_module-starts.ensures.names in
    let few_names = module_names_few x m 0 (length w) order in
    let few_takes = module_takes_few x m 0 (length w) order in
    let few_parts = module_parts_few x m 0 (length w) order in
    let few_charges = module_charges_few x (gather (moditem_parts x) m) m 0 (length w) order in
    let put = fills.1 (omega (arith, few_takes, few)) (omega (arith, takes)) c.names_of_module-starts.new.takes refl (omega (arith, few_names, few)) (omega (arith, names)) in
    let moved = c.move_to_front-count.ensures.moved (omega (arith, kept.lower, kept.length, names)) in
    let g = site_means x c.names_of_module-starts.new.takes in
    let at_end = put_whole g (gather (moditem_names x) m) c.args.tables.now.names c.names_of_module-starts.new.names c.names_of_module-starts.result.names (put.1 ∙ ap (λ (n : ℕ). gather (moditem_names x) m ++ map g (drop n c.args.tables.now.names)) (sym names)) in
    let ahead = c.parts_of_module-first.ensures.put x m is (omega (arith, few_parts, few)) (omega (arith, parts)) in
    let kept_parts = c.parts_of_module-first.ensures.kept in
    let parts_end = put_whole (component_means x) (gather (moditem_parts x) m) c.args.tables.now.parts c.parts_of_module-first.new.parts c.parts_of_module-first.result (ahead.1 ∙ ap (λ (n : ℕ). gather (moditem_parts x) m ++ map (component_means x) (drop n c.args.tables.now.parts)) (sym parts)) in
    let rest = take_all (4096 - c.parts_of_module-first.result) (drop c.parts_of_module-first.result c.parts_of_module-first.new.parts) (omega (arith, length-drop c.parts_of_module-first.result c.parts_of_module-first.new.parts, kept_parts.length, parts)) in
    c.stages.ensures m is (0, length w, order, omega (arith, few, c.move_to_front-count.ensures.length, kept.length, names))
    (record {
      few = omega (arith, moved.0, c.move_to_front-count.ensures.length);
      named = ap (λ (ds : List Declared). map g ds) moved.1 ∙ at_end;
      even = refl;
      parts = ap (λ (cs : List Component). map (component_means x) cs) rest ∙ parts_end;
      none = refl;
    })
    (omega (arith, few_charges, few, charges))
