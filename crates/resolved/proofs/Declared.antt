-- The parts of a tree are what the module declares. Assumes nothing.
use Rattle.std.proofs.Common.{◌≡◌, Bool, true, false, List, [], ◌++◌, map, Some, Result, refl}
use Rattle.std.proofs.lemmas.List.{map-append}
use Rattle.statics.specs.declared.Refusal.{Refusal}
use Rattle.grammar.specs.Trees.{Many, one, more, Init, given, Value, Dec, variables, arrays, structures, Brick, store, procedure, Moditem, own, entry, Module}
use Rattle.grammar.specs.Trees as tree
use Rattle.statics.specs.Scopes.{Text, Env}
use Rattle.statics.specs.Written.{mode_of, element_of, gather}
use Rattle.statics.specs.Values.{Want, simply, several, recorded}
use Rattle.statics.specs.Modules.{names_of, in_procedure, outermost, module_env}
use Rattle.statics.specs.JudgeStatements.{judge_record_name, judge_written, judge_element}
use Rattle.statics.specs.JudgeModules.{valueless, judge_opt, judge_fields, judge_moditem}
use Rattle.resolved.specs.Forms.{Part, Resolved}
use Rattle.resolved.specs.Grounds.{Ground, ground}
use Rattle.resolved.specs.ResolveExpressions.{resolve_each}
use Rattle.resolved.specs.ResolveStatements.{resolve_body}
use Rattle.resolved.specs.ResolveModules.{resolve_value, datum, resolve_data_item, all_parts, resolve_data_dec, resolve_brick, resolve_moditem, resolve_module}
use Rattle.resolved.specs.Parts.{Named, of_part, item_declared, dec_declared, brick_declared, declared}
use Rattle.resolved.specs.Theorems.{Tree}
use Rattle.resolved.proofs.Holding.{Of, holds, of_then, of_check, of_any, of_right}
use Rattle.resolved.proofs.Stored.{map_twice}

-- the parts are just these
abbrev These : List Named → List Part → Type 0
These ds ps = map of_part ps ≡ ds

these_append : (ds es : List Named) (ps qs : List Part) → These ds ps → These es qs → These (ds ++ es) (ps ++ qs)
these_append ds es ps qs p q = rw (map-append of_part ps qs, p, q)

each_these : {A : Type 0} {f : A → Result (List Part) Refusal} (g : A → List Named) → ((a : A) → Of (These (g a)) (f a)) → (m : Many A) → Of (λ ps. These (gather g m) (gather (λ p. p) ps)) (resolve_each f m)
each_these g h (one a) = of_then (h a) (λ b p. holds p)
each_these g h (more m a) = of_then (each_these g h m) (λ bs p. of_then (h a) (λ b q. holds (these_append (gather g m) (g a) (gather (λ l. l) bs) b p q)))

all_these : {A : Type 0} {f : A → Result (List Part) Refusal} (g : A → List Named) → ((a : A) → Of (These (g a)) (f a)) → (m : Many A) → Of (These (gather g m)) (all_parts f m)
all_these g h m = of_then (each_these g h m) (λ ps p. holds p)

item_these : (G : Ground) (Γ : Env) (w : Want) (i : Init Value) → Of (These (item_declared i)) (resolve_data_item G Γ w i)
item_these G Γ w (tree.plain n) = of_check (valueless Γ w) _ (λ u e. holds refl)
item_these G Γ w (given ns v) = of_any (resolve_value G Γ w v) (λ cs. holds (map_twice of_part (datum Γ w (Some cs)) (names_of ns)))

dec_these : (G : Ground) (Γ : Env) (d : Dec (Many (Init Value))) → Of (These (dec_declared d)) (resolve_data_dec G Γ d)
dec_these G Γ tree.nothing = holds {a = []} refl
dec_these G Γ (variables m is) = of_any (judge_written Γ m) (λ u. all_these item_declared (item_these G Γ (simply (mode_of Γ.text m))) is)
dec_these G Γ (arrays b n m is) = of_any (judge_element Γ m) (λ u. all_these item_declared (item_these G Γ (several (Γ.text.value n) (element_of Γ.text m))) is)
dec_these G Γ (structures n is) = of_any (judge_record_name Γ n) (λ u. all_these item_declared (item_these G Γ (recorded (Γ.text.word n))) is)

brick_these : (G : Ground) (Γ : Env) (ent : Bool) (b : Brick) → Of (These (brick_declared b)) (resolve_brick G Γ ent b)
brick_these G Γ ent (store n ds) = all_these dec_declared (dec_these G Γ) ds
brick_these G Γ ent (procedure n i ps m b e) =
    of_any (judge_opt (judge_fields (outermost (in_procedure Γ ps m) b)) ps) (λ u. of_any (judge_opt (judge_written Γ) m) (λ v. of_any (resolve_body G (in_procedure Γ ps m) b) (λ c. holds refl)))

moditem_these : (G : Ground) (Γ : Env) (it : Moditem) → Of (These (declared it)) (resolve_moditem G Γ it)
moditem_these G Γ (own b) = brick_these G Γ false b
moditem_these G Γ (entry b) = brick_these G Γ true b
moditem_these G Γ it = of_any (judge_moditem Γ it) (λ u. holds {a = []} refl)

module_these : (x : Text) (m : Module) → Of (λ (T : Resolved). These (gather declared m) T.parts) (resolve_module x m)
module_these x m = of_then (all_these declared (moditem_these (ground x m) (module_env x m)) m) (λ ps p. holds p)

pub tree_these : (x : Text) (m : Module) (T : Resolved) → Tree x m T → map of_part T.parts ≡ gather declared m
tree_these x m T e = of_right (module_these x m) T e
