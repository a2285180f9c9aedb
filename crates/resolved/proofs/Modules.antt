-- Initial values, module items and modules are resolved where they are judged right; so an accepted module has one tree. Assumes nothing.
use Rattle.std.proofs.Common.{◌≡◌, ℕ, Bool, true, false, List, [], length, Ok, Err, Result, sym, refl, ap, ◌∙◌, arith}
use Rattle.statics.specs.declared.Refusal.{Refusal}
use Rattle.statics.specs.declared.Refusal.TheVariants.{Misfit, NoValue}
use Rattle.grammar.specs.declared.Symbol.{Symbol}
use Rattle.grammar.specs.Sentences.{Made}
use Rattle.grammar.specs.Trees.{Value, constant, signed, minus_signed, identifier, string, empty_list, list, Values, only, and, Entry, once, repeated, Many, Init, given, Dec, variables, arrays, structures, Brick, store, procedure, Moditem, own, entry, Module}
use Rattle.grammar.specs.Trees as tree
use Rattle.statics.specs.Scopes.{Text, Env}
use Rattle.statics.specs.Written.{mode_of, element_of}
use Rattle.statics.specs.Values.{Want, simply, several, recorded, inner, total, how_many, front_value}
use Rattle.statics.specs.Modules.{in_procedure, outermost, module_env}
use Rattle.statics.specs.Stages.{Static, stages}
use Rattle.statics.specs.JudgeExpressions.{then, check, done, keeps, judge_each}
use Rattle.statics.specs.JudgeStatements.{judge_record_name, judge_written, judge_element}
use Rattle.statics.specs.JudgeModules.{takes_integer, takes_name, takes_string, takes_list, repeats, valueless, judge_value, judge_values, judge_entry, judge_opt, judge_fields, judge_data_item, judge_data_dec, judge_brick, judge_moditem, judge_module}
use Rattle.statics.specs.JudgeLimits.{judge_static}
use Rattle.statics.proofs.Limits.{static_right_lem, staged_one}
use Rattle.statics.proofs.Places.{made_in_order}
use Rattle.resolved.specs.Forms.{Part, Resolved}
use Rattle.resolved.specs.Grounds.{Ground, ground}
use Rattle.resolved.specs.ResolveModules.{resolve_value, resolve_values, resolve_entry, resolve_data_item, all_parts, resolve_data_dec, resolve_brick, resolve_moditem, resolve_module}
use Rattle.resolved.specs.Theorems.{ExactlyOne, Tree}
use Rattle.resolved.proofs.Same.{right, same_then, same_made, agreed}
use Rattle.resolved.proofs.Expressions.{Alike, same_find, same_test, same_each}
use Rattle.resolved.proofs.Statements.{same_body}

mutual
  same_value : (G : Ground) (Γ : Env) (w : Want) (v : Value) → Alike (resolve_value G Γ w v) (judge_value Γ w v)
  same_value G Γ w (constant i) = same_made _ (same_test (check (takes_integer w false (Γ.text.value i)) (Misfit i)))
  same_value G Γ w (signed s i) = same_made _ (same_test (check (takes_integer w true (Γ.text.value i)) (Misfit s)))
  same_value G Γ w (minus_signed s i) = same_made _ (same_test (check (takes_integer w true (Γ.text.value i)) (Misfit s)))
  same_value G Γ w (identifier n) = same_then _ (same_find Γ n keeps) (λ t. same_made _ (same_test (check (takes_name w t.0) (Misfit n))))
  same_value G Γ w (string i) = same_made _ (same_test (check (takes_string w (Γ.text.size i)) (Misfit i)))
  same_value G Γ w (empty_list i) = same_made _ (same_test (check (takes_list Γ w 0 0) (Misfit i)))
  same_value G Γ w (list i vs) = same_then _ (same_values G Γ w vs) (λ cs. same_made _ (same_test (check (takes_list Γ w (how_many vs) (total Γ.text.value vs)) (Misfit i))))

  same_values : (G : Ground) (Γ : Env) (w : Want) (vs : Values) → Alike (resolve_values G Γ w vs) (judge_values Γ w vs)
  same_values G Γ w (only e) = same_entry G Γ w 0 e
  same_values G Γ w (and vs e) = same_then _ (same_values G Γ w vs) (λ cs. same_made _ (same_entry G Γ w (how_many vs) e))

  same_entry : (G : Ground) (Γ : Env) (w : Want) (k : ℕ) (e : Entry) → Alike (resolve_entry G Γ w k e) (judge_entry Γ w k e)
  same_entry G Γ w k (once v) = same_value G Γ (inner Γ w k) v
  same_entry G Γ w k (repeated v i n) = same_then _ (same_value G Γ (inner Γ w k) v) (λ cs. same_made _ (same_test (check (repeats w) (Misfit (front_value v)))))

same_data_item : (G : Ground) (Γ : Env) (w : Want) (i : Init Value) → Alike (resolve_data_item G Γ w i) (judge_data_item Γ w i)
same_data_item G Γ w (tree.plain n) = same_made _ (same_test (check (valueless Γ w) (NoValue n)))
same_data_item G Γ w (given ns v) = same_made _ (same_value G Γ w v)

same_parts : {A : Type 0} {f : A → Result (List Part) Refusal} {g : A → Result (Unit {0}) Refusal} → ((a : A) → Alike (f a) (g a)) → (m : Many A) → Alike (all_parts f m) (judge_each g m)
same_parts h m = same_made _ (same_each h m)

same_data_dec : (G : Ground) (Γ : Env) (d : Dec (Many (Init Value))) → Alike (resolve_data_dec G Γ d) (judge_data_dec Γ d)
same_data_dec G Γ tree.nothing = right
same_data_dec G Γ (variables m is) = same_then _ (same_test (judge_written Γ m)) (λ u. same_parts (same_data_item G Γ (simply (mode_of Γ.text m))) is)
same_data_dec G Γ (arrays b n m is) = same_then _ (same_test (judge_element Γ m)) (λ u. same_parts (same_data_item G Γ (several (Γ.text.value n) (element_of Γ.text m))) is)
same_data_dec G Γ (structures n is) = same_then _ (same_test (judge_record_name Γ n)) (λ u. same_parts (same_data_item G Γ (recorded (Γ.text.word n))) is)

same_brick : (G : Ground) (Γ : Env) (ent : Bool) (b : Brick) → Alike (resolve_brick G Γ ent b) (judge_brick Γ b)
same_brick G Γ ent (store n ds) = same_parts (same_data_dec G Γ) ds
same_brick G Γ ent (procedure n i ps m b e) =
    same_then _ (same_test (judge_opt (judge_fields (outermost (in_procedure Γ ps m) b)) ps))
    (λ u. same_then _ (same_test (judge_opt (judge_written Γ) m)) (λ v. same_made _ (same_body G (in_procedure Γ ps m) b)))

same_moditem : (G : Ground) (Γ : Env) (it : Moditem) → Alike (resolve_moditem G Γ it) (judge_moditem Γ it)
same_moditem G Γ (own b) = same_brick G Γ false b
same_moditem G Γ (entry b) = same_brick G Γ true b
same_moditem G Γ it = same_made (λ u. []) (same_test (judge_moditem Γ it))

pub same_module : (x : Text) (m : Module) → Alike (resolve_module x m) (judge_module x m)
same_module x m = same_made _ (same_parts (same_moditem (ground x m) (module_env x m)) m)

-- what is right is just one thing
just_one : {A : Type 0} (r : Result A Refusal) → then r done ≡ Ok tt → ExactlyOne (λ a. r ≡ Ok a)
just_one (Ok a) e = (a, refl, λ b q. cc)
just_one (Err f) e = grind arith

pub judged_tree : (x : Text) (m : Module) → judge_module x m ≡ Ok tt → ExactlyOne (Tree x m)
judged_tree x m e = just_one (resolve_module x m) (agreed (same_module x m) ∙ e)

pub tree_judged : (x : Text) (m : Module) (T : Resolved) → Tree x m T → judge_module x m ≡ Ok tt
tree_judged x m T e = sym (agreed (same_module x m)) ∙ ap (λ r. then r done) e

-- what is right in all, is right in the second place
second : (r s : Result (Unit {0}) Refusal) (k : Unit {0} → Result (Unit {0}) Refusal) → then r (λ a. then s k) ≡ Ok tt → s ≡ Ok tt
second (Ok u) (Ok v) k e = refl
second (Ok u) (Err f) k e = grind arith
second (Err f) s k e = grind arith

pub accepted_one : (x : Text) (m : Module) (w : List Symbol) → Made m w → Static x m (Ok tt) → ExactlyOne (Tree x m)
accepted_one x m w made s =
    judged_tree x m (second _ _ _ (sym (staged_one (stages x m) (judge_static x m) (Ok tt) (static_right_lem x m 0 (length w) (made_in_order m w made)) s)))
