-- Initial values and module items are judged right. Assumes nothing.
use Rattle.std.proofs.Common.{◌≡◌, ℕ, ◌+◌, ◌<◌, ◌≤◌, Bool, true, false, ◌&&◌, List, [], ◌∷◌, length, Some, None, codes, Option, Result, refl, ap, arith}
use Rattle.std.specs.Option.{option_eq}
use Rattle.std.specs.Cmp.Lexicographic.{pointwise}
use Rattle.std.specs.List.{list_all}
use Rattle.std.specs.Bool.{Decides}
use Rattle.std.proofs.lemmas.Bool.Decides.{Decides-like, Decides-and, Decides-or, Decides-eqb, Decides-ltb}
use Rattle.std.proofs.lemmas.Slice.Eq.{bytes_eq-Decides, slice_eq-Decides}
use Rattle.statics.specs.declared.Refusal.{Refusal}
use Rattle.statics.specs.Refusals.{place_of}
use Rattle.statics.specs.declared.Refusal.TheVariants.{WrongName, Misfit, NoValue}
use Rattle.grammar.specs.Trees.{Value, constant, signed, minus_signed, identifier, string, empty_list, list, Values, only, and, Entry, once, repeated, Many, one, more, Opt, Fields, also, Init, given, Dec, variables, arrays, structures, Body, Brick, store, procedure, Moditem, blank, external_procs, external_store, own, entry, Module}
use Rattle.grammar.specs.Trees as tree
use Rattle.statics.specs.Modes.{Word, int, byte, Mode, plain, ref_array, Element, simple, records, INT, BYTE, Thing}
use Rattle.statics.specs.Laws.{Wrongs}
use Rattle.statics.specs.Scopes.{Text, Env, Keeps, Signature, record_modes}
use Rattle.statics.specs.Expressions.{each}
use Rattle.statics.specs.Written.{mode_of, element_of, written}
use Rattle.statics.specs.Values.{Want, free, simply, several, recorded, inner, TakesInteger, address_mode, TakesName, TakesString, TakesList, Repeats, total, how_many, front_value, ThenAsk, initial, listed, an_entry, AllStart, ElementStarts, Valueless}
use Rattle.statics.specs.Modules.{maybe_mode, modes, optional, fields_written, Admitted, data_item, data_dec, in_record, in_procedure, outermost, a_brick, moditem, module_env, module_wrongs}
use Rattle.statics.specs.Order.{Span, InMany, InMode, InName, InInit, InValue, InValues, InEntry, InDec, InSpec, InOpt, InFields, InBrick, InModitem, InModule}
use Rattle.statics.specs.JudgeExpressions.{then, check, keeps, same_mode, judge_each}
use Rattle.statics.specs.JudgeStatements.{judge_written, is_plain}
use Rattle.statics.specs.JudgeModules.{takes_integer, takes_name, takes_string, takes_list, repeats, judge_value, judge_values, judge_entry, element_starts, valueless, judge_opt, judge_fields, admitted, judge_data_item, judge_data_dec, judge_brick, judge_moditem, judge_module}
use Rattle.statics.proofs.Decide.{lacking, cleaned, wider, chain, next, nothing}
use Rattle.statics.proofs.Fit.{yes, no, tells_unit, same_mode_decides, same_element_decides}
use Rattle.statics.proofs.Names.{look_judged, keeps_tells}
use Rattle.statics.proofs.Expressions.{Checks, each_right, many_le}
use Rattle.statics.proofs.Statements.{tested, starts_decides, refusing, name_le, mode_lt, element_lt, written_right, element_right, record_name_right, body_right}

-- the same, if all before it is right
then_tested : {P : Type 0} {b : Bool} {W : Wrongs} {r : Result (Unit {0}) Refusal} (lo hi : ℕ) (f : Refusal) → Span lo hi (place_of f) → Checks lo hi W r → Decides b P → Checks lo hi (ThenAsk W (λ u. P) f) (then r (λ u. check b f))
then_tested {P} lo hi f i c t = cleaned (chain (λ u v. P) _ _ c (λ u h. lacking lo hi f i (tells_unit _ t)))

integer_decides : (w : Want) (s : Bool) (v : ℕ) → Decides (takes_integer w s v) (TakesInteger w s v tt)
integer_decides free s v = yes tt
integer_decides (simply (plain int)) s v = yes tt
integer_decides (simply (plain byte)) true v = no (λ x. let e = x.0 in grind arith)
integer_decides (simply (plain byte)) false v = Decides-like _ (λ h. (refl, h)) (λ x. x.1) (Decides-ltb v 256)
integer_decides _ s v = no (λ x. x)

maybe_mode_decides : (o p : Option Mode) → Decides (option_eq same_mode o p) (o ≡ p)
maybe_mode_decides None None = yes refl
maybe_mode_decides (Some k) (Some m) = Decides-like _ (λ e. ap Some e) (λ e. cc) (same_mode_decides k m)
maybe_mode_decides _ _ = no (λ e. grind arith)

name_decides : (w : Want) (t : Thing) → Decides (takes_name w t) (TakesName w t tt)
name_decides free t = yes tt
name_decides (simply m) t = maybe_mode_decides (address_mode t) (Some m)
name_decides _ t = no (λ x. x)

string_decides : (w : Want) (k : ℕ) → Decides (takes_string w k) (TakesString w k tt)
string_decides free k = yes tt
string_decides (simply m) k = same_mode_decides m (ref_array (simple BYTE))
string_decides (several n e) k = Decides-and _ _ (same_element_decides e (simple BYTE)) (Decides-eqb n k)
string_decides (recorded r) k = no (λ x. x)

list_decides : (Γ : Env) (w : Want) (k n : ℕ) → Decides (takes_list Γ w k n) (TakesList Γ w k n tt)
list_decides Γ free k n = yes tt
list_decides Γ (simply m) k n = no (λ x. x)
list_decides Γ (several l e) k n = Decides-eqb n l
list_decides Γ (recorded r) k n = Decides-eqb k (length (record_modes Γ.parts r))

repeats_decides : (w : Want) → Decides (repeats w) (Repeats w tt)
repeats_decides (recorded r) = no (λ x. x)
repeats_decides _ = yes tt

mutual
  value_in : (v : Value) (lo hi : ℕ) → InValue lo v hi → Span lo hi (front_value v)
  value_in (constant k) lo hi i = i
  value_in (signed s k) lo hi i = i
  value_in (minus_signed s k) lo hi i = i
  value_in (identifier n) lo hi i = i
  value_in (string k) lo hi i = i
  value_in (empty_list k) lo hi i = i
  value_in (list k vs) lo hi i = let f = values_le vs (k + 1) hi i.1 in (i.0, omega arith)

  values_le : (vs : Values) (lo hi : ℕ) → InValues lo vs hi → lo < hi
  values_le (only e) lo hi i = entry_le e lo hi i
  values_le (and vs e) lo hi i =
      let f = values_le vs lo i.0 i.1 in
      let g = entry_le e i.0 hi i.2 in
      omega arith

  entry_le : (e : Entry) (lo hi : ℕ) → InEntry lo e hi → lo < hi
  entry_le (once v) lo hi i = let f = value_in v lo hi i in omega arith
  entry_le (repeated v k n) lo hi i = let f = value_in v lo hi i in omega arith

mutual
  pub value_right : (v : Value) (Γ : Env) (w : Want) (lo hi : ℕ) → InValue lo v hi → Checks lo hi (initial Γ w v) (judge_value Γ w v)
  value_right (constant k) Γ w lo hi i = tested lo hi (Misfit k) i (integer_decides w false (Γ.text.value k))
  value_right (signed s k) Γ w lo hi i = tested lo hi (Misfit s) i (integer_decides w true (Γ.text.value k))
  value_right (minus_signed s k) Γ w lo hi i = tested lo hi (Misfit s) i (integer_decides w true (Γ.text.value k))
  value_right (identifier n) Γ w lo hi i =
      cleaned (chain (λ t u. TakesName w t u) _ _ (look_judged Γ n Keeps keeps lo hi keeps_tells i) (λ t h. lacking lo hi (Misfit n) i (tells_unit _ (name_decides w t))))
  value_right (string k) Γ w lo hi i = tested lo hi (Misfit k) i (string_decides w (Γ.text.size k))
  value_right (empty_list k) Γ w lo hi i = tested lo hi (Misfit k) i (list_decides Γ w 0 0)
  value_right (list k vs) Γ w lo hi i =
      let s = value_in (list k vs) lo hi i in
      then_tested lo hi (Misfit k) s (wider lo hi (omega (arith, i.0)) (omega arith) (values_right vs Γ w (k + 1) hi i.1)) (list_decides Γ w (how_many vs) (total Γ.text.value vs))

  pub values_right : (vs : Values) (Γ : Env) (w : Want) (lo hi : ℕ) → InValues lo vs hi → Checks lo hi (listed Γ w vs) (judge_values Γ w vs)
  values_right (only e) Γ w lo hi i = entry_right e Γ w 0 lo hi i
  values_right (and vs e) Γ w lo hi i =
      next (values_right vs Γ w lo i.0 i.1) (entry_right e Γ w (how_many vs) i.0 hi i.2)

  pub entry_right : (e : Entry) (Γ : Env) (w : Want) (k lo hi : ℕ) → InEntry lo e hi → Checks lo hi (an_entry Γ w k e) (judge_entry Γ w k e)
  entry_right (once v) Γ w k lo hi i = value_right v Γ (inner Γ w k) lo hi i
  entry_right (repeated v j n) Γ w k lo hi i = then_tested lo hi (Misfit (front_value v)) (value_in v lo hi i) (value_right v Γ (inner Γ w k) lo hi i) (repeats_decides w)

-- Without a value.
all_decides : (ms : List Mode) → Decides (list_all is_plain ms) (AllStart ms tt)
all_decides [] = yes tt
all_decides (m ∷ ms) = Decides-and _ _ (starts_decides m) (all_decides ms)

element_decides : (Γ : Env) (e : Element) → Decides (element_starts Γ e) (ElementStarts Γ e tt)
element_decides Γ (simple m) = starts_decides m
element_decides Γ (records r) = all_decides (record_modes Γ.parts r)

valueless_decides : (Γ : Env) (w : Want) → Decides (valueless Γ w) (Valueless Γ w tt)
valueless_decides Γ free = yes tt
valueless_decides Γ (simply m) = starts_decides m
valueless_decides Γ (several n e) = Decides-or _ _ (Decides-eqb n 0) (element_decides Γ e)
valueless_decides Γ (recorded r) = all_decides (record_modes Γ.parts r)

data_item_right : (Γ : Env) (w : Want) (x : Init Value) (lo hi : ℕ) → InInit InValue lo x hi → Checks lo hi (data_item Γ w x) (judge_data_item Γ w x)
data_item_right Γ w (tree.plain n) lo hi i = tested lo hi (NoValue n) i (valueless_decides Γ w)
data_item_right Γ w (given ns v) lo hi i =
    let f = many_le InName name_le ns lo i.0 i.1 in
    wider lo hi (omega arith) (omega arith) (value_right v Γ w i.0 hi i.2)

items_right : (Γ : Env) (w : Want) (is : Many (Init Value)) (lo hi : ℕ) → InMany (InInit InValue) lo is hi → Checks lo hi (each (data_item Γ w) is) (judge_each (judge_data_item Γ w) is)
items_right Γ w is lo hi i = each_right _ _ _ (data_item_right Γ w) is lo hi i

data_dec_right : (Γ : Env) (d : Dec (Many (Init Value))) (lo hi : ℕ) → InDec lo d hi → Checks lo hi (data_dec Γ d) (judge_data_dec Γ d)
data_dec_right Γ tree.nothing lo hi i = nothing i
data_dec_right Γ (variables m is) lo hi i = next (written_right Γ m lo i.0 i.1) (items_right Γ (simply (mode_of Γ.text m)) is i.0 hi i.2)
data_dec_right Γ (arrays b n m is) lo hi i = next (element_right Γ m lo i.0 i.1) (items_right Γ (several (Γ.text.value n) (element_of Γ.text m)) is i.0 hi i.2)
data_dec_right Γ (structures n is) lo hi i =
    next (record_name_right Γ n lo (n + 1) (i.0, omega arith)) (items_right Γ (recorded (Γ.text.word n)) is (n + 1) hi i.1)

-- Modes, parameters and components.
fields_right : (Γ : Env) (fs : Fields) (lo hi : ℕ) → InFields lo fs hi → Checks lo hi (fields_written Γ fs) (judge_fields Γ fs)
fields_right Γ (tree.field m n) lo hi i = let g = i.2 in wider lo hi (omega arith) (omega arith) (written_right Γ m lo i.0 i.1)
fields_right Γ (also fs n) lo hi i = let g = i.2 in wider lo hi (omega arith) (omega arith) (fields_right Γ fs lo i.0 i.1)
fields_right Γ (tree.next fs m n) lo hi i =
    let h = i.2.2 in
    next (fields_right Γ fs lo i.0 i.1) (wider i.0 hi (omega arith) (omega arith) (written_right Γ m i.0 i.2.0 i.2.1))

opt_right :
    {A : Type 0} (W : A → Wrongs) (f : A → Result (Unit {0}) Refusal) (I : ℕ → A → ℕ → Type 0)
    → ((a : A) (lo hi : ℕ) → I lo a hi → Checks lo hi (W a) (f a))
    → (o : Opt A) (lo hi : ℕ) → InOpt I lo o hi → Checks lo hi (optional W o) (judge_opt f o)
opt_right W f I right tree.none lo hi i = nothing i
opt_right W f I right (tree.some a) lo hi i = right a lo hi i

maybe_right : (Γ : Env) (o : Opt tree.Mode) (lo hi : ℕ) → InOpt InMode lo o hi → Checks lo hi (optional (written Γ) o) (judge_opt (judge_written Γ) o)
maybe_right Γ o lo hi i = opt_right _ _ InMode (written_right Γ) o lo hi i

-- EXT.
modes_decides : (ms ks : List Mode) → Decides (pointwise same_mode ms ks) (ms ≡ ks)
modes_decides ms ks = slice_eq-Decides same_mode_decides ms ks _ refl

triple : {P Q R : Type 0} {a b c : Bool} → Decides a P → Decides b Q → Decides c R → Decides (a && (b && c)) (P × Q × R)
triple p q r = Decides-like _ (λ x. (x.0, x.1.0, x.1.1)) (λ x. (x.0, (x.1, x.2))) (Decides-and _ _ p (Decides-and _ _ q r))

admitted_decides : (w : Word) (s : Signature) → Decides (admitted w s) (Admitted w s tt)
admitted_decides w s =
    Decides-or _ _ (triple (bytes_eq-Decides w (codes "INBYTE")) (modes_decides s.takes []) (maybe_mode_decides s.gives (Some INT))) (triple (bytes_eq-Decides w (codes "OUTBYTE")) (modes_decides s.takes (BYTE ∷ [])) (maybe_mode_decides s.gives None))

-- Module items.
names_le : (ns : Many ℕ) (lo hi : ℕ) → InMany InName lo ns hi → lo ≤ hi
names_le ns lo hi i = many_le InName name_le ns lo hi i

spec_le : (d : Dec (Many ℕ)) (lo hi : ℕ) → InSpec lo d hi → lo ≤ hi
spec_le tree.nothing lo hi i = i
spec_le (variables m ns) lo hi i =
    let f = mode_lt m lo i.0 i.1 in
    let g = names_le ns i.0 hi i.2 in
    omega arith
spec_le (arrays b n m ns) lo hi i =
    let f = element_lt m lo i.0 i.1 in
    let g = names_le ns i.0 hi i.2 in
    omega arith
spec_le (structures n ns) lo hi i = let g = names_le ns (n + 1) hi i.1 in omega arith

brick_right : (Γ : Env) (b : Brick) (lo hi : ℕ) → InBrick lo b hi → Checks lo hi (a_brick Γ b) (judge_brick Γ b)
brick_right Γ (store n ds) lo hi i = wider lo hi (omega (arith, i.0)) (omega arith) (each_right (data_dec Γ) (judge_data_dec Γ) InDec (data_dec_right Γ) ds (n + 1) hi i.1)
brick_right Γ (procedure n k ps m b e) lo hi i =
    let j = i.1 in
    wider lo hi (omega (arith, i.0)) (omega arith)
    (next (opt_right _ _ InFields (fields_right (outermost (in_procedure Γ ps m) b)) ps (n + 1) j.0 j.1)
    (next (maybe_right Γ m j.0 j.2.0 j.2.1) (body_right (in_procedure Γ ps m) b j.2.0 hi j.2.2)))

moditem_right : (Γ : Env) (x : Moditem) (lo hi : ℕ) → InModitem lo x hi → Checks lo hi (moditem Γ x) (judge_moditem Γ x)
moditem_right Γ blank lo hi i = nothing i
moditem_right Γ (external_procs k ms m ns) lo hi i =
    let j = i.2 in
    next (opt_right _ _ (InMany InMode) (each_right _ _ _ (written_right Γ)) ms lo i.0 i.1)
    (next (maybe_right Γ m i.0 j.0 j.1)
    (each_right _ _ InName (λ n lo hi q. tested lo hi (WrongName n) q (admitted_decides (Γ.text.word n) (record { takes = modes Γ.text ms; gives = maybe_mode Γ.text m }))) ns j.0 hi j.2))
moditem_right Γ (external_store n ds) lo hi i =
    let f = many_le InSpec spec_le ds (n + 1) hi i.1 in
    cleaned (refusing lo hi (WrongName n) (i.0, omega arith))
moditem_right Γ (tree.record_mode n k fs) lo hi i = wider lo hi (omega (arith, i.0)) (omega arith) (fields_right (in_record Γ fs) fs (n + 1) hi i.1)
moditem_right Γ (own b) lo hi i = brick_right Γ b lo hi i
moditem_right Γ (entry b) lo hi i = brick_right Γ b lo hi i

pub module_right : (x : Text) (m : Module) (lo hi : ℕ) → InModule lo m hi → Checks lo hi (module_wrongs x m) (judge_module x m)
module_right x m lo hi i = each_right _ _ InModitem (moditem_right (module_env x m)) m lo hi i
