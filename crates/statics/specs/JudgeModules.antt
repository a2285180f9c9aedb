-- The judging of initial values and module items as functions. Theorems says that it is right.
use Rattle.std.specs.Prelude.{ℕ, Bool, true, false, ◌&&◌, ◌||◌, [], ◌∷◌, length, Some, None, Ok, Err, codes, Result, ◌==◌, nat_lt}
use Rattle.std.specs.Option.{option_eq}
use Rattle.std.specs.List.{list_all}
use Rattle.std.specs.Cmp.Lexicographic.{pointwise}
use Rattle.statics.specs.declared.Refusal.{Refusal}
use Rattle.statics.specs.declared.Refusal.TheVariants.{WrongName, Misfit, NoValue}
use Rattle.grammar.specs.Trees.{Value, constant, signed, minus_signed, identifier, string, empty_list, list, Values, only, and, Entry, once, repeated, Many, one, more, Opt, Fields, also, Init, given, Dec, variables, arrays, structures, Brick, store, procedure, Moditem, blank, external_procs, external_store, own, entry, Module}
use Rattle.grammar.specs.Trees as tree
use Rattle.statics.specs.Modes.{Word, int, byte, plain, ref_array, Element, simple, records, INT, BYTE, Thing}
use Rattle.statics.specs.Scopes.{Text, Env, same_word, Signature, record_modes}
use Rattle.statics.specs.Written.{mode_of, element_of}
use Rattle.statics.specs.Values.{Want, free, simply, several, recorded, inner, address_mode, total, how_many, front_value}
use Rattle.statics.specs.Modules.{maybe_mode, modes, in_record, in_procedure, outermost, module_env}
use Rattle.statics.specs.JudgeExpressions.{then, check, look, keeps, same_mode, same_element, judge_each}
use Rattle.statics.specs.JudgeStatements.{judge_record_name, judge_written, judge_element, is_plain, judge_body}

abbrev pub takes_integer : Want → Bool → ℕ → Bool
takes_integer free s v = true
takes_integer (simply (plain int)) s v = true
takes_integer (simply (plain byte)) false v = nat_lt v 256
takes_integer _ s v = false

abbrev pub takes_name : Want → Thing → Bool
takes_name free t = true
takes_name (simply m) t = option_eq same_mode (address_mode t) (Some m)
takes_name _ t = false

abbrev pub takes_string : Want → ℕ → Bool
takes_string free k = true
takes_string (simply m) k = same_mode m (ref_array (simple BYTE))
takes_string (several n e) k = same_element e (simple BYTE) && n == k
takes_string (recorded r) k = false

abbrev pub takes_list : Env → Want → ℕ → ℕ → Bool
takes_list Γ free k n = true
takes_list Γ (simply m) k n = false
takes_list Γ (several l e) k n = n == l
takes_list Γ (recorded r) k n = k == length (record_modes Γ.parts r)

abbrev pub repeats : Want → Bool
repeats (recorded r) = false
repeats _ = true

abbrev mutual
  pub judge_value : Env → Want → Value → Result (Unit {0}) Refusal
  judge_value Γ w (constant i) = check (takes_integer w false (Γ.text.value i)) (Misfit i)
  judge_value Γ w (signed s i) = check (takes_integer w true (Γ.text.value i)) (Misfit s)
  judge_value Γ w (minus_signed s i) = check (takes_integer w true (Γ.text.value i)) (Misfit s)
  judge_value Γ w (identifier n) = then (look Γ n keeps) (λ t. check (takes_name w t) (Misfit n))
  judge_value Γ w (string i) = check (takes_string w (Γ.text.size i)) (Misfit i)
  judge_value Γ w (empty_list i) = check (takes_list Γ w 0 0) (Misfit i)
  judge_value Γ w (list i vs) = then (judge_values Γ w vs) (λ u. check (takes_list Γ w (how_many vs) (total Γ.text.value vs)) (Misfit i))

  pub judge_values : Env → Want → Values → Result (Unit {0}) Refusal
  judge_values Γ w (only e) = judge_entry Γ w 0 e
  judge_values Γ w (and vs e) = then (judge_values Γ w vs) (λ u. judge_entry Γ w (how_many vs) e)

  pub judge_entry : Env → Want → ℕ → Entry → Result (Unit {0}) Refusal
  judge_entry Γ w k (once v) = judge_value Γ (inner Γ w k) v
  judge_entry Γ w k (repeated v i n) = then (judge_value Γ (inner Γ w k) v) (λ u. check (repeats w) (Misfit (front_value v)))

abbrev pub element_starts : Env → Element → Bool
element_starts Γ (simple m) = is_plain m
element_starts Γ (records r) = list_all is_plain (record_modes Γ.parts r)

abbrev pub valueless : Env → Want → Bool
valueless Γ free = true
valueless Γ (simply m) = is_plain m
valueless Γ (several n e) = n == 0 || element_starts Γ e
valueless Γ (recorded r) = list_all is_plain (record_modes Γ.parts r)

-- Module items.
abbrev pub judge_opt : {A : Type 0} → (A → Result (Unit {0}) Refusal) → Opt A → Result (Unit {0}) Refusal
judge_opt f tree.none = Ok tt
judge_opt f (tree.some a) = f a

abbrev pub judge_fields : Env → Fields → Result (Unit {0}) Refusal
judge_fields Γ (tree.field m n) = judge_written Γ m
judge_fields Γ (also fs n) = judge_fields Γ fs
judge_fields Γ (tree.next fs m n) = then (judge_fields Γ fs) (λ u. judge_written Γ m)

abbrev pub admitted : Word → Signature → Bool
admitted w s =
    (same_word w (codes "INBYTE") && (pointwise same_mode s.takes [] && option_eq same_mode s.gives (Some INT)))
    || (same_word w (codes "OUTBYTE") && (pointwise same_mode s.takes (BYTE ∷ []) && option_eq same_mode s.gives None))

abbrev pub judge_data_item : Env → Want → Init Value → Result (Unit {0}) Refusal
judge_data_item Γ w (tree.plain n) = check (valueless Γ w) (NoValue n)
judge_data_item Γ w (given ns v) = judge_value Γ w v

abbrev pub judge_data_dec : Env → Dec (Many (Init Value)) → Result (Unit {0}) Refusal
judge_data_dec Γ tree.nothing = Ok tt
judge_data_dec Γ (variables m is) = then (judge_written Γ m) (λ u. judge_each (judge_data_item Γ (simply (mode_of Γ.text m))) is)
judge_data_dec Γ (arrays b n m is) = then (judge_element Γ m) (λ u. judge_each (judge_data_item Γ (several (Γ.text.value n) (element_of Γ.text m))) is)
judge_data_dec Γ (structures n is) = then (judge_record_name Γ n) (λ u. judge_each (judge_data_item Γ (recorded (Γ.text.word n))) is)

abbrev pub judge_brick : Env → Brick → Result (Unit {0}) Refusal
judge_brick Γ (store n ds) = judge_each (judge_data_dec Γ) ds
judge_brick Γ (procedure n i ps m b e) =
    then (judge_opt (judge_fields (outermost (in_procedure Γ ps m) b)) ps) (λ u. then (judge_opt (judge_written Γ) m) (λ v. judge_body (in_procedure Γ ps m) b))

abbrev pub judge_moditem : Env → Moditem → Result (Unit {0}) Refusal
judge_moditem Γ blank = Ok tt
judge_moditem Γ (external_procs i ms m ns) =
    then (judge_opt (judge_each (judge_written Γ)) ms)
    (λ u. then (judge_opt (judge_written Γ) m) (λ v. judge_each (λ n. check (admitted (Γ.text.word n) (record { takes = modes Γ.text ms; gives = maybe_mode Γ.text m })) (WrongName n)) ns))
judge_moditem Γ (external_store n ds) = Err (WrongName n)
judge_moditem Γ (tree.record_mode n i fs) = judge_fields (in_record Γ fs) fs
judge_moditem Γ (own b) = judge_brick Γ b
judge_moditem Γ (entry b) = judge_brick Γ b

abbrev pub judge_module : Text → Module → Result (Unit {0}) Refusal
judge_module x m = judge_each (judge_moditem (module_env x m)) m
