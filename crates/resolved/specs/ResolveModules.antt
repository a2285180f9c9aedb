-- The resolving of initial values, module items and a whole module. Theorems says that it is right.
use Rattle.std.specs.Prelude.{ℕ, zero, suc, Bool, true, false, List, [], ◌∷◌, ◌++◌, map, length, Some, None, Ok, Option, Result}
use Rattle.statics.specs.declared.Refusal.{Refusal}
use Rattle.statics.specs.declared.Refusal.TheVariants.{Misfit, NoValue}
use Rattle.grammar.specs.Trees.{Value, constant, signed, minus_signed, identifier, string, empty_list, list, Values, only, and, Entry, once, repeated, Many, Opt, Fields, Init, given, Dec, variables, arrays, structures, Body, Brick, store, procedure, Moditem, blank, external_procs, external_store, own, entry, Module}
use Rattle.grammar.specs.Trees as tree
use Rattle.statics.specs.Modes.{Plain, int, byte, Mode, plain, Element, simple, records}
use Rattle.statics.specs.Scopes.{Text, Env, Component, record_modes}
use Rattle.statics.specs.Written.{mode_of, element_of, gather}
use Rattle.statics.specs.Blocks.{blocks}
use Rattle.statics.specs.DeclaredTwice.{block_names}
use Rattle.statics.specs.Values.{Want, free, simply, several, recorded, inner, total, how_many, front_value}
use Rattle.statics.specs.Modules.{parameters, maybe_mode, names_of, in_procedure, outermost, module_env}
use Rattle.statics.specs.JudgeExpressions.{then, check, keeps}
use Rattle.statics.specs.JudgeStatements.{judge_record_name, judge_written, judge_element}
use Rattle.statics.specs.JudgeModules.{takes_integer, takes_name, takes_string, takes_list, repeats, valueless, judge_opt, judge_fields, judge_moditem}
use Rattle.resolved.specs.Forms.{Cell, Datum, Procedure, Part, Resolved}
use Rattle.resolved.specs.Forms as form
use Rattle.resolved.specs.Grounds.{Ground, home_at, ground}
use Rattle.resolved.specs.ResolveExpressions.{find, resolve_each}
use Rattle.resolved.specs.ResolveStatements.{resolve_body}
use Rattle.resolved.specs.Places.{places}

-- a list n times
abbrev pub copies : {A : Type 0} → ℕ → List A → List A
copies zero xs = []
copies (suc n) xs = copies n xs ++ xs

-- the modes of the places of what is declared
abbrev pub element_modes : List Component → Element → List Mode
element_modes cs (simple m) = m ∷ []
element_modes cs (records r) = record_modes cs r

abbrev pub place_modes : List Component → Want → List Mode
place_modes cs free = []
place_modes cs (simply m) = m ∷ []
place_modes cs (several n e) = copies n (element_modes cs e)
place_modes cs (recorded r) = record_modes cs r

-- Initial values: what they put into the places, one cell for each.
abbrev pub wanted_plain : Want → Plain
wanted_plain (simply (plain byte)) = byte
wanted_plain w = int

abbrev pub bytes_of : ℕ → ℕ → List Cell
bytes_of i zero = []
bytes_of i (suc k) = bytes_of i k ++ form.byte_of i k ∷ []

-- a string of k bytes fills an array; elsewhere it gives its address
abbrev pub string_cells : Want → ℕ → ℕ → List Cell
string_cells (several n e) i k = bytes_of i k
string_cells w i k = form.string_address i ∷ []

abbrev mutual
  pub resolve_value : Ground → Env → Want → Value → Result (List Cell) Refusal
  resolve_value G Γ w (constant i) = then (check (takes_integer w false (Γ.text.value i)) (Misfit i)) (λ u. Ok (form.number (wanted_plain w) (Γ.text.value i) ∷ []))
  resolve_value G Γ w (signed s i) = then (check (takes_integer w true (Γ.text.value i)) (Misfit s)) (λ u. Ok (form.number (wanted_plain w) (Γ.text.value i) ∷ []))
  resolve_value G Γ w (minus_signed s i) = then (check (takes_integer w true (Γ.text.value i)) (Misfit s)) (λ u. Ok (form.minus (Γ.text.value i) ∷ []))
  resolve_value G Γ w (identifier n) = then (find Γ n keeps) (λ t. then (check (takes_name w t.0) (Misfit n)) (λ u. Ok (form.address (home_at G t.1).item ∷ [])))
  resolve_value G Γ w (string i) = then (check (takes_string w (Γ.text.size i)) (Misfit i)) (λ u. Ok (string_cells w i (Γ.text.size i)))
  resolve_value G Γ w (empty_list i) = then (check (takes_list Γ w 0 0) (Misfit i)) (λ u. Ok [])
  resolve_value G Γ w (list i vs) = then (resolve_values G Γ w vs) (λ cs. then (check (takes_list Γ w (how_many vs) (total Γ.text.value vs)) (Misfit i)) (λ u. Ok cs))

  pub resolve_values : Ground → Env → Want → Values → Result (List Cell) Refusal
  resolve_values G Γ w (only e) = resolve_entry G Γ w 0 e
  resolve_values G Γ w (and vs e) = then (resolve_values G Γ w vs) (λ cs. then (resolve_entry G Γ w (how_many vs) e) (λ ds. Ok (cs ++ ds)))

  pub resolve_entry : Ground → Env → Want → ℕ → Entry → Result (List Cell) Refusal
  resolve_entry G Γ w k (once v) = resolve_value G Γ (inner Γ w k) v
  resolve_entry G Γ w k (repeated v i n) = then (resolve_value G Γ (inner Γ w k) v) (λ cs. then (check (repeats w) (Misfit (front_value v))) (λ u. Ok (copies (Γ.text.value n) cs)))

-- Data variables: names that share a value have it each.
abbrev pub datum : Env → Want → Option (List Cell) → ℕ → Part
datum Γ w o n = form.datum (record { item = n; shape = w; modes = place_modes Γ.parts w; cells = o })

abbrev pub resolve_data_item : Ground → Env → Want → Init Value → Result (List Part) Refusal
resolve_data_item G Γ w (tree.plain n) = then (check (valueless Γ w) (NoValue n)) (λ u. Ok (datum Γ w None n ∷ []))
resolve_data_item G Γ w (given ns v) = then (resolve_value G Γ w v) (λ cs. Ok (map (datum Γ w (Some cs)) (names_of ns)))

-- the parts of many, one after the other
abbrev pub all_parts : {A : Type 0} → (A → Result (List Part) Refusal) → Many A → Result (List Part) Refusal
all_parts f m = then (resolve_each f m) (λ ps. Ok (gather (λ p. p) ps))

abbrev pub resolve_data_dec : Ground → Env → Dec (Many (Init Value)) → Result (List Part) Refusal
resolve_data_dec G Γ tree.nothing = Ok []
resolve_data_dec G Γ (variables m is) = then (judge_written Γ m) (λ u. all_parts (resolve_data_item G Γ (simply (mode_of Γ.text m))) is)
resolve_data_dec G Γ (arrays b n m is) = then (judge_element Γ m) (λ u. all_parts (resolve_data_item G Γ (several (Γ.text.value n) (element_of Γ.text m))) is)
resolve_data_dec G Γ (structures n is) = then (judge_record_name Γ n) (λ u. all_parts (resolve_data_item G Γ (recorded (Γ.text.word n))) is)

-- A procedure with its resolved body. Blocks beside each other share slots, so as many slots as it has parameters and locals are enough.
abbrev pub whole : Text → Bool → ℕ → Opt Fields → Opt tree.Mode → Body → ℕ → form.Body → Procedure
whole x ent n ps m b e c = record {
  item = n;
  entry = ent;
  takes = map (λ f. f.mode) (parameters x ps);
  gives = maybe_mode x m;
  end = e;
  slots = length (map (λ f. f.item) (parameters x ps) ++ blocks (block_names x) b);
  body = c;
}

abbrev pub resolve_brick : Ground → Env → Bool → Brick → Result (List Part) Refusal
resolve_brick G Γ ent (store n ds) = all_parts (resolve_data_dec G Γ) ds
resolve_brick G Γ ent (procedure n i ps m b e) =
    then (judge_opt (judge_fields (outermost (in_procedure Γ ps m) b)) ps)
    (λ u. then (judge_opt (judge_written Γ) m) (λ v. then (resolve_body G (in_procedure Γ ps m) b) (λ c. Ok (form.procedure (whole Γ.text ent n ps m b e c) ∷ []))))

-- of any other item nothing is kept
abbrev pub resolve_moditem : Ground → Env → Moditem → Result (List Part) Refusal
resolve_moditem G Γ (own b) = resolve_brick G Γ false b
resolve_moditem G Γ (entry b) = resolve_brick G Γ true b
resolve_moditem G Γ it = then (judge_moditem Γ it) (λ u. Ok [])

-- THE RESOLVED TREE of a module, or why there is none.
abbrev pub resolve_module : Text → Module → Result Resolved Refusal
resolve_module x m = then (all_parts (resolve_moditem (ground x m) (module_env x m)) m) (λ ps. Ok (record { parts = ps; places = places x m }))
