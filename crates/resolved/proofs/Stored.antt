-- Where the names of a module come from; and a data variable has one cell for each of its places. Assumes nothing.
use Rattle.std.proofs.Common.{◌≡◌, ℕ, zero, suc, ◌+◌, ◌*◌, ◌<◌, ◌≤◌, Bool, true, false, List, [], ◌∷◌, ◌++◌, map, length, Some, None, slice_get, sym, refl, ap, ◌∙◌, subst, arith, length-append}
use Rattle.std.specs.Prelude.{All, ◌==◌}
use Rattle.std.proofs.Math.Nat.{suc-mul, add-mul}
use Rattle.std.proofs.lemmas.List.{map-append}
use Rattle.std.proofs.lemmas.List.Elements.{All-nil, All-cons}
use Rattle.std.proofs.lemmas.Bool.{and_parts}
use Rattle.std.proofs.lemmas.Bool.Decides.{Decides-eqb}
use Rattle.grammar.specs.Trees.{Value, constant, signed, minus_signed, identifier, string, empty_list, list, Values, only, and, Entry, once, repeated, Many, one, more, Init, given, Dec, variables, arrays, structures, Brick, store, procedure, Moditem, blank, external_procs, external_store, own, entry, Module}
use Rattle.grammar.specs.Trees as tree
use Rattle.statics.specs.Modes.{Mode, Element, simple, records, Thing, BYTE}
use Rattle.statics.specs.Scopes.{Text, Env, Component, record_modes}
use Rattle.statics.specs.Written.{mode_of, element_of, gather, site, items}
use Rattle.statics.specs.Values.{Want, free, simply, several, recorded, inner, element_want, component_want, times, total, how_many}
use Rattle.statics.specs.Modules.{names_of, in_procedure, outermost, moditem_names, module_env}
use Rattle.statics.specs.Space.{element_scalars, scalars}
use Rattle.statics.specs.JudgeExpressions.{keeps, same_element}
use Rattle.statics.specs.JudgeStatements.{judge_written}
use Rattle.statics.specs.JudgeModules.{takes_integer, takes_name, takes_string, takes_list, repeats, judge_opt, judge_fields, judge_moditem}
use Rattle.statics.proofs.Fit.{same_element_decides}
use Rattle.resolved.specs.Forms.{Cell, Part, Resolved, byte_of}
use Rattle.resolved.specs.Forms as form
use Rattle.resolved.specs.Grounds.{Ground, home, outside, moditem_homes, ground}
use Rattle.resolved.specs.ResolveExpressions.{find}
use Rattle.resolved.specs.ResolveStatements.{resolve_body}
use Rattle.resolved.specs.ResolveModules.{copies, element_modes, place_modes, bytes_of, string_cells, resolve_value, resolve_values, resolve_entry, datum, resolve_data_item, resolve_data_dec, whole, resolve_brick, resolve_moditem, resolve_module}
use Rattle.resolved.specs.Theorems.{Filled, Tree}
use Rattle.resolved.proofs.Holding.{Of, holds, of_then, of_like, of_check, of_any, of_right, parts_hold}

pub map_twice : {A B C : Type 0} (f : B → C) (g : A → B) (xs : List A) → map f (map g xs) ≡ map (λ a. f (g a)) xs
map_twice f g [] = refl
map_twice f g (x ∷ xs) = ap (λ l. f (g x) ∷ l) (map_twice f g xs)

gathered : {A B C D : Type 0} (f : A → List B) (g : A → List C) (h : B → D) (k : C → D) → ((a : A) → map h (f a) ≡ map k (g a)) → (m : Many A) → map h (gather f m) ≡ map k (gather g m)
gathered f g h k e (one a) = e a
gathered f g h k e (more m a) = rw (map-append h (gather f m) (f a), map-append k (gather g m) (g a), gathered f g h k e m, e a)

moditem_items : (x : Text) (it : Moditem) → map (λ h. h.item) (moditem_homes x it) ≡ items (moditem_names x it)
moditem_items x (external_procs i ms m ns) = map_twice (λ h. h.item) (λ n. home n (outside m)) (names_of ns) ∙ sym (map_twice (λ s. s.item) (site _) (names_of ns))
moditem_items x it = map_twice (λ h. h.item) (λ s. home s.item (form.own s.item)) (moditem_names x it)

pub ground_items : (x : Text) (m : Module) → map (λ h. h.item) (ground x m) ≡ items (gather (moditem_names x) m)
ground_items x m = gathered (moditem_homes x) (moditem_names x) (λ h. h.item) (λ s. s.item) (moditem_items x) m

length-copies : {A : Type 0} (n : ℕ) (xs : List A) → length (copies n xs) ≡ n * length xs
length-copies zero xs = omega arith
length-copies (suc n) xs = rw (length-append (copies n xs) xs, length-copies n xs, suc-mul)

length-bytes : (i k : ℕ) → length (bytes_of i k) ≡ k
length-bytes i zero = refl
length-bytes i (suc k) = length-append (bytes_of i k) _ ∙ (ap (λ n. n + 1) (length-bytes i k) ∙ omega arith)

element_places : (ps : List Component) (e : Element) → length (element_modes ps e) ≡ element_scalars ps e
element_places ps (simple m) = refl
element_places ps (records r) = refl

pub places_counted : (ps : List Component) (w : Want) → length (place_modes ps w) ≡ scalars ps w
places_counted ps free = refl
places_counted ps (simply m) = refl
places_counted ps (several n e) = length-copies n (element_modes ps e) ∙ ap (λ k. n * k) (element_places ps e)
places_counted ps (recorded r) = refl

-- Initial values: n cells are as many as there are places.
abbrev Counted : List Component → Want → ℕ → Type 0
Counted ps free n = Unit {0}
Counted ps w n = n ≡ length (place_modes ps w)

integer_counted : (ps : List Component) (w : Want) (s : Bool) (v : ℕ) → takes_integer w s v ≡ true → Counted ps w 1
integer_counted ps free s v e = tt
integer_counted ps (simply m) s v e = refl
integer_counted ps (several n d) s v e = grind arith
integer_counted ps (recorded r) s v e = grind arith

name_counted : (ps : List Component) (w : Want) (t : Thing) → takes_name w t ≡ true → Counted ps w 1
name_counted ps free t e = tt
name_counted ps (simply m) t e = refl
name_counted ps (several n d) t e = grind arith
name_counted ps (recorded r) t e = grind arith

string_counted : (ps : List Component) (w : Want) (i k : ℕ) → takes_string w k ≡ true → Counted ps w (length (string_cells w i k))
string_counted ps free i k e = tt
string_counted ps (simply m) i k e = refl
string_counted ps (several n d) i k e =
    let h = and_parts (same_element d (simple BYTE)) (n == k) e in
    let p = (same_element_decides d (simple BYTE)).0 h.0 in
    let q = (Decides-eqb n k).0 h.1 in
    rw (length-bytes i k, length-copies n (element_modes ps d), p, q) (omega arith)
string_counted ps (recorded r) i k e = grind arith

abbrev Entered : (ℕ → ℕ) → List Component → Want → ℕ → Entry → ℕ → Type 0
Entered f ps (several l d) k e n = n ≡ times f e * length (element_modes ps d)
Entered f ps (recorded r) k e n = k < length (record_modes ps r) → n ≡ 1
Entered f ps w k e n = Unit {0}

abbrev Listed : (ℕ → ℕ) → List Component → Want → Values → ℕ → Type 0
Listed f ps (several l d) vs n = n ≡ total f vs * length (element_modes ps d)
Listed f ps (recorded r) vs n = how_many vs ≤ length (record_modes ps r) → n ≡ how_many vs
Listed f ps w vs n = Unit {0}

list_counted : (Γ : Env) (w : Want) (vs : Values) (n : ℕ) → takes_list Γ w (how_many vs) (total Γ.text.value vs) ≡ true → Listed Γ.text.value Γ.parts w vs n → Counted Γ.parts w n
list_counted Γ free vs n e h = tt
list_counted Γ (simply m) vs n e h = grind arith
list_counted Γ (several l d) vs n e h = h ∙ (ap (λ k. k * length (element_modes Γ.parts d)) ((Decides-eqb (total Γ.text.value vs) l).0 e) ∙ sym (length-copies l (element_modes Γ.parts d)))
list_counted Γ (recorded r) vs n e h = let q = (Decides-eqb (how_many vs) (length (record_modes Γ.parts r))).0 e in h (omega arith) ∙ q

none_counted : (Γ : Env) (w : Want) → takes_list Γ w 0 0 ≡ true → Counted Γ.parts w 0
none_counted Γ free e = tt
none_counted Γ (simply m) e = grind arith
none_counted Γ (several l d) e = let q : 0 ≡ l = (Decides-eqb 0 l).0 e in rw (length-copies l (element_modes Γ.parts d), ← q) (omega arith)
none_counted Γ (recorded r) e = (Decides-eqb 0 (length (record_modes Γ.parts r))).0 e

element_counted : (ps : List Component) (d : Element) (n : ℕ) → Counted ps (element_want d) n → n ≡ length (element_modes ps d)
element_counted ps (simple m) n h = h
element_counted ps (records r) n h = h

component_counted : (ps : List Component) (ms : List Mode) (k n : ℕ) → Counted ps (component_want (slice_get ms k)) n → k < length ms → n ≡ 1
component_counted ps [] k n h l = omega arith
component_counted ps (m ∷ ms) zero n h l = h
component_counted ps (m ∷ ms) (suc k) n h l = component_counted ps ms k n h (omega arith)

once_entered : (Γ : Env) (w : Want) (k : ℕ) (v : Value) (n : ℕ) → Counted Γ.parts (inner Γ w k) n → Entered Γ.text.value Γ.parts w k (once v) n
once_entered Γ (several l d) k v n h = let q = element_counted Γ.parts d n h in omega arith
once_entered Γ (recorded r) k v n h = component_counted Γ.parts (record_modes Γ.parts r) k n h
once_entered Γ _ k v n h = tt

repeated_entered : (Γ : Env) (w : Want) (k : ℕ) (v : Value) (i j : ℕ) (cs : List Cell) → repeats w ≡ true → Counted Γ.parts (inner Γ w k) (length cs) → Entered Γ.text.value Γ.parts w k (repeated v i j) (length (copies (Γ.text.value j) cs))
repeated_entered Γ (several l d) k v i j cs e h = length-copies (Γ.text.value j) cs ∙ ap (λ n. Γ.text.value j * n) (element_counted Γ.parts d (length cs) h)
repeated_entered Γ (recorded r) k v i j cs e h = grind arith
repeated_entered Γ _ k v i j cs e h = tt

first_listed : (f : ℕ → ℕ) (ps : List Component) (w : Want) (e : Entry) (n : ℕ) → Entered f ps w 0 e n → Listed f ps w (only e) n
first_listed f ps (several l d) e n h = h
first_listed f ps (recorded r) e n h = h
first_listed f ps _ e n h = tt

further_listed : (f : ℕ → ℕ) (ps : List Component) (w : Want) (vs : Values) (e : Entry) (cs ds : List Cell) → Listed f ps w vs (length cs) → Entered f ps w (how_many vs) e (length ds) → Listed f ps w (and vs e) (length (cs ++ ds))
further_listed f ps (several l d) vs e cs ds h k = rw (length-append cs ds, h, k) (sym (add-mul (total f vs) (times f e) (length (element_modes ps d))))
further_listed f ps (recorded r) vs e cs ds h k = λ l. let a = h (omega arith) in let b = k l in rw (length-append cs ds) (omega arith)
further_listed f ps _ vs e cs ds h k = tt

mutual
  value_cells : (G : Ground) (Γ : Env) (w : Want) (v : Value) → Of (λ cs. Counted Γ.parts w (length cs)) (resolve_value G Γ w v)
  value_cells G Γ w (constant i) = of_check _ _ (λ u e. holds (integer_counted Γ.parts w false (Γ.text.value i) e))
  value_cells G Γ w (signed s i) = of_check _ _ (λ u e. holds (integer_counted Γ.parts w true (Γ.text.value i) e))
  value_cells G Γ w (minus_signed s i) = of_check _ _ (λ u e. holds (integer_counted Γ.parts w true (Γ.text.value i) e))
  value_cells G Γ w (identifier n) = of_any (find Γ n keeps) (λ t. of_check _ _ (λ u e. holds (name_counted Γ.parts w t.0 e)))
  value_cells G Γ w (string i) = of_check _ _ (λ u e. holds (string_counted Γ.parts w i (Γ.text.size i) e))
  value_cells G Γ w (empty_list i) = of_check _ _ (λ u e. holds (none_counted Γ w e))
  value_cells G Γ w (list i vs) = of_then (values_cells G Γ w vs) (λ cs h. of_check _ _ (λ u e. holds (list_counted Γ w vs (length cs) e h)))

  values_cells : (G : Ground) (Γ : Env) (w : Want) (vs : Values) → Of (λ cs. Listed Γ.text.value Γ.parts w vs (length cs)) (resolve_values G Γ w vs)
  values_cells G Γ w (only e) = of_like (λ cs h. first_listed Γ.text.value Γ.parts w e (length cs) h) (entry_cells G Γ w 0 e)
  values_cells G Γ w (and vs e) = of_then (values_cells G Γ w vs) (λ cs h. of_then (entry_cells G Γ w (how_many vs) e) (λ ds k. holds (further_listed Γ.text.value Γ.parts w vs e cs ds h k)))

  entry_cells : (G : Ground) (Γ : Env) (w : Want) (k : ℕ) (e : Entry) → Of (λ cs. Entered Γ.text.value Γ.parts w k e (length cs)) (resolve_entry G Γ w k e)
  entry_cells G Γ w k (once v) = of_like (λ cs h. once_entered Γ w k v (length cs) h) (value_cells G Γ (inner Γ w k) v)
  entry_cells G Γ w k (repeated v i n) = of_then (value_cells G Γ (inner Γ w k) v) (λ cs h. of_check _ _ (λ u e. holds (repeated_entered Γ w k v i n cs e h)))

-- Parts.
abbrev AllFilled : List Component → List Part → Type 0
AllFilled ps = All (Filled ps)

-- what something is wanted for that is declared
abbrev Proper : Want → Type 0
Proper free = ⊥
Proper w = Unit {0}

proper_counted : (ps : List Component) (w : Want) (n : ℕ) → Proper w → Counted ps w n → n ≡ length (place_modes ps w)
proper_counted ps free n p h = absurd p
proper_counted ps (simply m) n p h = h
proper_counted ps (several l d) n p h = h
proper_counted ps (recorded r) n p h = h

with_cells : (Γ : Env) (w : Want) (cs : List Cell) → Proper w → Counted Γ.parts w (length cs) → (n : ℕ) → Filled Γ.parts (datum Γ w (Some cs) n)
with_cells Γ w cs p h n = (places_counted Γ.parts w, λ ds e. subst (λ l. length l ≡ length (place_modes Γ.parts w)) (let q : cs ≡ ds = cc in q) (proper_counted Γ.parts w (length cs) p h))

pub all_made : (P : Part → Type 0) (f : ℕ → Part) → ((n : ℕ) → P (f n)) → (ns : List ℕ) → All P (map f ns)
all_made P f h [] = All-nil P
all_made P f h (n ∷ ns) = All-cons P (f n) (map f ns) (h n) (all_made P f h ns)

item_filled : (G : Ground) (Γ : Env) (w : Want) (i : Init Value) → Proper w → Of (AllFilled Γ.parts) (resolve_data_item G Γ w i)
item_filled G Γ w (tree.plain n) p = of_check _ _ (λ u e. holds (All-cons (Filled Γ.parts) (datum Γ w None n) [] (places_counted Γ.parts w, λ cs q. grind arith) (All-nil (Filled Γ.parts))))
item_filled G Γ w (given ns v) p = of_then (value_cells G Γ w v) (λ cs h. holds (all_made (Filled Γ.parts) (datum Γ w (Some cs)) (with_cells Γ w cs p h) _))

dec_filled : (G : Ground) (Γ : Env) (d : Dec (Many (Init Value))) → Of (AllFilled Γ.parts) (resolve_data_dec G Γ d)
dec_filled G Γ tree.nothing = holds (All-nil (Filled Γ.parts))
dec_filled G Γ (variables m is) = of_any _ (λ u. parts_hold (Filled Γ.parts) (λ i. item_filled G Γ (simply (mode_of Γ.text m)) i tt) is)
dec_filled G Γ (arrays b n m is) = of_any _ (λ u. parts_hold (Filled Γ.parts) (λ i. item_filled G Γ (several (Γ.text.value n) (element_of Γ.text m)) i tt) is)
dec_filled G Γ (structures n is) = of_any _ (λ u. parts_hold (Filled Γ.parts) (λ i. item_filled G Γ (recorded (Γ.text.word n)) i tt) is)

brick_filled : (G : Ground) (Γ : Env) (ent : Bool) (b : Brick) → Of (AllFilled Γ.parts) (resolve_brick G Γ ent b)
brick_filled G Γ ent (store n ds) = parts_hold (Filled Γ.parts) (dec_filled G Γ) ds
brick_filled G Γ ent (procedure n i ps m b e) =
    of_any (judge_opt (judge_fields (outermost (in_procedure Γ ps m) b)) ps)
    (λ u. of_any (judge_opt (judge_written Γ) m)
    (λ v. of_any (resolve_body G (in_procedure Γ ps m) b) (λ c. holds (All-cons (Filled Γ.parts) (form.procedure (whole Γ.text ent n ps m b e c)) [] tt (All-nil (Filled Γ.parts))))))

moditem_filled : (G : Ground) (Γ : Env) (it : Moditem) → Of (AllFilled Γ.parts) (resolve_moditem G Γ it)
moditem_filled G Γ (own b) = brick_filled G Γ false b
moditem_filled G Γ (entry b) = brick_filled G Γ true b
moditem_filled G Γ it = of_any (judge_moditem Γ it) (λ u. holds {a = []} (All-nil (Filled Γ.parts)))

module_filled : (x : Text) (m : Module) → Of (λ T. AllFilled (module_env x m).parts T.parts) (resolve_module x m)
module_filled x m = of_then (parts_hold (Filled (module_env x m).parts) (moditem_filled (ground x m) (module_env x m)) m) (λ ps p. holds p)

pub tree_filled : (x : Text) (m : Module) (T : Resolved) → Tree x m T → AllFilled (module_env x m).parts T.parts
tree_filled x m T e = of_right (module_filled x m) T e
