-- A resolved tree names just what it has. Assumes nothing.
use Rattle.std.proofs.Common.{◌≡◌, ℕ, zero, suc, ◌+◌, ◌<◌, ◌≤◌, Bool, true, false, List, [], ◌∷◌, ◌++◌, map, length, get_or, Some, None, sym, refl, ap, ◌∙◌, subst, arith, length-append}
use Rattle.std.specs.Prelude.{All, Contains}
use Rattle.std.proofs.lemmas.List.{length-map, map-append}
use Rattle.std.proofs.lemmas.List.Elements.{All-nil, All-cons, All-head, All-tail, All-append, All-push, All-contains_itself}
use Rattle.grammar.specs.Trees.{Value, constant, signed, minus_signed, identifier, string, empty_list, list, Values, only, and, Entry, once, repeated, Many, one, more, Opt, Fields, Init, given, Dec, variables, arrays, structures, Body, Brick, store, procedure, Moditem, blank, external_procs, external_store, own, entry, Module}
use Rattle.grammar.specs.Trees as tree
use Rattle.statics.specs.Modes.{Thing}
use Rattle.statics.specs.Scopes.{Text, Env, Class, Signature, nobody, class_at, stored, local, routine}
use Rattle.statics.specs.Written.{mode_of, element_of, gather, item_names, list_names, Site, site, declare}
use Rattle.statics.specs.Blocks.{blocks}
use Rattle.statics.specs.DeclaredTwice.{block_names}
use Rattle.statics.specs.Values.{Want, free, simply, several, recorded, inner, how_many}
use Rattle.statics.specs.Modules.{Field, parameters, names_of, dec_names, brick_names, moditem_names, in_procedure, outermost, module_env}
use Rattle.statics.specs.Space.{Charge, value_strings, values_strings, entry_strings, body_strings, string_charges, item_charges, dec_charges, brick_charges, moditem_charges, charges}
use Rattle.statics.specs.JudgeExpressions.{keeps}
use Rattle.statics.specs.JudgeStatements.{judge_record_name, judge_written, judge_element}
use Rattle.statics.specs.JudgeModules.{valueless, judge_opt, judge_fields, judge_moditem}
use Rattle.resolved.specs.Forms.{Cell, Part, Span, Resolved}
use Rattle.resolved.specs.Forms as form
use Rattle.resolved.specs.Grounds.{Home, home, outside, Ground, home_at, moditem_homes, ground}
use Rattle.resolved.specs.Places.{places}
use Rattle.resolved.specs.ResolveExpressions.{find, resolve_each}
use Rattle.resolved.specs.ResolveModules.{copies, bytes_of, string_cells, resolve_value, resolve_values, resolve_entry, all_parts, resolve_data_item, resolve_data_dec, whole, resolve_brick, resolve_moditem, resolve_module}
use Rattle.resolved.specs.ResolveModules as resolve
use Rattle.resolved.specs.Parts.{Named, slot, datum, of_part, item_declared, dec_declared, brick_declared, declared}
use Rattle.resolved.specs.Parts as parts
use Rattle.resolved.specs.Naming.{InsideCell, Nameable, WellNamed}
use Rattle.resolved.specs.Theorems.{Tree, of_span}
use Rattle.resolved.proofs.Holding.{Of, holds, refused, of_then, of_like, of_check, of_any, of_fact, of_right, parts_held, all_left, all_right}
use Rattle.resolved.proofs.Stored.{map_twice, ground_items, all_made}
use Rattle.resolved.proofs.Places.{each_laid}
use Rattle.resolved.proofs.Rooms.{Outer, IsLocal, find_found, Strung, strung_left, strung_right}
use Rattle.resolved.proofs.Slotted.{AllLocal, outer_more, inner_more, Deep, body_inside}
use Rattle.resolved.proofs.Declared.{tree_these}

all_unmapped : {A B : Type 0} (P : B → Type 0) (f : A → B) (xs : List A) → All P (map f xs) → All (λ a. P (f a)) xs
all_unmapped P f [] h = All-nil (λ a. P (f a))
all_unmapped P f (x ∷ xs) h = All-cons (λ a. P (f a)) x xs (All-head P (f x) (map f xs) h) (all_unmapped P f xs (All-tail P (f x) (map f xs) h))

-- The names of an accepted module and where they come from: what each means, is known.
abbrev Matched : (Named → Type 0) → List Site → List Home → Type 0
Matched P [] [] = Unit {0}
Matched P (s ∷ ss) (h ∷ hs) = Outer P h s.class × Matched P ss hs
Matched P _ _ = ⊥

matched_append : (P : Named → Type 0) (ss ts : List Site) (hs ks : List Home) → Matched P ss hs → Matched P ts ks → Matched P (ss ++ ts) (hs ++ ks)
matched_append P [] ts [] ks m n = n
matched_append P [] ts (h ∷ hs) ks m n = absurd m
matched_append P (s ∷ ss) ts [] ks m n = absurd m
matched_append P (s ∷ ss) ts (h ∷ hs) ks m n = (m.0, matched_append P ss ts hs ks m.1 n)

matched_at : (P : Named → Type 0) (x : Text) (ss : List Site) (hs : List Home) → Matched P ss hs → (i : ℕ) → i < length hs → Outer P (home_at hs i) (get_or (map (declare x) ss) i nobody).class
matched_at P x [] [] m i l = absurd (omega arith)
matched_at P x [] (h ∷ hs) m i l = absurd m
matched_at P x (s ∷ ss) [] m i l = absurd m
matched_at P x (s ∷ ss) (h ∷ hs) m zero l = m.0
matched_at P x (s ∷ ss) (h ∷ hs) m (suc i) l = matched_at P x ss hs m.1 i (omega arith)

-- Names that come from their own items.
stored_matched : (P : Named → Type 0) (t : Thing) (ns : List ℕ) → All P (map datum ns) → Matched P (map (site (stored t)) ns) (map (λ s. home s.item (form.own s.item)) (map (site (stored t)) ns))
stored_matched P t [] h = tt
stored_matched P t (n ∷ ns) h = (All-head P (datum n) (map datum ns) h, stored_matched P t ns (All-tail P (datum n) (map datum ns) h))

-- each of many
all_matched : {A : Type 0} (P : Named → Type 0) (f : A → List Site) (g : A → List Named) → ((a : A) → All P (g a) → Matched P (f a) (map (λ s. home s.item (form.own s.item)) (f a))) → (m : Many A) → All P (gather g m) → Matched P (gather f m) (map (λ s. home s.item (form.own s.item)) (gather f m))
all_matched P f g h (one a) l = h a l
all_matched P f g h (more m a) l =
    subst (λ ks. Matched P (gather f m ++ f a) ks) (sym (map-append (λ s. home s.item (form.own s.item)) (gather f m) (f a)))
    (matched_append P (gather f m) (f a) (map (λ s. home s.item (form.own s.item)) (gather f m)) (map (λ s. home s.item (form.own s.item)) (f a)) (all_matched P f g h m (all_left P (gather g m) (g a) l)) (h a (all_right P (gather g m) (g a) l)))

list_matched : (P : Named → Type 0) (t : Thing) (is : Many (Init Value)) → All P (gather item_declared is) → Matched P (map (site (stored t)) (list_names is)) (map (λ s. home s.item (form.own s.item)) (map (site (stored t)) (list_names is)))
list_matched P t is h = stored_matched P t (list_names is) (subst (All P) (sym (names_declared is)) h)
  where
    names_declared : (js : Many (Init Value)) → map datum (list_names js) ≡ gather item_declared js
    names_declared (one i) = refl
    names_declared (more js i) = rw (map-append datum (list_names js) (item_names i), names_declared js)

dec_matched : (P : Named → Type 0) (x : Text) (d : Dec (Many (Init Value))) → All P (dec_declared d) → Matched P (dec_names x list_names d) (map (λ s. home s.item (form.own s.item)) (dec_names x list_names d))
dec_matched P x tree.nothing h = tt
dec_matched P x (variables m is) h = list_matched P _ is h
dec_matched P x (arrays b n m is) h = list_matched P _ is h
dec_matched P x (structures n is) h = list_matched P _ is h

brick_matched : (P : Named → Type 0) (x : Text) (b : Brick) → All P (brick_declared b) → Matched P (brick_names x b) (map (λ s. home s.item (form.own s.item)) (brick_names x b))
brick_matched P x (store n ds) h = (tt, all_matched P (dec_names x list_names) dec_declared (dec_matched P x) ds h)
brick_matched P x (procedure n i ps m b e) h = (All-head P (parts.procedure n) [] h, tt)

outside_matched : (P : Named → Type 0) (s : Signature) (m : Opt tree.Mode) (ns : List ℕ) → Matched P (map (site (routine s)) ns) (map (λ n. home n (outside m)) ns)
outside_matched P s m [] = tt
outside_matched P s tree.none (n ∷ ns) = (tt, outside_matched P s tree.none ns)
outside_matched P s (tree.some m) (n ∷ ns) = (tt, outside_matched P s (tree.some m) ns)

moditem_matched : (P : Named → Type 0) (G : Ground) (Γ : Env) (it : Moditem) → All P (declared it) → Of (λ ps. Matched P (moditem_names Γ.text it) (moditem_homes Γ.text it)) (resolve_moditem G Γ it)
moditem_matched P G Γ blank h = holds {a = []} tt
moditem_matched P G Γ (external_procs i ms m ns) h = of_any (judge_moditem Γ (external_procs i ms m ns)) (λ u. holds {a = []} (outside_matched P _ m (names_of ns)))
moditem_matched P G Γ (external_store n ds) h = refused
moditem_matched P G Γ (tree.record_mode n i fs) h = of_any (judge_moditem Γ (tree.record_mode n i fs)) (λ u. holds {a = []} (tt, tt))
moditem_matched P G Γ (own b) h = of_fact (resolve_brick G Γ false b) (λ ps. brick_matched P Γ.text b h)
moditem_matched P G Γ (entry b) h = of_fact (resolve_brick G Γ true b) (λ ps. brick_matched P Γ.text b h)

moditems_matched : (P : Named → Type 0) (G : Ground) (Γ : Env) (m : Many Moditem) → All P (gather declared m) → Of (λ ps. Matched P (gather (moditem_names Γ.text) m) (gather (moditem_homes Γ.text) m)) (resolve_each (resolve_moditem G Γ) m)
moditems_matched P G Γ (one it) h = of_then (moditem_matched P G Γ it h) (λ b p. holds p)
moditems_matched P G Γ (more m it) h =
    of_then (moditems_matched P G Γ m (all_left P (gather declared m) (declared it) h))
    (λ bs p. of_then (moditem_matched P G Γ it (all_right P (gather declared m) (declared it) h))
    (λ b q. holds (matched_append P (gather (moditem_names Γ.text) m) (moditem_names Γ.text it) (gather (moditem_homes Γ.text) m) (moditem_homes Γ.text it) p q)))

module_matched : (P : Named → Type 0) (x : Text) (m : Module) → All P (gather declared m) → Of (λ (T : Resolved). Matched P (gather (moditem_names x) m) (ground x m)) (resolve_module x m)
module_matched P x m h = of_then (of_then (moditems_matched P (ground x m) (module_env x m) m h) (λ ps p. holds p)) (λ ps p. holds p)

-- The environment of a module has just the names of the ground, and what each means is known.
record Whole (P : Named → Type 0) (G : Ground) (Γ : Env) : Type 0 where
  names : length G ≡ length Γ.names
  full : Γ.ready ≡ length Γ.names
  outer : (i : ℕ) → i < length G → Outer P (home_at G i) (class_at Γ i)

module_whole : (P : Named → Type 0) (x : Text) (m : Module) → Matched P (gather (moditem_names x) m) (ground x m) → Whole P (ground x m) (module_env x m)
module_whole P x m h = record { names = sym (length-map (ground x m) (λ h. h.item)) ∙ (ap length (ground_items x m) ∙ (length-map sites (λ s. s.item) ∙ sym long)); full = sym long; outer = matched_at P x sites (ground x m) h }
  where
    sites : List Site
    sites = gather (moditem_names x) m

    long : length (map (declare x) (gather (moditem_names x) m)) ≡ length (gather (moditem_names x) m)
    long = length-map (gather (moditem_names x) m) (declare x)

-- the parameters as names
abbrev parameter_sites : List Field → List Site
parameter_sites fs = map (λ f. site (local f.mode) f.item) fs

parameters_local : (fs : List Field) → AllLocal (parameter_sites fs)
parameters_local [] = All-nil (λ (s : Site). IsLocal s.class)
parameters_local (f ∷ fs) = All-cons (λ (s : Site). IsLocal s.class) (site (local f.mode) f.item) (parameter_sites fs) tt (parameters_local fs)

procedure_deep : (P : Named → Type 0) (G : Ground) (k n : ℕ) (Γ : Env) (ps : Opt Fields) (m : Opt tree.Mode) → Whole P G Γ → ((s : ℕ) → s < k → P (slot s)) → length (parameters Γ.text ps) + n ≤ k → Deep P G k (in_procedure Γ ps m) n
procedure_deep P G k n Γ ps m w spare l =
    let a = w.names in
    let b = w.full in
    let fs = parameters Γ.text ps in
    let e = length-append Γ.names (map (λ f. declare Γ.text (site (local f.mode) f.item)) fs) in
    let q = length-map fs (λ f. declare Γ.text (site (local f.mode) f.item)) in
    record {
      below = omega arith;
      full = omega arith;
      further = omega arith;
      outer = outer_more P G Γ (map (λ f. declare Γ.text (site (local f.mode) f.item)) fs) (omega arith) w.outer;
      inner =
          subst (λ ds. (i : ℕ) → length G ≤ i → i < length (Γ.names ++ ds) → IsLocal (get_or (Γ.names ++ ds) i nobody).class) (map_twice (declare Γ.text) (λ f. site (local f.mode) f.item) fs)
          (inner_more G Γ (parameter_sites fs) (parameters_local fs) (λ i h g. absurd (omega arith)));
      free = spare;
    }

-- parameters and locals
abbrev slots_of : Text → Opt Fields → Body → ℕ
slots_of x ps b = length (map (λ f. f.item) (parameters x ps) ++ blocks (block_names x) b)

slots_counted : (x : Text) (ps : Opt Fields) (b : Body) → slots_of x ps b ≡ length (parameters x ps) + length (blocks (block_names x) b)
slots_counted x ps b = length-append (map (λ f. f.item) (parameters x ps)) (blocks (block_names x) b) ∙ ap (λ n. n + length (blocks (block_names x) b)) (length-map (parameters x ps) (λ f. f.item))

-- What the cells of a data variable name is known.
bytes_inside : (P : Named → Type 0) (i k : ℕ) → P (parts.string i) → All (InsideCell P) (bytes_of i k)
bytes_inside P i zero h = All-nil (InsideCell P)
bytes_inside P i (suc k) h = All-push (InsideCell P) (bytes_of i k) _ (bytes_inside P i k h) h

single_inside : (P : Named → Type 0) (c : Cell) → InsideCell P c → All (InsideCell P) (c ∷ [])
single_inside P c h = All-cons (InsideCell P) c [] h (All-nil (InsideCell P))

string_inside : (P : Named → Type 0) (w : Want) (i k : ℕ) → P (parts.string i) → All (InsideCell P) (string_cells w i k)
string_inside P (several n e) i k h = bytes_inside P i k h
string_inside P free i k h = single_inside P _ h
string_inside P (simply m) i k h = single_inside P _ h
string_inside P (recorded r) i k h = single_inside P _ h

copies_inside : {A : Type 0} (Q : A → Type 0) (n : ℕ) (xs : List A) → All Q xs → All Q (copies n xs)
copies_inside Q zero xs h = All-nil Q
copies_inside Q (suc n) xs h = All-append Q (copies n xs) xs (copies_inside Q n xs h) h

keeps_stored : (P : Named → Type 0) (h : Home) (c : Class) (t : Thing) → keeps c ≡ Some t → Outer P h c → P (datum h.item)
keeps_stored P h (stored u) t e o = o
keeps_stored P h c t e o = grind arith

address_inside : (P : Named → Type 0) (G : Ground) (Γ : Env) → Whole P G Γ → (n : ℕ) → Of (λ t. P (datum (home_at G t.1).item)) (find Γ n keeps)
address_inside P G Γ w n = of_like (λ t f. let a = w.names in let l = f.0 in keeps_stored P (home_at G t.1) (class_at Γ t.1) t.0 f.1 (w.outer t.1 (omega arith))) (find_found Γ n keeps)

mutual
  value_inside : (P : Named → Type 0) (G : Ground) (Γ : Env) → Whole P G Γ → (w : Want) (v : Value) → Strung P (value_strings v) → Of (All (InsideCell P)) (resolve_value G Γ w v)
  value_inside P G Γ h w (constant i) l = of_check _ _ (λ u e. holds (single_inside P _ tt))
  value_inside P G Γ h w (signed s i) l = of_check _ _ (λ u e. holds (single_inside P _ tt))
  value_inside P G Γ h w (minus_signed s i) l = of_check _ _ (λ u e. holds (single_inside P _ tt))
  value_inside P G Γ h w (identifier n) l = of_then (address_inside P G Γ h n) (λ t p. of_check _ _ (λ u e. holds (single_inside P _ p)))
  value_inside P G Γ h w (string i) l = of_check _ _ (λ u e. holds (string_inside P w i (Γ.text.size i) (l 0 0 (omega arith))))
  value_inside P G Γ h w (empty_list i) l = of_check _ _ (λ u e. holds {a = []} (All-nil (InsideCell P)))
  value_inside P G Γ h w (list i vs) l = of_then (values_inside P G Γ h w vs l) (λ cs p. of_check _ _ (λ u e. holds p))

  values_inside : (P : Named → Type 0) (G : Ground) (Γ : Env) → Whole P G Γ → (w : Want) (vs : Values) → Strung P (values_strings vs) → Of (All (InsideCell P)) (resolve_values G Γ w vs)
  values_inside P G Γ h w (only e) l = entry_inside P G Γ h w 0 e l
  values_inside P G Γ h w (and vs e) l =
      of_then (values_inside P G Γ h w vs (strung_left P (values_strings vs) (entry_strings e) l))
      (λ cs p. of_then (entry_inside P G Γ h w (how_many vs) e (strung_right P (values_strings vs) (entry_strings e) l)) (λ ds q. holds (All-append (InsideCell P) cs ds p q)))

  entry_inside : (P : Named → Type 0) (G : Ground) (Γ : Env) → Whole P G Γ → (w : Want) (k : ℕ) (e : Entry) → Strung P (entry_strings e) → Of (All (InsideCell P)) (resolve_entry G Γ w k e)
  entry_inside P G Γ h w k (once v) l = value_inside P G Γ h (inner Γ w k) v l
  entry_inside P G Γ h w k (repeated v i n) l = of_then (value_inside P G Γ h (inner Γ w k) v l) (λ cs p. of_check _ _ (λ u e. holds (copies_inside (InsideCell P) (Γ.text.value n) cs p)))

-- Parts. What is charged for its places is known.
abbrev Placed : List Span → Charge → Type 0
Placed ss c = Contains (map (λ s. s.item) ss) c.item

abbrev Charged : List Span → List Charge → Type 0
Charged ss cs = All (Placed ss) cs

strings_charged : (x : Text) (ds : List Named) (ss : List Span) (k : ℕ) (ns : List ℕ) → Charged ss (string_charges x ns) → Strung (Nameable ds ss k) ns
strings_charged x ds ss k ns h = all_unmapped (Placed ss) (λ n. record { item = n; amount = x.size n }) ns h

abbrev Wholly : List Named → List Span → Ground → Env → Type 0
Wholly ds ss G Γ = (k : ℕ) → Whole (Nameable ds ss k) G Γ

item_named : (ds : List Named) (ss : List Span) (G : Ground) (Γ : Env) → Wholly ds ss G Γ → (w : Want) (k : ℕ) (i : Init Value) → Charged ss (item_charges Γ.text k i) → Of (All (WellNamed ds ss)) (resolve_data_item G Γ w i)
item_named ds ss G Γ h w k (tree.plain n) c = of_check (valueless Γ w) _ (λ u e. holds (All-cons (WellNamed ds ss) (resolve.datum Γ w None n) [] tt (All-nil (WellNamed ds ss))))
item_named ds ss G Γ h w k (given ns v) c =
    let l = all_right (Placed ss) (map (λ n. record { item = n; amount = k }) (names_of ns)) (string_charges Γ.text (value_strings v)) c in
    of_then (value_inside (Nameable ds ss 0) G Γ (h 0) w v (strings_charged Γ.text ds ss 0 (value_strings v) l)) (λ cs p. holds (all_made (WellNamed ds ss) (resolve.datum Γ w (Some cs)) (λ n. p) _))

items_named : (ds : List Named) (ss : List Span) (G : Ground) (Γ : Env) → Wholly ds ss G Γ → (w : Want) (k : ℕ) (is : Many (Init Value)) → Charged ss (gather (item_charges Γ.text k) is) → Of (All (WellNamed ds ss)) (all_parts (resolve_data_item G Γ w) is)
items_named ds ss G Γ h w k is c = parts_held (WellNamed ds ss) (Placed ss) (item_charges Γ.text k) (item_named ds ss G Γ h w k) is c

dec_named : (ds : List Named) (ss : List Span) (G : Ground) (Γ : Env) → Wholly ds ss G Γ → (d : Dec (Many (Init Value))) → Charged ss (dec_charges Γ.text Γ.parts d) → Of (All (WellNamed ds ss)) (resolve_data_dec G Γ d)
dec_named ds ss G Γ h tree.nothing c = holds {a = []} (All-nil (WellNamed ds ss))
dec_named ds ss G Γ h (variables m is) c = of_any (judge_written Γ m) (λ u. items_named ds ss G Γ h (simply (mode_of Γ.text m)) _ is c)
dec_named ds ss G Γ h (arrays b n m is) c = of_any (judge_element Γ m) (λ u. items_named ds ss G Γ h (several (Γ.text.value n) (element_of Γ.text m)) _ is c)
dec_named ds ss G Γ h (structures n is) c = of_any (judge_record_name Γ n) (λ u. items_named ds ss G Γ h (recorded (Γ.text.word n)) _ is c)

brick_named : (ds : List Named) (ss : List Span) (G : Ground) (Γ : Env) → Wholly ds ss G Γ → (ent : Bool) (b : Brick) → Charged ss (brick_charges Γ.text Γ.parts b) → Of (All (WellNamed ds ss)) (resolve_brick G Γ ent b)
brick_named ds ss G Γ h ent (store n es) c = parts_held (WellNamed ds ss) (Placed ss) (dec_charges Γ.text Γ.parts) (dec_named ds ss G Γ h) es c
brick_named ds ss G Γ h ent (procedure n i ps m b e) c =
    let q = slots_counted Γ.text ps b in
    let l = length-map (parameters Γ.text ps) (λ f. f.mode) in
    of_any (judge_opt (judge_fields (outermost (in_procedure Γ ps m) b)) ps)
    (λ u. of_any (judge_opt (judge_written Γ) m)
    (λ v. of_then (body_inside (Nameable ds ss (slots_of Γ.text ps b)) G (slots_of Γ.text ps b) (in_procedure Γ ps m) b (strings_charged Γ.text ds ss (slots_of Γ.text ps b) (body_strings b) c) (procedure_deep (Nameable ds ss (slots_of Γ.text ps b)) G (slots_of Γ.text ps b) _ Γ ps m (h (slots_of Γ.text ps b)) (λ s g. g) (omega arith)))
    (λ t p. holds (All-cons (WellNamed ds ss) (form.procedure (whole Γ.text ent n ps m b e t)) [] (omega arith, p) (All-nil (WellNamed ds ss))))))

moditem_named : (ds : List Named) (ss : List Span) (G : Ground) (Γ : Env) → Wholly ds ss G Γ → (it : Moditem) → Charged ss (moditem_charges Γ.text Γ.parts it) → Of (All (WellNamed ds ss)) (resolve_moditem G Γ it)
moditem_named ds ss G Γ h (own b) c = brick_named ds ss G Γ h false b c
moditem_named ds ss G Γ h (entry b) c = brick_named ds ss G Γ h true b c
moditem_named ds ss G Γ h it c = of_any (judge_moditem Γ it) (λ u. holds {a = []} (All-nil (WellNamed ds ss)))

-- what has places, is known
places_charged : (x : Text) (m : Module) → Charged (places x m) (charges x m)
places_charged x m = all_unmapped (Contains (map (λ s. s.item) (places x m))) (λ (c : Charge). c.item) (charges x m) (subst (All (Contains (map (λ s. s.item) (places x m)))) same (All-contains_itself (map (λ s. s.item) (places x m))))
  where
    same : map (λ s. s.item) (places x m) ≡ map (λ (c : Charge). c.item) (charges x m)
    same = sym (map_twice (λ (c : Charge). c.item) of_span (places x m)) ∙ ap (map (λ (c : Charge). c.item)) (each_laid (charges x m) 0)

-- what is declared is a data variable or a procedure
abbrev Item : Named → Type 0
Item (datum i) = Unit {0}
Item (parts.procedure i) = Unit {0}
Item _ = ⊥

data_items : (ns : List ℕ) → All Item (map datum ns)
data_items [] = All-nil Item
data_items (n ∷ ns) = All-cons Item (datum n) (map datum ns) tt (data_items ns)

gather_items : {A : Type 0} (g : A → List Named) → ((a : A) → All Item (g a)) → (m : Many A) → All Item (gather g m)
gather_items g h (one a) = h a
gather_items g h (more m a) = All-append Item (gather g m) (g a) (gather_items g h m) (h a)

dec_items : (d : Dec (Many (Init Value))) → All Item (dec_declared d)
dec_items tree.nothing = All-nil Item
dec_items (variables m is) = gather_items item_declared (λ i. data_items (item_names i)) is
dec_items (arrays b n m is) = gather_items item_declared (λ i. data_items (item_names i)) is
dec_items (structures n is) = gather_items item_declared (λ i. data_items (item_names i)) is

brick_items : (b : Brick) → All Item (brick_declared b)
brick_items (store n ds) = gather_items dec_declared dec_items ds
brick_items (procedure n i ps m b e) = All-cons Item (parts.procedure n) [] tt (All-nil Item)

moditem_declares : (it : Moditem) → All Item (declared it)
moditem_declares (own b) = brick_items b
moditem_declares (entry b) = brick_items b
moditem_declares it = All-nil Item

module_declared : (ss : List Span) (k : ℕ) (m : Module) → All (Nameable (gather declared m) ss k) (gather declared m)
module_declared ss k m i d l = item_known (get_or (gather declared m) i d) (gather_items declared moditem_declares m i d l) (All-contains_itself (gather declared m) i d l)
  where
    item_known : (a : Named) → Item a → Contains (gather declared m) a → Nameable (gather declared m) ss k a
    item_known (datum j) p h = h
    item_known (parts.procedure j) p h = h
    item_known a p h = absurd p

module_named : (x : Text) (m : Module) → Wholly (gather declared m) (places x m) (ground x m) (module_env x m) → Of (λ (T : Resolved). (T.places ≡ places x m) × All (WellNamed (gather declared m) (places x m)) T.parts) (resolve_module x m)
module_named x m h = of_then (parts_held (WellNamed (gather declared m) (places x m)) (Placed (places x m)) (moditem_charges x (module_env x m).parts) (moditem_named (gather declared m) (places x m) (ground x m) (module_env x m) h) m (places_charged x m)) (λ ps p. holds (refl, p))

pub tree_named : (x : Text) (m : Module) (T : Resolved) → Tree x m T → All (WellNamed (map of_part T.parts) T.places) T.parts
tree_named x m T e = go (map of_part T.parts) T.places (tree_these x m T e) (of_right (module_named x m wholly) T e).0 (of_right (module_named x m wholly) T e).1
  where
    wholly : Wholly (gather declared m) (places x m) (ground x m) (module_env x m)
    wholly k = module_whole (Nameable (gather declared m) (places x m) k) x m (of_right (module_matched (Nameable (gather declared m) (places x m) k) x m (module_declared (places x m) k m)) T e)

    go : (ds : List Named) (ss : List Span) → ds ≡ gather declared m → ss ≡ places x m → All (WellNamed (gather declared m) (places x m)) T.parts → All (WellNamed ds ss) T.parts
    go ds ss p q h = subst (λ es. All (WellNamed es ss) T.parts) (sym p) (subst (λ ts. All (WellNamed (gather declared m) ts) T.parts) (sym q) h)
