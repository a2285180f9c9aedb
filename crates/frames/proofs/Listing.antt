-- The names that lists declare, entry by entry, and what nodes the entries have. Assumes nothing.
use Rattle.std.proofs.Common.{◌≡◌, ◌⊎◌, inl, inr, ℕ, List, [], ◌∷◌, ◌++◌, map, refl, ap, ◌∙◌, None, subst, sym, slice_index_or}
use Rattle.std.proofs.lemmas.List.{map-append}
use Rattle.grammar.specs.Trees.{Many, Opt, none, some, Mode, int, byte, ref_int, ref_byte, ref_record, ref_array, ref_array_brackets, plain, given, Fields, field, also, next, Local, local, Locals, no_locals, locals}
use Rattle.grammar.specs.Machine.{Sort, unset, set, inblock, Declared as Entry}
use Rattle.nodes.specs.declared.Node.{Node}
use Rattle.nodes.specs.declared.Node.TheVariants.{Absent, Name, Plain, Given, Field as FieldNode, NextField, Local as LocalNode}
use Rattle.nodes.specs.Nodes.{At, blank_node, IsMode, IsOpt, IsMany, IsName, IsFields, IsLocal}
use Rattle.nodes.specs.Lists.{IsDeclared}
use Rattle.statics.specs.Scopes.{Text}
use Rattle.statics.specs.Scopes as rules
use Rattle.statics.specs.Modes as rules_mode
use Rattle.statics.specs.Written.{site, mode_of, item_names}
use Rattle.statics.specs.Statements.{entries, local_names}
use Rattle.statics.specs.Modules.{Field, last_mode, fields, parameters, names_of, maybe_mode}
use Rattle.lists.specs.Lists.{Stand, of_many, of_fields, of_locals}
use Rattle.frames.specs.Frames.{declared_names, last_field}
use Rattle.frames.proofs.Filled.{put_together, gathered}

-- the names of one entry, which may have a value
abbrev pub entry_names : (s : Sort) → Entry s → List ℕ
entry_names unset n = n ∷ []
entry_names (set v) i = item_names i

pub declared_together : {U : Type 0} (g : ℕ → U) (s : Sort) (is : Many (Entry s)) → map g (declared_names s is) ≡ put_together (λ t. map g (entry_names s t)) (of_many is)
declared_together g unset is = gathered g (λ n. n ∷ []) is
declared_together g (set v) is = gathered g item_names is

pub locals_together : (x : Text) (ls : Locals) → entries x ls ≡ put_together (local_names x) (of_locals ls)
locals_together x no_locals = refl
locals_together x (locals ls l) = ap (λ us. us ++ local_names x l) (locals_together x ls)

pub fields_together : {U : Type 0} (g : Field → U) (x : Text) (fs : Fields) → map g (fields x fs) ≡ put_together (λ t. g (last_field x t) ∷ []) (of_fields fs)
fields_together g x (field m n) = refl
fields_together g x (also fs n) = map-append g (fields x fs) (last_field x (also fs n) ∷ []) ∙ ap (λ us. us ++ g (last_field x (also fs n)) ∷ []) (fields_together g x fs)
fields_together g x (next fs m n) = map-append g (fields x fs) (last_field x (next fs m n) ∷ []) ∙ ap (λ us. us ++ g (last_field x (next fs m n)) ∷ []) (fields_together g x fs)

module _ (ns : List Node) (k : ℕ) where
  absent_mode : (m : Mode) → IsMode m ns k → At ns k Absent → ⊥
  absent_mode int is at = cc
  absent_mode (byte i) is at = cc
  absent_mode ref_int is at = cc
  absent_mode (ref_byte i) is at = cc
  absent_mode (ref_record n) is at = cc
  absent_mode (ref_array m) is at = cc (is.2)
  absent_mode (ref_array_brackets i m) is at = cc (is.2)

  pub no_mode : (m : Opt Mode) → IsOpt IsMode m ns k → At ns k Absent → (x : Text) → None ≡ maybe_mode x m
  no_mode none is at x = refl
  no_mode (some m) is at x = absurd (absent_mode m is at)

  alone_entry : (s : Sort) (t : Entry s) (n : ℕ) → IsDeclared s t ns k → At ns k (Plain n) ⊎ At ns k (Name n) → entry_names s t ≡ n ∷ []
  alone_entry unset t n is (inl at) = cc
  alone_entry unset t n is (inr at) = cc
  alone_entry (set v) (plain m) n is (inl at) = cc
  alone_entry (set v) (plain m) n is (inr at) = cc
  alone_entry (set v) (given xs a) n is (inl at) = cc (is.4)
  alone_entry (set v) (given xs a) n is (inr at) = cc (is.4)

  pub alone_entry_at : (s : Sort) (t : Entry s) (m : Node) (n : ℕ) → m ≡ slice_index_or ns k blank_node → (m ≡ Plain n) ⊎ (m ≡ Name n) → IsDeclared s t ns k → entry_names s t ≡ n ∷ []
  alone_entry_at s t m n e (inl h) is = alone_entry s t n is (inl (sym e ∙ h))
  alone_entry_at s t m n e (inr h) is = alone_entry s t n is (inr (sym e ∙ h))

  pub given_entry : (s : Sort) (t : Entry s) (l r : ℕ) → IsDeclared s t ns k → At ns k (Given l r) → (xs : Many ℕ) × IsMany IsName xs ns l × (entry_names s t ≡ names_of xs)
  given_entry unset t l r is at = absurd (cc)
  given_entry (set v) (plain m) l r is at = absurd (cc)
  given_entry (set v) (given xs a) l r is at = let same : is.0 ≡ l = cc (is.4) in (xs, subst (λ j. IsMany IsName xs ns j) same is.5, refl)

  pub no_entry : (s : Sort) (t : Entry s) → IsDeclared s t ns k → ((n : ℕ) → At ns k (Plain n) → ⊥) → ((n : ℕ) → At ns k (Name n) → ⊥) → ((l r : ℕ) → At ns k (Given l r) → ⊥) → ⊥
  no_entry unset t is f g h = g t is
  no_entry (set v) (plain m) is f g h = f m is
  no_entry (set v) (given xs a) is f g h = h is.0 is.1 is.4

  pub one_local : (t : Local) (l r : ℕ) → IsLocal t ns k → At ns k (LocalNode l r) → (m : Mode) × (is : Many (Entry (set inblock))) × IsMode m ns l × IsMany (IsDeclared (set inblock)) is ns r × ((x : Text) → map (site (rules.local (mode_of x m))) (declared_names (set inblock) is) ≡ local_names x t)
  one_local (local m is) l r h at =
      let front : h.0 ≡ l = cc (h.4) in
      let last : h.1 ≡ r = cc (h.4) in
      (m, is, subst (λ j. IsMode m ns j) front h.5, subst (λ j. IsMany (IsDeclared (set inblock)) is ns j) last h.6, λ x. refl)

  pub no_local : (t : Local) → IsLocal t ns k → ((l r : ℕ) → At ns k (LocalNode l r) → ⊥) → ⊥
  no_local (local m is) h f = f h.0 h.1 h.4

  -- of what is left of a list of components or parameters, the mode of the last one
  module _ (ls : List ℕ) where
    own_mode : (fs : Fields) (l r n : ℕ) → Stand IsFields (of_fields fs) ns (k ∷ ls) → At ns k (FieldNode r n) ⊎ At ns k (NextField l r n) → IsMode (last_mode fs) ns r
    own_mode (field m j) l r n s (inl at) = let same : s.0.0 ≡ r = cc (s.0.2) in subst (λ i. IsMode m ns i) same s.0.3
    own_mode (field m j) l r n s (inr at) = absurd (cc (s.0.2))
    own_mode (also fs j) l r n s (inl at) = absurd (cc (s.0.2))
    own_mode (also fs j) l r n s (inr at) = absurd (cc (s.0.2))
    own_mode (next fs m j) l r n s (inl at) = absurd (cc (s.0.4))
    own_mode (next fs m j) l r n s (inr at) = let same : s.0.1 ≡ r = cc (s.0.4) in subst (λ i. IsMode m ns i) same s.0.6

    pub own_mode_at : (fs : Fields) (r : ℕ) (n : Node) → n ≡ slice_index_or ns k blank_node → ((j : ℕ) × (n ≡ FieldNode r j)) ⊎ ((l : ℕ) × (j : ℕ) × (n ≡ NextField l r j)) → Stand IsFields (of_fields fs) ns (k ∷ ls) → IsMode (last_mode fs) ns r
    own_mode_at fs r n e (inl h) s = own_mode fs 0 r h.0 s (inl (sym e ∙ h.1))
    own_mode_at fs r n e (inr h) s = own_mode fs h.0 r h.1 s (inr (sym e ∙ h.2))

    pub mode_in_front : (fs : Fields) → Stand IsFields (of_fields fs) ns (k ∷ ls) → ((r n : ℕ) → At ns k (FieldNode r n) → ⊥) → ((l r n : ℕ) → At ns k (NextField l r n) → ⊥) → (gs : Fields) × Stand IsFields (of_fields gs) ns ls × (last_mode fs ≡ last_mode gs)
    mode_in_front (field m n) s f g = absurd (f s.0.0 n s.0.2)
    mode_in_front (also fs n) s f g = (fs, s.1, refl)
    mode_in_front (next fs m n) s f g = absurd (g s.0.0 s.0.1 n s.0.4)

pub none_left : (ns : List Node) (fs : Fields) → Stand IsFields (of_fields fs) ns [] → ⊥
none_left ns (field m n) s = absurd s
none_left ns (also fs n) s = absurd s
none_left ns (next fs m n) s = absurd s

-- the entries of a list that may be left out
abbrev pub of_opt : Opt Fields → List Fields
of_opt none = []
of_opt (some fs) = of_fields fs

pub parameters_together : {U : Type 0} (g : Field → U) (x : Text) (ps : Opt Fields) → map g (parameters x ps) ≡ put_together (λ t. g (last_field x t) ∷ []) (of_opt ps)
parameters_together g x none = refl
parameters_together g x (some fs) = fields_together g x fs

pub stand_opt : (ns : List Node) (k : ℕ) (ks : List ℕ) → ((t : Fields) → IsFields t ns k → Stand IsFields (of_fields t) ns ks) → (At ns k Absent → ks ≡ []) → (ps : Opt Fields) → IsOpt IsFields ps ns k → Stand IsFields (of_opt ps) ns ks
stand_opt ns k ks f g none is = subst (λ js. Stand IsFields [] ns js) (sym (g is)) tt
stand_opt ns k ks f g (some fs) is = f fs is

pub same_field : (n : ℕ) (m : rules_mode.Mode) (f : Field) → n ≡ f.item → m ≡ f.mode → ◌≡◌ {A = Field} (record { item = n; mode = m }) f
same_field n m f a b = rw (a, b)
