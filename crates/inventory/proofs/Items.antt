-- What trees the nodes of items and of their parts stand for. Assumes nothing.
use Rattle.std.proofs.Common.{◌≡◌, ◌⊎◌, inl, inr, ℕ, List, [], ◌∷◌, map, refl, ap, ◌∙◌, subst, sym, slice_index_or}
use Rattle.grammar.specs.Trees.{Many, Opt, none, some, Mode, Amode, Fields, Init, Value, Dec, nothing, variables, arrays, structures, Brick, store, procedure, Moditem, blank, external_procs, external_store, record_mode, own, entry}
use Rattle.nodes.specs.declared.Node.{Node}
use Rattle.nodes.specs.declared.Node.TheVariants.{Absent, Variables, Arrays, Structures, Store, Heading, Procedure, ExternalProcs, ExternalStore, Own, Ent}
use Rattle.nodes.specs.Nodes.{Reading, At, blank_node, IsMode, IsAmode, IsOpt, IsMany, IsName, IsFields, IsInit, IsValue, IsDec, IsBrick, IsModitem}
use Rattle.statics.specs.Scopes.{Text, routine}
use Rattle.statics.specs.Written.{site, mode_of}
use Rattle.statics.specs.Modules.{modes, parameters, maybe_mode, brick_names}
use Rattle.lists.specs.Lists.{Stand, of_many}
use Rattle.frames.specs.Rooms.{brick_takes}
use Rattle.frames.proofs.Filled.{put_together, gathered_plain}
use Rattle.inventory.specs.Naming.{signature_of}

-- the entries of a list of modes that may be left out
abbrev pub of_modes : Opt (Many Mode) → List Mode
of_modes none = []
of_modes (some ms) = of_many ms

pub modes_together : (x : Text) (ms : Opt (Many Mode)) → modes x ms ≡ put_together (λ m. mode_of x m ∷ []) (of_modes ms)
modes_together x none = refl
modes_together x (some ms) = gathered_plain (λ m. mode_of x m ∷ []) ms

pub stand_modes : (ns : List Node) (k : ℕ) (ks : List ℕ) → ((t : Many Mode) → IsMany IsMode t ns k → Stand IsMode (of_many t) ns ks) → (At ns k Absent → ks ≡ []) → (ms : Opt (Many Mode)) → IsOpt (IsMany IsMode) ms ns k → Stand IsMode (of_modes ms) ns ks
stand_modes ns k ks f g none is = subst (λ js. Stand IsMode [] ns js) (sym (g is)) tt
stand_modes ns k ks f g (some ms) is = f ms is

module _ {I : Type 0} (Is : Reading I) (ns : List Node) (k : ℕ) where
  pub of_variables : (d : Dec I) (l r : ℕ) → IsDec Is d ns k → At ns k (Variables l r) → (m : Mode) × (i : I) × IsMode m ns l × Is i ns r × (variables m i ≡ d)
  of_variables nothing l r is at = absurd (cc)
  of_variables (variables m i) l r is at =
      let front : is.0 ≡ l = cc (is.4) in
      let last : is.1 ≡ r = cc (is.4) in
      (m, i, subst (λ j. IsMode m ns j) front is.5, subst (λ j. Is i ns j) last is.6, refl)
  of_variables (arrays b n m i) l r is at = absurd (cc (is.4))
  of_variables (structures n i) l r is at = absurd (cc (is.2))

  pub of_arrays : (d : Dec I) (b n l r : ℕ) → IsDec Is d ns k → At ns k (Arrays b n l r) → (m : Amode) × (i : I) × IsAmode m ns l × Is i ns r × (arrays b n m i ≡ d)
  of_arrays nothing b n l r is at = absurd (cc)
  of_arrays (variables m i) b n l r is at = absurd (cc (is.4))
  of_arrays (arrays a j m i) b n l r is at =
      let front : is.0 ≡ l = cc (is.4) in
      let last : is.1 ≡ r = cc (is.4) in
      let same : a ≡ b = cc (is.4) in
      let item : j ≡ n = cc (is.4) in
      (m, i, subst (λ h. IsAmode m ns h) front is.5, subst (λ h. Is i ns h) last is.6, rw (same, item))
  of_arrays (structures j i) b n l r is at = absurd (cc (is.2))

  pub of_structures : (d : Dec I) (n r : ℕ) → IsDec Is d ns k → At ns k (Structures n r) → (i : I) × Is i ns r × (structures n i ≡ d)
  of_structures nothing n r is at = absurd (cc)
  of_structures (variables m i) n r is at = absurd (cc (is.4))
  of_structures (arrays a j m i) n r is at = absurd (cc (is.4))
  of_structures (structures j i) n r is at =
      let last : is.0 ≡ r = cc (is.2) in
      let item : j ≡ n = cc (is.2) in
      (i, subst (λ h. Is i ns h) last is.3, ap (λ h. structures h i) (sym item))

module _ (ns : List Node) (k : ℕ) where
  -- items of a module
  pub of_procs : (a : Moditem) (i p q r : ℕ) → IsModitem a ns k → At ns k (ExternalProcs i p q r) → (ms : Opt (Many Mode)) × (m : Opt Mode) × (xs : Many ℕ) × IsOpt (IsMany IsMode) ms ns p × IsOpt IsMode m ns q × IsMany IsName xs ns r × (external_procs i ms m xs ≡ a)
  of_procs blank i p q r is at = absurd (cc)
  of_procs (external_procs j ms m xs) i p q r is at =
      let one : is.0 ≡ p = cc (is.6) in
      let two : is.1 ≡ q = cc (is.6) in
      let three : is.2 ≡ r = cc (is.6) in
      let same : j ≡ i = cc (is.6) in
      (ms, m, xs, subst (λ h. IsOpt (IsMany IsMode) ms ns h) one is.7, subst (λ h. IsOpt IsMode m ns h) two is.8, subst (λ h. IsMany IsName xs ns h) three is.9, ap (λ h. external_procs h ms m xs) (sym same))
  of_procs (external_store n ds) i p q r is at = absurd (cc (is.2))
  of_procs (record_mode n j fs) i p q r is at = absurd (cc (is.2))
  of_procs (own b) i p q r is at = absurd (cc (is.2))
  of_procs (entry b) i p q r is at = absurd (cc (is.2))

  pub of_external : (a : Moditem) (n r : ℕ) → IsModitem a ns k → At ns k (ExternalStore n r) → (ds : Many (Dec (Many ℕ))) × IsMany (IsDec (IsMany IsName)) ds ns r × (external_store n ds ≡ a)
  of_external blank n r is at = absurd (cc)
  of_external (external_procs j ms m xs) n r is at = absurd (cc (is.6))
  of_external (external_store j ds) n r is at =
      let last : is.0 ≡ r = cc (is.2) in
      let same : j ≡ n = cc (is.2) in
      (ds, subst (λ h. IsMany (IsDec (IsMany IsName)) ds ns h) last is.3, ap (λ h. external_store h ds) (sym same))
  of_external (record_mode j i fs) n r is at = absurd (cc (is.2))
  of_external (own b) n r is at = absurd (cc (is.2))
  of_external (entry b) n r is at = absurd (cc (is.2))

  of_brick : (a : Moditem) (r : ℕ) → IsModitem a ns k → At ns k (Own r) ⊎ At ns k (Ent r) → (b : Brick) × IsBrick b ns r × ((own b ≡ a) ⊎ (entry b ≡ a))
  of_brick blank r is (inl at) = absurd (cc)
  of_brick blank r is (inr at) = absurd (cc)
  of_brick (external_procs j ms m xs) r is (inl at) = absurd (cc (is.6))
  of_brick (external_procs j ms m xs) r is (inr at) = absurd (cc (is.6))
  of_brick (external_store j ds) r is (inl at) = absurd (cc (is.2))
  of_brick (external_store j ds) r is (inr at) = absurd (cc (is.2))
  of_brick (record_mode j o fs) r is (inl at) = absurd (cc (is.2))
  of_brick (record_mode j o fs) r is (inr at) = absurd (cc (is.2))
  of_brick (own b) r is (inl at) = let same : is.0 ≡ r = cc (is.2) in (b, subst (λ h. IsBrick b ns h) same is.3, inl refl)
  of_brick (own b) r is (inr at) = absurd (cc (is.2))
  of_brick (entry b) r is (inl at) = absurd (cc (is.2))
  of_brick (entry b) r is (inr at) = let same : is.0 ≡ r = cc (is.2) in (b, subst (λ h. IsBrick b ns h) same is.3, inr refl)

  pub of_brick_at : (a : Moditem) (r : ℕ) (n : Node) → n ≡ slice_index_or ns k blank_node → (n ≡ Own r) ⊎ (n ≡ Ent r) → IsModitem a ns k → (b : Brick) × IsBrick b ns r × ((own b ≡ a) ⊎ (entry b ≡ a))
  of_brick_at a r n e (inl h) is = of_brick a r is (inl (sym e ∙ h))
  of_brick_at a r n e (inr h) is = of_brick a r is (inr (sym e ∙ h))

  -- bricks
  pub of_store : (b : Brick) (n r : ℕ) → IsBrick b ns k → At ns k (Store n r) → (ds : Many (Dec (Many (Init Value)))) × IsMany (IsDec (IsMany (IsInit IsValue))) ds ns r × (store n ds ≡ b)
  of_store (store j ds) n r is at =
      let last : is.0 ≡ r = cc (is.2) in
      let same : j ≡ n = cc (is.2) in
      (ds, subst (λ h. IsMany (IsDec (IsMany (IsInit IsValue))) ds ns h) last is.3, ap (λ h. store h ds) (sym same))
  of_store (procedure j i ps m b e) n r is at = absurd (cc (is.8))

  pub of_procedure : (b : Brick) (h r e : ℕ) → IsBrick b ns k → At ns k (Procedure h r e) → (n : ℕ) × (i : ℕ) × (p : ℕ) × (q : ℕ) × (ps : Opt Fields) × (m : Opt Mode) × At ns h (Heading n i p q) × IsOpt IsFields ps ns p × IsOpt IsMode m ns q × ((x : Text) → map (λ f. f.mode) (parameters x ps) ≡ brick_takes x b) × ((x : Text) → site (routine (signature_of (map (λ f. f.mode) (parameters x ps)) (maybe_mode x m))) n ∷ [] ≡ brick_names x b)
  of_procedure (store j ds) h r e is at = absurd (cc (is.2))
  of_procedure (procedure n i ps m b o) h r e is at =
      let head : is.0 ≡ h = cc (is.8) in
      (n, i, is.1, is.2, ps, m, subst (λ j. At ns j (Heading n i is.1 is.2)) head is.9, is.10, is.11, λ x. refl, λ x. refl)
