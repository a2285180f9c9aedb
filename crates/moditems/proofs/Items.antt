-- What stands at the nodes of a module's items, of bricks and of blocks, and what is in scope there. Assumes nothing.
use Rattle.std.proofs.Common.{◌≡◌, ℕ, ◌+◌, ◌≤◌, List, ◌++◌, Option, length, map, take, option_map, refl, ap, sym, ◌∙◌, subst}
use Rattle.std.proofs.lemmas.List.{length-map, take-take}
use Rattle.std.proofs.lemmas.Simd.{map-map}
use Rattle.grammar.specs.Trees.{Many, Mode as TreeMode, Opt, Fields, Dec, Init, Value, Body, Brick, store, procedure, Moditem, blank, external_procs, external_store, own, entry, Module}
use Rattle.grammar.specs.Trees as tree
use Rattle.nodes.specs.declared.Node.{Node}
use Rattle.nodes.specs.declared.Node.TheVariants.{Store, Heading, Procedure, ExternalProcs, RecordMode}
use Rattle.nodes.specs.Nodes.{At, IsBody, IsBrick, IsDec, IsFields, IsInit, IsMany, IsMode, IsModitem, IsName, IsOpt, IsValue}
use Rattle.statics.specs.Modes.{Mode as Thing}
use Rattle.statics.specs.Scopes as rules
use Rattle.statics.specs.Order.{InBody}
use Rattle.statics.specs.Written.{declare}
use Rattle.statics.specs.Modules.{fields, parameters, maybe_mode, in_record, in_procedure}
use Rattle.texts.specs.Facts.{facts}
use Rattle.modes.specs.declared.Mode.{Mode}
use Rattle.modes.specs.Meanings.{mode_means}
use Rattle.scopes.specs.declared.Declared.{Declared}
use Rattle.scopes.specs.Meanings.{declared_means, component_means}
use Rattle.frames.specs.declared.Frame.{Frame}
use Rattle.frames.specs.Frames.{frame_means, site_means, part_site, parameter_site, Behind}
use Rattle.frames.specs.Rooms.{Room, Roomy}
use Rattle.frames.proofs.Counts.{parameters_fit, procedure_body_room}
use Rattle.frames.proofs.Declaring.{named_behind}

-- fewer entries of tables that are the same up to there
pub fewer : (count more : ℕ) (ns ms : List Declared) → count ≤ more → take more ns ≡ take more ms → take count ns ≡ take count ms
fewer count more ns ms low e = sym (take-take count more ns low) ∙ ap (λ (ds : List Declared). take count ds) e ∙ take-take count more ms low

-- What stands at the node of a brick, and of a module's item, by its kind.
module _ (ns : List Node) (k : ℕ) where
  abbrev pub Bricked : Brick → Node → Type 0
  Bricked b (Store n r) = (ds : Many (Dec (Many (Init Value)))) × IsMany (IsDec (IsMany (IsInit IsValue))) ds ns r × (b ≡ store n ds)
  Bricked b (Procedure h r e) = (n : ℕ) × (i : ℕ) × (p : ℕ) × (q : ℕ) × (ps : Opt Fields) × (m : Opt TreeMode) × (c : Body) × At ns h (Heading n i p q) × IsOpt IsFields ps ns p × IsOpt IsMode m ns q × IsBody c ns r × (b ≡ procedure n i ps m c e)
  Bricked b _ = ⊥

  pub bricked : (b : Brick) (x : Node) → At ns k x → IsBrick b ns k → Bricked b x
  bricked (store n ds) x at is = subst (λ (z : Node). Bricked (store n ds) z) (sym is.2 ∙ at) (ds, is.3, refl)
  bricked (procedure n i ps m c e) x at is = subst (λ (z : Node). Bricked (procedure n i ps m c e) z) (sym is.8 ∙ at) (n, i, is.1, is.2, ps, m, c, is.9, is.10, is.11, is.12, refl)

  abbrev pub Itemed : Moditem → Node → Type 0
  Itemed a (ExternalProcs i p q r) = (ms : Opt (Many TreeMode)) × (m : Opt TreeMode) × (xs : Many ℕ) × IsOpt (IsMany IsMode) ms ns p × IsOpt IsMode m ns q × IsMany IsName xs ns r × (a ≡ external_procs i ms m xs)
  Itemed a (RecordMode n i r) = (fs : Fields) × IsFields fs ns r × (a ≡ tree.record_mode n i fs)
  Itemed a _ = Unit {0}

  pub itemed : (a : Moditem) (x : Node) → At ns k x → IsModitem a ns k → Itemed a x
  itemed blank x at is = subst (λ (z : Node). Itemed blank z) (sym is ∙ at) tt
  itemed (external_procs i ms m xs) x at is = subst (λ (z : Node). Itemed (external_procs i ms m xs) z) (sym is.6 ∙ at) (ms, m, xs, is.7, is.8, is.9, refl)
  itemed (external_store n ds) x at is = subst (λ (z : Node). Itemed (external_store n ds) z) (sym is.2 ∙ at) tt
  itemed (tree.record_mode n i fs) x at is = subst (λ (z : Node). Itemed (tree.record_mode n i fs) z) (sym is.2 ∙ at) (fs, is.3, refl)
  itemed (own b) x at is = subst (λ (z : Node). Itemed (own b) z) (sym is.2 ∙ at) tt
  itemed (entry b) x at is = subst (λ (z : Node). Itemed (entry b) z) (sym is.2 ∙ at) tt

-- the frame inside a procedure: all of so many names can be used, and a result is given or none
abbrev pub within : Frame → ℕ → Option Mode → Frame
within f end r = record { text = f.text; count = end; ready = end; parts = f.parts; takes = f.takes; result = r }

-- the two parts of a heading, where its node says that they stand
pub headed : (ns : List Node) (k n i p q n' i' list gives : ℕ) (ps : Opt Fields) (m : Opt TreeMode) → At ns k (Heading n i p q) → At ns k (Heading n' i' list gives) → IsOpt IsFields ps ns p → IsOpt IsMode m ns q → IsOpt IsFields ps ns list × IsOpt IsMode m ns gives
headed ns k n i p q n' i' list gives ps m at there is given =
    let l : p ≡ list = cc (at, there) in
    let g : q ≡ gives = cc (at, there) in
    (subst (λ (j : ℕ). IsOpt IsFields ps ns j) l is, subst (λ (j : ℕ). IsOpt IsMode m ns j) g given)

-- What is in scope by a frame where names stand behind those of a table.
module _ (f : Frame) (old new : List Declared) (end : ℕ) where
  -- with these names, of which so many can be used, and this result
  abbrev pub scoped : List rules.Declared → ℕ → Option Thing → rules.Env
  scoped ds n r = record { text = facts f.text; names = ds; ready = n; parts = map (component_means (facts f.text)) f.parts.now; result = r }

  -- inside the brackets of a record mode
  pub bracketed : (fs : Fields) → Behind (site_means (facts f.text) f.takes.now) (map part_site (fields (facts f.text) fs)) f.count old end new → f.count + length (fields (facts f.text) fs) ≤ length old → frame_means (record { text = f.text; count = end; ready = f.ready; parts = f.parts; takes = f.takes; result = f.result }) new ≡ in_record (frame_means f old) fs
  bracketed fs behind room =
      let x = facts f.text in
      let b = behind (subst (λ (n : ℕ). f.count + n ≤ length old) (sym (length-map (fields x fs) part_site)) room) in
      ap (λ (ds : List rules.Declared). scoped ds f.ready (option_map (mode_means x) f.result)) (named_behind x f.takes.now f.count end old new (map part_site (fields x fs)) b.1 ∙ ap (λ (ds : List rules.Declared). map (declared_means x f.takes.now) (take f.count old) ++ ds) (map-map (declare x) part_site (fields x fs)))

  -- inside a procedure, where its body has room for its names
  pub entered : (n i : ℕ) (ps : Opt Fields) (m : Opt TreeMode) (b : Body) (e : ℕ) (r : Option Mode) → Behind (site_means (facts f.text) f.takes.now) (map parameter_site (parameters (facts f.text) ps)) f.count old end new → length new ≡ length old → Roomy (facts f.text) f.count (length old) (own (procedure n i ps m b e)) → f.ready ≡ f.count → option_map (mode_means (facts f.text)) r ≡ maybe_mode (facts f.text) m → Room InBody b end (length new) × (frame_means (within f end r) new ≡ in_procedure (frame_means f old) ps m)
  entered n i ps m b e r behind long room even gives =
      let x = facts f.text in
      let many = length-map (parameters x ps) parameter_site in
      let fit = parameters_fit x f.count (length old) n i ps m b e room in
      let put = behind (subst (λ (k : ℕ). f.count + k ≤ length old) (sym many) fit) in
      let here : f.count + length (parameters x ps) ≡ end = sym (put.0 ∙ ap (λ (k : ℕ). f.count + k) many) in
      let last : end ≡ f.ready + length (parameters x ps) = sym here ∙ ap (λ (k : ℕ). k + length (parameters x ps)) (sym even) in
      let names = named_behind x f.takes.now f.count end old new (map parameter_site (parameters x ps)) put.1 ∙ ap (λ (ds : List rules.Declared). map (declared_means x f.takes.now) (take f.count old) ++ ds) (map-map (declare x) parameter_site (parameters x ps)) in
      let all = map (declared_means x f.takes.now) (take f.count old) ++ map (λ g. declare x (parameter_site g)) (parameters x ps) in
      let given = procedure_body_room x f.count (length old) n i ps m b e room in
      (subst (λ (k : ℕ). Room InBody b end k) (sym long) (subst (λ (k : ℕ). Room InBody b k (length old)) here given), ap (λ (ds : List rules.Declared). scoped ds end (option_map (mode_means x) r)) names ∙ ap (λ (k : ℕ). scoped all k (option_map (mode_means x) r)) last ∙ ap (λ (o : Option Thing). scoped all (f.ready + length (parameters x ps)) o) gives)
