-- Two tables that are filled from their ends: one of names, and one of what procedures take. Assumes nothing.
use Rattle.std.proofs.Common.{◌≡◌, ◌⊎◌, inl, inr, ℕ, ◌+◌, ◌-◌, ◌≤◌, List, [], ◌∷◌, ◌++◌, map, length, take, drop, refl, ap, sym, ◌∙◌, subst, append_assoc, append-nil, arith, length-append, take_at, drop_at, Option}
use Rattle.std.proofs.lemmas.List.{drop-drop, drop-map, take-map}
use Rattle.grammar.specs.Trees.{Brick, Moditem, own, entry, Module}
use Rattle.nodes.specs.declared.Node.{Node}
use Rattle.nodes.specs.Nodes.{IsModitem}
use Rattle.statics.specs.Scopes.{Text, routine}
use Rattle.statics.specs.Modes as rules
use Rattle.statics.specs.Written.{Site, gather}
use Rattle.statics.specs.Modules.{brick_names, moditem_names}
use Rattle.modes.specs.declared.Mode.{Mode}
use Rattle.modes.specs.Meanings.{mode_means}
use Rattle.scopes.specs.declared.Declared.{Declared}
use Rattle.lists.specs.Lists.{Stand, of_many, from_last}
use Rattle.lists.proofs.Loops.{from_last_in_order}
use Rattle.frames.specs.Frames.{Ahead, site_means}
use Rattle.frames.specs.Rooms.{brick_takes, moditem_takes}
use Rattle.frames.proofs.Filled.{gathered_plain}
use Rattle.inventory.specs.declared.module_names.Starts.{Starts}
use Rattle.inventory.specs.Naming.{Fills, signature_of}

module _ {T U : Type 0} (f : T → U) where
  -- nothing is put
  pub ahead_none : (before : ℕ) (old : List T) → Ahead f [] before old before old
  ahead_none before old room within = (omega arith, refl)

  -- some were put in front, and then others in front of them
  pub ahead_on : (us vs : List U) (before : ℕ) (old : List T) (start : ℕ) (mid : List T) (begin : ℕ) (new : List T) → length mid ≡ length old → Ahead f us before old start mid → Ahead f vs start mid begin new → Ahead f (vs ++ us) before old begin new
  ahead_on us vs before old start mid begin new len first second room within =
      let sum : length (vs ++ us) ≡ length vs + length us = length-append vs us in
      let x = first (omega (arith, sum)) within in
      let y = second (omega (arith, sum, x.0)) (omega (arith, len, x.0)) in
      (omega (arith, sum, x.0, y.0), y.1 ∙ ap (λ ws. vs ++ ws) x.1 ∙ sym (append_assoc vs us (map f (drop before old))))

  -- the first entries from `first` on, if what stands there is known
  pub first_of : (us rest : List U) (first end : ℕ) (ms : List T) → first + length us ≡ end → map f (drop first ms) ≡ us ++ rest → map f (take (end - first) (drop first ms)) ≡ us
  first_of us rest first end ms e h =
      let count : end - first ≡ length us = omega (arith, e) in
      sym (take-map f (end - first) (drop first ms)) ∙ ap (take (end - first)) h ∙ take_at us rest (end - first) (sym count)

  -- A table that stands for the same from `start` on does so behind the first entries there.
  pub later : (us : List U) (start before : ℕ) (ms new old : List T) → start + length us ≡ before → map f (drop start new) ≡ us ++ map f (drop before old) → map f (drop start ms) ≡ map f (drop start new) → map f (drop before ms) ≡ map f (drop before old)
  later us start before ms new old e h same =
      ap (λ n. map f (drop n ms)) (sym e)
      ∙ ap (map f) (sym (drop-drop (length us) start ms))
      ∙ sym (drop-map f (length us) (drop start ms))
      ∙ ap (drop (length us)) (same ∙ h)
      ∙ drop_at us (map f (drop before old)) (length us) refl

module _ (x : Text) where
  pub fills_none : (before : Starts) (names : List Declared) (takes : List Mode) → Fills x [] [] before names takes before names takes
  fills_none before names takes = (ahead_none (mode_means x) before.takes takes, λ room within ms same. ahead_none (site_means x ms) before.names names)

  -- what procedures take stays as it is
  pub fills_names : (ss : List Site) (before after : Starts) (names new_names : List Declared) (takes : List Mode) → after.takes ≡ before.takes → ((ms : List Mode) → Ahead (site_means x ms) ss before.names names after.names new_names) → Fills x [] ss before names takes after new_names takes
  fills_names ss before after names new_names takes same put =
      (subst (λ j. Ahead (mode_means x) [] before.takes takes j takes) (sym same) (ahead_none (mode_means x) before.takes takes), λ room within ms agree. put ms)

  -- what a procedure takes, and names with its class
  pub fills_routine : (us : List rules.Mode) (ss : List Site) (before after : Starts) (names new_names : List Declared) (takes new_takes : List Mode) → Ahead (mode_means x) us before.takes takes after.takes new_takes → (after.takes + length us ≡ before.takes → (ms : List Mode) (rest : List rules.Mode) → map (mode_means x) (drop after.takes ms) ≡ us ++ rest → Ahead (site_means x ms) ss before.names names after.names new_names) → Fills x us ss before names takes after new_names new_takes
  fills_routine us ss before after names new_names takes new_takes filled put =
      (filled, λ room within ms same. let y = filled room within in put y.0 ms (map (mode_means x) (drop before.takes takes)) (same ∙ y.1))

  pub fills_as : (us vs : List rules.Mode) (ss ts : List Site) (before : Starts) (names : List Declared) (takes : List Mode) (after : Starts) (new_names : List Declared) (new_takes : List Mode) → us ≡ vs → ss ≡ ts → Fills x us ss before names takes after new_names new_takes → Fills x vs ts before names takes after new_names new_takes
  fills_as us vs ss ts before names takes after new_names new_takes a b f = subst (λ js. Fills x js ts before names takes after new_names new_takes) a (subst (λ js. Fills x us js before names takes after new_names new_takes) b f)

  -- an item that is a brick
  pub fills_brick : (a : Moditem) (b : Brick) (before : Starts) (names : List Declared) (takes : List Mode) (after : Starts) (new_names : List Declared) (new_takes : List Mode) → (own b ≡ a) ⊎ (entry b ≡ a) → Fills x (brick_takes x b) (brick_names x b) before names takes after new_names new_takes → Fills x (moditem_takes x a) (moditem_names x a) before names takes after new_names new_takes
  fills_brick a b before names takes after new_names new_takes (inl e) f = subst (λ c. Fills x (moditem_takes x c) (moditem_names x c) before names takes after new_names new_takes) e f
  fills_brick a b before names takes after new_names new_takes (inr e) f = subst (λ c. Fills x (moditem_takes x c) (moditem_names x c) before names takes after new_names new_takes) e f

  pub fills_on : (us vs : List rules.Mode) (ss ts : List Site) (before : Starts) (names : List Declared) (takes : List Mode) (start : Starts) (mid_names : List Declared) (mid_takes : List Mode) (begin : Starts) (new_names : List Declared) (new_takes : List Mode) → length mid_names ≡ length names → length mid_takes ≡ length takes → Fills x us ss before names takes start mid_names mid_takes → Fills x vs ts start mid_names mid_takes begin new_names new_takes → Fills x (vs ++ us) (ts ++ ss) before names takes begin new_names new_takes
  fills_on us vs ss ts before names takes start mid_names mid_takes begin new_names new_takes long many first second = (
    ahead_on (mode_means x) us vs before.takes takes start.takes mid_takes begin.takes new_takes many first.0 second.0,
    λ room within ms same.
        let sum : length (vs ++ us) ≡ length vs + length us = length-append vs us in
        let front : length us ≤ before.takes = omega (arith, sum) in
        let y = first.0 front within in
        let more : length vs ≤ start.takes = omega (arith, sum, y.0) in
        let inside : start.takes ≤ length mid_takes = omega (arith, many, y.0) in
        let z = second.0 more inside in
        ahead_on (site_means x ms) ss ts before.names names start.names mid_names begin.names new_names long
        (first.1 front within ms (later (mode_means x) vs begin.takes start.takes ms new_takes mid_takes z.0 z.1 same))
        (second.1 more inside ms same),
  )

  -- In the loop over the items of a module: those at ks are left, and those behind them have been put.
  abbrev pub Paired : List Node → List ℕ → List rules.Mode → List Site → Starts → List Declared → List Mode → Starts → List Declared → List Mode → Type 0
  Paired ns ks us ss before names takes start new_names new_takes =
      (ts : List Moditem) × (vs : List rules.Mode) × (ws : List Site) × Stand IsModitem ts ns ks × (from_last (λ t js. moditem_takes x t ++ js) vs ts ≡ us) × (from_last (λ t js. moditem_names x t ++ js) ws ts ≡ ss) × Fills x vs ws before names takes start new_names new_takes

  pub paired_in : (ns : List Node) (ks : List ℕ) (m : Module) (before : Starts) (names : List Declared) (takes : List Mode) → Stand IsModitem (of_many m) ns ks → Paired ns ks (gather (moditem_takes x) m) (gather (moditem_names x) m) before names takes before names takes
  paired_in ns ks m before names takes s = (
    of_many m,
    [],
    [],
    s,
    from_last_in_order (λ us vs. us ++ vs) [] append_assoc (λ us. refl) append-nil (moditem_takes x) (of_many m) ∙ sym (gathered_plain (moditem_takes x) m),
    from_last_in_order (λ us vs. us ++ vs) [] append_assoc (λ us. refl) append-nil (moditem_names x) (of_many m) ∙ sym (gathered_plain (moditem_names x) m),
    fills_none before names takes,
  )

  pub paired_on : (ns : List Node) (ks : List ℕ) (k : ℕ) (ls : List ℕ) (us : List rules.Mode) (ss : List Site) (before : Starts) (names : List Declared) (takes : List Mode) (start : Starts) (mid_names : List Declared) (mid_takes : List Mode) (begin : Starts) (new_names : List Declared) (new_takes : List Mode) → ks ≡ k ∷ ls → length mid_names ≡ length names → length mid_takes ≡ length takes → ((t : Moditem) → IsModitem t ns k → Fills x (moditem_takes x t) (moditem_names x t) start mid_names mid_takes begin new_names new_takes) → Paired ns ks us ss before names takes start mid_names mid_takes → Paired ns ls us ss before names takes begin new_names new_takes
  paired_on ns ks k ls us ss before names takes start mid_names mid_takes begin new_names new_takes e long many step h =
      by_first h.0 h.1 h.2 (subst (λ js. Stand IsModitem h.0 ns js) e h.3) h.4 h.5 h.6
    where
      by_first : (ts : List Moditem) (vs : List rules.Mode) (ws : List Site) → Stand IsModitem ts ns (k ∷ ls) → from_last (λ t js. moditem_takes x t ++ js) vs ts ≡ us → from_last (λ t js. moditem_names x t ++ js) ws ts ≡ ss → Fills x vs ws before names takes start mid_names mid_takes → Paired ns ls us ss before names takes begin new_names new_takes
      by_first [] vs ws s a b f = absurd s
      by_first (t ∷ ts) vs ws s a b f =
          (ts, moditem_takes x t ++ vs, moditem_names x t ++ ws, s.1, a, b, fills_on vs (moditem_takes x t) ws (moditem_names x t) before names takes start mid_names mid_takes begin new_names new_takes long many f (step t s.0))

  pub paired_out : (ns : List Node) (ks : List ℕ) (us : List rules.Mode) (ss : List Site) (before : Starts) (names : List Declared) (takes : List Mode) (start : Starts) (new_names : List Declared) (new_takes : List Mode) → ks ≡ [] → Paired ns ks us ss before names takes start new_names new_takes → Fills x us ss before names takes start new_names new_takes
  paired_out ns ks us ss before names takes start new_names new_takes e h =
      by_none h.0 h.1 h.2 (subst (λ js. Stand IsModitem h.0 ns js) e h.3) h.4 h.5 h.6
    where
      by_none : (ts : List Moditem) (vs : List rules.Mode) (ws : List Site) → Stand IsModitem ts ns [] → from_last (λ t js. moditem_takes x t ++ js) vs ts ≡ us → from_last (λ t js. moditem_names x t ++ js) ws ts ≡ ss → Fills x vs ws before names takes start new_names new_takes → Fills x us ss before names takes start new_names new_takes
      by_none [] vs ws s a b f = fills_as vs us ws ss before names takes start new_names new_takes a b f
      by_none (t ∷ ts) vs ws s a b f = absurd s

pub same_routine : (us vs : List rules.Mode) (g h : Option rules.Mode) → us ≡ vs → g ≡ h → routine (signature_of us g) ≡ routine (signature_of vs h)
same_routine us vs g h a b = rw (a, b)
