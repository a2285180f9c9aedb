-- What a declaration of a data brick declares, as its node tells it. Assumes nothing.
use Rattle.std.proofs.Common.{◌≡◌, ℕ, ◌*◌, List, slice_index_or, refl, ap, sym, ◌∙◌, subst}
use Rattle.grammar.specs.Trees.{Amode, Dec, nothing, variables, arrays, structures, Init, Many, Value}
use Rattle.nodes.specs.declared.Node.{Node}
use Rattle.nodes.specs.declared.Node.TheVariants.{Variables, Arrays, Structures}
use Rattle.nodes.specs.Nodes.{blank_node, IsAmode, IsDec, IsInit, IsMany, IsValue}
use Rattle.statics.specs.Scopes.{Text as Facts, Component}
use Rattle.statics.specs.Written.{gather, element_of}
use Rattle.statics.specs.Space.{dec_charges, element_scalars, item_charges, scalars}
use Rattle.modes.specs.declared.Mode.{Mode as ModeOf}
use Rattle.modes.specs.declared.Element.{Element}
use Rattle.modes.specs.Meanings.{element_means}
use Rattle.values.specs.declared.Want.{Want}
use Rattle.values.specs.declared.Want.TheVariants.{Simply, Several, Recorded}
use Rattle.values.specs.Wants.{want_means}
use Rattle.frames.specs.Frames.{Ahead}
use Rattle.space.specs.declared.Charge.{Charge}
use Rattle.space.specs.Charges.{charge_means}

module _ (x : Facts) (cs : List Component) (ns : List Node) (k : ℕ) where
  -- what stands at k declares the items of the list at `list`, each for what w wants
  abbrev pub Declares : Want → ℕ → Type 0
  Declares w list = (d : Dec (Many (Init Value))) → IsDec (IsMany (IsInit IsValue)) d ns k → (is : Many (Init Value)) × IsMany (IsInit IsValue) is ns list × (dec_charges x cs d ≡ gather (item_charges x (scalars cs (want_means x w))) is)

  pub of_variables : (n : Node) (l r : ℕ) (m : ModeOf) → n ≡ slice_index_or ns k blank_node → n ≡ Variables l r → Declares (Simply m) r
  of_variables n l r m node e nothing is = let f : ⊥ = cc (node, e, is) in absurd f
  of_variables n l r m node e (variables t i) is = let same : is.1 ≡ r = cc (node, e, is.4) in (i, subst (λ j. IsMany (IsInit IsValue) i ns j) same is.6, refl)
  of_variables n l r m node e (arrays b c t i) is = let f : ⊥ = cc (node, e, is.4) in absurd f
  of_variables n l r m node e (structures c i) is = let f : ⊥ = cc (node, e, is.2) in absurd f

  pub of_arrays : (n : Node) (b c l r v : ℕ) (m : Element) → n ≡ slice_index_or ns k blank_node → n ≡ Arrays b c l r → v ≡ x.value c → ((t : Amode) → IsAmode t ns l → element_means x m ≡ element_of x t) → Declares (Several v m) r
  of_arrays n b c l r v m node e count of nothing is = let f : ⊥ = cc (node, e, is) in absurd f
  of_arrays n b c l r v m node e count of (variables t i) is = let f : ⊥ = cc (node, e, is.4) in absurd f
  of_arrays n b c l r v m node e count of (arrays b' c' t i) is =
      let same : is.1 ≡ r = cc (node, e, is.4) in
      let mode : is.0 ≡ l = cc (node, e, is.4) in
      let many : c' ≡ c = cc (node, e, is.4) in
      let each : element_means x m ≡ element_of x t = of t (subst (λ j. IsAmode t ns j) mode is.5) in (
        i,
        subst (λ j. IsMany (IsInit IsValue) i ns j) same is.6,
        ap (λ j. gather (item_charges x (x.value j * element_scalars cs (element_of x t))) i) many
            ∙ ap (λ j. gather (item_charges x (j * element_scalars cs (element_of x t))) i) (sym count)
            ∙ ap (λ a. gather (item_charges x (v * element_scalars cs a)) i) (sym each),
      )
  of_arrays n b c l r v m node e count of (structures c' i) is = let f : ⊥ = cc (node, e, is.2) in absurd f

  pub of_structures : (n : Node) (c r : ℕ) → n ≡ slice_index_or ns k blank_node → n ≡ Structures c r → Declares (Recorded c) r
  of_structures n c r node e nothing is = let f : ⊥ = cc (node, e, is) in absurd f
  of_structures n c r node e (variables t i) is = let f : ⊥ = cc (node, e, is.4) in absurd f
  of_structures n c r node e (arrays b c' t i) is = let f : ⊥ = cc (node, e, is.4) in absurd f
  of_structures n c r node e (structures c' i) is =
      let same : is.0 ≡ r = cc (node, e, is.2) in
      let name : c' ≡ c = cc (node, e, is.2) in (
        i,
        subst (λ j. IsMany (IsInit IsValue) i ns j) same is.3,
        ap (λ j. gather (item_charges x (scalars cs (want_means x (Recorded j)))) i) name,
      )

  -- so it is put when the items are
  pub put_declared : (w : Want) (list amount before : ℕ) (old : List Charge) (start : ℕ) (new : List Charge) → Declares w list → amount ≡ scalars cs (want_means x w) → ((is : Many (Init Value)) → IsMany (IsInit IsValue) is ns list → Ahead charge_means (gather (item_charges x amount) is) before old start new) → (d : Dec (Many (Init Value))) → IsDec (IsMany (IsInit IsValue)) d ns k → Ahead charge_means (dec_charges x cs d) before old start new
  put_declared w list amount before old start new declares e put d is =
      let y = declares d is in
      subst (λ us. Ahead charge_means us before old start new) (ap (λ n. gather (item_charges x n) y.0) e ∙ sym y.2) (put y.0 y.1)
