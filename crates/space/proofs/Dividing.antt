-- The strings of a construct are put part by part: first those of its last part, then those of the part in front. Assumes nothing.
use Rattle.std.proofs.Common.{◌≡◌, ◌⊎◌, inl, inr, ℕ, ◌<◌, Option, Some, None, List, [], ◌∷◌, ◌++◌, slice_index_or, refl, ap, sym, ◌∙◌, subst, append-nil}
use Rattle.std.proofs.lemmas.List.{map-append}
use Rattle.grammar.specs.Trees.{Body, Value}
use Rattle.nodes.specs.declared.Node.{Node}
use Rattle.nodes.specs.declared.Node.TheVariants.{Text, Literal}
use Rattle.nodes.specs.Nodes.{blank_node, IsBody, IsValue}
use Rattle.statics.specs.Scopes.{Text as Facts}
use Rattle.statics.specs.Space.{body_strings, string_charges, value_strings}
use Rattle.frames.specs.Frames.{Ahead, Kept}
use Rattle.space.specs.declared.Charge.{Charge}
use Rattle.space.specs.Charges.{charge_means}
use Rattle.space.specs.Strings.{of_part, own_string, parted, strings_below, strings_at}
use Rattle.frames.proofs.Filled.{kept_on}
use Rattle.space.proofs.Leading.{Leading, lead_more, lead_out}
use Rattle.space.proofs.Strung.{front_strings, strung_body, strung_value}

pub own_none : (n : Node) → ((i : ℕ) → n ≡ Text i → ⊥) → ((i : ℕ) → n ≡ Literal i → ⊥) → own_string n ≡ []
own_none (Text i) t l = absurd (t i refl)
own_none (Literal i) t l = absurd (l i refl)
own_none _ t l = refl

-- what is read of the node at `at`, of which the parts are given
module _ (ns : List Node) (at : ℕ) where
  abbrev pub Part : Option ℕ → List ℕ
  Part p = of_part (strings_below at ns) at p

  pub divided : (n : Node) (front last : Option ℕ) → n ≡ slice_index_or ns at blank_node → own_string n ≡ [] → ((f : ℕ → List ℕ) (k : ℕ) → parted f k n ≡ own_string n ++ (of_part f k front ++ of_part f k last)) → strings_at ns at ≡ Part front ++ Part last
  divided n front last node none parts =
      ap (parted (strings_below at ns) at) (sym node) ∙ parts (strings_below at ns) at ∙ ap (λ us. us ++ (Part front ++ Part last)) none

  pub part_some : (p : Option ℕ) (l : ℕ) → ((f : ℕ → List ℕ) → of_part f at p ≡ of_part f at (Some l)) → l < at → Part p ≡ strings_at ns l
  part_some p l same h = same (strings_below at ns) ∙ front_strings ns at l h

  pub part_none : (p : Option ℕ) → ((f : ℕ → List ℕ) → of_part f at p ≡ of_part f at None) → Part p ≡ []
  part_none p same = same (strings_below at ns)

  pub written : (n : Node) (i : ℕ) → n ≡ slice_index_or ns at blank_node → (n ≡ Text i) ⊎ (n ≡ Literal i) → strings_at ns at ≡ i ∷ []
  written n i node (inl e) = ap (parted (strings_below at ns) at) (sym node ∙ e)
  written n i node (inr e) = ap (parted (strings_below at ns) at) (sym node ∙ e)

-- of the strings at k, those `us` are still to be put
module _ (x : Facts) (ns : List Node) (k before : ℕ) (old : List Charge) where
  abbrev pub Putting : List ℕ → ℕ → List Charge → Type 0
  Putting us start new = Kept before old start new × Leading charge_means (string_charges x (strings_at ns k)) (string_charges x us) before old start new

  pub put_last : (us rest last more : List ℕ) (start : ℕ) (mid : List Charge) (begin : ℕ) (new : List Charge) → us ≡ rest ++ last → last ≡ more → Putting us start mid → Kept start mid begin new → Ahead charge_means (string_charges x more) start mid begin new → Putting rest begin new
  put_last us rest last more start mid begin new e d put kept step = (
    kept_on before old start mid begin new put.0 kept,
    lead_more charge_means (string_charges x (strings_at ns k)) before old (string_charges x us) (string_charges x rest) (string_charges x more) start mid begin new
        (ap (string_charges x) (e ∙ ap (λ vs. rest ++ vs) d) ∙ map-append _ rest more)
        put.0.length put.1 step,
  )

  pub no_last : (us rest last : List ℕ) (start : ℕ) (new : List Charge) → us ≡ rest ++ last → last ≡ [] → Putting us start new → Putting rest start new
  no_last us rest last start new e d put = subst (λ vs. Putting vs start new) (e ∙ ap (λ vs. rest ++ vs) d ∙ append-nil rest) put

  pub put_rest : (us rest : List ℕ) (start : ℕ) (new : List Charge) → us ≡ rest → Putting us start new → Putting rest start new
  put_rest us rest start new e put = subst (λ vs. Putting vs start new) e put

  pub put_out : (us : List ℕ) (start : ℕ) (new : List Charge) → us ≡ [] → Putting us start new → Ahead charge_means (string_charges x (strings_at ns k)) before old start new
  put_out us start new e put = lead_out charge_means (string_charges x (strings_at ns k)) before old (string_charges x us) start new (ap (string_charges x) e) put.1

  pub put_body : (start : ℕ) (new : List Charge) → Ahead charge_means (string_charges x (strings_at ns k)) before old start new → (b : Body) → IsBody b ns k → Ahead charge_means (string_charges x (body_strings b)) before old start new
  put_body start new put b is = subst (λ us. Ahead charge_means (string_charges x us) before old start new) (strung_body ns b k is) put

  pub put_value : (start : ℕ) (new : List Charge) → Ahead charge_means (string_charges x (strings_at ns k)) before old start new → (v : Value) → IsValue v ns k → Ahead charge_means (string_charges x (value_strings v)) before old start new
  put_value start new put v is = subst (λ us. Ahead charge_means (string_charges x us) before old start new) (strung_value ns v k is) put
