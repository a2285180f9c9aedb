-- Which tree stands at a node, by the node. Assumes nothing.
use Rattle.std.proofs.Common.{◌≡◌, ℕ, ◌<◌, List, refl, subst}
use Rattle.grammar.specs.Trees.{Value, constant, signed, minus_signed, identifier, string, empty_list, list, Values, Entry, once, repeated}
use Rattle.nodes.specs.declared.Node.{Node}
use Rattle.nodes.specs.declared.Node.TheVariants as node
use Rattle.nodes.specs.Nodes.{At, IsValue, IsValues, IsEntry}

module _ (ns : List Node) (k : ℕ) where
  -- values
  pub constant_there : (i : ℕ) (v : Value) → At ns k (node.Constant i) → IsValue v ns k → v ≡ constant i
  constant_there i (constant j) a h = cc
  constant_there i v a h = absurd cc

  pub signed_there : (s i : ℕ) (v : Value) → At ns k (node.Signed s i) → IsValue v ns k → v ≡ signed s i
  signed_there s i (signed t j) a h = cc
  signed_there s i v a h = absurd cc

  pub minus_signed_there : (s i : ℕ) (v : Value) → At ns k (node.MinusSigned s i) → IsValue v ns k → v ≡ minus_signed s i
  minus_signed_there s i (minus_signed t j) a h = cc
  minus_signed_there s i v a h = absurd cc

  pub identifier_there : (n : ℕ) (v : Value) → At ns k (node.Identifier n) → IsValue v ns k → v ≡ identifier n
  identifier_there n (identifier m) a h = cc
  identifier_there n v a h = absurd cc

  pub string_there : (i : ℕ) (v : Value) → At ns k (node.Literal i) → IsValue v ns k → v ≡ string i
  string_there i (string j) a h = cc
  string_there i v a h = absurd cc

  pub empty_list_there : (i : ℕ) (v : Value) → At ns k (node.EmptyList i) → IsValue v ns k → v ≡ empty_list i
  empty_list_there i (empty_list j) a h = cc
  empty_list_there i v a h = absurd cc

  pub list_there : (i r : ℕ) (v : Value) → At ns k (node.List i r) → IsValue v ns k → (vs : Values) × (v ≡ list i vs) × (r < k) × IsValues vs ns r
  list_there i r (list j vs) a h =
      let e : h.0 ≡ r = cc in
      (vs, cc, subst (λ (x : ℕ). x < k) e h.1, subst (λ (x : ℕ). IsValues vs ns x) e h.3)
  list_there i r v a h = absurd cc

  pub no_value_there : (v : Value) → ((i : ℕ) → At ns k (node.Constant i) → ⊥) → ((s i : ℕ) → At ns k (node.Signed s i) → ⊥) → ((s i : ℕ) → At ns k (node.MinusSigned s i) → ⊥)
      → ((n : ℕ) → At ns k (node.Identifier n) → ⊥) → ((i : ℕ) → At ns k (node.Literal i) → ⊥) → ((i : ℕ) → At ns k (node.EmptyList i) → ⊥) → ((i r : ℕ) → At ns k (node.List i r) → ⊥)
      → IsValue v ns k → ⊥
  no_value_there (constant i) a b c d e f g h = a i h
  no_value_there (signed s i) a b c d e f g h = b s i h
  no_value_there (minus_signed s i) a b c d e f g h = c s i h
  no_value_there (identifier n) a b c d e f g h = d n h
  no_value_there (string i) a b c d e f g h = e i h
  no_value_there (empty_list i) a b c d e f g h = f i h
  no_value_there (list i vs) a b c d e f g h = g i h.0 h.2

  -- entries
  pub repeated_there : (r i n : ℕ) (e : Entry) → At ns k (node.Repeated r i n) → IsEntry e ns k → (v : Value) × (e ≡ repeated v i n) × (r < k) × IsValue v ns r
  repeated_there r i n (repeated v j m) a h =
      let e : h.0 ≡ r = cc in
      (v, cc, subst (λ (x : ℕ). x < k) e h.1, subst (λ (x : ℕ). IsValue v ns x) e h.3)
  repeated_there r i n (once v) a h = absurd (no_value_there v (λ j b. cc) (λ t j b. cc) (λ t j b. cc) (λ m b. cc) (λ j b. cc) (λ j b. cc) (λ j x b. cc) h)

  pub once_there : (e : Entry) → ((r i n : ℕ) → r < k → At ns k (node.Repeated r i n) → ⊥) → IsEntry e ns k → (v : Value) × (e ≡ once v) × IsValue v ns k
  once_there (once v) other h = (v, refl, h)
  once_there (repeated v i n) other h = absurd (other h.0 i n h.1 h.2)
