-- The first item of a form, and the item at which its misfit is told. Assumes nothing.
use Rattle.std.specs.Prelude.{ℕ}
use Rattle.grammar.specs.Trees.{Expr, term, up, dyadic, Term, monadic, primary, Primary, integer, text, variable, call, call_on, paren, Variable, name, element, component, Destination, val, Many, one, more}
use Rattle.grammar.specs.Trees as tree

abbrev pub front_variable : Variable → ℕ
front_variable (name n) = n
front_variable (element v i e) = front_variable v
front_variable (component v c) = front_variable v

abbrev pub front_primary : Primary → ℕ
front_primary (integer i) = i
front_primary (text i) = i
front_primary (variable v) = front_variable v
front_primary (call n i) = n
front_primary (call_on n i es e) = n
front_primary (paren i e) = i

abbrev pub front_term : Term → ℕ
front_term (monadic o i t) = i
front_term (primary p) = front_primary p

abbrev pub front : {n : ℕ} → Expr n → ℕ
front (term t) = front_term t
front (up e) = front e
front (dyadic a o i b) = front a

-- a misfit in brackets is that of what stands inside
abbrev mutual
  pub spot : {n : ℕ} → Expr n → ℕ
  spot (term t) = spot_term t
  spot (up e) = spot e
  spot (dyadic a o i b) = front a

  pub spot_term : Term → ℕ
  spot_term (monadic o i t) = i
  spot_term (primary p) = spot_primary p

  pub spot_primary : Primary → ℕ
  spot_primary (paren i e) = spot e
  spot_primary p = front_primary p

abbrev pub front_destination : Destination → ℕ
front_destination (tree.place v) = front_variable v
front_destination (val i v) = i

abbrev pub front_destinations : Many Destination → ℕ
front_destinations (one d) = front_destination d
front_destinations (more ds d) = front_destinations ds
