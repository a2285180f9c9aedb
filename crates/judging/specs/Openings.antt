-- How a node's form begins: with a form that stands left in it, or with an item; and the layers of a variable. Assumes nothing.
use Rattle.std.specs.Prelude.{ℕ, zero, suc, Some, None, Option}
use Rattle.grammar.specs.Trees.{Variable, name, element, component}
use Rattle.nodes.specs.declared.Node.{Node}
use Rattle.nodes.specs.declared.Node.TheVariants.{Integer, Text, Name, Element, Component, Call, CallOn, Paren, Monadic, Dyadic}

abbrev pub left_of : Node → Option ℕ
left_of (Dyadic o i l r) = Some l
left_of (Element l i r) = Some l
left_of (Component l n) = Some l
left_of _ = None

abbrev pub item_of : Node → ℕ
item_of (Integer i) = i
item_of (Text i) = i
item_of (Name n) = n
item_of (Call n i) = n
item_of (CallOn n i m) = n
item_of (Paren i r) = i
item_of (Monadic o i r) = i
item_of _ = 0

-- the subscripts and selectors of a variable; the variable without its last one, and without its last d
abbrev pub layers : Variable → ℕ
layers (name n) = 0
layers (element v i e) = suc (layers v)
layers (component v n) = suc (layers v)

abbrev pub stripped : Variable → Variable
stripped (name n) = name n
stripped (element v i e) = v
stripped (component v n) = v

abbrev pub layer : Variable → ℕ → Variable
layer v zero = v
layer v (suc d) = stripped (layer v d)
