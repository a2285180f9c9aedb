-- The strings in what a node stands for, in the order of the text. That these are the strings of the tree is promised where they are put. Assumes nothing.
use Rattle.std.specs.Prelude.{ℕ, zero, suc, cond, nat_lt, Option, Some, None, List, [], ◌∷◌, ◌++◌, slice_index_or}
use Rattle.nodes.specs.declared.Node.{Node}
use Rattle.nodes.specs.declared.Node.TheVariants.{Text, Literal, Dyadic, Compare, Also, Element, Locals, Body, Assign, BranchElse, Repeat, Loop, When, Monadic, Paren, CallOn, Component, Given, Local, Val, Block, InvokeOn, Branch, ReturnWith, List as ListNode, Repeated}
use Rattle.nodes.specs.Nodes.{blank_node}

-- those of a part further in front, by f
abbrev pub before : (ℕ → List ℕ) → ℕ → ℕ → List ℕ
before f k l = cond (nat_lt l k) (f l) []

abbrev pub parted : (ℕ → List ℕ) → ℕ → Node → List ℕ
parted f k (Text i) = i ∷ []
parted f k (Literal i) = i ∷ []
parted f k (Dyadic s i l r) = before f k l ++ before f k r
parted f k (Compare s l r) = before f k l ++ before f k r
parted f k (Also l r) = before f k l ++ before f k r
parted f k (Element l i r) = before f k l ++ before f k r
parted f k (Locals l r) = before f k l ++ before f k r
parted f k (Body l r) = before f k l ++ before f k r
parted f k (Assign l r) = before f k l ++ before f k r
parted f k (BranchElse l r) = before f k l ++ before f k r
parted f k (Repeat l r) = before f k l ++ before f k r
parted f k (Loop l r) = before f k l ++ before f k r
parted f k (When l r) = before f k l ++ before f k r
parted f k (Monadic s i r) = before f k r
parted f k (Paren i r) = before f k r
parted f k (CallOn n i r) = before f k r
parted f k (Component l n) = before f k l
parted f k (Given l r) = before f k r
parted f k (Local m r) = before f k r
parted f k (Val i r) = before f k r
parted f k (Block r) = before f k r
parted f k (InvokeOn n i r) = before f k r
parted f k (Branch r) = before f k r
parted f k (ReturnWith i j r) = before f k r
parted f k (ListNode i r) = before f k r
parted f k (Repeated r i n) = before f k r
parted f k _ = []

abbrev pub strings_below : ℕ → List Node → ℕ → List ℕ
strings_below zero ns k = []
strings_below (suc d) ns k = parted (strings_below d ns) k (slice_index_or ns k blank_node)

abbrev pub strings_at : List Node → ℕ → List ℕ
strings_at ns k = strings_below (suc k) ns k

-- the string that a node itself is, and those of a part if it has one
abbrev pub own_string : Node → List ℕ
own_string (Text i) = i ∷ []
own_string (Literal i) = i ∷ []
own_string _ = []

abbrev pub of_part : (ℕ → List ℕ) → ℕ → Option ℕ → List ℕ
of_part f k None = []
of_part f k (Some l) = before f k l
