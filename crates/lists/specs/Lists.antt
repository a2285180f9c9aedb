-- The entries of a list, from the last to the first. Assumes nothing.
use Rattle.std.specs.Prelude.{ℕ, zero, suc, cond, nat_lt, Option, Some, None, List, [], ◌∷◌, ◌++◌, slice_index_or}
use Rattle.grammar.specs.Trees.{Exprs, first, comma, Comparison, Condition, Many, one, more, Fields, field, also, next, Values, only, and, Local, Locals, no_locals, locals, Sequence, single, sequel, Statement, Arms, when, elsewhen, Expr, Entry}
use Rattle.grammar.specs.Machine.{Repetition, exprs, ors, ands, statements, modes, entries, moditems, declareds, decs, Single, Whole}
use Rattle.nodes.specs.declared.Node.{Node}
use Rattle.nodes.specs.declared.Node.TheVariants.{Also, Absent, AlsoField, NextField, NoLocals, Locals as LocalsNode}
use Rattle.nodes.specs.Nodes.{Reading, blank_node}
use Rattle.lists.specs.declared.Shape.{Shape}
use Rattle.lists.specs.declared.Shape.TheVariants.{Empty, One, More}
use Rattle.lists.specs.declared.Backwards.{Backwards}

-- What the list at k is made of, whose node is given. An entry of components or parameters stands where its list ends, so their last entry
-- is k itself. A node that links no list is an entry.
abbrev pub shape_of : ℕ → Node → Shape
shape_of k (Also l r) = More l r
shape_of k (LocalsNode l r) = More l r
shape_of k (AlsoField l n) = More l k
shape_of k (NextField l r n) = More l k
shape_of k NoLocals = Empty
shape_of k Absent = Empty
shape_of k _ = One k

-- the entries of the list at k, where f l are those of a list at l further in front
abbrev pub joined : (ℕ → List ℕ) → ℕ → Shape → List ℕ
joined f k Empty = []
joined f k (One e) = e ∷ []
joined f k (More l e) = e ∷ cond (nat_lt l k) (f l) []

-- the entries of a list whose node is one of the first d, from the last to the first
abbrev pub listed_below : ℕ → List Node → ℕ → List ℕ
listed_below zero ns k = []
listed_below (suc d) ns k = joined (listed_below d ns) k (shape_of k (slice_index_or ns k blank_node))

-- the entries of the list at k
abbrev pub listed : List Node → ℕ → List ℕ
listed ns k = listed_below (suc k) ns k

abbrev pub listed_from : List Node → Option ℕ → List ℕ
listed_from ns None = []
listed_from ns (Some k) = listed ns k

-- the entries of each of the lists at these indices
abbrev pub of_each : List Node → List ℕ → List ℕ
of_each ns [] = []
of_each ns (k ∷ ks) = listed ns k ++ of_each ns ks

-- the entries that are still to come
abbrev pub left : Backwards → List ℕ
left s = listed_from s.nodes.now s.rest

-- The trees of a list's entries, from the last to the first. The entry of a list of arms is an arm; of one of components or parameters it is
-- the list up to there, which is what its node stands for.
abbrev pub of_many : {A : Type 0} → Many A → List A
of_many (one a) = a ∷ []
of_many (more m a) = a ∷ of_many m

-- of a condition, the comparisons
abbrev pub comparisons : Condition → List Comparison
comparisons (one s) = of_many s
comparisons (more c s) = of_many s ++ comparisons c

abbrev pub of_exprs : Exprs → List (Expr 5)
of_exprs (first e) = e ∷ []
of_exprs (comma es e) = e ∷ of_exprs es

abbrev pub of_values : Values → List Entry
of_values (only e) = e ∷ []
of_values (and vs e) = e ∷ of_values vs

abbrev pub of_sequence : Sequence → List Statement
of_sequence (single s) = s ∷ []
of_sequence (sequel ss s) = s ∷ of_sequence ss

abbrev pub of_arms : Arms → List Arms
of_arms (when c s) = when c s ∷ []
of_arms (elsewhen ws c s) = when c s ∷ of_arms ws

abbrev pub of_locals : Locals → List Local
of_locals no_locals = []
of_locals (locals ls x) = x ∷ of_locals ls

abbrev pub of_fields : Fields → List Fields
of_fields (field m n) = field m n ∷ []
of_fields (also fs n) = also fs n ∷ of_fields fs
of_fields (next fs m n) = next fs m n ∷ of_fields fs

abbrev pub of_whole : (r : Repetition) → Whole r → List (Single r)
of_whole exprs t = of_exprs t
of_whole ors t = of_many t
of_whole ands t = of_many t
of_whole statements t = of_sequence t
of_whole modes t = of_many t
of_whole entries t = of_values t
of_whole moditems t = of_many t
of_whole (declareds s) t = of_many t
of_whole (decs s) t = of_many t

-- a list of which no entry is linked as a list itself: any but a condition, of which an entry may be comparisons with AND
abbrev pub Flat : Repetition → Type 0
Flat ors = ⊥
Flat _ = Unit {0}

-- the nodes with these indices stand for these trees, each for one
abbrev pub Stand : {A : Type 0} → Reading A → List A → List Node → List ℕ → Type 0
Stand Is [] ns [] = Unit {0}
Stand Is [] ns (k ∷ ks) = ⊥
Stand Is (t ∷ ts) ns [] = ⊥
Stand Is (t ∷ ts) ns (k ∷ ks) = Is t ns k × Stand Is ts ns ks

-- what a loop over the entries works out from b on, the last one first
abbrev pub from_last : {A B : Type 0} → (A → B → B) → B → List A → B
from_last g b [] = b
from_last g b (t ∷ ts) = from_last g (g t b) ts

-- what the entries give by f, put together in their order, the first one first
abbrev pub in_order : {A B : Type 0} → (B → B → B) → B → (A → B) → List A → B
in_order op e f [] = e
in_order op e f (t ∷ ts) = op (in_order op e f ts) (f t)
