-- What a function of the parser answers. Assumes nothing.
use Rattle.std.specs.Prelude.{◌≡◌, ℕ, ◌+◌, ◌-◌, ◌*◌, ◌<◌, ◌≤◌, true, cond, List, [], ◌∷◌, ◌++◌, length, drop, ◌≢◌, slice_index_or, Result, MatchResult}
use Rattle.grammar.specs.Symbols.{among, same, STOP, PLUS, MINUS, STAR, DIVIDE, MOD, LAND, LOR, NEV, ABS, NOT, BYTE, LENGTH, LEFT, RIGHT, DOT, COMMA, NAME, BECOMES, EQUAL, HASH, LESS, ATMOST, MORE, ATLEAST, IS, ISNT}
use Rattle.grammar.specs.declared.Symbol.{Symbol}
use Rattle.grammar.specs.Trees.{Spelling, Token, key, Many, of_many, of_name, Primary, integer, text, variable, call, call_on, paren, Variable, Exprs, first, comma}
use Rattle.grammar.specs.Sentences.{Answer, bad, deep, items}
use Rattle.grammar.specs.Machine.{Goal, each, declareds, set, Setting, chain, the_fields, fields_on, tok, rest, exprs, argued, Stand, named, parts, a_term, links_on, run, behind, next_goal, seen, Seen, just_name, one_index, longer}
use Rattle.nodes.specs.Nodes.{Agree}
use Rattle.nodes.specs.declared.Node.{Node}
use Rattle.nodes.specs.declared.Parsed.{Parsed}
use Rattle.nodes.specs.declared.Spot.{Spot}
use Rattle.nodes.specs.declared.Fault.{Fault}
use Rattle.nodes.specs.declared.Fault.TheVariants.{Syntax, Deep}

-- the answer from the number i on, where γ may still come and d more may be open
abbrev pub at : ℕ → List Goal → List Symbol → ℕ → Answer
at d γ s i = run d γ i (drop i s)

-- From the number i on a tree was read whose items lie before the number p.next, and for which M holds there. The nodes ns became ms,
-- which stand for it; there are at most two nodes to an item, and x more.
pub record Made (x : ℕ) (T : Type 0) (Is : T → List Node → ℕ → Type 0) (of : Spelling T) (M : T → ℕ → Type 0) (s : List Symbol) (i used : ℕ) (ns ms : List Node) (p : Parsed) : Type 0 where
  pub within : p.next ≤ length s
  pub more : used ≤ p.used
  pub few : p.used + 2 * i ≤ 2 * p.next + used + x
  pub below : p.root < p.used
  pub kept : Agree used ns ms
  pub tree : T
  pub is : Is tree ms p.root
  pub text : items i (drop i s) ≡ of tree (items p.next (drop p.next s))
  pub met : M tree p.next

-- the goals β are met up to the number j; or are not, and the answer is a
abbrev pub Way : {T : Type 0} → List Goal → ℕ → List Symbol → ℕ → T → ℕ → Type 0
Way β d s i t j = (α : List Goal) → at d (β ++ α) s i ≡ at d α s j

abbrev pub answer : Fault → Answer
answer (Syntax e) = bad e
answer (Deep e) = deep e

abbrev pub Refused : List Goal → ℕ → List Symbol → ℕ → Fault → Type 0
Refused β d s i f = (α : List Goal) → at d (β ++ α) s i ≡ answer f

-- There are two nodes free for each terminal from the spot on, and x more.
abbrev pub Room : ℕ → Spot → List Node → Type 0
Room x a ns = a.used + x + 2 * length a.symbols.now ≤ length ns + 2 * a.next

-- from the spot a on a tree was read up to p, for which M holds; the nodes ns became ms
abbrev pub MadeFrom : (x : ℕ) (T : Type 0) → (T → List Node → ℕ → Type 0) → Spelling T → (ℕ → List Symbol → ℕ → T → ℕ → Type 0) → Spot → List Node → List Node → Parsed → Type 0
MadeFrom x T Is of M a ns ms p = Made x T Is of (M a.depth a.symbols.now a.next) a.symbols.now a.next a.used ns ms p

-- What reading from a spot answers: where M holds for a tree from there to a place, this tree; or a fault of which F holds. The nodes
-- ns became ms.
abbrev pub Reads : (x : ℕ) (T : Type 0) → (T → List Node → ℕ → Type 0) → Spelling T → (ℕ → List Symbol → ℕ → T → ℕ → Type 0) → (ℕ → List Symbol → ℕ → Fault → Type 0) → Spot → List Node → List Node → Result Parsed Fault → Type 0
Reads x T Is of M F a ns ms r = MatchResult r (MadeFrom x T Is of M a ns ms) (λ f. F a.depth a.symbols.now a.next f)

-- the same where the goals β are met by what was read
abbrev pub ReadsTo : (x : ℕ) (T : Type 0) → (T → List Node → ℕ → Type 0) → Spelling T → List Goal → Spot → List Node → List Node → Result Parsed Fault → Type 0
ReadsTo x T Is of β a ns ms r = Reads x T Is of (Way β) (Refused β) a ns ms r

-- What was read has fewer than two nodes to an item from the number i on.
abbrev pub Fewer : ℕ → ℕ → Parsed → Type 0
Fewer i used p = p.used + 2 * i < 2 * p.next + used

-- the same, with fewer than two nodes to an item
abbrev pub ReadsFewer : (x : ℕ) (T : Type 0) → (T → List Node → ℕ → Type 0) → Spelling T → (ℕ → List Symbol → ℕ → T → ℕ → Type 0) → (ℕ → List Symbol → ℕ → Fault → Type 0) → Spot → List Node → List Node → Result Parsed Fault → Type 0
ReadsFewer x T Is of M F a ns ms r = MatchResult r (λ p. MadeFrom x T Is of M a ns ms p × Fewer a.next a.used p) (λ f. F a.depth a.symbols.now a.next f)

-- An expression of level n is followed by no operator of a lower level.
abbrev pub rank : Symbol → ℕ
rank c = cond (among (STAR ∷ DIVIDE ∷ MOD ∷ []) c) 0 (cond (same c LAND) 1 (cond (same c LOR) 2 (cond (same c NEV) 3 (cond (among (PLUS ∷ MINUS ∷ []) c) 4 5))))

abbrev pub LevelWay : {T : Type 0} → ℕ → ℕ → List Symbol → ℕ → T → ℕ → Type 0
LevelWay n d s i e j = ((α : List Goal) → at d (a_term ∷ links_on ∷ α) s i ≡ at d (links_on ∷ α) s j) × (n ≤ rank (slice_index_or s j STOP))

abbrev pub LevelRefused : ℕ → List Symbol → ℕ → Fault → Type 0
LevelRefused d s i f = Refused (a_term ∷ links_on ∷ []) d s i f

abbrev pub monadics : List Symbol
monadics = PLUS ∷ MINUS ∷ ABS ∷ NOT ∷ BYTE ∷ LENGTH ∷ []

-- A form that begins with the name at i, wherever it stands: a variable, behind which no further part stands, or a call.
abbrev pub Ended : List Symbol → ℕ → Type 0
Ended s j = (slice_index_or s j STOP ≢ LEFT) × (slice_index_or s j STOP ≢ DOT)

abbrev pub FormWay : ℕ → List Symbol → ℕ → Primary → ℕ → Type 0
FormWay d s i (variable x) j = ((w : Stand) (α : List Goal) → at d (named w ∷ α) s (i + 1) ≡ at d (next_goal (seen x) w ∷ α) s j) × Ended s j
FormWay d s i (call n m) j = (w : Stand) (α : List Goal) → at d (named w ∷ α) s (i + 1) ≡ at d (behind w α) s j
FormWay d s i (call_on n m es e) j = (w : Stand) (α : List Goal) → at d (named w ∷ α) s (i + 1) ≡ at d (behind w α) s j
FormWay d s i (integer n) j = ⊥
FormWay d s i (text n) j = ⊥
FormWay d s i (paren n e) j = ⊥

abbrev pub FormRefused : ℕ → List Symbol → ℕ → Fault → Type 0
FormRefused d s i f = (w : Stand) (α : List Goal) → at d (named w ∷ α) s (i + 1) ≡ answer f

-- Where a variable begins: with its name; or behind VAL, where no call's brackets follow its name.
pub data Opening : Type 0 where
  by_name by_val : Opening

abbrev pub opened : Opening → Stand → Goal
opened by_name w = named w
opened by_val w = parts w

abbrev pub so_far : Opening → Variable → Seen
so_far by_name x = seen x
so_far by_val x = longer x

-- a variable of which more parts may follow; behind a name alone a bracket would be a call's
abbrev pub NotCalled : Seen → List Symbol → ℕ → Type 0
NotCalled (just_name n) s j = slice_index_or s j STOP ≡ LEFT → ⊥
NotCalled (one_index n i e) s j = Unit {0}
NotCalled (longer x) s j = Unit {0}

abbrev pub PartsWay : Opening → ℕ → List Symbol → ℕ → Variable → ℕ → Type 0
PartsWay b d s i x j = ((w : Stand) (α : List Goal) → at d (opened b w ∷ α) s (i + 1) ≡ at d (next_goal (so_far b x) w ∷ α) s j) × NotCalled (so_far b x) s j

-- the same of one that no further part follows
abbrev pub VariableWay : Opening → ℕ → List Symbol → ℕ → Variable → ℕ → Type 0
VariableWay b d s i x j = ((w : Stand) (α : List Goal) → at d (opened b w ∷ α) s (i + 1) ≡ at d (next_goal (so_far b x) w ∷ α) s j) × Ended s j

abbrev pub VariableRefused : Opening → ℕ → List Symbol → ℕ → Fault → Type 0
VariableRefused b d s i f = (w : Stand) (α : List Goal) → at d (opened b w ∷ α) s (i + 1) ≡ answer f

-- from the number i on so much was read, with at most two nodes to an item
pub record Counted (s : List Symbol) (i used : ℕ) (p : Parsed) : Type 0 where
  pub within : p.next ≤ length s
  pub more : used ≤ p.used
  pub few : p.used + 2 * i ≤ 2 * p.next + used
  pub below : p.root < p.used

-- the operators in front of a term, from i up to k
pub record Monads (d : ℕ) (s : List Symbol) (i k : ℕ) : Type 0 where
  pub low : i ≤ k
  pub high : k ≤ length s
  pub each : (j : ℕ) → i ≤ j → j < k → among monadics (slice_index_or s j STOP) ≡ true
  pub met : (α : List Goal) → at d (a_term ∷ α) s i ≡ at d (a_term ∷ α) s k

-- The expressions in a call's brackets, the name being at i, if more follow.
abbrev pub ArgsWay : ℕ → List Symbol → ℕ → Exprs → ℕ → Type 0
ArgsWay d s i (first e) j = ((w : Stand) (α : List Goal) → at d (named w ∷ α) s (i + 1) ≡ at (d - 1) (argued w ∷ α) s j) × (slice_index_or s j STOP ≡ COMMA)
ArgsWay d s i (comma es e) j = ((w : Stand) (α : List Goal) → at d (named w ∷ α) s (i + 1) ≡ at (d - 1) (rest exprs ∷ tok RIGHT ∷ behind w α) s j) × Unit {0}

abbrev pub comparators : List Symbol
comparators = EQUAL ∷ HASH ∷ LESS ∷ ATMOST ∷ MORE ∷ ATLEAST ∷ IS ∷ ISNT ∷ []

-- components or parameters, of which more may follow
abbrev pub FieldsWay : {T : Type 0} → ℕ → List Symbol → ℕ → T → ℕ → Type 0
FieldsWay d s i t j = (α : List Goal) → at d (the_fields ∷ α) s i ≡ at d (fields_on ∷ α) s j

-- A name and ':=' are at i. Names that share a value, each with ':=' behind it.
abbrev pub Shares : List Symbol → ℕ → Type 0
Shares s i = (slice_index_or s i STOP ≡ NAME) × (slice_index_or s (i + 1) STOP ≡ BECOMES) × (i + 1 < length s)

abbrev pub of_shared : Many ℕ → List Token → List Token
of_shared ns r = of_many of_name BECOMES ns (key BECOMES ∷ r)

abbrev pub NamesWay : {T : Type 0} → List Symbol → ℕ → T → ℕ → Type 0
NamesWay s i t j = (d : ℕ) (v : Setting) (α : List Goal) → at d (each (declareds (set v)) ∷ α) s i ≡ at d (chain v ∷ α) s j
