-- The order of the items of a tree: all that a rule names lie from lo up to hi, in the order of the text. Assumes nothing.
use Rattle.std.specs.Prelude.{ℕ, ◌+◌, ◌<◌, ◌≤◌}
use Rattle.grammar.specs.Trees.{Expr, term, up, dyadic, Term, monadic, primary, Primary, integer, text, variable, call, call_on, paren, Variable, name, element, component, Exprs, first, comma, Comparison, compare, Condition, Many, one, more, Init, given, Local, Locals, no_locals, locals, Destination, val, Body, body, Sequence, single, sequel, Statement, dummy, block, assign, invoke, invoke_on, branch, branch_else, repeat, loop, return, return_with, Arms, when, elsewhen, Value, constant, signed, minus_signed, identifier, string, empty_list, list, Values, only, and, Entry, once, repeated, Dec, variables, arrays, structures, Opt, Fields, also, Brick, store, procedure, Moditem, blank, external_procs, external_store, own, entry, Module}
use Rattle.grammar.specs.Trees as tree

-- an item from lo up to hi
abbrev pub Span : ℕ → ℕ → ℕ → Type 0
Span lo hi p = (lo ≤ p) × (p < hi)

abbrev mutual
  pub In : {n : ℕ} → ℕ → Expr n → ℕ → Type 0
  In lo (term t) hi = InTerm lo t hi
  In lo (up e) hi = In lo e hi
  In lo (dyadic a o i b) hi = (m : ℕ) × In lo a m × In m b hi

  pub InTerm : ℕ → Term → ℕ → Type 0
  InTerm lo (monadic o i t) hi = (lo ≤ i) × InTerm (i + 1) t hi
  InTerm lo (primary p) hi = InPrimary lo p hi

  pub InPrimary : ℕ → Primary → ℕ → Type 0
  InPrimary lo (integer i) hi = Span lo hi i
  InPrimary lo (text i) hi = Span lo hi i
  InPrimary lo (variable v) hi = InVariable lo v hi
  InPrimary lo (call n i) hi = Span lo hi n
  InPrimary lo (call_on n i es e) hi = (lo ≤ n) × ((m : ℕ) × InExprs (n + 1) es m × In m e hi)
  InPrimary lo (paren i e) hi = (lo ≤ i) × In (i + 1) e hi

  pub InVariable : ℕ → Variable → ℕ → Type 0
  InVariable lo (name n) hi = Span lo hi n
  InVariable lo (element v i e) hi = (m : ℕ) × InVariable lo v m × In m e hi
  InVariable lo (component v c) hi = (m : ℕ) × InVariable lo v m × Span m hi c

  pub InExprs : ℕ → Exprs → ℕ → Type 0
  InExprs lo (first e) hi = In lo e hi
  InExprs lo (comma es e) hi = (m : ℕ) × InExprs lo es m × In m e hi

abbrev pub InComparison : ℕ → Comparison → ℕ → Type 0
InComparison lo (compare a o b) hi = (m : ℕ) × In lo a m × In m b hi

-- many parts, one after the other
abbrev pub InMany : {A : Type 0} → (ℕ → A → ℕ → Type 0) → ℕ → Many A → ℕ → Type 0
InMany I lo (one a) hi = I lo a hi
InMany I lo (more m a) hi = (k : ℕ) × InMany I lo m k × I k a hi

abbrev pub InCondition : ℕ → Condition → ℕ → Type 0
InCondition lo c hi = InMany (InMany InComparison) lo c hi

-- Modes: the names in them, and room for an item at least.
abbrev mutual
  pub InMode : ℕ → tree.Mode → ℕ → Type 0
  InMode lo tree.int hi = lo < hi
  InMode lo (tree.byte i) hi = lo < hi
  InMode lo tree.ref_int hi = lo < hi
  InMode lo (tree.ref_byte i) hi = lo < hi
  InMode lo (tree.ref_record n) hi = Span lo hi n
  InMode lo (tree.ref_array m) hi = InElement lo m hi
  InMode lo (tree.ref_array_brackets i m) hi = InElement lo m hi

  pub InElement : ℕ → tree.Amode → ℕ → Type 0
  InElement lo (tree.simple m) hi = InMode lo m hi
  InElement lo (tree.records n) hi = Span lo hi n

-- Declarations of locals, and statements.
abbrev pub InName : ℕ → ℕ → ℕ → Type 0
InName lo n hi = Span lo hi n

abbrev pub InInit : {A : Type 0} → (ℕ → A → ℕ → Type 0) → ℕ → Init A → ℕ → Type 0
InInit I lo (tree.plain n) hi = Span lo hi n
InInit I lo (given ns a) hi = (k : ℕ) × InMany InName lo ns k × I k a hi

abbrev pub InLocal : ℕ → Local → ℕ → Type 0
InLocal lo (tree.local m is) hi = (k : ℕ) × InMode lo m k × InMany (InInit In) k is hi

abbrev pub InLocals : ℕ → Locals → ℕ → Type 0
InLocals lo no_locals hi = lo ≤ hi
InLocals lo (locals ls l) hi = (k : ℕ) × InLocals lo ls k × InLocal k l hi

abbrev pub InDestination : ℕ → Destination → ℕ → Type 0
InDestination lo (tree.place v) hi = InVariable lo v hi
InDestination lo (val i v) hi = (lo ≤ i) × InVariable (i + 1) v hi

abbrev mutual
  pub InBody : ℕ → Body → ℕ → Type 0
  InBody lo (body ls s) hi = (k : ℕ) × InLocals lo ls k × InSequence k s hi

  pub InSequence : ℕ → Sequence → ℕ → Type 0
  InSequence lo (single s) hi = InStatement lo s hi
  InSequence lo (sequel ss s) hi = (k : ℕ) × InSequence lo ss k × InStatement k s hi

  pub InStatement : ℕ → Statement → ℕ → Type 0
  InStatement lo dummy hi = lo ≤ hi
  InStatement lo (block b) hi = InBody lo b hi
  InStatement lo (assign ds e) hi = (k : ℕ) × InMany InDestination lo ds k × In k e hi
  InStatement lo (invoke n i) hi = Span lo hi n
  InStatement lo (invoke_on n i es) hi = (lo ≤ n) × InExprs (n + 1) es hi
  InStatement lo (branch ws) hi = InArms lo ws hi
  InStatement lo (branch_else ws s) hi = (k : ℕ) × InArms lo ws k × InSequence k s hi
  InStatement lo (repeat e b) hi = (k : ℕ) × In lo e k × InBody k b hi
  InStatement lo (loop c s) hi = (k : ℕ) × InCondition lo c k × InSequence k s hi
  InStatement lo (return i) hi = Span lo hi i
  InStatement lo (return_with i j e) hi = (lo ≤ i) × In (i + 1) e hi

  pub InArms : ℕ → Arms → ℕ → Type 0
  InArms lo (when c s) hi = (k : ℕ) × InCondition lo c k × InSequence k s hi
  InArms lo (elsewhen ws c s) hi = (k : ℕ) × InArms lo ws k × ((j : ℕ) × InCondition k c j × InSequence j s hi)

-- Initial values and module items.
abbrev mutual
  pub InValue : ℕ → Value → ℕ → Type 0
  InValue lo (constant i) hi = Span lo hi i
  InValue lo (signed s i) hi = Span lo hi s
  InValue lo (minus_signed s i) hi = Span lo hi s
  InValue lo (identifier n) hi = Span lo hi n
  InValue lo (string i) hi = Span lo hi i
  InValue lo (empty_list i) hi = Span lo hi i
  InValue lo (list i vs) hi = (lo ≤ i) × InValues (i + 1) vs hi

  pub InValues : ℕ → Values → ℕ → Type 0
  InValues lo (only e) hi = InEntry lo e hi
  InValues lo (and vs e) hi = (k : ℕ) × InValues lo vs k × InEntry k e hi

  pub InEntry : ℕ → Entry → ℕ → Type 0
  InEntry lo (once v) hi = InValue lo v hi
  InEntry lo (repeated v i n) hi = InValue lo v hi

-- J: what is declared
abbrev pub InDecOf : {I : Type 0} → (ℕ → I → ℕ → Type 0) → ℕ → Dec I → ℕ → Type 0
InDecOf J lo tree.nothing hi = lo ≤ hi
InDecOf J lo (variables m is) hi = (k : ℕ) × InMode lo m k × J k is hi
InDecOf J lo (arrays b n m is) hi = (k : ℕ) × InElement lo m k × J k is hi
InDecOf J lo (structures n is) hi = (lo ≤ n) × J (n + 1) is hi

abbrev pub InDec : ℕ → Dec (Many (Init Value)) → ℕ → Type 0
InDec lo d hi = InDecOf (InMany (InInit InValue)) lo d hi

-- what EXT DATA describes
abbrev pub InSpec : ℕ → Dec (Many ℕ) → ℕ → Type 0
InSpec lo d hi = InDecOf (InMany InName) lo d hi

abbrev pub InOpt : {A : Type 0} → (ℕ → A → ℕ → Type 0) → ℕ → Opt A → ℕ → Type 0
InOpt I lo tree.none hi = lo ≤ hi
InOpt I lo (tree.some a) hi = I lo a hi

abbrev pub InFields : ℕ → Fields → ℕ → Type 0
InFields lo (tree.field m n) hi = (k : ℕ) × InMode lo m k × Span k hi n
InFields lo (also fs n) hi = (k : ℕ) × InFields lo fs k × Span k hi n
InFields lo (tree.next fs m n) hi = (j : ℕ) × InFields lo fs j × ((k : ℕ) × InMode j m k × Span k hi n)

abbrev pub InBrick : ℕ → Brick → ℕ → Type 0
InBrick lo (store n ds) hi = (lo ≤ n) × InMany InDec (n + 1) ds hi
InBrick lo (procedure n i ps m b e) hi = (lo ≤ n) × ((j : ℕ) × InOpt InFields (n + 1) ps j × ((k : ℕ) × InOpt InMode j m k × InBody k b hi))

abbrev pub InModitem : ℕ → Moditem → ℕ → Type 0
InModitem lo blank hi = lo ≤ hi
InModitem lo (external_procs i ms m ns) hi = (j : ℕ) × InOpt (InMany InMode) lo ms j × ((k : ℕ) × InOpt InMode j m k × InMany InName k ns hi)
InModitem lo (external_store n ds) hi = (lo ≤ n) × InMany InSpec (n + 1) ds hi
InModitem lo (tree.record_mode n i fs) hi = (lo ≤ n) × InFields (n + 1) fs hi
InModitem lo (own b) hi = InBrick lo b hi
InModitem lo (entry b) hi = InBrick lo b hi

abbrev pub InModule : ℕ → Module → ℕ → Type 0
InModule lo m hi = InMany InModitem lo m hi
