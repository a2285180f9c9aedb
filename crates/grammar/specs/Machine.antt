-- A twin of the grammar: what may still come is a stack of goals, and a symbol maps a stack to a stack, or is refused.
-- Each move also says how a tree for the goal is made of trees for what it leaves. The theorems in Sentences and the contracts that
-- cite them say what it has to do with trees. Assumes nothing.
use Rattle.std.specs.Prelude.{◌≡◌, ℕ, zero, suc, Bool, true, false, cond, List, [], ◌∷◌}
use Rattle.grammar.specs.Symbols.{NAME, INTEGER, TEXT, ABS, AND, ARRAY, BLOCK, BYTE, DATA, DO, ELSE, ELSEIF, END, ENDBLOCK, ENDDATA, ENDPROC, ENT, EXT, IF, INT, LAND, LENGTH, LOR, MOD, MODE, NEV, NOT, OR, PROC, REF, REP, RETURN, THEN, TO, VAL, WHILE, LEFT, RIGHT, STAR, PLUS, MINUS, COMMA, DOT, SEMI, LESS, EQUAL, MORE, HASH, BECOMES, DIVIDE, ATMOST, ATLEAST, IS, ISNT, same, Symbol}
use Rattle.grammar.specs.Sentences.{Sentence, Viable, opens, closes, Answer, fine, bad, deep, Meaning}
use Rattle.grammar.specs.Trees.{Many, one, more, Opt, none, some, Dyadic, times, divide, modulo, land, lor, nev, plus, minus, Monadic, positive, negative, absolute, complement, narrow, size, Expr, term, up, dyadic, Term, monadic, primary, Primary, integer, text, variable, call, call_on, paren, Variable, name, element, component, Exprs, first, comma, Comparator, equal, unequal, less, at_most, greater, at_least, same_place, other_place, Comparison, compare, Mode, int, byte, ref_int, ref_byte, ref_record, ref_array, ref_array_brackets, Amode, simple, records, Fields, field, also, next, Init, plain, given, Value, constant, signed, minus_signed, identifier, string, empty_list, list, Values, only, and, Entry, once, repeated, Dec, nothing, variables, arrays, structures, Local, local, Locals, no_locals, locals, Destination, place, val, Body, body, Sequence, single, sequel, Statement, dummy, block, assign, invoke, invoke_on, branch, branch_else, repeat, loop, return, return_with, Arms, when, elsewhen, Brick, store, procedure, Moditem, blank, external_procs, external_store, record_mode, own, entry, of_expr, of_subcondition, of_comparison, of_statement, of_mode, of_entry, of_moditem, of_dec, of_many, of_exprs, of_condition, of_sequence, of_values, of_name, of_init, of_value, Spelling}

-- An expression as it is read: a term, and then operators with terms. Seen from level n, an operator is of the level below, or of a lower one.
pub data Flat : ℕ → Type 0 where
  here : (n : ℕ) → Dyadic n → Flat (suc n)
  below : (n : ℕ) → Flat n → Flat (suc n)

pub data Link : Type 0 where
  link : Flat 5 → ℕ → Term → Link

-- what has been read of an expression of level n: at each level, an operand and an operator that wait for the next operand
abbrev pub State : ℕ → Type 0
State zero = Term
State (suc n) = Opt (Expr (suc n) × Dyadic n × ℕ) × State n

abbrev pub close_level : (n : ℕ) → Opt (Expr (suc n) × Dyadic n × ℕ) → Expr n → Expr (suc n)
close_level n none e = up e
close_level n (some p) e = dyadic p.0 p.1 p.2 e

abbrev pub close : (n : ℕ) → State n → Expr n
close zero s = term s
close (suc n) s = close_level n s.0 (close n s.1)

abbrev pub fresh : (n : ℕ) → Term → State n
fresh zero t = t
fresh (suc n) t = (none, fresh n t)

abbrev pub put : {n : ℕ} → Flat n → ℕ → Term → State n → State n
put (here n o) i t s = (some (close (suc n) s, o, i), fresh n t)
put (below n f) i t s = (s.0, put f i t s.1)

abbrev pub folds : State 5 → List Link → State 5
folds s [] = s
folds s (link f i t ∷ ls) = folds (put f i t s) ls

abbrev pub arrange : Term → List Link → Expr 5
arrange t ls = close 5 (folds (fresh 5 t) ls)

-- Where a form stands that begins with a name: in an expression; first in a statement; first after ':='.
pub data Stand : Type 0 where
  inner start right : Stand

pub data Part : Type 0 where
  index : ℕ → Expr 5 → Part
  select : ℕ → Part

abbrev pub plug : Variable → List Part → Variable
plug v [] = v
plug v (index i e ∷ ps) = plug (element v i e) ps
plug v (select n ∷ ps) = plug (component v n) ps

-- what follows ':='
pub data Source : Type 0 where
  final : Expr 5 → Source
  onto : Destination → Source → Source

pub data Tail : Type 0 where
  assigns : Source → Tail
  links : List Link → Tail

-- what ends a form that is a variable; what follows one that is a call with none or several expressions
abbrev pub End : Stand → Type 0
End inner = Unit {0}
End start = Source
End right = Tail

abbrev pub Rest : Stand → Type 0
Rest inner = Unit {0}
Rest start = Unit {0}
Rest right = List Link

abbrev pub Ending : Stand → Type 0
Ending w = List Part × End w

-- what follows a name and one expression in brackets
abbrev pub Closed : Stand → Type 0
Closed inner = Ending inner
Closed start = Opt (Ending start)
Closed right = Ending right

pub data Argued (w : Stand) : Type 0 where
  shut : Closed w → Argued w
  several : Expr 5 → List (Expr 5) → Rest w → Argued w

pub data Arguments (w : Stand) : Type 0 where
  no_argument : Rest w → Arguments w
  argument : Expr 5 → Argued w → Arguments w

pub data Named (w : Stand) : Type 0 where
  called : ℕ → Arguments w → Named w
  goes : Ending w → Named w

abbrev pub Result : Stand → Type 0
Result inner = Primary
Result start = Statement
Result right = Source

abbrev pub assigned : Many Destination → Source → Statement
assigned ds (final e) = assign ds e
assigned ds (onto d s) = assigned (more ds d) s

abbrev pub tailed : Variable → Tail → Source
tailed v (assigns s) = onto (place v) s
tailed v (links ls) = final (arrange (primary (variable v)) ls)

abbrev pub finish : (w : Stand) → Variable → End w → Result w
finish inner v e = variable v
finish start v s = assigned (one (place v)) s
finish right v t = tailed v t

abbrev pub finish_call : (w : Stand) → ℕ → ℕ → Rest w → Result w
finish_call inner n i r = call n i
finish_call start n i r = invoke n i
finish_call right n i r = final (arrange (primary (call n i)) r)

abbrev pub gather : Exprs → Expr 5 → List (Expr 5) → Exprs × Expr 5
gather es e [] = (es, e)
gather es e (x ∷ xs) = gather (comma es e) x xs

abbrev pub finish_calls : (w : Stand) → ℕ → ℕ → Exprs × Expr 5 → Rest w → Result w
finish_calls inner n i g r = call_on n i g.0 g.1
finish_calls start n i g r = invoke_on n i (comma g.0 g.1)
finish_calls right n i g r = final (arrange (primary (call_on n i g.0 g.1)) r)

abbrev pub started : ℕ → ℕ → Expr 5 → Opt (Ending start) → Statement
started n i e none = invoke_on n i (first e)
started n i e (some c) = finish start (plug (element (name n) i e) c.0) c.1

abbrev pub finish_closed : (w : Stand) → ℕ → ℕ → Expr 5 → Closed w → Result w
finish_closed inner n i e c = finish inner (plug (element (name n) i e) c.0) c.1
finish_closed start n i e c = started n i e c
finish_closed right n i e c = finish right (plug (element (name n) i e) c.0) c.1

abbrev pub finish_argued : (w : Stand) → ℕ → ℕ → Expr 5 → Argued w → Result w
finish_argued w n i e (shut c) = finish_closed w n i e c
finish_argued w n i e (several x xs r) = finish_calls w n i (gather (first e) x xs) r

abbrev pub finish_arguments : (w : Stand) → ℕ → ℕ → Arguments w → Result w
finish_arguments w n i (no_argument r) = finish_call w n i r
finish_arguments w n i (argument e a) = finish_argued w n i e a

abbrev pub finish_named : (w : Stand) → ℕ → Named w → Result w
finish_named w n (called i a) = finish_arguments w n i a
finish_named w n (goes e) = finish w (plug (name n) e.0) e.1

-- what follows THEN and a sequence
pub data Others : Type 0 where
  ends : Others
  otherwise : Sequence → Others
  elseif : Many (Many Comparison) → Sequence → Others → Others

abbrev pub branched : Arms → Others → Statement
branched ws ends = branch ws
branched ws (otherwise s) = branch_else ws s
branched ws (elseif c s o) = branched (elsewhen ws c s) o

-- a body from a place in its declarations on
pub data Inside : Type 0 where
  inside : Sequence → Inside
  declares : Local → Inside → Inside

abbrev pub enclose : Locals → Inside → Body
enclose ls (inside s) = body ls s
enclose ls (declares l i) = enclose (locals ls l) i

abbrev pub returns : ℕ → Opt (ℕ × Expr 5) → Statement
returns i none = return i
returns i (some p) = return_with i p.0 p.1

-- what follows REF, and REF ARRAY
pub data Dims : Type 0 where
  bare : Amode → Dims
  brackets : ℕ → Amode → Dims

pub data Target : Type 0 where
  to_int : Target
  to_byte : ℕ → Target
  to_record : ℕ → Target
  to_array : Dims → Target

abbrev pub refers : Target → Mode
refers to_int = ref_int
refers (to_byte i) = ref_byte i
refers (to_record n) = ref_record n
refers (to_array (bare m)) = ref_array m
refers (to_array (brackets i m)) = ref_array_brackets i m

pub data Further : Type 0 where
  alike : ℕ → Further
  other : Mode → ℕ → Further

abbrev pub fielded : Fields → List Further → Fields
fielded fs [] = fs
fielded fs (alike n ∷ xs) = fielded (also fs n) xs
fielded fs (other m n ∷ xs) = fielded (next fs m n) xs

-- What a declared name may have behind it: nothing, or an initial value in a data brick or in a block.
pub data Setting : Type 0 where
  stored inblock : Setting

pub data Sort : Type 0 where
  unset : Sort
  set : Setting → Sort

abbrev pub Initial : Setting → Type 0
Initial stored = Value
Initial inblock = Expr 5

abbrev pub Declared : Sort → Type 0
Declared unset = ℕ
Declared (set v) = Init (Initial v)

-- what follows ':=' after a declared name
pub data Chain (A : Type 0) : Type 0 where
  value : A → Chain A
  via : ℕ → Chain A → Chain A

abbrev pub chained : {A : Type 0} → Many ℕ → Chain A → Init A
chained ns (value a) = given ns a
chained ns (via n c) = chained (more ns n) c

abbrev pub initial : {A : Type 0} → ℕ → Opt (Chain A) → Init A
initial n none = plain n
initial n (some c) = chained (one n) c

abbrev pub stored_name : ℕ → Opt (Chain Value) → Chain Value
stored_name n none = value (identifier n)
stored_name n (some c) = via n c

pub data Linked : Type 0 where
  through : Chain (Expr 5) → Linked
  uses : Named inner → List Link → Linked

abbrev pub block_name : ℕ → Linked → Chain (Expr 5)
block_name n (through c) = via n c
block_name n (uses x ls) = value (arrange (primary (finish_named inner n x)) ls)

abbrev pub listed : ℕ → Opt Values → Value
listed i none = empty_list i
listed i (some vs) = list i vs

abbrev pub entered : Value → Opt (ℕ × ℕ) → Entry
entered v none = once v
entered v (some p) = repeated v p.0 p.1

pub data External : Type 0 where
  procs : ℕ → Opt (Many Mode) → Opt Mode → Many ℕ → External
  stores : ℕ → Many (Dec (Many ℕ)) → External

abbrev pub externally : External → Moditem
externally (procs i ms m ns) = external_procs i ms m ns
externally (stores n ds) = external_store n ds

-- Repetitions: one, and then any number of times a separator and one.
pub data Repetition : Type 0 where
  exprs ors ands statements modes entries moditems : Repetition
  declareds decs : Sort → Repetition

pub data Goal : Type 0 where
  tok : Symbol → Goal
  all each rest : Repetition → Goal
  links_on a_term a_primary : Goal
  named arguments argued closed_on parts : Stand → Goal
  a_source : Goal
  compared : Goal
  arms_on returned a_body : Goal
  a_target dims an_amode maybe_mode maybe_modes : Goal
  the_fields fields_on a_further maybe_fields : Goal
  given_on chain : Setting → Goal
  linked : Goal
  a_value times_on maybe_values : Goal
  an_external a_brick : Goal

abbrev pub an_expr : Goal
an_expr = each exprs

abbrev pub a_statement : Goal
a_statement = each statements

abbrev pub a_mode : Goal
a_mode = each modes

abbrev pub separator : Repetition → Symbol
separator exprs = COMMA
separator ors = OR
separator ands = AND
separator statements = SEMI
separator modes = COMMA
separator entries = COMMA
separator moditems = SEMI
separator (declareds s) = COMMA
separator (decs s) = SEMI

-- the trees of a repetition's parts, and of the whole
abbrev pub Single : Repetition → Type 0
Single exprs = Expr 5
Single ors = Many Comparison
Single ands = Comparison
Single statements = Statement
Single modes = Mode
Single entries = Entry
Single moditems = Moditem
Single (declareds s) = Declared s
Single (decs s) = Dec (Many (Declared s))

abbrev pub Whole : Repetition → Type 0
Whole exprs = Exprs
Whole ors = Many (Many Comparison)
Whole ands = Many Comparison
Whole statements = Sequence
Whole modes = Many Mode
Whole entries = Values
Whole moditems = Many Moditem
Whole (declareds s) = Many (Declared s)
Whole (decs s) = Many (Dec (Many (Declared s)))

-- and their items
abbrev pub of_initial : (v : Setting) → Spelling (Initial v)
of_initial stored = of_value
of_initial inblock = of_expr

abbrev pub of_declared : (s : Sort) → Spelling (Declared s)
of_declared unset = of_name
of_declared (set v) = of_init (of_initial v)

abbrev pub of_single : (r : Repetition) → Spelling (Single r)
of_single exprs = of_expr
of_single ors = of_subcondition
of_single ands = of_comparison
of_single statements = of_statement
of_single modes = of_mode
of_single entries = of_entry
of_single moditems = of_moditem
of_single (declareds s) = of_declared s
of_single (decs s) = of_dec (of_many (of_declared s) COMMA)

abbrev pub of_whole : (r : Repetition) → Spelling (Whole r)
of_whole exprs = of_exprs
of_whole ors = of_condition
of_whole ands = of_subcondition
of_whole statements = of_sequence
of_whole modes = of_many of_mode COMMA
of_whole entries = of_values
of_whole moditems = of_many of_moditem SEMI
of_whole (declareds s) = of_many (of_declared s) COMMA
of_whole (decs s) = of_many (of_dec (of_many (of_declared s) COMMA)) SEMI

abbrev pub begun : (r : Repetition) → Single r → Whole r
begun exprs e = first e
begun ors c = one c
begun ands c = one c
begun statements s = single s
begun modes m = one m
begun entries e = only e
begun moditems m = one m
begun (declareds s) d = one d
begun (decs s) d = one d

abbrev pub added : (r : Repetition) → Whole r → Single r → Whole r
added exprs es e = comma es e
added ors cs c = more cs c
added ands cs c = more cs c
added statements ss s = sequel ss s
added modes ms m = more ms m
added entries es e = and es e
added moditems ms m = more ms m
added (declareds s) ds d = more ds d
added (decs s) ds d = more ds d

abbrev pub adds : (r : Repetition) → Whole r → List (Single r) → Whole r
adds r a [] = a
adds r a (u ∷ us) = adds r (added r a u) us

-- the tree of a goal, and of a stack
abbrev pub Tree : Goal → Type 0
Tree (tok k) = ℕ
Tree (all r) = Whole r
Tree (each r) = Single r
Tree (rest r) = List (Single r)
Tree links_on = List Link
Tree a_term = Term
Tree a_primary = Primary
Tree (named w) = Named w
Tree (arguments w) = Arguments w
Tree (argued w) = Argued w
Tree (closed_on w) = Closed w
Tree (parts w) = Ending w
Tree a_source = Source
Tree compared = Comparator × Expr 5
Tree arms_on = Others
Tree returned = Opt (ℕ × Expr 5)
Tree a_body = Inside
Tree a_target = Target
Tree dims = Dims
Tree an_amode = Amode
Tree maybe_mode = Opt Mode
Tree maybe_modes = Opt (Many Mode)
Tree the_fields = Fields
Tree fields_on = List Further
Tree a_further = Further × List Further
Tree maybe_fields = Opt Fields
Tree (given_on v) = Opt (Chain (Initial v))
Tree (chain v) = Chain (Initial v)
Tree linked = Linked
Tree a_value = Value
Tree times_on = Opt (ℕ × ℕ)
Tree maybe_values = Opt Values
Tree an_external = External
Tree a_brick = Brick

abbrev pub Forest : List Goal → Type 0
Forest [] = Unit {0}
Forest (x ∷ γ) = Tree x × Forest γ

-- At a symbol a goal takes it, leaving goals in front of the rest of the stack, or is empty, or refuses it. Trees for what is left make one for the goal.
pub data Move (T : Type 0) : Type 0 where
  shift : (push : List Goal → List Goal) → (ℕ → (α : List Goal) → Forest (push α) → T × Forest α) → Move T
  skip : T → Move T
  refuse : Move T

-- if the symbol is k, then it is taken, else m
abbrev pub on : {T : Type 0} → Symbol → Symbol → (push : List Goal → List Goal) → (ℕ → (α : List Goal) → Forest (push α) → T × Forest α) → Move T → Move T
on c k push build m = cond (same c k) (shift push build) m

abbrev pub mapped : {A B : Type 0} → (A → B) → Move A → Move B
mapped f (shift push build) = shift push (λ n α g. (f (build n α g).0, (build n α g).1))
mapped f (skip a) = skip (f a)
mapped f refuse = refuse

-- a goal, and then others; where it is empty, m
abbrev pub then : {A B : Type 0} → Move A → (after : List Goal → List Goal) → (A → (α : List Goal) → Forest (after α) → B × Forest α) → (A → Move B) → Move B
then (shift push build) after join m = shift (λ α. push (after α)) (λ n α g. join (build n (after α) g).0 α (build n (after α) g).1)
then (skip a) after join m = m a
then refuse after join m = refuse

abbrev pub orelse : {A : Type 0} → Move A → Move A → Move A
orelse (shift push build) m = shift push build
orelse (skip a) m = skip a
orelse refuse m = m

abbrev pub never : {A B : Type 0} → A → Move B
never a = refuse

-- a goal, and then the goal y, whose move is n
abbrev pub followed : {A B : Type 0} → Move A → (y : Goal) → Move (Tree y) → (A → Tree y → B) → Move B
followed m y n join = then m (λ α. y ∷ α) (λ a α g. (join a g.0, g.1)) (λ a. mapped (join a) n)

abbrev pub optional : {A : Type 0} → Move A → Move (Opt A)
optional m = orelse (mapped some m) (skip none)

-- the same symbols, in turn
abbrev pub on_link : Symbol → Symbol → Flat 5 → Move (List Link) → Move (List Link)
on_link c k f m = on c k (λ α. a_term ∷ links_on ∷ α) (λ n α g. (link f n g.0 ∷ g.1.0, g.1.1)) m

abbrev pub at_links : Symbol → Move (List Link)
at_links c =
    on_link c PLUS (here 4 plus)
    (on_link c MINUS (here 4 minus)
    (on_link c NEV (below 4 (here 3 nev))
    (on_link c LOR (below 4 (below 3 (here 2 lor)))
    (on_link c LAND (below 4 (below 3 (below 2 (here 1 land))))
    (on_link c STAR (below 4 (below 3 (below 2 (below 1 (here 0 times)))))
    (on_link c DIVIDE (below 4 (below 3 (below 2 (below 1 (here 0 divide)))))
    (on_link c MOD (below 4 (below 3 (below 2 (below 1 (here 0 modulo)))))
    (skip []))))))))

abbrev pub at_primary : Symbol → Move Primary
at_primary c =
    on c INTEGER (λ α. α) (λ n α g. (integer n, g))
    (on c TEXT (λ α. α) (λ n α g. (text n, g))
    (on c NAME (λ α. named inner ∷ α) (λ n α g. (finish_named inner n g.0, g.1))
    (on c LEFT (λ α. an_expr ∷ tok RIGHT ∷ α) (λ n α g. (paren n g.0, g.1.1))
    refuse)))

abbrev pub on_monadic : Symbol → Symbol → Monadic → Move Term → Move Term
on_monadic c k o m = on c k (λ α. a_term ∷ α) (λ n α g. (monadic o n g.0, g.1)) m

abbrev pub at_term : Symbol → Move Term
at_term c =
    on_monadic c PLUS positive
    (on_monadic c MINUS negative
    (on_monadic c ABS absolute
    (on_monadic c NOT complement
    (on_monadic c BYTE narrow
    (on_monadic c LENGTH size
    (mapped primary (at_primary c)))))))

abbrev pub at_expr : Symbol → Move (Expr 5)
at_expr c = followed (at_term c) links_on (at_links c) arrange

-- forms that begin with a name
abbrev pub at_end : (w : Stand) → Symbol → Move (End w)
at_end inner c = skip tt
at_end start c = on c BECOMES (λ α. a_source ∷ α) (λ n α g. g) refuse
at_end right c = on c BECOMES (λ α. a_source ∷ α) (λ n α g. (assigns g.0, g.1)) (mapped links (at_links c))

abbrev pub no_parts : {A : Type 0} → A → List Part × A
no_parts e = ([], e)

abbrev pub at_dots : (w : Stand) → Symbol → Move (Ending w)
at_dots w c = on c DOT (λ α. tok NAME ∷ parts w ∷ α) (λ n α g. ((select g.0 ∷ g.1.0.0, g.1.0.1), g.1.1)) (mapped no_parts (at_end w c))

abbrev pub at_parts : (w : Stand) → Symbol → Move (Ending w)
at_parts w c = on c LEFT (λ α. an_expr ∷ tok RIGHT ∷ parts w ∷ α) (λ n α g. ((index n g.0 ∷ g.1.1.0.0, g.1.1.0.1), g.1.1.1)) (at_dots w c)

abbrev pub at_named : (w : Stand) → Symbol → Move (Named w)
at_named w c = on c LEFT (λ α. arguments w ∷ α) (λ n α g. (called n g.0, g.1)) (mapped goes (at_dots w c))

abbrev pub behind : Stand → List Goal → List Goal
behind inner α = α
behind start α = α
behind right α = links_on ∷ α

abbrev pub pull : (w : Stand) (α : List Goal) → Forest (behind w α) → Rest w × Forest α
pull inner α g = (tt, g)
pull start α g = (tt, g)
pull right α g = g

abbrev pub at_argued : (w : Stand) → Symbol → Move (Argued w)
at_argued w c =
    on c RIGHT (λ α. closed_on w ∷ α) (λ n α g. (shut g.0, g.1))
    (on c COMMA (λ α. an_expr ∷ rest exprs ∷ tok RIGHT ∷ behind w α) (λ n α g. (several g.0 g.1.0 (pull w α g.1.1.1).0, (pull w α g.1.1.1).1))
    refuse)

abbrev pub at_arguments : (w : Stand) → Symbol → Move (Arguments w)
at_arguments w c =
    on c RIGHT (λ α. behind w α) (λ n α g. (no_argument (pull w α g).0, (pull w α g).1))
    (followed (at_expr c) (argued w) (at_argued w c) argument)

abbrev pub at_closed : (w : Stand) → Symbol → Move (Closed w)
at_closed inner c = at_parts inner c
at_closed start c = optional (at_parts start c)
at_closed right c = at_parts right c

abbrev pub at_source : Symbol → Move Source
at_source c =
    on c VAL (λ α. tok NAME ∷ parts start ∷ α) (λ n α g. (onto (val n (plug (name g.0) g.1.0.0)) g.1.0.1, g.1.1))
    (on c NAME (λ α. named right ∷ α) (λ n α g. (finish_named right n g.0, g.1))
    (mapped final (at_expr c)))

-- conditions
abbrev pub on_comparator : Symbol → Symbol → Comparator → Move (Comparator × Expr 5) → Move (Comparator × Expr 5)
on_comparator c k o m = on c k (λ α. an_expr ∷ α) (λ n α g. ((o, g.0), g.1)) m

abbrev pub at_comparator : Symbol → Move (Comparator × Expr 5)
at_comparator c =
    on_comparator c EQUAL equal
    (on_comparator c HASH unequal
    (on_comparator c LESS less
    (on_comparator c ATMOST at_most
    (on_comparator c MORE greater
    (on_comparator c ATLEAST at_least
    (on_comparator c IS same_place
    (on_comparator c ISNT other_place
    refuse)))))))

abbrev pub at_comparison : Symbol → Move Comparison
at_comparison c = followed (at_expr c) compared (at_comparator c) (λ a p. compare a p.0 p.1)

-- modes
abbrev pub at_mode : Symbol → Move Mode
at_mode c =
    on c INT (λ α. α) (λ n α g. (int, g))
    (on c BYTE (λ α. α) (λ n α g. (byte n, g))
    (on c REF (λ α. a_target ∷ α) (λ n α g. (refers g.0, g.1))
    refuse))

abbrev pub at_amode : Symbol → Move Amode
at_amode c = on c NAME (λ α. α) (λ n α g. (records n, g)) (mapped simple (at_mode c))

abbrev pub at_dims : Symbol → Move Dims
at_dims c = on c LEFT (λ α. tok RIGHT ∷ an_amode ∷ α) (λ n α g. (brackets n g.1.0, g.1.1)) (mapped bare (at_amode c))

abbrev pub at_target : Symbol → Move Target
at_target c =
    on c INT (λ α. α) (λ n α g. (to_int, g))
    (on c BYTE (λ α. α) (λ n α g. (to_byte n, g))
    (on c NAME (λ α. α) (λ n α g. (to_record n, g))
    (on c ARRAY (λ α. dims ∷ α) (λ n α g. (to_array g.0, g.1))
    refuse)))

abbrev pub at_fields : Symbol → Move Fields
at_fields c = then (at_mode c) (λ α. tok NAME ∷ fields_on ∷ α) (λ m α g. (fielded (field m g.0) g.1.0, g.1.1)) never

abbrev pub at_fields_on : Symbol → Move (List Further)
at_fields_on c = on c COMMA (λ α. a_further ∷ α) (λ n α g. (g.0.0 ∷ g.0.1, g.1)) (skip [])

abbrev pub at_further : Symbol → Move (Further × List Further)
at_further c =
    on c NAME (λ α. fields_on ∷ α) (λ n α g. ((alike n, g.0), g.1))
    (then (at_mode c) (λ α. tok NAME ∷ fields_on ∷ α) (λ m α g. ((other m g.0, g.1.0), g.1.1)) never)

-- initial values and declarations
abbrev pub at_value : Symbol → Move Value
at_value c =
    on c INTEGER (λ α. α) (λ n α g. (constant n, g))
    (on c PLUS (λ α. tok INTEGER ∷ α) (λ n α g. (signed n g.0, g.1))
    (on c MINUS (λ α. tok INTEGER ∷ α) (λ n α g. (minus_signed n g.0, g.1))
    (on c NAME (λ α. α) (λ n α g. (identifier n, g))
    (on c TEXT (λ α. α) (λ n α g. (string n, g))
    (on c LEFT (λ α. maybe_values ∷ tok RIGHT ∷ α) (λ n α g. (listed n g.0, g.1.1))
    refuse)))))

abbrev pub at_times : Symbol → Move (Opt (ℕ × ℕ))
at_times c = on c LEFT (λ α. tok INTEGER ∷ tok RIGHT ∷ α) (λ n α g. (some (n, g.0), g.1.1)) (skip none)

abbrev pub at_entry : Symbol → Move Entry
at_entry c = followed (at_value c) times_on (at_times c) entered

abbrev pub at_declared : (s : Sort) → Symbol → Move (Declared s)
at_declared unset c = on c NAME (λ α. α) (λ n α g. (n, g)) refuse
at_declared (set v) c = on c NAME (λ α. given_on v ∷ α) (λ n α g. (initial n g.0, g.1)) refuse

abbrev pub at_given : (v : Setting) → Symbol → Move (Opt (Chain (Initial v)))
at_given v c = on c BECOMES (λ α. chain v ∷ α) (λ n α g. (some g.0, g.1)) (skip none)

abbrev pub at_chain : (v : Setting) → Symbol → Move (Chain (Initial v))
at_chain stored c = on c NAME (λ α. given_on stored ∷ α) (λ n α g. (stored_name n g.0, g.1)) (mapped value (at_value c))
at_chain inblock c = on c NAME (λ α. linked ∷ α) (λ n α g. (block_name n g.0, g.1)) (mapped value (at_expr c))

abbrev pub at_linked : Symbol → Move Linked
at_linked c =
    on c BECOMES (λ α. chain inblock ∷ α) (λ n α g. (through g.0, g.1))
    (followed (at_named inner c) links_on (at_links c) uses)

abbrev pub at_dec : (s : Sort) → Symbol → Move (Dec (Many (Declared s)))
at_dec s c =
    on c ARRAY (λ α. tok LEFT ∷ tok INTEGER ∷ tok RIGHT ∷ an_amode ∷ all (declareds s) ∷ α) (λ n α g. (arrays g.0 g.1.0 g.1.1.1.0 g.1.1.1.1.0, g.1.1.1.1.1))
    (on c NAME (λ α. all (declareds s) ∷ α) (λ n α g. (structures n g.0, g.1))
    (orelse (then (at_mode c) (λ α. all (declareds s) ∷ α) (λ m α g. (variables m g.0, g.1)) never)
    (skip nothing)))

-- statements
abbrev pub at_statement : Symbol → Move Statement
at_statement c =
    on c BLOCK (λ α. a_body ∷ tok ENDBLOCK ∷ α) (λ n α g. (block (enclose no_locals g.0), g.1.1))
    (on c IF (λ α. all ors ∷ tok THEN ∷ all statements ∷ arms_on ∷ α) (λ n α g. (branched (when g.0 g.1.1.0) g.1.1.1.0, g.1.1.1.1))
    (on c TO (λ α. an_expr ∷ tok DO ∷ a_body ∷ tok REP ∷ α) (λ n α g. (repeat g.0 (enclose no_locals g.1.1.0), g.1.1.1.1))
    (on c WHILE (λ α. all ors ∷ tok DO ∷ all statements ∷ tok REP ∷ α) (λ n α g. (loop g.0 g.1.1.0, g.1.1.1.1))
    (on c RETURN (λ α. returned ∷ α) (λ n α g. (returns n g.0, g.1))
    (on c VAL (λ α. tok NAME ∷ parts start ∷ α) (λ n α g. (assigned (one (val n (plug (name g.0) g.1.0.0))) g.1.0.1, g.1.1))
    (on c NAME (λ α. named start ∷ α) (λ n α g. (finish_named start n g.0, g.1))
    (skip dummy)))))))

abbrev pub at_arms : Symbol → Move Others
at_arms c =
    on c ELSEIF (λ α. all ors ∷ tok THEN ∷ all statements ∷ arms_on ∷ α) (λ n α g. (elseif g.0 g.1.1.0 g.1.1.1.0, g.1.1.1.1))
    (on c ELSE (λ α. all statements ∷ tok END ∷ α) (λ n α g. (otherwise g.0, g.1.1))
    (on c END (λ α. α) (λ n α g. (ends, g))
    refuse))

abbrev pub at_returned : Symbol → Move (Opt (ℕ × Expr 5))
at_returned c = on c LEFT (λ α. an_expr ∷ tok RIGHT ∷ α) (λ n α g. (some (n, g.0), g.1.1)) (skip none)

-- module items
abbrev pub at_brick : Symbol → Move Brick
at_brick c =
    on c DATA (λ α. tok NAME ∷ tok SEMI ∷ all (decs (set stored)) ∷ tok ENDDATA ∷ α) (λ n α g. (store g.0 g.1.1.0, g.1.1.1.1))
    (on c PROC (λ α. tok NAME ∷ tok LEFT ∷ maybe_fields ∷ tok RIGHT ∷ maybe_mode ∷ tok SEMI ∷ a_body ∷ tok ENDPROC ∷ α)
    (λ n α g. (procedure g.0 g.1.0 g.1.1.0 g.1.1.1.1.0 (enclose no_locals g.1.1.1.1.1.1.0) g.1.1.1.1.1.1.1.0, g.1.1.1.1.1.1.1.1))
    refuse)

abbrev pub at_external : Symbol → Move External
at_external c =
    on c PROC (λ α. tok LEFT ∷ maybe_modes ∷ tok RIGHT ∷ maybe_mode ∷ all (declareds unset) ∷ α) (λ n α g. (procs g.0 g.1.0 g.1.1.1.0 g.1.1.1.1.0, g.1.1.1.1.1))
    (on c DATA (λ α. tok NAME ∷ tok SEMI ∷ all (decs unset) ∷ tok ENDDATA ∷ α) (λ n α g. (stores g.0 g.1.1.0, g.1.1.1.1))
    refuse)

abbrev pub at_moditem : Symbol → Move Moditem
at_moditem c =
    on c EXT (λ α. an_external ∷ α) (λ n α g. (externally g.0, g.1))
    (on c MODE (λ α. tok NAME ∷ tok LEFT ∷ the_fields ∷ tok RIGHT ∷ α) (λ n α g. (record_mode g.0 g.1.0 g.1.1.0, g.1.1.1.1))
    (on c ENT (λ α. a_brick ∷ α) (λ n α g. (entry g.0, g.1))
    (orelse (mapped own (at_brick c)) (skip blank))))

-- repetitions
abbrev pub at_rest : (r : Repetition) → Symbol → Move (List (Single r))
at_rest r c = on c (separator r) (λ α. each r ∷ rest r ∷ α) (λ n α g. (g.0 ∷ g.1.0, g.1.1)) (skip [])

abbrev pub at_whole : (r : Repetition) → Symbol → Move (Single r) → Move (Whole r)
at_whole r c m = followed m (rest r) (at_rest r c) (λ u us. adds r (begun r u) us)

abbrev pub at_each : (r : Repetition) → Symbol → Move (Single r)
at_each exprs c = at_expr c
at_each ors c = at_whole ands c (at_comparison c)
at_each ands c = at_comparison c
at_each statements c = at_statement c
at_each modes c = at_mode c
at_each entries c = at_entry c
at_each moditems c = at_moditem c
at_each (declareds s) c = at_declared s c
at_each (decs s) c = at_dec s c

abbrev pub at_all : (r : Repetition) → Symbol → Move (Whole r)
at_all r c = at_whole r c (at_each r c)

abbrev pub at_body : Symbol → Move Inside
at_body c =
    orelse (then (at_mode c) (λ α. all (declareds (set inblock)) ∷ tok SEMI ∷ a_body ∷ α) (λ m α g. (declares (local m g.0) g.1.1.0, g.1.1.1)) never)
    (mapped inside (at_all statements c))

abbrev pub move : (x : Goal) → Symbol → Move (Tree x)
move (tok k) c = on c k (λ α. α) (λ n α g. (n, g)) refuse
move (all r) c = at_all r c
move (each r) c = at_each r c
move (rest r) c = at_rest r c
move links_on c = at_links c
move a_term c = at_term c
move a_primary c = at_primary c
move (named w) c = at_named w c
move (arguments w) c = at_arguments w c
move (argued w) c = at_argued w c
move (closed_on w) c = at_closed w c
move (parts w) c = at_parts w c
move a_source c = at_source c
move compared c = at_comparator c
move arms_on c = at_arms c
move returned c = at_returned c
move a_body c = at_body c
move a_target c = at_target c
move dims c = at_dims c
move an_amode c = at_amode c
move maybe_mode c = optional (at_mode c)
move maybe_modes c = optional (at_all modes c)
move the_fields c = at_fields c
move fields_on c = at_fields_on c
move a_further c = at_further c
move maybe_fields c = optional (at_fields c)
move (given_on v) c = at_given v c
move (chain v) c = at_chain v c
move linked c = at_linked c
move a_value c = at_value c
move times_on c = at_times c
move maybe_values c = optional (at_all entries c)
move an_external c = at_external c
move a_brick c = at_brick c

-- the tree of a goal that may be empty
abbrev pub void_each : (r : Repetition) → Opt (Single r)
void_each exprs = none
void_each ors = none
void_each ands = none
void_each statements = some dummy
void_each modes = none
void_each entries = none
void_each moditems = some blank
void_each (declareds s) = none
void_each (decs s) = some nothing

abbrev pub map_opt : {A B : Type 0} → (A → B) → Opt A → Opt B
map_opt f none = none
map_opt f (some a) = some (f a)

abbrev pub void_end : (w : Stand) → Opt (End w)
void_end inner = some tt
void_end start = none
void_end right = some (links [])

abbrev pub void_closed : (w : Stand) → Opt (Closed w)
void_closed inner = some ([], tt)
void_closed start = some none
void_closed right = some ([], links [])

abbrev pub void : (x : Goal) → Opt (Tree x)
void (tok k) = none
void (all r) = map_opt (begun r) (void_each r)
void (each r) = void_each r
void (rest r) = some []
void links_on = some []
void a_term = none
void a_primary = none
void (named w) = map_opt (λ e. goes ([], e)) (void_end w)
void (arguments w) = none
void (argued w) = none
void (closed_on w) = void_closed w
void (parts w) = map_opt (λ e. ([], e)) (void_end w)
void a_source = none
void compared = none
void arms_on = none
void returned = some none
void a_body = some (inside (single dummy))
void a_target = none
void dims = none
void an_amode = none
void maybe_mode = some none
void maybe_modes = some none
void the_fields = none
void fields_on = some []
void a_further = none
void maybe_fields = some none
void (given_on v) = some none
void (chain v) = none
void linked = some (uses (goes ([], tt)) [])
void a_value = none
void times_on = some none
void maybe_values = some none
void an_external = none
void a_brick = none

-- a form as far as it has been read
pub data Seen : Type 0 where
  just_name : ℕ → Seen
  one_index : ℕ → ℕ → Expr 5 → Seen
  longer : Variable → Seen

abbrev pub var_of : Seen → Variable
var_of (just_name n) = name n
var_of (one_index n i e) = element (name n) i e
var_of (longer v) = v

abbrev pub indexed : Seen → ℕ → Expr 5 → Seen
indexed (just_name n) i e = one_index n i e
indexed (one_index n j x) i e = longer (element (element (name n) j x) i e)
indexed (longer v) i e = longer (element v i e)

abbrev pub seen : Variable → Seen
seen (name n) = just_name n
seen (element v i e) = indexed (seen v) i e
seen (component v n) = longer (component (var_of (seen v)) n)

abbrev pub next_goal : Seen → Stand → Goal
next_goal (just_name n) w = named w
next_goal (one_index n i e) w = closed_on w
next_goal (longer v) w = parts w

-- a stack that a symbol leaves, with how trees for it make trees for the stack γ
abbrev pub Left : List Goal → Type 0
Left γ = (β : List Goal) × (ℕ → Forest β → Forest γ)

abbrev pub taken : (x : Goal) (α : List Goal) → Move (Tree x) → Opt (Left α) → Opt (Left (x ∷ α))
taken x α (shift push build) o = some (push α, λ n g. build n α g)
taken x α (skip t) o = map_opt (λ l. (l.0, λ n g. (t, l.1 n g))) o
taken x α refuse o = none

abbrev pub step : (γ : List Goal) → Symbol → Opt (Left γ)
step [] c = none
step (x ∷ α) c = taken x α (move x c) (step α c)

abbrev pub pair : {A B : Type 0} → Opt A → Opt B → Opt (A × B)
pair none o = none
pair (some a) o = map_opt (λ b. (a, b)) o

abbrev pub done : (γ : List Goal) → Opt (Forest γ)
done [] = some tt
done (x ∷ α) = pair (void x) (done α)

-- the stack that a symbol leaves; whether a stack may be empty
abbrev pub onto_stack : (γ : List Goal) → Opt (Left γ) → Opt (List Goal)
onto_stack γ none = none
onto_stack γ (some l) = some l.0

abbrev pub step_to : List Goal → Symbol → Opt (List Goal)
step_to γ c = onto_stack γ (step γ c)

abbrev pub is_some : {A : Type 0} → Opt A → Bool
is_some none = false
is_some (some a) = true

abbrev pub may_end : List Goal → Bool
may_end γ = is_some (done γ)

-- whether the symbols w are what the stack γ asks for; whether they begin it
abbrev pub onward : Opt (List Goal) → (List Goal → Bool) → Bool
onward none k = false
onward (some γ) k = k γ

abbrev pub accepts : List Goal → List Symbol → Bool
accepts γ [] = may_end γ
accepts γ (c ∷ w) = onward (step_to γ c) (λ β. accepts β w)

abbrev pub follows : List Goal → List Symbol → Bool
follows γ [] = true
follows γ (c ∷ w) = onward (step_to γ c) (λ β. follows β w)

-- With a limit: d more may be open.
abbrev pub fewer : ℕ → Opt ℕ
fewer zero = none
fewer (suc d) = some d

abbrev pub level : ℕ → Symbol → Opt ℕ
level d c = cond (opens c) (fewer d) (cond (closes c) (some (suc d)) (some d))

abbrev pub end : ℕ → Bool → Answer
end i true = fine
end i false = bad i

abbrev pub go : ℕ → Opt (List Goal) → Opt ℕ → (ℕ → List Goal → Answer) → Answer
go i none l k = bad i
go i (some γ) none k = deep i
go i (some γ) (some d) k = k d γ

-- the answer for symbols of which the first has the number i
abbrev pub run : ℕ → List Goal → ℕ → List Symbol → Answer
run d γ i [] = end i (may_end γ)
run d γ i (c ∷ w) = go i (step_to γ c) (level d c) (λ e β. run e β (suc i) w)

abbrev pub a_module : List Goal
a_module = all moditems ∷ []

-- THEOREMS. What `run` answers is right.
abbrev pub RunRight : Type 0
RunRight = (n : ℕ) (w : List Symbol) → Meaning n w (run n a_module 0 w)

-- The machine takes exactly the fronts of sentences, and accepts exactly the sentences.
abbrev pub ViableFronts : Type 0
ViableFronts = (w : List Symbol) → (Viable w → follows a_module w ≡ true) × (follows a_module w ≡ true → Viable w)

abbrev pub Accepted : Type 0
Accepted = (w : List Symbol) → (Sentence w → accepts a_module w ≡ true) × (accepts a_module w ≡ true → Sentence w)
