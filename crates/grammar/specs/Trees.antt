-- The syntax of a module: trees, and the items that a tree is made of, in their order. Assumes nothing.
-- A number in a tree is the number of an item of the text, the first being 0. Which items a constructor's numbers are of, its line of `of_…` says.
use Rattle.std.specs.Prelude.{ℕ, suc, Bool, cond, List, [], ◌∷◌}
use Rattle.grammar.specs.Symbols.{NAME, INTEGER, TEXT, ABS, AND, ARRAY, BLOCK, BYTE, DATA, DO, ELSE, ELSEIF, END, ENDBLOCK, ENDDATA, ENDPROC, ENT, EXT, IF, INT, LAND, LENGTH, LOR, MOD, MODE, NEV, NOT, OR, PROC, REF, REP, RETURN, THEN, TO, VAL, WHILE, LEFT, RIGHT, STAR, PLUS, MINUS, COMMA, DOT, SEMI, LESS, EQUAL, MORE, HASH, BECOMES, DIVIDE, ATMOST, ATLEAST, IS, ISNT, among, Symbol}

-- An item as a tree has it: its symbol, and its number if the tree keeps that of such symbols, otherwise 0.
pub data Token : Type 0 where
  token : Symbol → ℕ → Token

abbrev pub symbol : Token → Symbol
symbol (token c n) = c

abbrev pub number : Token → ℕ
number (token c n) = n

-- the symbols whose numbers are kept: what later stages name places by
abbrev pub kept : Symbol → Bool
kept c = among (NAME ∷ INTEGER ∷ TEXT ∷ LEFT ∷ PLUS ∷ MINUS ∷ STAR ∷ DIVIDE ∷ MOD ∷ LAND ∷ LOR ∷ NEV ∷ ABS ∷ NOT ∷ BYTE ∷ LENGTH ∷ VAL ∷ RETURN ∷ ENDPROC ∷ []) c

abbrev pub mark : Symbol → ℕ → Token
mark c n = token c (cond (kept c) n 0)

-- an item whose number is not kept
abbrev pub key : Symbol → Token
key c = token c 0

abbrev pub Spelling : Type 0 → Type 0
Spelling A = A → List Token → List Token

-- one or more, separated by a symbol
pub data Many (A : Type 0) : Type 0 where
  one : A → Many A
  more : Many A → A → Many A

abbrev pub of_many : {A : Type 0} → Spelling A → Symbol → Many A → List Token → List Token
of_many of k (one a) r = of a r
of_many of k (more m a) r = of_many of k m (key k ∷ of a r)

pub data Opt (A : Type 0) : Type 0 where
  none : Opt A
  some : A → Opt A

abbrev pub of_opt : {A : Type 0} → Spelling A → Opt A → List Token → List Token
of_opt of none r = r
of_opt of (some a) r = of a r

abbrev pub of_name : ℕ → List Token → List Token
of_name n r = token NAME n ∷ r

abbrev pub of_names : Many ℕ → List Token → List Token
of_names ns r = of_many of_name COMMA ns r

-- Expressions. Dyadic operators have five levels, 0 binding tightest; an expression of level n + 1 has operators of level n at most.
pub data Dyadic : ℕ → Type 0 where
  times divide modulo : Dyadic 0
  land : Dyadic 1
  lor : Dyadic 2
  nev : Dyadic 3
  plus minus : Dyadic 4

abbrev pub spell : {n : ℕ} → Dyadic n → Symbol
spell times = STAR
spell divide = DIVIDE
spell modulo = MOD
spell land = LAND
spell lor = LOR
spell nev = NEV
spell plus = PLUS
spell minus = MINUS

pub data Monadic : Type 0 where
  positive negative absolute complement narrow size : Monadic

abbrev pub spell_monadic : Monadic → Symbol
spell_monadic positive = PLUS
spell_monadic negative = MINUS
spell_monadic absolute = ABS
spell_monadic complement = NOT
spell_monadic narrow = BYTE
spell_monadic size = LENGTH

mutual
  -- level 0: a term; level n + 1: one of level n, or from left to right, one of level n + 1, an operator of level n, one of level n
  pub data Expr : ℕ → Type 0 where
    term : Term → Expr 0
    up : {n : ℕ} → Expr n → Expr (suc n)
    dyadic : {n : ℕ} → Expr (suc n) → Dyadic n → ℕ → Expr n → Expr (suc n)

  pub data Term : Type 0 where
    monadic : Monadic → ℕ → Term → Term
    primary : Primary → Term

  -- an integer; a string; a variable; a call with none, and with several expressions (one with one is a variable here): name, bracket; brackets
  pub data Primary : Type 0 where
    integer : ℕ → Primary
    text : ℕ → Primary
    variable : Variable → Primary
    call : ℕ → ℕ → Primary
    call_on : ℕ → ℕ → Exprs → Expr 5 → Primary
    paren : ℕ → Expr 5 → Primary

  -- a name; a variable, a bracket, a subscript; a variable, a component's name
  pub data Variable : Type 0 where
    name : ℕ → Variable
    element : Variable → ℕ → Expr 5 → Variable
    component : Variable → ℕ → Variable

  pub data Exprs : Type 0 where
    first : Expr 5 → Exprs
    comma : Exprs → Expr 5 → Exprs

-- the items of a tree, followed by the items r
abbrev mutual
  pub of_expr : {n : ℕ} → Expr n → List Token → List Token
  of_expr (term t) r = of_term t r
  of_expr (up e) r = of_expr e r
  of_expr (dyadic a o i b) r = of_expr a (token (spell o) i ∷ of_expr b r)

  pub of_term : Term → List Token → List Token
  of_term (monadic o i t) r = token (spell_monadic o) i ∷ of_term t r
  of_term (primary p) r = of_primary p r

  pub of_primary : Primary → List Token → List Token
  of_primary (integer i) r = token INTEGER i ∷ r
  of_primary (text i) r = token TEXT i ∷ r
  of_primary (variable v) r = of_variable v r
  of_primary (call n i) r = token NAME n ∷ token LEFT i ∷ key RIGHT ∷ r
  of_primary (call_on n i es e) r = token NAME n ∷ token LEFT i ∷ of_exprs es (key COMMA ∷ of_expr e (key RIGHT ∷ r))
  of_primary (paren i e) r = token LEFT i ∷ of_expr e (key RIGHT ∷ r)

  pub of_variable : Variable → List Token → List Token
  of_variable (name n) r = token NAME n ∷ r
  of_variable (element v i e) r = of_variable v (token LEFT i ∷ of_expr e (key RIGHT ∷ r))
  of_variable (component v n) r = of_variable v (key DOT ∷ token NAME n ∷ r)

  pub of_exprs : Exprs → List Token → List Token
  of_exprs (first e) r = of_expr e r
  of_exprs (comma es e) r = of_exprs es (key COMMA ∷ of_expr e r)

-- Conditions.
pub data Comparator : Type 0 where
  equal unequal less at_most greater at_least same_place other_place : Comparator

abbrev pub spell_comparator : Comparator → Symbol
spell_comparator equal = EQUAL
spell_comparator unequal = HASH
spell_comparator less = LESS
spell_comparator at_most = ATMOST
spell_comparator greater = MORE
spell_comparator at_least = ATLEAST
spell_comparator same_place = IS
spell_comparator other_place = ISNT

pub data Comparison : Type 0 where
  compare : Expr 5 → Comparator → Expr 5 → Comparison

abbrev pub Subcondition : Type 0
Subcondition = Many Comparison

abbrev pub Condition : Type 0
Condition = Many Subcondition

abbrev pub of_comparison : Comparison → List Token → List Token
of_comparison (compare a o b) r = of_expr a (key (spell_comparator o) ∷ of_expr b r)

abbrev pub of_subcondition : Subcondition → List Token → List Token
of_subcondition s r = of_many of_comparison AND s r

abbrev pub of_condition : Condition → List Token → List Token
of_condition c r = of_many of_subcondition OR c r

-- Modes: the simple modes, and those of an array's elements.
mutual
  pub data Mode : Type 0 where
    int : Mode
    byte : ℕ → Mode
    ref_int : Mode
    ref_byte : ℕ → Mode
    ref_record : ℕ → Mode
    ref_array : Amode → Mode
    ref_array_brackets : ℕ → Amode → Mode

  pub data Amode : Type 0 where
    simple : Mode → Amode
    records : ℕ → Amode

abbrev mutual
  pub of_mode : Mode → List Token → List Token
  of_mode int r = key INT ∷ r
  of_mode (byte i) r = token BYTE i ∷ r
  of_mode ref_int r = key REF ∷ key INT ∷ r
  of_mode (ref_byte i) r = key REF ∷ token BYTE i ∷ r
  of_mode (ref_record n) r = key REF ∷ token NAME n ∷ r
  of_mode (ref_array m) r = key REF ∷ key ARRAY ∷ of_amode m r
  of_mode (ref_array_brackets i m) r = key REF ∷ key ARRAY ∷ token LEFT i ∷ key RIGHT ∷ of_amode m r

  pub of_amode : Amode → List Token → List Token
  of_amode (simple m) r = of_mode m r
  of_amode (records n) r = token NAME n ∷ r

-- The components of a record mode and the parameters of a procedure: a further name has the mode before it, or a mode of its own.
pub data Fields : Type 0 where
  field : Mode → ℕ → Fields
  also : Fields → ℕ → Fields
  next : Fields → Mode → ℕ → Fields

abbrev pub of_fields : Fields → List Token → List Token
of_fields (field m n) r = of_mode m (token NAME n ∷ r)
of_fields (also fs n) r = of_fields fs (key COMMA ∷ token NAME n ∷ r)
of_fields (next fs m n) r = of_fields fs (key COMMA ∷ of_mode m (token NAME n ∷ r))

-- Declarations. Names that share an initial value are joined by ':='.
pub data Init (A : Type 0) : Type 0 where
  plain : ℕ → Init A
  given : Many ℕ → A → Init A

abbrev pub of_init : {A : Type 0} → Spelling A → Init A → List Token → List Token
of_init of (plain n) r = token NAME n ∷ r
of_init of (given ns a) r = of_many of_name BECOMES ns (key BECOMES ∷ of a r)

abbrev pub of_inits : {A : Type 0} → Spelling A → Many (Init A) → List Token → List Token
of_inits of is r = of_many (of_init of) COMMA is r

-- Initial values in a data brick: an integer, with a plus, with a minus; a name; a string; lists, by their bracket.
mutual
  pub data Value : Type 0 where
    constant : ℕ → Value
    signed : ℕ → ℕ → Value
    minus_signed : ℕ → ℕ → Value
    identifier : ℕ → Value
    string : ℕ → Value
    empty_list : ℕ → Value
    list : ℕ → Values → Value

  pub data Values : Type 0 where
    only : Entry → Values
    and : Values → Entry → Values

  -- a value; a value, a bracket, and the integer that says how often it stands
  pub data Entry : Type 0 where
    once : Value → Entry
    repeated : Value → ℕ → ℕ → Entry

abbrev mutual
  pub of_value : Value → List Token → List Token
  of_value (constant i) r = token INTEGER i ∷ r
  of_value (signed s i) r = token PLUS s ∷ token INTEGER i ∷ r
  of_value (minus_signed s i) r = token MINUS s ∷ token INTEGER i ∷ r
  of_value (identifier n) r = token NAME n ∷ r
  of_value (string i) r = token TEXT i ∷ r
  of_value (empty_list i) r = token LEFT i ∷ key RIGHT ∷ r
  of_value (list i vs) r = token LEFT i ∷ of_values vs (key RIGHT ∷ r)

  pub of_values : Values → List Token → List Token
  of_values (only e) r = of_entry e r
  of_values (and vs e) r = of_values vs (key COMMA ∷ of_entry e r)

  pub of_entry : Entry → List Token → List Token
  of_entry (once v) r = of_value v r
  of_entry (repeated v i n) r = of_value v (token LEFT i ∷ token INTEGER n ∷ key RIGHT ∷ r)

-- What a data brick declares: nothing; variables of a simple mode; arrays: bracket, length, mode of the elements; records: the record mode's name. I is what is declared there.
pub data Dec (I : Type 0) : Type 0 where
  nothing : Dec I
  variables : Mode → I → Dec I
  arrays : ℕ → ℕ → Amode → I → Dec I
  structures : ℕ → I → Dec I

abbrev pub of_dec : {I : Type 0} → Spelling I → Dec I → List Token → List Token
of_dec of nothing r = r
of_dec of (variables m i) r = of_mode m (of i r)
of_dec of (arrays b n m i) r = key ARRAY ∷ token LEFT b ∷ token INTEGER n ∷ key RIGHT ∷ of_amode m (of i r)
of_dec of (structures n i) r = token NAME n ∷ of i r

-- the locals of one declaration
pub data Local : Type 0 where
  local : Mode → Many (Init (Expr 5)) → Local

abbrev pub of_local : Local → List Token → List Token
of_local (local m is) r = of_mode m (of_inits of_expr is r)

-- any number of declarations, each ending with ';'
pub data Locals : Type 0 where
  no_locals : Locals
  locals : Locals → Local → Locals

abbrev pub of_locals : Locals → List Token → List Token
of_locals no_locals r = r
of_locals (locals ls l) r = of_locals ls (of_local l (key SEMI ∷ r))

-- Statements.
pub data Destination : Type 0 where
  place : Variable → Destination
  val : ℕ → Variable → Destination

abbrev pub of_destination : Destination → List Token → List Token
of_destination (place v) r = of_variable v r
of_destination (val i v) r = token VAL i ∷ of_variable v r

-- invoke: name, bracket; return: RETURN, bracket
mutual
  pub data Body : Type 0 where
    body : Locals → Sequence → Body

  pub data Sequence : Type 0 where
    single : Statement → Sequence
    sequel : Sequence → Statement → Sequence

  pub data Statement : Type 0 where
    dummy : Statement
    block : Body → Statement
    assign : Many Destination → Expr 5 → Statement
    invoke : ℕ → ℕ → Statement
    invoke_on : ℕ → ℕ → Exprs → Statement
    branch : Arms → Statement
    branch_else : Arms → Sequence → Statement
    repeat : Expr 5 → Body → Statement
    loop : Condition → Sequence → Statement
    return : ℕ → Statement
    return_with : ℕ → ℕ → Expr 5 → Statement

  pub data Arms : Type 0 where
    when : Condition → Sequence → Arms
    elsewhen : Arms → Condition → Sequence → Arms

abbrev mutual
  pub of_body : Body → List Token → List Token
  of_body (body ls s) r = of_locals ls (of_sequence s r)

  pub of_sequence : Sequence → List Token → List Token
  of_sequence (single s) r = of_statement s r
  of_sequence (sequel ss s) r = of_sequence ss (key SEMI ∷ of_statement s r)

  pub of_statement : Statement → List Token → List Token
  of_statement dummy r = r
  of_statement (block b) r = key BLOCK ∷ of_body b (key ENDBLOCK ∷ r)
  of_statement (assign ds e) r = of_many of_destination BECOMES ds (key BECOMES ∷ of_expr e r)
  of_statement (invoke n i) r = token NAME n ∷ token LEFT i ∷ key RIGHT ∷ r
  of_statement (invoke_on n i es) r = token NAME n ∷ token LEFT i ∷ of_exprs es (key RIGHT ∷ r)
  of_statement (branch ws) r = of_arms ws (key END ∷ r)
  of_statement (branch_else ws s) r = of_arms ws (key ELSE ∷ of_sequence s (key END ∷ r))
  of_statement (repeat e b) r = key TO ∷ of_expr e (key DO ∷ of_body b (key REP ∷ r))
  of_statement (loop c s) r = key WHILE ∷ of_condition c (key DO ∷ of_sequence s (key REP ∷ r))
  of_statement (return i) r = token RETURN i ∷ r
  of_statement (return_with i j e) r = token RETURN i ∷ token LEFT j ∷ of_expr e (key RIGHT ∷ r)

  pub of_arms : Arms → List Token → List Token
  of_arms (when c s) r = key IF ∷ of_condition c (key THEN ∷ of_sequence s r)
  of_arms (elsewhen ws c s) r = of_arms ws (key ELSEIF ∷ of_condition c (key THEN ∷ of_sequence s r))

-- Module items: a data brick by its name; a procedure by its name, bracket, parameters, result, body and ENDPROC.
pub data Brick : Type 0 where
  store : ℕ → Many (Dec (Many (Init Value))) → Brick
  procedure : ℕ → ℕ → Opt Fields → Opt Mode → Body → ℕ → Brick

abbrev pub of_brick : Brick → List Token → List Token
of_brick (store n ds) r = key DATA ∷ token NAME n ∷ key SEMI ∷ of_many (of_dec (of_inits of_value)) SEMI ds (key ENDDATA ∷ r)
of_brick (procedure n i ps m b e) r = key PROC ∷ token NAME n ∷ token LEFT i ∷ of_opt of_fields ps (key RIGHT ∷ of_opt of_mode m (key SEMI ∷ of_body b (token ENDPROC e ∷ r)))

pub data Moditem : Type 0 where
  blank : Moditem
  external_procs : ℕ → Opt (Many Mode) → Opt Mode → Many ℕ → Moditem
  external_store : ℕ → Many (Dec (Many ℕ)) → Moditem
  record_mode : ℕ → ℕ → Fields → Moditem
  own : Brick → Moditem
  entry : Brick → Moditem

abbrev pub of_moditem : Moditem → List Token → List Token
of_moditem blank r = r
of_moditem (external_procs i ms m ns) r = key EXT ∷ key PROC ∷ token LEFT i ∷ of_opt (of_many of_mode COMMA) ms (key RIGHT ∷ of_opt of_mode m (of_names ns r))
of_moditem (external_store n ds) r = key EXT ∷ key DATA ∷ token NAME n ∷ key SEMI ∷ of_many (of_dec of_names) SEMI ds (key ENDDATA ∷ r)
of_moditem (record_mode n i fs) r = key MODE ∷ token NAME n ∷ token LEFT i ∷ of_fields fs (key RIGHT ∷ r)
of_moditem (own b) r = of_brick b r
of_moditem (entry b) r = key ENT ∷ of_brick b r

abbrev pub Module : Type 0
Module = Many Moditem

abbrev pub of_module : Module → List Token → List Token
of_module m r = of_many of_moditem SEMI m r
