-- The resolved tree of a module: what its names mean, how often each form is read, where a value is widened. Assumes nothing.
-- An item's number is that of the text; only what a fault or a later stage has to name is kept.
use Rattle.std.specs.Prelude.{ℕ, Bool, List, Option}
use Rattle.grammar.specs.Trees.{Dyadic, Monadic, Comparator, Many}
use Rattle.statics.specs.Modes.{Plain, Mode}
use Rattle.statics.specs.Values.{Want}

-- what a call calls: the procedure that an item declares, or one of the two from outside
pub data Callee : Type 0 where
  own : ℕ → Callee
  inbyte outbyte : Callee

-- Expressions, brought to what is needed.
mutual
  pub data Form : Type 0 where
    -- an integer: the mode that it has, its value
    figure : Plain → ℕ → Form
    -- the string at an item, whose bytes are those of the text there
    string : ℕ → Form
    -- the local in a slot
    local : ℕ → Form
    -- the data variable that an item declares: a scalar's place, an array or a record
    stored : ℕ → Form
    -- the contents of a place
    read : Form → Form
    -- a BYTE taken as INT
    widened : Form → Form
    -- an operator at an item
    dyadic : {n : ℕ} → Dyadic n → ℕ → Form → Form → Form
    monadic : Monadic → ℕ → Form → Form
    -- an array, the item of the bracket, the subscript
    element : Form → ℕ → Form → Form
    -- a record, and the number of the component among its components, 0 first
    component : Form → ℕ → Form
    -- the item of the name called, what it calls, what is handed over
    call : ℕ → Callee → Forms → Form

  pub data Forms : Type 0 where
    nothing : Forms
    beside : Forms → Form → Forms

-- Comparisons, those joined by AND, and these joined by OR.
pub data Test : Type 0 where
  compare : Comparator → Form → Form → Test

abbrev pub Tests : Type 0
Tests = Many (Many Test)

-- A destination: the item at which a fault of its store is told, the mode stored, the place.
pub record Aim : Type 0 where
  pub item : ℕ
  pub mode : Mode
  pub form : Form

-- Locals that a list item declares: their first slot, how many there are, their mode, and the initial value if they have one.
pub record Fresh : Type 0 where
  pub first : ℕ
  pub count : ℕ
  pub mode : Mode
  pub start : Option Form

-- Statements.
mutual
  pub data Body : Type 0 where
    body : List Fresh → Sequence → Body

  pub data Sequence : Type 0 where
    single : Statement → Sequence
    sequel : Sequence → Statement → Sequence

  pub data Statement : Type 0 where
    dummy : Statement
    block : Body → Statement
    assign : Many Aim → Form → Statement
    invoke : ℕ → Callee → Forms → Statement
    branch : Arms → Statement
    branch_else : Arms → Sequence → Statement
    repeat : Form → Body → Statement
    loop : Tests → Sequence → Statement
    return : Statement
    return_with : Form → Statement

  pub data Arms : Type 0 where
    when : Tests → Sequence → Arms
    elsewhen : Arms → Tests → Sequence → Arms

-- What a place of a data variable holds after loading: a number; one with a minus; the address of a data variable; of a string; a byte of a string, the
-- first being 0. A string is named by its item, and its bytes are those of the text there.
pub data Cell : Type 0 where
  number : Plain → ℕ → Cell
  minus : ℕ → Cell
  address : ℕ → Cell
  string_address : ℕ → Cell
  byte_of : ℕ → ℕ → Cell

-- A data variable: the item that declares it; what it is, which is never `free`; the modes of its places; what they hold, in their order (without an initial value each holds 0).
pub record Datum : Type 0 where
  pub item : ℕ
  pub shape : Want
  pub modes : List Mode
  pub cells : Option (List Cell)

-- A procedure: the item of its name; whether it has ENT; the modes of its parameters, which have the slots from 0 on, and of its result; the item of
-- its ENDPROC; how many slots are enough for it; its body.
pub record Procedure : Type 0 where
  pub item : ℕ
  pub entry : Bool
  pub takes : List Mode
  pub gives : Option Mode
  pub end : ℕ
  pub slots : ℕ
  pub body : Body

pub data Part : Type 0 where
  datum : Datum → Part
  procedure : Procedure → Part

-- where a data variable or a string lies: its item, its first place, how many places it has
pub record Span : Type 0 where
  pub item : ℕ
  pub first : ℕ
  pub size : ℕ

-- a module: its data variables and procedures, and where data and strings lie, both in the order of the text
pub record Resolved : Type 0 where
  pub parts : List Part
  pub places : List Span
