-- What a resolved tree names: slots, data variables, procedures and strings. Assumes nothing.
use Rattle.std.specs.Prelude.{ℕ, ◌+◌, ◌<◌, ◌≤◌, List, [], ◌∷◌, map, length, All, Contains, Some, None, Option}
use Rattle.grammar.specs.Trees.{Many, one, more}
use Rattle.resolved.specs.Forms.{Callee, own, Form, figure, local, stored, read, widened, dyadic, monadic, element, component, call, Forms, nothing, beside, Test, compare, Tests, Fresh, Body, body, Sequence, single, sequel, Statement, dummy, return, block, assign, invoke, branch, branch_else, repeat, loop, return_with, Arms, when, elsewhen, Cell, number, minus, address, string_address, byte_of, Span, Part}
use Rattle.resolved.specs.Forms as form
use Rattle.resolved.specs.Parts.{Named, slot, datum, procedure, string}

-- P of each thing that is named
abbrev pub InsideCallee : (Named → Type 0) → Callee → Type 0
InsideCallee P (own i) = P (procedure i)
InsideCallee P _ = Unit {0}

abbrev mutual
  pub Inside : (Named → Type 0) → Form → Type 0
  Inside P (figure k v) = Unit {0}
  Inside P (form.string i) = P (string i)
  Inside P (local s) = P (slot s)
  Inside P (stored i) = P (datum i)
  Inside P (read x) = Inside P x
  Inside P (widened x) = Inside P x
  Inside P (dyadic o i x y) = Inside P x × Inside P y
  Inside P (monadic o i x) = Inside P x
  Inside P (element x i y) = Inside P x × Inside P y
  Inside P (component x c) = Inside P x
  Inside P (call n c xs) = InsideCallee P c × InsideForms P xs

  pub InsideForms : (Named → Type 0) → Forms → Type 0
  InsideForms P nothing = Unit {0}
  InsideForms P (beside xs x) = InsideForms P xs × Inside P x

-- P of each of many
abbrev pub Every : {A : Type 0} → (A → Type 0) → Many A → Type 0
Every P (one a) = P a
Every P (more m a) = Every P m × P a

abbrev pub InsideTest : (Named → Type 0) → Test → Type 0
InsideTest P (compare o x y) = Inside P x × Inside P y

abbrev pub InsideTests : (Named → Type 0) → Tests → Type 0
InsideTests P ts = Every (Every (InsideTest P)) ts

abbrev pub InsideStart : (Named → Type 0) → Option Form → Type 0
InsideStart P None = Unit {0}
InsideStart P (Some x) = Inside P x

-- locals, with each slot that they are given
abbrev pub InsideLocals : (Named → Type 0) → List Fresh → Type 0
InsideLocals P [] = Unit {0}
InsideLocals P (f ∷ fs) = ((s : ℕ) → f.first ≤ s → s < f.first + f.count → P (slot s)) × InsideStart P f.start × InsideLocals P fs

abbrev mutual
  pub InsideBody : (Named → Type 0) → Body → Type 0
  InsideBody P (body fs s) = InsideLocals P fs × InsideSequence P s

  pub InsideSequence : (Named → Type 0) → Sequence → Type 0
  InsideSequence P (single s) = InsideStatement P s
  InsideSequence P (sequel ss s) = InsideSequence P ss × InsideStatement P s

  pub InsideStatement : (Named → Type 0) → Statement → Type 0
  InsideStatement P dummy = Unit {0}
  InsideStatement P return = Unit {0}
  InsideStatement P (block b) = InsideBody P b
  InsideStatement P (assign ds x) = Every (λ d. Inside P d.form) ds × Inside P x
  InsideStatement P (invoke n c xs) = InsideCallee P c × InsideForms P xs
  InsideStatement P (branch ws) = InsideArms P ws
  InsideStatement P (branch_else ws s) = InsideArms P ws × InsideSequence P s
  InsideStatement P (repeat x b) = Inside P x × InsideBody P b
  InsideStatement P (loop ts s) = InsideTests P ts × InsideSequence P s
  InsideStatement P (return_with x) = Inside P x

  pub InsideArms : (Named → Type 0) → Arms → Type 0
  InsideArms P (when ts s) = InsideTests P ts × InsideSequence P s
  InsideArms P (elsewhen ws ts s) = InsideArms P ws × InsideTests P ts × InsideSequence P s

abbrev pub InsideCell : (Named → Type 0) → Cell → Type 0
InsideCell P (number k v) = Unit {0}
InsideCell P (minus v) = Unit {0}
InsideCell P (address i) = P (datum i)
InsideCell P (string_address i) = P (string i)
InsideCell P (byte_of i n) = P (string i)

abbrev pub InsideCells : (Named → Type 0) → Option (List Cell) → Type 0
InsideCells P None = Unit {0}
InsideCells P (Some cs) = All (InsideCell P) cs

-- What can be named: the slots below k, the data variables and procedures among ds, the strings that have places among ss.
abbrev pub Nameable : List Named → List Span → ℕ → Named → Type 0
Nameable ds ss k (slot s) = s < k
Nameable ds ss k (string i) = Contains (map (λ s. s.item) ss) i
Nameable ds ss k d = Contains ds d

-- a data variable names what is known, and so does a procedure, which has slots for its parameters and for all that its body names
abbrev pub WellNamed : List Named → List Span → Part → Type 0
WellNamed ds ss (form.datum d) = InsideCells (Nameable ds ss 0) d.cells
WellNamed ds ss (form.procedure p) = (length p.takes ≤ p.slots) × InsideBody (Nameable ds ss p.slots) p.body
