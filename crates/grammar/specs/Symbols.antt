-- Symbols, and whether two are the same. Assumes nothing.
use Rattle.std.specs.Prelude.{◌≡◌, ℕ, Bool, true, false, cond, List, [], ◌∷◌, ◌==◌, ◌≢◌, refl}
use Rattle.std.proofs.Common.{sym, ◌∙◌, ap, eqb-true, ne_eqb}
use borrow.Author.Tests.{eqb-false}
pub use Rattle.grammar.specs.declared.Symbol.{Symbol}
use Rattle.grammar.specs.declared.Symbol.TheVariants.{Stop, Name, Integer, Text, Abs, And, Array, Bin, Block, By, Byte, Code, Data, Do, Else, Elseif, End, Endblock, Enddata, Endproc, Ent, Ext, For, Frac, Goto, Hex, If, Int, Label, Land, Length, Let, Lor, Mod, Mode, Nev, Not, Oct, Of, Option, Or, Proc, Real, Ref, Rep, Return, Rtl, Sha, Shl, Sla, Sll, Sra, Srl, Stack, Svc, Switch, Then, Title, To, Val, While, Left, Right, Star, Plus, Minus, Comma, Dot, Slash, Colon, Semi, Less, Equal, More, Hash, Becomes, Divide, Slashes, AtMost, AtLeast, Is, Isnt}

abbrev pub STOP : Symbol
STOP = Stop

abbrev pub NAME : Symbol
NAME = Name

abbrev pub INTEGER : Symbol
INTEGER = Integer

abbrev pub TEXT : Symbol
TEXT = Text

abbrev pub ABS : Symbol
ABS = Abs

abbrev pub AND : Symbol
AND = And

abbrev pub ARRAY : Symbol
ARRAY = Array

abbrev pub BIN : Symbol
BIN = Bin

abbrev pub BLOCK : Symbol
BLOCK = Block

abbrev pub BY : Symbol
BY = By

abbrev pub BYTE : Symbol
BYTE = Byte

abbrev pub CODE : Symbol
CODE = Code

abbrev pub DATA : Symbol
DATA = Data

abbrev pub DO : Symbol
DO = Do

abbrev pub ELSE : Symbol
ELSE = Else

abbrev pub ELSEIF : Symbol
ELSEIF = Elseif

abbrev pub END : Symbol
END = End

abbrev pub ENDBLOCK : Symbol
ENDBLOCK = Endblock

abbrev pub ENDDATA : Symbol
ENDDATA = Enddata

abbrev pub ENDPROC : Symbol
ENDPROC = Endproc

abbrev pub ENT : Symbol
ENT = Ent

abbrev pub EXT : Symbol
EXT = Ext

abbrev pub FOR : Symbol
FOR = For

abbrev pub FRAC : Symbol
FRAC = Frac

abbrev pub GOTO : Symbol
GOTO = Goto

abbrev pub HEX : Symbol
HEX = Hex

abbrev pub IF : Symbol
IF = If

abbrev pub INT : Symbol
INT = Int

abbrev pub LABEL : Symbol
LABEL = Label

abbrev pub LAND : Symbol
LAND = Land

abbrev pub LENGTH : Symbol
LENGTH = Length

abbrev pub LET : Symbol
LET = Let

abbrev pub LOR : Symbol
LOR = Lor

abbrev pub MOD : Symbol
MOD = Mod

abbrev pub MODE : Symbol
MODE = Mode

abbrev pub NEV : Symbol
NEV = Nev

abbrev pub NOT : Symbol
NOT = Not

abbrev pub OCT : Symbol
OCT = Oct

abbrev pub OF : Symbol
OF = Of

abbrev pub OPTION : Symbol
OPTION = Option

abbrev pub OR : Symbol
OR = Or

abbrev pub PROC : Symbol
PROC = Proc

abbrev pub REAL : Symbol
REAL = Real

abbrev pub REF : Symbol
REF = Ref

abbrev pub REP : Symbol
REP = Rep

abbrev pub RETURN : Symbol
RETURN = Return

abbrev pub RTL : Symbol
RTL = Rtl

abbrev pub SHA : Symbol
SHA = Sha

abbrev pub SHL : Symbol
SHL = Shl

abbrev pub SLA : Symbol
SLA = Sla

abbrev pub SLL : Symbol
SLL = Sll

abbrev pub SRA : Symbol
SRA = Sra

abbrev pub SRL : Symbol
SRL = Srl

abbrev pub STACK : Symbol
STACK = Stack

abbrev pub SVC : Symbol
SVC = Svc

abbrev pub SWITCH : Symbol
SWITCH = Switch

abbrev pub THEN : Symbol
THEN = Then

abbrev pub TITLE : Symbol
TITLE = Title

abbrev pub TO : Symbol
TO = To

abbrev pub VAL : Symbol
VAL = Val

abbrev pub WHILE : Symbol
WHILE = While

abbrev pub LEFT : Symbol
LEFT = Left

abbrev pub RIGHT : Symbol
RIGHT = Right

abbrev pub STAR : Symbol
STAR = Star

abbrev pub PLUS : Symbol
PLUS = Plus

abbrev pub MINUS : Symbol
MINUS = Minus

abbrev pub COMMA : Symbol
COMMA = Comma

abbrev pub DOT : Symbol
DOT = Dot

abbrev pub SLASH : Symbol
SLASH = Slash

abbrev pub COLON : Symbol
COLON = Colon

abbrev pub SEMI : Symbol
SEMI = Semi

abbrev pub LESS : Symbol
LESS = Less

abbrev pub EQUAL : Symbol
EQUAL = Equal

abbrev pub MORE : Symbol
MORE = More

abbrev pub HASH : Symbol
HASH = Hash

abbrev pub BECOMES : Symbol
BECOMES = Becomes

abbrev pub DIVIDE : Symbol
DIVIDE = Divide

abbrev pub SLASHES : Symbol
SLASHES = Slashes

abbrev pub ATMOST : Symbol
ATMOST = AtMost

abbrev pub ATLEAST : Symbol
ATLEAST = AtLeast

abbrev pub IS : Symbol
IS = Is

abbrev pub ISNT : Symbol
ISNT = Isnt

abbrev pub code : Symbol → ℕ
code Stop = 0
code Name = 1
code Integer = 2
code Text = 3
code Abs = 4
code And = 5
code Array = 6
code Bin = 7
code Block = 8
code By = 9
code Byte = 10
code Code = 11
code Data = 12
code Do = 13
code Else = 14
code Elseif = 15
code End = 16
code Endblock = 17
code Enddata = 18
code Endproc = 19
code Ent = 20
code Ext = 21
code For = 22
code Frac = 23
code Goto = 24
code Hex = 25
code If = 26
code Int = 27
code Label = 28
code Land = 29
code Length = 30
code Let = 31
code Lor = 32
code Mod = 33
code Mode = 34
code Nev = 35
code Not = 36
code Oct = 37
code Of = 38
code Option = 39
code Or = 40
code Proc = 41
code Real = 42
code Ref = 43
code Rep = 44
code Return = 45
code Rtl = 46
code Sha = 47
code Shl = 48
code Sla = 49
code Sll = 50
code Sra = 51
code Srl = 52
code Stack = 53
code Svc = 54
code Switch = 55
code Then = 56
code Title = 57
code To = 58
code Val = 59
code While = 60
code Left = 61
code Right = 62
code Star = 63
code Plus = 64
code Minus = 65
code Comma = 66
code Dot = 67
code Slash = 68
code Colon = 69
code Semi = 70
code Less = 71
code Equal = 72
code More = 73
code Hash = 74
code Becomes = 75
code Divide = 76
code Slashes = 77
code AtMost = 78
code AtLeast = 79
code Is = 80
code Isnt = 81

abbrev pub same : Symbol → Symbol → Bool
same a b = code a == code b

abbrev decode : ℕ → Symbol
decode n =
    cond (n == 1) Name (cond (n == 2) Integer (cond (n == 3) Text (cond (n == 4) Abs (cond (n == 5) And (cond (n == 6) Array (
    cond (n == 7) Bin (cond (n == 8) Block (cond (n == 9) By (cond (n == 10) Byte (cond (n == 11) Code (cond (n == 12) Data (
    cond (n == 13) Do (cond (n == 14) Else (cond (n == 15) Elseif (cond (n == 16) End (cond (n == 17) Endblock (cond (n == 18) Enddata (
    cond (n == 19) Endproc (cond (n == 20) Ent (cond (n == 21) Ext (cond (n == 22) For (cond (n == 23) Frac (cond (n == 24) Goto (
    cond (n == 25) Hex (cond (n == 26) If (cond (n == 27) Int (cond (n == 28) Label (cond (n == 29) Land (cond (n == 30) Length (
    cond (n == 31) Let (cond (n == 32) Lor (cond (n == 33) Mod (cond (n == 34) Mode (cond (n == 35) Nev (cond (n == 36) Not (
    cond (n == 37) Oct (cond (n == 38) Of (cond (n == 39) Option (cond (n == 40) Or (cond (n == 41) Proc (cond (n == 42) Real (
    cond (n == 43) Ref (cond (n == 44) Rep (cond (n == 45) Return (cond (n == 46) Rtl (cond (n == 47) Sha (cond (n == 48) Shl (
    cond (n == 49) Sla (cond (n == 50) Sll (cond (n == 51) Sra (cond (n == 52) Srl (cond (n == 53) Stack (cond (n == 54) Svc (
    cond (n == 55) Switch (cond (n == 56) Then (cond (n == 57) Title (cond (n == 58) To (cond (n == 59) Val (cond (n == 60) While (
    cond (n == 61) Left (cond (n == 62) Right (cond (n == 63) Star (cond (n == 64) Plus (cond (n == 65) Minus (cond (n == 66) Comma (
    cond (n == 67) Dot (cond (n == 68) Slash (cond (n == 69) Colon (cond (n == 70) Semi (cond (n == 71) Less (cond (n == 72) Equal (
    cond (n == 73) More (cond (n == 74) Hash (cond (n == 75) Becomes (cond (n == 76) Divide (cond (n == 77) Slashes (cond (n == 78) AtMost (
    cond (n == 79) AtLeast (cond (n == 80) Is (cond (n == 81) Isnt (Stop)))))))))))))))))))))))))))))))))))))))))))))))))))))))))))))))))))))))))))))))))

decoded : (a : Symbol) → decode (code a) ≡ a
decoded Stop = refl
decoded Name = refl
decoded Integer = refl
decoded Text = refl
decoded Abs = refl
decoded And = refl
decoded Array = refl
decoded Bin = refl
decoded Block = refl
decoded By = refl
decoded Byte = refl
decoded Code = refl
decoded Data = refl
decoded Do = refl
decoded Else = refl
decoded Elseif = refl
decoded End = refl
decoded Endblock = refl
decoded Enddata = refl
decoded Endproc = refl
decoded Ent = refl
decoded Ext = refl
decoded For = refl
decoded Frac = refl
decoded Goto = refl
decoded Hex = refl
decoded If = refl
decoded Int = refl
decoded Label = refl
decoded Land = refl
decoded Length = refl
decoded Let = refl
decoded Lor = refl
decoded Mod = refl
decoded Mode = refl
decoded Nev = refl
decoded Not = refl
decoded Oct = refl
decoded Of = refl
decoded Option = refl
decoded Or = refl
decoded Proc = refl
decoded Real = refl
decoded Ref = refl
decoded Rep = refl
decoded Return = refl
decoded Rtl = refl
decoded Sha = refl
decoded Shl = refl
decoded Sla = refl
decoded Sll = refl
decoded Sra = refl
decoded Srl = refl
decoded Stack = refl
decoded Svc = refl
decoded Switch = refl
decoded Then = refl
decoded Title = refl
decoded To = refl
decoded Val = refl
decoded While = refl
decoded Left = refl
decoded Right = refl
decoded Star = refl
decoded Plus = refl
decoded Minus = refl
decoded Comma = refl
decoded Dot = refl
decoded Slash = refl
decoded Colon = refl
decoded Semi = refl
decoded Less = refl
decoded Equal = refl
decoded More = refl
decoded Hash = refl
decoded Becomes = refl
decoded Divide = refl
decoded Slashes = refl
decoded AtMost = refl
decoded AtLeast = refl
decoded Is = refl
decoded Isnt = refl

pub code_injective : (a b : Symbol) → code a ≡ code b → a ≡ b
code_injective a b e = sym (decoded a) ∙ ap decode e ∙ decoded b

pub same_true : (a b : Symbol) → same a b ≡ true → a ≡ b
same_true a b e = code_injective a b (eqb-true (code a) (code b) e)

pub not_same : (a b : Symbol) → (a ≢ b) → same a b ≡ false
not_same a b n = ne_eqb (code a) (code b) (λ e. n (code_injective a b e))

-- whether a symbol is one of some
abbrev pub among : List Symbol → Symbol → Bool
among [] c = false
among (k ∷ ks) c = cond (same c k) true (among ks c)

-- what a test says of P
abbrev pub Says : Bool → Type 0 → Type 0
Says true P = P
Says false P = P → ⊥

-- the test of two symbols says whether they are the same one
pub same_says : (a b : Symbol) → Says (same a b) (a ≡ b)
same_says a b = by (same a b) refl
  where
    by : (r : Bool) → same a b ≡ r → Says r (a ≡ b)
    by true e = same_true a b e
    by false e = λ z. eqb-false (code a) (code b) e (ap code z)
