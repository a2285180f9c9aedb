-- The terminals of a text's items: what each symbol counts as in the grammar. Assumes nothing.
use Rattle.std.specs.Prelude.{List, map}
use Rattle.symbols.specs.declared.Keyword.{Keyword}
use Rattle.symbols.specs.declared.Keyword.TheVariants.{Abs, And, Array, Bin, Block, By, Byte, Code, Data, Do, Else, ElseIf, End, EndBlock, EndData, EndProc, Ent, Ext, For, Frac, Goto, Hex, If, Int, Label, Land, Length, Let, Lor, Mod, Mode, Nev, Not, Oct, Of, Option, Or, Proc, Real, Ref, Rep, Return, Rtl, Sha, Shl, Sla, Sll, Sra, Srl, Stack, Svc, Switch, Then, Title, To, Val, While}
use Rattle.symbols.specs.declared.Separator.{Separator}
use Rattle.symbols.specs.declared.Separator.TheVariants.{LeftBracket, RightBracket, Star, Plus, Minus, Comma, Point, Slash, Colon, Semicolon, Less, Equal, Greater, Hash, Becomes, Divide, DoubleSlash, AtMost, AtLeast, Same, Differs}
use Rattle.symbols.specs.declared.Symbol.{Symbol}
use Rattle.symbols.specs.declared.Symbol.TheVariants.{Name, Integer, Text, Word, Mark}
use Rattle.symbols.specs.declared.Entry.{Entry}
use Rattle.grammar.specs.declared.Symbol.{Symbol as Terminal}
use Rattle.grammar.specs.Symbols.{NAME, INTEGER, TEXT, ABS, AND, ARRAY, STOP, BLOCK, BYTE, DATA, DO, ELSE, ELSEIF, END, ENDBLOCK, ENDDATA, ENDPROC, ENT, EXT, IF, INT, LAND, LENGTH, LOR, MOD, MODE, NEV, NOT, OR, PROC, REF, REP, RETURN, THEN, TO, VAL, WHILE, LEFT, RIGHT, DOT, SEMI, MORE, IS, ISNT, STAR, PLUS, MINUS, COMMA, LESS, EQUAL, HASH, BECOMES, DIVIDE, ATMOST, ATLEAST}

-- keywords: those that stand in no module are all alike
abbrev pub word_sign : Keyword → Terminal
word_sign Abs = ABS
word_sign And = AND
word_sign Array = ARRAY
word_sign Bin = STOP
word_sign Block = BLOCK
word_sign By = STOP
word_sign Byte = BYTE
word_sign Code = STOP
word_sign Data = DATA
word_sign Do = DO
word_sign Else = ELSE
word_sign ElseIf = ELSEIF
word_sign End = END
word_sign EndBlock = ENDBLOCK
word_sign EndData = ENDDATA
word_sign EndProc = ENDPROC
word_sign Ent = ENT
word_sign Ext = EXT
word_sign For = STOP
word_sign Frac = STOP
word_sign Goto = STOP
word_sign Hex = STOP
word_sign If = IF
word_sign Int = INT
word_sign Label = STOP
word_sign Land = LAND
word_sign Length = LENGTH
word_sign Let = STOP
word_sign Lor = LOR
word_sign Mod = MOD
word_sign Mode = MODE
word_sign Nev = NEV
word_sign Not = NOT
word_sign Oct = STOP
word_sign Of = STOP
word_sign Option = STOP
word_sign Or = OR
word_sign Proc = PROC
word_sign Real = STOP
word_sign Ref = REF
word_sign Rep = REP
word_sign Return = RETURN
word_sign Rtl = STOP
word_sign Sha = STOP
word_sign Shl = STOP
word_sign Sla = STOP
word_sign Sll = STOP
word_sign Sra = STOP
word_sign Srl = STOP
word_sign Stack = STOP
word_sign Svc = STOP
word_sign Switch = STOP
word_sign Then = THEN
word_sign Title = STOP
word_sign To = TO
word_sign Val = VAL
word_sign While = WHILE

-- separators likewise
abbrev pub mark_sign : Separator → Terminal
mark_sign LeftBracket = LEFT
mark_sign RightBracket = RIGHT
mark_sign Star = STAR
mark_sign Plus = PLUS
mark_sign Minus = MINUS
mark_sign Comma = COMMA
mark_sign Point = DOT
mark_sign Slash = STOP
mark_sign Colon = STOP
mark_sign Semicolon = SEMI
mark_sign Less = LESS
mark_sign Equal = EQUAL
mark_sign Greater = MORE
mark_sign Hash = HASH
mark_sign Becomes = BECOMES
mark_sign Divide = DIVIDE
mark_sign DoubleSlash = STOP
mark_sign AtMost = ATMOST
mark_sign AtLeast = ATLEAST
mark_sign Same = IS
mark_sign Differs = ISNT

abbrev pub sign : Symbol → Terminal
sign Name = NAME
sign Integer = INTEGER
sign Text = TEXT
sign (Word k) = word_sign k
sign (Mark s) = mark_sign s

-- the terminals of items, in their order
abbrev pub signs : List Entry → List Terminal
signs = map (λ e. sign e.symbol)
