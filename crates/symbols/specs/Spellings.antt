-- How keywords, separators and the bases' words are spelled. Assumes nothing.
use Rattle.std.specs.Prelude.{ℕ, Bool, ◌||◌, List, codes}
use Rattle.symbols.specs.Bytes.{within}
use Rattle.symbols.specs.declared.Keyword.{Keyword}
use Rattle.symbols.specs.declared.Keyword.TheVariants.{Abs, And, Array, Bin, Block, By, Byte, Code, Data, Do, Else, ElseIf, End, EndBlock, EndData, EndProc, Ent, Ext, For, Frac, Goto, Hex, If, Int, Label, Land, Length, Let, Lor, Mod, Mode, Nev, Not, Oct, Of, Option as OptionWord, Or, Proc, Real, Ref, Rep, Return, Rtl, Sha, Shl, Sla, Sll, Sra, Srl, Stack, Svc, Switch, Then, Title, To, Val, While}
use Rattle.symbols.specs.declared.Separator.{Separator}
use Rattle.symbols.specs.declared.Separator.TheVariants.{LeftBracket, RightBracket, Star, Plus, Minus, Comma, Point, Slash, Colon, Semicolon, Less, Equal, Greater, Hash, Becomes, Divide, DoubleSlash, AtMost, AtLeast, Same, Differs}
use Rattle.symbols.specs.declared.Base.{Base}
use Rattle.symbols.specs.declared.Base.TheVariants.{Binary, Octal, Hexadecimal}

-- the keywords, in capitals
abbrev pub spelling : Keyword → List ℕ
spelling Abs = codes "ABS"
spelling And = codes "AND"
spelling Array = codes "ARRAY"
spelling Bin = codes "BIN"
spelling Block = codes "BLOCK"
spelling By = codes "BY"
spelling Byte = codes "BYTE"
spelling Code = codes "CODE"
spelling Data = codes "DATA"
spelling Do = codes "DO"
spelling Else = codes "ELSE"
spelling ElseIf = codes "ELSEIF"
spelling End = codes "END"
spelling EndBlock = codes "ENDBLOCK"
spelling EndData = codes "ENDDATA"
spelling EndProc = codes "ENDPROC"
spelling Ent = codes "ENT"
spelling Ext = codes "EXT"
spelling For = codes "FOR"
spelling Frac = codes "FRAC"
spelling Goto = codes "GOTO"
spelling Hex = codes "HEX"
spelling If = codes "IF"
spelling Int = codes "INT"
spelling Label = codes "LABEL"
spelling Land = codes "LAND"
spelling Length = codes "LENGTH"
spelling Let = codes "LET"
spelling Lor = codes "LOR"
spelling Mod = codes "MOD"
spelling Mode = codes "MODE"
spelling Nev = codes "NEV"
spelling Not = codes "NOT"
spelling Oct = codes "OCT"
spelling Of = codes "OF"
spelling OptionWord = codes "OPTION"
spelling Or = codes "OR"
spelling Proc = codes "PROC"
spelling Real = codes "REAL"
spelling Ref = codes "REF"
spelling Rep = codes "REP"
spelling Return = codes "RETURN"
spelling Rtl = codes "RTL"
spelling Sha = codes "SHA"
spelling Shl = codes "SHL"
spelling Sla = codes "SLA"
spelling Sll = codes "SLL"
spelling Sra = codes "SRA"
spelling Srl = codes "SRL"
spelling Stack = codes "STACK"
spelling Svc = codes "SVC"
spelling Switch = codes "SWITCH"
spelling Then = codes "THEN"
spelling Title = codes "TITLE"
spelling To = codes "TO"
spelling Val = codes "VAL"
spelling While = codes "WHILE"

-- the separators: fourteen single characters, and seven that are compound
abbrev pub sign : Separator → List ℕ
sign LeftBracket = codes "("
sign RightBracket = codes ")"
sign Star = codes "*"
sign Plus = codes "+"
sign Minus = codes "-"
sign Comma = codes ","
sign Point = codes "."
sign Slash = codes "/"
sign Colon = codes ":"
sign Semicolon = codes ";"
sign Less = codes "<"
sign Equal = codes "="
sign Greater = codes ">"
sign Hash = codes "#"
sign Becomes = codes ":="
sign Divide = codes ":/"
sign DoubleSlash = codes "//"
sign AtMost = codes "<="
sign AtLeast = codes ">="
sign Same = codes ":=:"
sign Differs = codes ":#:"

-- the word of a base, in capitals
abbrev pub base_word : Base → List ℕ
base_word Binary = codes "BIN"
base_word Octal = codes "OCT"
base_word Hexadecimal = codes "HEX"

abbrev pub radix : Base → ℕ
radix Binary = 2
radix Octal = 8
radix Hexadecimal = 16

-- the digits of a base: the hexadecimal letters count only as capitals
abbrev pub digit_in : Base → ℕ → Bool
digit_in Binary b = within 48 49 b
digit_in Octal b = within 48 55 b
digit_in Hexadecimal b = within 48 57 b || within 65 70 b
