-- The functional twin of the rules: what stands at the front of a text, computed byte by byte. That it is what the rules say, and that
-- they say no other thing, is proved (proofs/).
use Rattle.std.specs.Prelude.{◌≡◌, ℕ, ◌+◌, Bool, true, false, cond, ◌&&◌, List, [], ◌∷◌, length, take, drop, Some, None, Option, ◌==◌, ◌≢◌, nat_lt, slice_index}
use Rattle.std.specs.List.{prefix_len}
use Rattle.names.specs.Spelling.{uppers}
use Rattle.symbols.specs.Bytes.{letter, digit, name_byte, space, string_byte, comment_byte}
use Rattle.symbols.specs.Spellings.{spelling, sign, base_word, radix, digit_in}
use Rattle.symbols.specs.Items.{written}
use Rattle.symbols.specs.declared.Keyword.{Keyword}
use Rattle.symbols.specs.declared.Keyword.TheVariants.{Abs, And, Array, Bin, Block, By, Byte, Code, Data, Do, Else, ElseIf, End, EndBlock, EndData, EndProc, Ent, Ext, For, Frac, Goto, Hex, If, Int, Label, Land, Length, Let, Lor, Mod, Mode, Nev, Not, Oct, Of, Option as OptionWord, Or, Proc, Real, Ref, Rep, Return, Rtl, Sha, Shl, Sla, Sll, Sra, Srl, Stack, Svc, Switch, Then, Title, To, Val, While}
use Rattle.symbols.specs.declared.Base.{Base}
use Rattle.symbols.specs.declared.Base.TheVariants.{Binary, Octal, Hexadecimal}
use Rattle.symbols.specs.declared.Separator.{Separator}
use Rattle.symbols.specs.declared.Separator.TheVariants.{LeftBracket, RightBracket, Star, Plus, Minus, Comma, Point, Slash, Colon, Semicolon, Less, Equal, Greater, Hash, Becomes, Divide, DoubleSlash, AtMost, AtLeast, Same, Differs}
use Rattle.symbols.specs.declared.Symbol.{Symbol}
use Rattle.symbols.specs.declared.Symbol.TheVariants.{Name, Integer, Text, Word, Mark}

-- an item of a symbol, or a comment, with its length; or the text ends inside an item; or the byte behind so many cannot continue one
pub data Sight : Type 0 where
  found : Option Symbol → ℕ → Sight
  short : Sight
  stuck : ℕ → Sight

abbrev pub same : List ℕ → List ℕ → Bool
same [] [] = true
same [] (b ∷ w) = false
same (a ∷ v) [] = false
same (a ∷ v) (b ∷ w) = a == b && same v w

-- what w spells, if anything
abbrev pub Spelt : {X : Type 0} → (X → List ℕ) → List ℕ → Option X → Type 0
Spelt f w None = (x : _) → w ≢ f x
Spelt f w (Some x) = w ≡ f x

-- the entry whose bytes are w
abbrev pub lookup : {X : Type 0} → (X → List ℕ) → List ℕ → List X → Option X
lookup f w [] = None
lookup f w (x ∷ xs) = cond (same w (f x)) (Some x) (lookup f w xs)

abbrev pub keywords : List Keyword
keywords = Abs ∷ And ∷ Array ∷ Bin ∷ Block ∷ By ∷ Byte ∷ Code ∷ Data ∷ Do ∷ Else ∷ ElseIf ∷ End ∷ EndBlock ∷ EndData ∷ EndProc ∷ Ent ∷ Ext ∷ For ∷ Frac ∷ Goto ∷ Hex ∷ If ∷ Int ∷ Label ∷ Land ∷ Length ∷ Let ∷ Lor ∷ Mod ∷ Mode ∷ Nev ∷ Not ∷ Oct ∷ Of ∷ OptionWord ∷ Or ∷ Proc ∷ Real ∷ Ref ∷ Rep ∷ Return ∷ Rtl ∷ Sha ∷ Shl ∷ Sla ∷ Sll ∷ Sra ∷ Srl ∷ Stack ∷ Svc ∷ Switch ∷ Then ∷ Title ∷ To ∷ Val ∷ While ∷ []

abbrev pub bases : List Base
bases = Binary ∷ Octal ∷ Hexadecimal ∷ []

abbrev pub keyword_of : List ℕ → Option Keyword
keyword_of w = lookup spelling (uppers w) keywords

abbrev pub base_of : List ℕ → Option Base
base_of w = lookup base_word (uppers w) bases

abbrev pub named : Option Keyword → Symbol
named None = Name
named (Some k) = Word k

-- the name w, of length n
abbrev pub see_name : List ℕ → ℕ → Sight
see_name w n = found (Some (named (keyword_of w))) n

-- behind the word w, of length n, s spaces and d digits of its base
abbrev pub see_based : List ℕ → ℕ → ℕ → ℕ → Sight
see_based w n s d = cond (nat_lt 0 s && nat_lt 0 d) (found (Some Integer) (n + s + d)) (see_name w n)

-- behind the word w, of length n, the text t
abbrev pub see_behind : List ℕ → ℕ → List ℕ → Option Base → Sight
see_behind w n t None = see_name w n
see_behind w n t (Some base) =
    see_based w n (prefix_len space t) (prefix_len (digit_in base) (drop (prefix_len space t) t))

abbrev pub see_word : List ℕ → Sight
see_word t =
    see_behind (take (prefix_len name_byte t) t) (prefix_len name_byte t) (drop (prefix_len name_byte t) t) (base_of (take (prefix_len name_byte t) t))

-- behind an opening byte q and n bytes that may stand between two of them
abbrev pub see_closing : Option Symbol → ℕ → ℕ → List ℕ → Sight
see_closing f q n [] = short
see_closing f q n (c ∷ t) = cond (c == q) (found f (n + 2)) (stuck (n + 1))

abbrev pub see_enclosed : Option Symbol → ℕ → (ℕ → Bool) → List ℕ → Sight
see_enclosed f q p t = see_closing f q (prefix_len p t) (drop (prefix_len p t) t)

-- behind a byte 39
abbrev pub see_quoted : List ℕ → Sight
see_quoted [] = short
see_quoted (c ∷ []) = cond (string_byte c) short (stuck 1)
see_quoted (c ∷ e ∷ t) = cond (string_byte c) (cond (e == 39) (found (Some Integer) 3) (stuck 2)) (stuck 1)

abbrev pub starts : List ℕ → List ℕ → Bool
starts [] t = true
starts (a ∷ v) [] = false
starts (a ∷ v) (b ∷ t) = a == b && starts v t

-- the first of the separators that the text begins with
abbrev pub see_mark : List Separator → List ℕ → Sight
see_mark [] t = stuck 0
see_mark (s ∷ ss) t = cond (starts (sign s) t) (found (Some (Mark s)) (length (sign s))) (see_mark ss t)

-- the separators, the longest first
abbrev pub marks : List Separator
marks = Same ∷ Differs ∷ Becomes ∷ Divide ∷ DoubleSlash ∷ AtMost ∷ AtLeast ∷ LeftBracket ∷ RightBracket ∷ Star ∷ Plus ∷ Minus ∷ Comma ∷ Point ∷ Slash ∷ Colon ∷ Semicolon ∷ Less ∷ Equal ∷ Greater ∷ Hash ∷ []

-- the text t, whose first byte is b
abbrev pub see_by : ℕ → List ℕ → Sight
see_by b t =
    cond (letter b) (see_word t)
    (cond (digit b) (found (Some Integer) (prefix_len digit t))
    (cond (b == 34) (see_enclosed (Some Text) 34 string_byte (drop 1 t))
    (cond (b == 37) (see_enclosed None 37 comment_byte (drop 1 t))
    (cond (b == 39) (see_quoted (drop 1 t)) (see_mark marks t)))))

abbrev pub see : List ℕ → Sight
see [] = short
see (b ∷ t) = see_by b (b ∷ t)

-- the value of an integer's bytes: behind the word and the spaces are the digits
abbrev pub base_radix : Option Base → ℕ
base_radix None = 10
base_radix (Some base) = radix base

abbrev pub value_behind : List ℕ → List ℕ → ℕ
value_behind w t = written (base_radix (base_of w)) (drop (prefix_len space t) t)

-- a quote and a byte behind it
abbrev pub is_quoted : List ℕ → Bool
is_quoted [] = false
is_quoted (b ∷ []) = false
is_quoted (b ∷ c ∷ t) = b == 39

abbrev pub value_of : List ℕ → ℕ
value_of w =
    cond (is_quoted w) (slice_index w 1) (value_behind (take (prefix_len letter w) w) (drop (prefix_len letter w) w))
