-- What a list of bytes spells, found in a list of all that can be spelled.
use Rattle.std.proofs.Common.{◌≡◌, ℕ, Bool, true, false, cond, eqb, List, [], ◌∷◌, Some, None, Option, refl, ap, ◌∙◌, arith}
use Rattle.std.proofs.lemmas.Bool.{eqb-true, and_parts}
use Rattle.names.specs.Spelling.{uppers}
use Rattle.symbols.specs.See.{Spelt, same, lookup, keywords, bases, keyword_of, base_of}
use Rattle.symbols.specs.Spellings.{spelling, base_word}
use Rattle.symbols.specs.declared.Keyword.{Keyword}
use Rattle.symbols.specs.declared.Keyword.TheVariants.{Abs, And, Array, Bin, Block, By, Byte, Code, Data, Do, Else, ElseIf, End, EndBlock, EndData, EndProc, Ent, Ext, For, Frac, Goto, Hex, If, Int, Label, Land, Length, Let, Lor, Mod, Mode, Nev, Not, Oct, Of, Option as OptionWord, Or, Proc, Real, Ref, Rep, Return, Rtl, Sha, Shl, Sla, Sll, Sra, Srl, Stack, Svc, Switch, Then, Title, To, Val, While}
use Rattle.symbols.specs.declared.Base.{Base}

same_bytes : (v w : List ℕ) → same v w ≡ true → v ≡ w
same_bytes [] [] e = refl
same_bytes [] (b ∷ w) e = cc
same_bytes (a ∷ v) [] e = cc
same_bytes (a ∷ v) (b ∷ w) e =
    let h = and_parts (eqb a b) (same v w) e in
    let p = eqb-true a b h.0 in
    let q = same_bytes v w h.1 in
    cc

-- what is found is spelled so
pub lookup_spells :
    {X : Type 0} (f : X → List ℕ) (w : List ℕ) (xs : List X) (x : X) → lookup f w xs ≡ Some x → w ≡ f x
lookup_spells f w [] x e = cc
lookup_spells f w (y ∷ ys) x e = go (λ q. lookup_spells f w ys x q) (same w (f y)) refl e
  where
    go :
        (more : lookup f w ys ≡ Some x → w ≡ f x) (b : Bool)
        → same w (f y) ≡ b
        → cond b (Some y) (lookup f w ys) ≡ Some x
        → w ≡ f x
    go more true p q = let z : y ≡ x = cc in same_bytes w (f y) p ∙ ap f z
    go more false p q = more q

-- each is found: then what is spelled is what is found
pub lookup_is :
    {X : Type 0} (f : X → List ℕ) (xs : List X)
    → ((x : X) → lookup f (f x) xs ≡ Some x)
    → (w : List ℕ) (o : Option X)
    → Spelt f w o
    → lookup f w xs ≡ o
lookup_is f xs each w (Some x) h = ap (λ v. lookup f v xs) h ∙ each x
lookup_is {X} f xs each w None h = go (lookup f w xs) refl
  where
    go : (o : Option X) → lookup f w xs ≡ o → lookup f w xs ≡ None
    go None e = e
    go (Some x) e = absurd (h x (lookup_spells f w xs x e))

each_keyword : (k : Keyword) → lookup spelling (spelling k) keywords ≡ Some k
each_keyword Abs = refl
each_keyword And = refl
each_keyword Array = refl
each_keyword Bin = refl
each_keyword Block = refl
each_keyword By = refl
each_keyword Byte = refl
each_keyword Code = refl
each_keyword Data = refl
each_keyword Do = refl
each_keyword Else = refl
each_keyword ElseIf = refl
each_keyword End = refl
each_keyword EndBlock = refl
each_keyword EndData = refl
each_keyword EndProc = refl
each_keyword Ent = refl
each_keyword Ext = refl
each_keyword For = refl
each_keyword Frac = refl
each_keyword Goto = refl
each_keyword Hex = refl
each_keyword If = refl
each_keyword Int = refl
each_keyword Label = refl
each_keyword Land = refl
each_keyword Length = refl
each_keyword Let = refl
each_keyword Lor = refl
each_keyword Mod = refl
each_keyword Mode = refl
each_keyword Nev = refl
each_keyword Not = refl
each_keyword Oct = refl
each_keyword Of = refl
each_keyword OptionWord = refl
each_keyword Or = refl
each_keyword Proc = refl
each_keyword Real = refl
each_keyword Ref = refl
each_keyword Rep = refl
each_keyword Return = refl
each_keyword Rtl = refl
each_keyword Sha = refl
each_keyword Shl = refl
each_keyword Sla = refl
each_keyword Sll = refl
each_keyword Sra = refl
each_keyword Srl = refl
each_keyword Stack = refl
each_keyword Svc = refl
each_keyword Switch = refl
each_keyword Then = refl
each_keyword Title = refl
each_keyword To = refl
each_keyword Val = refl
each_keyword While = refl

each_base : (b : Base) → lookup base_word (base_word b) bases ≡ Some b
each_base b = grind arith

pub keyword_is : (w : List ℕ) (o : Option Keyword) → Spelt spelling (uppers w) o → keyword_of w ≡ o
keyword_is w o h = lookup_is spelling keywords each_keyword (uppers w) o h

pub base_is : (w : List ℕ) (o : Option Base) → Spelt base_word (uppers w) o → base_of w ≡ o
base_is w o h = lookup_is base_word bases each_base (uppers w) o h
