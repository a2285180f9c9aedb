-- The laws of specs/Laws.
use Rattle.std.proofs.Common.{ℕ, List, [], ◌∷◌, codes, Result, sym, refl, ◌∙◌}
use Rattle.symbols.specs.Items.{IsInteger, decimal, based, quoted}
use Rattle.symbols.specs.Cut.{Verdict}
use Rattle.answers.specs.declared.Decline.{Decline}
use Rattle.symbols.specs.declared.Entry.{Entry}
use Rattle.symbols.specs.Laws.{Answer, OneAnswer, OneMeaning, Bound, SameIs, HexIs, BinIs}
use Rattle.symbols.specs.declared.Base.TheVariants.{Hexadecimal}
use Rattle.symbols.proofs.Values.{value_is}
use Rattle.symbols.proofs.Covers.{self}
use Rattle.symbols.proofs.Answer.{verdict_meets, verdict_only}

pub one_answer : OneAnswer
one_answer = record { some = verdict_meets; one = λ t r s h k. sym (verdict_only t r h) ∙ verdict_only t s k }

pub one_meaning : OneMeaning
one_meaning =
    record {
      symbol = λ f g w h k. let p = self f w h in let q = self g w k in cc;
      value = λ u v w h k. sym (value_is w u h) ∙ value_is w v k;
    }

pub quoted_quote_lem : IsInteger (codes "'''") 39
quoted_quote_lem = quoted 39 refl refl refl

pub bound : Bound 32767
bound =
    record {
      accepted = verdict_meets (codes "32767");
      value = decimal 51 (50 ∷ 55 ∷ 54 ∷ 55 ∷ []) refl (refl, (refl, (refl, (refl, (refl, tt))))) refl;
      above = verdict_meets (codes "32768");
    }

pub same_is : SameIs 1
same_is = (refl, verdict_meets (codes ":=:"))

pub hex_is : HexIs 31
hex_is =
    (verdict_meets (codes "HEX 1F"), based Hexadecimal (codes "HEX") 0 49 (70 ∷ []) refl refl (refl, (refl, tt)) refl)

pub bin_is : BinIs 2
bin_is = (refl, verdict_meets (codes "BIN 2"))

pub answer : (t : List ℕ) (r : Result (List Entry) Decline) → Verdict t r → Answer t r
answer t r h = record { meets = h; only = λ s k. sym (verdict_only t s k) ∙ verdict_only t r h }
