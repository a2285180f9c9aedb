use Rattle.std.proofs.Common.{◌≡◌, ℕ, ◌≢◌, List, ◌∷◌, Some, None, Option, MatchOption, Bor, sym, subst, arith}
use Rattle.std.proofs.lemmas.Fmt.{IsAscii-from_digits}
use Rattle.std.proofs.lemmas.Str.{IsUtf8-from_ascii}
use Rattle.std.proofs.lemmas.Str.Ascii.{IsAscii-cons}
use Rattle.std.specs.Option.{unwrap_or}
use Rattle.std.specs.Str.{IsAscii, IsUtf8}
use Rattle.gatelog.specs.Commands.{Figures}

-- figures, with a minus sign before them or none, are text
pub figures_utf8 :
    (text : Bor (List ℕ)) (r : Option (Bor (List ℕ)))
    → MatchOption r ((rest : List ℕ) → text.now ≢ 45 ∷ rest) (λ x. text.now ≡ 45 ∷ x.now)
    → Figures (unwrap_or r text).now
    → IsUtf8 text.now
figures_utf8 text None m f = IsUtf8-from_ascii text.now (IsAscii-from_digits text.now f.digits)
figures_utf8 text (Some x) m f =
    IsUtf8-from_ascii text.now (subst IsAscii (sym m) (IsAscii-cons 45 x.now (omega arith) (IsAscii-from_digits x.now f.digits)))
