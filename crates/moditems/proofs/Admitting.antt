-- What is described as taken and given, told from the nodes. Assumes nothing.
use Rattle.std.proofs.Common.{◌≡◌, ℕ, Bool, true, false, ◌&&◌, List, [], ◌∷◌, ◌++◌, Some, None, refl, sym, ap, ◌∙◌}
use Rattle.std.specs.Prelude.{◌||◌, codes}
use Rattle.std.specs.Option.{option_eq}
use Rattle.std.specs.Cmp.Lexicographic.{pointwise}
use Rattle.std.proofs.Math.Bool.{and-true}
use Rattle.grammar.specs.Trees.{Many, one, more, Mode, int, byte, ref_int, ref_byte, ref_record, ref_array, ref_array_brackets, Opt, none, some}
use Rattle.nodes.specs.declared.Node.{Node}
use Rattle.nodes.specs.declared.Node.TheVariants.{Absent, Int, Byte}
use Rattle.nodes.specs.Nodes.{At, IsMode, IsMany, IsOpt}
use Rattle.statics.specs.Modes.{Word, Mode as Meaning, INT, BYTE}
use Rattle.statics.specs.Scopes.{Text, same_word}
use Rattle.statics.specs.Written.{mode_of, gather}
use Rattle.statics.specs.Modules.{maybe_mode, modes}
use Rattle.statics.specs.JudgeExpressions.{same_mode}
use Rattle.statics.specs.JudgeModules.{admitted}
use Rattle.moditems.specs.Described.{description}

abbrev pub is_absent : Node → Bool
is_absent Absent = true
is_absent _ = false

abbrev pub is_int : Node → Bool
is_int Int = true
is_int _ = false

abbrev pub is_byte : Node → Bool
is_byte (Byte i) = true
is_byte _ = false

and_false : (b : Bool) → (b && false) ≡ false
and_false true = refl
and_false false = refl

none_left : (bs : List Meaning) (a : Meaning) → pointwise same_mode (bs ++ a ∷ []) [] ≡ false
none_left [] a = refl
none_left (b ∷ bs) a = refl

module _ (x : Text) where
  first_of : (ms : Many Mode) → (a : Meaning) × (bs : List Meaning) × (gather (λ m. mode_of x m ∷ []) ms ≡ a ∷ bs)
  first_of (one m) = (mode_of x m, [], refl)
  first_of (more ms m) =
      let f = first_of ms in
      (f.0, f.1 ++ mode_of x m ∷ [], ap (λ (l : List Meaning). l ++ mode_of x m ∷ []) f.2)

  module _ (ns : List Node) (k : ℕ) (n : Node) (at : At ns k n) where
    -- of a mode
    int_mode : (m : Mode) → IsMode m ns k → same_mode (mode_of x m) INT ≡ is_int n
    int_mode int is = ap is_int (sym is ∙ at)
    int_mode (byte i) is = ap is_int (sym is ∙ at)
    int_mode ref_int is = ap is_int (sym is ∙ at)
    int_mode (ref_byte i) is = ap is_int (sym is ∙ at)
    int_mode (ref_record r) is = ap is_int (sym is ∙ at)
    int_mode (ref_array m) is = ap is_int (sym is.2 ∙ at)
    int_mode (ref_array_brackets i m) is = ap is_int (sym is.2 ∙ at)

    byte_mode : (m : Mode) → IsMode m ns k → same_mode (mode_of x m) BYTE ≡ is_byte n
    byte_mode int is = ap is_byte (sym is ∙ at)
    byte_mode (byte i) is = ap is_byte (sym is ∙ at)
    byte_mode ref_int is = ap is_byte (sym is ∙ at)
    byte_mode (ref_byte i) is = ap is_byte (sym is ∙ at)
    byte_mode (ref_record r) is = ap is_byte (sym is ∙ at)
    byte_mode (ref_array m) is = ap is_byte (sym is.2 ∙ at)
    byte_mode (ref_array_brackets i m) is = ap is_byte (sym is.2 ∙ at)

    some_mode : (m : Mode) → IsMode m ns k → false ≡ is_absent n
    some_mode int is = ap is_absent (sym is ∙ at)
    some_mode (byte i) is = ap is_absent (sym is ∙ at)
    some_mode ref_int is = ap is_absent (sym is ∙ at)
    some_mode (ref_byte i) is = ap is_absent (sym is ∙ at)
    some_mode (ref_record r) is = ap is_absent (sym is ∙ at)
    some_mode (ref_array m) is = ap is_absent (sym is.2 ∙ at)
    some_mode (ref_array_brackets i m) is = ap is_absent (sym is.2 ∙ at)

    -- of a result
    gives_int : (m : Opt Mode) → IsOpt IsMode m ns k → option_eq same_mode (maybe_mode x m) (Some INT) ≡ is_int n
    gives_int none is = ap is_int (sym is ∙ at)
    gives_int (some m) is = int_mode m is

    gives_nothing : (m : Opt Mode) → IsOpt IsMode m ns k → option_eq same_mode (maybe_mode x m) None ≡ is_absent n
    gives_nothing none is = ap is_absent (sym is ∙ at)
    gives_nothing (some m) is = some_mode m is

    -- of parameters
    takes_nothing : (ms : Opt (Many Mode)) → IsOpt (IsMany IsMode) ms ns k → pointwise same_mode (modes x ms) [] ≡ is_absent n
    takes_nothing none is = ap is_absent (sym is ∙ at)
    takes_nothing (some (one m)) is = some_mode m is
    takes_nothing (some (more ms m)) is = none_left (gather (λ o. mode_of x o ∷ []) ms) (mode_of x m) ∙ ap is_absent (sym is.4 ∙ at)

    takes_byte : (ms : Opt (Many Mode)) → IsOpt (IsMany IsMode) ms ns k → pointwise same_mode (modes x ms) (BYTE ∷ []) ≡ is_byte n
    takes_byte none is = ap is_byte (sym is ∙ at)
    takes_byte (some (one m)) is = and-true (same_mode (mode_of x m) BYTE) ∙ byte_mode m is
    takes_byte (some (more ms m)) is =
        let f = first_of ms in
        ap (λ (l : List Meaning). pointwise same_mode (l ++ mode_of x m ∷ []) (BYTE ∷ [])) f.2
        ∙ ap (λ b. same_mode f.0 BYTE && b) (none_left f.1 (mode_of x m))
        ∙ and_false (same_mode f.0 BYTE)
        ∙ ap is_byte (sym is.4 ∙ at)

pub not_int : (n : Node) → (n ≡ Int → ⊥) → is_int n ≡ false
not_int Int h = absurd (h refl)
not_int _ h = refl

pub not_absent : (n : Node) → (n ≡ Absent → ⊥) → is_absent n ≡ false
not_absent Absent h = absurd (h refl)
not_absent _ h = refl

pub not_byte : (n : Node) → ((i : ℕ) → n ≡ Byte i → ⊥) → is_byte n ≡ false
not_byte (Byte i) h = absurd (h i refl)
not_byte _ h = refl

first_only : (p q : Bool) → ((p && true) || (q && false)) ≡ p
first_only true q = refl
first_only false q = and_false q

second_only : (p q : Bool) → ((p && false) || (q && true)) ≡ q
second_only true q = and-true q
second_only false q = and-true q

neither : (p q : Bool) → ((p && false) || (q && false)) ≡ false
neither true q = and_false q
neither false q = and_false q

module _ (x : Text) (w : Word) (ns : List Node) (t g : ℕ) (ms : Opt (Many Mode)) (m : Opt Mode) (takes : IsOpt (IsMany IsMode) ms ns t) (gives : IsOpt IsMode m ns g) where
  told : (a b : Node) → At ns t a → At ns g b → admitted w (description x ms m) ≡ ((same_word w (codes "INBYTE") && (is_absent a && is_int b)) || (same_word w (codes "OUTBYTE") && (is_byte a && is_absent b)))
  told a b p q = cc (takes_nothing x ns t a p ms takes, gives_int x ns g b q m gives, takes_byte x ns t a p ms takes, gives_nothing x ns g b q m gives)

  pub inbyte : At ns t Absent → At ns g Int → admitted w (description x ms m) ≡ same_word w (codes "INBYTE")
  inbyte p q = told Absent Int p q ∙ first_only (same_word w (codes "INBYTE")) (same_word w (codes "OUTBYTE"))

  pub outbyte : (i : ℕ) → At ns t (Byte i) → At ns g Absent → admitted w (description x ms m) ≡ same_word w (codes "OUTBYTE")
  outbyte i p q = told (Byte i) Absent p q ∙ second_only (same_word w (codes "INBYTE")) (same_word w (codes "OUTBYTE"))

  pub no_inbyte : (a : Node) → At ns t a → At ns g Int → is_absent a ≡ false → admitted w (description x ms m) ≡ false
  no_inbyte a p q h =
      told a Int p q
      ∙ ap (λ c. (same_word w (codes "INBYTE") && (c && true)) || (same_word w (codes "OUTBYTE") && (is_byte a && false))) h
      ∙ ap (λ c. (same_word w (codes "INBYTE") && false) || (same_word w (codes "OUTBYTE") && c)) (and_false (is_byte a))
      ∙ neither (same_word w (codes "INBYTE")) (same_word w (codes "OUTBYTE"))

  pub no_outbyte : (a : Node) → At ns t a → At ns g Absent → is_byte a ≡ false → admitted w (description x ms m) ≡ false
  no_outbyte a p q h =
      told a Absent p q
      ∙ ap (λ c. (same_word w (codes "INBYTE") && (is_absent a && false)) || (same_word w (codes "OUTBYTE") && (c && true))) h
      ∙ ap (λ c. (same_word w (codes "INBYTE") && c) || (same_word w (codes "OUTBYTE") && false)) (and_false (is_absent a))
      ∙ neither (same_word w (codes "INBYTE")) (same_word w (codes "OUTBYTE"))

  pub no_other : (a b : Node) → At ns t a → At ns g b → is_int b ≡ false → is_absent b ≡ false → admitted w (description x ms m) ≡ false
  no_other a b p q h k =
      told a b p q
      ∙ ap (λ c. (same_word w (codes "INBYTE") && (is_absent a && c)) || (same_word w (codes "OUTBYTE") && (is_byte a && is_absent b))) h
      ∙ ap (λ c. (same_word w (codes "INBYTE") && c) || (same_word w (codes "OUTBYTE") && (is_byte a && is_absent b))) (and_false (is_absent a))
      ∙ ap (λ c. (same_word w (codes "INBYTE") && false) || (same_word w (codes "OUTBYTE") && (is_byte a && c))) k
      ∙ ap (λ c. (same_word w (codes "INBYTE") && false) || (same_word w (codes "OUTBYTE") && c)) (and_false (is_byte a))
      ∙ neither (same_word w (codes "INBYTE")) (same_word w (codes "OUTBYTE"))
