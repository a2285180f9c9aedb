-- The examples hold. Assumes nothing.
use Rattle.std.proofs.Common.{◌≡◌, List, [], ◌∷◌, ◌++◌, Ok, Err, codes, refl, subst, lit<, lit≤, arith}
use Rattle.answers.specs.Declines.{place}
use Rattle.answers.specs.Figures.{IsDecimal}
use Rattle.answers.specs.Said.{Says}
use Rattle.answers.specs.declared.Decline.TheVariants.{Misfit}
use Rattle.symbols.specs.Cut.{Verdict as Cut, entry}
use Rattle.symbols.specs.declared.Entry.{Entry}
use Rattle.symbols.specs.declared.Symbol.TheVariants.{Name, Integer, Word, Mark}
use Rattle.symbols.specs.declared.Keyword.TheVariants.{Byte, Data, EndData, EndProc, Proc}
use Rattle.symbols.specs.declared.Separator.TheVariants.{LeftBracket, RightBracket, Plus, Semicolon, Becomes}
use Rattle.symbols.proofs.Answer.{verdict_meets}
use Rattle.grammar.specs.declared.Symbol.{Symbol}
use Rattle.grammar.specs.Trees.{blank, one}
use Rattle.grammar.specs.Sentences.{fine, Fine, Meaning}
use Rattle.grammar.specs.Machine.{run, a_module}
use Rattle.grammar.proofs.Right.{run_right_lem}
use Rattle.statics.specs.Examples.{narrow, narrow_symbols}
use Rattle.verdicts.specs.Verdicts.{Verdict, judged}
use Rattle.verdicts.specs.Examples.{narrow_text, Examples}
use Rattle.verdicts.proofs.Verdicts.{static_meets}

narrow_items : List Entry
narrow_items =
    entry (Word Data) 0 4 ∷ entry Name 5 6 ∷ entry (Mark Semicolon) 6 7 ∷ entry (Word Byte) 8 12 ∷ entry Name 13 14 ∷ entry (Mark Semicolon) 14 15
    ∷ entry (Word EndData) 16 23 ∷ entry (Mark Semicolon) 23 24 ∷ entry (Word Proc) 25 29 ∷ entry Name 30 31 ∷ entry (Mark LeftBracket) 32 33
    ∷ entry (Mark RightBracket) 33 34 ∷ entry (Mark Semicolon) 34 35 ∷ entry Name 36 37 ∷ entry (Mark Becomes) 38 40 ∷ entry Name 41 42
    ∷ entry (Mark Plus) 43 44 ∷ entry Integer 45 46 ∷ entry (Word EndProc) 47 54 ∷ []

fine_at : (w : List Symbol) → run 32 a_module 0 w ≡ fine → Fine 32 w
fine_at w e = subst (Meaning 32 w) e (run_right_lem 32 w)

empty_accepted : Verdict [] (Ok tt)
empty_accepted = judged [] (one blank) (Ok tt) (verdict_meets []) (fine_at [] refl) refl (static_meets [] [] (one blank) refl)

narrow_cut : Cut narrow_text (Ok narrow_items)
unfolding narrow_items
narrow_cut = verdict_meets narrow_text

narrow_declined : Verdict narrow_text (Err (Misfit (place 41)))
unfolding narrow_items
narrow_declined =
    judged narrow_items narrow _ narrow_cut (fine_at narrow_symbols refl) refl (static_meets narrow_text narrow_items narrow refl)

two : IsDecimal 2 (codes "2")
two = record { figures = ((lit≤ tt, lit≤ tt), tt); value = refl; some = lit< tt; front = λ l e. absurd (omega arith) }

seventeen : IsDecimal 17 (codes "17")
seventeen = record { figures = ((lit≤ tt, lit≤ tt), ((lit≤ tt, lit≤ tt), tt)); value = refl; some = lit< tt; front = λ l e. omega arith }

eleven : IsDecimal 11 (codes "11")
eleven = record { figures = ((lit≤ tt, lit≤ tt), ((lit≤ tt, lit≤ tt), tt)); value = refl; some = lit< tt; front = λ l e. omega arith }

narrow_says : Says (Misfit (place 41)) narrow_text (codes "2:17: 11" ++ (10 ∷ []))
narrow_says = record { row = codes "2"; column = codes "17"; number = codes "11"; row_is = two; column_is = seventeen; number_is = eleven; parts = refl }

pub examples_lem : Examples
examples_lem =
    record {
      empty = record { answer = Ok tt; meets = empty_accepted; tells = refl };
      narrow = record { answer = Err (Misfit (place 41)); meets = narrow_declined; tells = narrow_says };
    }
