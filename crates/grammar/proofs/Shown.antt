-- The examples hold. Assumes nothing.
use Rattle.std.proofs.Common.{◌≡◌, List, [], ◌++◌, length, refl, subst}
use Rattle.grammar.specs.Symbols.{Symbol}
use Rattle.grammar.specs.Sentences.{fine, bad, Fine, Meaning}
use Rattle.grammar.specs.Machine.{run, a_module}
use Rattle.grammar.specs.Examples.{small_module, WrongAt, Examples}
use Rattle.grammar.proofs.Right.{run_right_lem}

wrong_at : (u v : List Symbol) → run 32 a_module 0 (u ++ v) ≡ bad (length u) → WrongAt u v
wrong_at u v e = record { wrong = subst (Meaning 32 (u ++ v)) e (run_right_lem 32 (u ++ v)) }

fine_at : (w : List Symbol) → run 32 a_module 0 w ≡ fine → Fine 32 w
fine_at w e = subst (Meaning 32 w) e (run_right_lem 32 w)

pub examples : Examples
examples = record {
  empty_text = fine_at [] refl;
  small = fine_at small_module refl;
  call_then_bracket = wrong_at _ _ refl;
  calls_then_dot = wrong_at _ _ refl;
  later_brackets = wrong_at _ _ refl;
  component_then_empty = wrong_at _ _ refl;
  no_procedure = wrong_at _ _ refl;
  no_destination = wrong_at _ _ refl;
  val_alone = wrong_at _ _ refl;
  local_call_shared = wrong_at _ _ refl;
  number_shared = wrong_at _ _ refl;
  two_signs = wrong_at _ _ refl;
  no_such_word = wrong_at _ _ refl;
  ends_early = wrong_at _ _ refl;
}
