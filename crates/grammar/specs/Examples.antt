-- Examples: modules, and where a text stops being the beginning of one. Assumes nothing.
use Rattle.std.specs.Prelude.{List, [], ◌∷◌, ◌++◌, length}
use Rattle.grammar.specs.Symbols.{NAME, INTEGER, DATA, ENDDATA, ENDPROC, ENT, INT, LET, MODE, PROC, RETURN, VAL, LEFT, RIGHT, PLUS, MINUS, COMMA, DOT, SEMI, BECOMES, Symbol}
use Rattle.grammar.specs.Sentences.{Fine, Bad}

-- DATA D; INT N := 3; ENDDATA; ENT PROC MAIN () INT; N := N + 1; RETURN (N) ENDPROC
abbrev pub small_module : List Symbol
small_module =
    DATA ∷ NAME ∷ SEMI ∷ INT ∷ NAME ∷ BECOMES ∷ INTEGER ∷ SEMI ∷ ENDDATA ∷ SEMI
    ∷ ENT ∷ PROC ∷ NAME ∷ LEFT ∷ RIGHT ∷ INT ∷ SEMI ∷ NAME ∷ BECOMES ∷ NAME ∷ PLUS ∷ INTEGER ∷ SEMI ∷ RETURN ∷ LEFT ∷ NAME ∷ RIGHT ∷ ENDPROC ∷ []

-- PROC P (); and then a statement
abbrev pub in_procedure : List Symbol → List Symbol
in_procedure w = PROC ∷ NAME ∷ LEFT ∷ RIGHT ∷ SEMI ∷ w

-- DATA D; and then a declaration
abbrev pub in_data : List Symbol → List Symbol
in_data w = DATA ∷ NAME ∷ SEMI ∷ w

-- The first of v can follow u in no module; or, with no v, the text ends too early. The symbols u begin one.
pub record WrongAt (u v : List Symbol) : Type 0 where
  pub wrong : Bad 32 (u ++ v) (length u)

pub record Examples : Type 0 where
  pub empty_text : Fine 32 []
  pub small : Fine 32 small_module
  -- X := F()(1)
  pub call_then_bracket : WrongAt (in_procedure (NAME ∷ BECOMES ∷ NAME ∷ LEFT ∷ RIGHT ∷ [])) (LEFT ∷ INTEGER ∷ RIGHT ∷ [])
  -- X := F(1, 2).A
  pub calls_then_dot : WrongAt (in_procedure (NAME ∷ BECOMES ∷ NAME ∷ LEFT ∷ INTEGER ∷ COMMA ∷ INTEGER ∷ RIGHT ∷ [])) (DOT ∷ NAME ∷ [])
  -- X := A(1)(2, 3)
  pub later_brackets : WrongAt (in_procedure (NAME ∷ BECOMES ∷ NAME ∷ LEFT ∷ INTEGER ∷ RIGHT ∷ LEFT ∷ INTEGER ∷ [])) (COMMA ∷ INTEGER ∷ RIGHT ∷ [])
  -- X := A.B()
  pub component_then_empty : WrongAt (in_procedure (NAME ∷ BECOMES ∷ NAME ∷ DOT ∷ NAME ∷ LEFT ∷ [])) (RIGHT ∷ [])
  -- A(1)(2); is no procedure statement
  pub no_procedure : WrongAt (in_procedure (NAME ∷ LEFT ∷ INTEGER ∷ RIGHT ∷ LEFT ∷ INTEGER ∷ RIGHT ∷ [])) (SEMI ∷ [])
  -- X := Y + 1 := 2
  pub no_destination : WrongAt (in_procedure (NAME ∷ BECOMES ∷ NAME ∷ PLUS ∷ INTEGER ∷ [])) (BECOMES ∷ INTEGER ∷ [])
  -- VAL X;
  pub val_alone : WrongAt (in_procedure (VAL ∷ NAME ∷ [])) (SEMI ∷ [])
  -- INT X := F() := 1;
  pub local_call_shared : WrongAt (in_procedure (INT ∷ NAME ∷ BECOMES ∷ NAME ∷ LEFT ∷ RIGHT ∷ [])) (BECOMES ∷ INTEGER ∷ [])
  -- INT N := 3 := 4
  pub number_shared : WrongAt (in_data (INT ∷ NAME ∷ BECOMES ∷ INTEGER ∷ [])) (BECOMES ∷ INTEGER ∷ [])
  -- INT N := + - 3
  pub two_signs : WrongAt (in_data (INT ∷ NAME ∷ BECOMES ∷ PLUS ∷ [])) (MINUS ∷ INTEGER ∷ [])
  -- a keyword that stands in no module; the text's end
  pub no_such_word : WrongAt [] (LET ∷ NAME ∷ [])
  pub ends_early : WrongAt (MODE ∷ NAME ∷ LEFT ∷ INT ∷ NAME ∷ []) []
