-- Examples: modules and their verdicts, each item of the text with its number. Assumes nothing.
use Rattle.std.specs.Prelude.{ℕ, List, [], ◌∷◌, length, Ok, Err, codes, slice_index, slice_index_or}
use Rattle.statics.specs.declared.Refusal.TheVariants.{DeclaredTwice, WrongName, Misfit, NoValue}
use Rattle.grammar.specs.Symbols.{NAME, INTEGER, BYTE, DATA, ENDDATA, ENDPROC, ENT, INT, PROC, REF, RETURN, LEFT, RIGHT, PLUS, SEMI, BECOMES}
use Rattle.grammar.specs.declared.Symbol.{Symbol}
use Rattle.grammar.specs.Sentences.{Made}
use Rattle.grammar.specs.Trees.{Expr, term, up, dyadic, primary, integer, variable, name, element, one, more, given, no_locals, locals, body, single, sequel, assign, return_with, invoke_on, first, constant, variables, store, procedure, blank, own, entry, Module}
use Rattle.grammar.specs.Trees as tree
use Rattle.statics.specs.Modes.{Word}
use Rattle.statics.specs.Scopes.{Text}
use Rattle.statics.specs.Stages.{Static}

-- a text given by the bytes of its items, with what integers among them stand for
abbrev pub text_of : List Word → List ℕ → Text
text_of ws vs = record { word = λ n. slice_index_or ws n []; value = λ n. slice_index vs n; size = λ n. length (slice_index_or ws n []) }

-- an expression that is a name, or an integer
abbrev pub named : ℕ → Expr 4
named n = up (up (up (up (term (primary (variable (name n)))))))

abbrev pub figure : ℕ → Expr 4
figure n = up (up (up (up (term (primary (integer n))))))

-- DATA D ; INT N := 3 ; ENDDATA ; ENT PROC MAIN ( ) INT ; N := N + 1 ; RETURN ( N ) ENDPROC
abbrev pub counter_text : Text
counter_text =
    text_of
    ([] ∷ codes "D" ∷ [] ∷ [] ∷ codes "N" ∷ [] ∷ [] ∷ [] ∷ [] ∷ [] ∷ [] ∷ [] ∷ codes "MAIN" ∷ [] ∷ [] ∷ [] ∷ [] ∷ codes "N" ∷ [] ∷ codes "N" ∷ [] ∷ [] ∷ [] ∷ [] ∷ [] ∷ codes "N" ∷ [])
    (0 ∷ 0 ∷ 0 ∷ 0 ∷ 0 ∷ 0 ∷ 3 ∷ 0 ∷ 0 ∷ 0 ∷ 0 ∷ 0 ∷ 0 ∷ 0 ∷ 0 ∷ 0 ∷ 0 ∷ 0 ∷ 0 ∷ 0 ∷ 0 ∷ 1 ∷ [])

abbrev pub counter : Module
counter =
    more (one (own (store 1 (more (one (variables tree.int (one (given (one 4) (constant 6))))) tree.nothing))))
    (entry (procedure 12 13 tree.none (tree.some tree.int) (body no_locals (sequel (single (assign (one (tree.place (name 17))) (dyadic (up (named 19)) tree.plus 20 (figure 21)))) (return_with 23 24 (up (named 25))))) 27))

-- DATA D ; BYTE M ; ENDDATA ; PROC P ( ) ; M := M + 1 ENDPROC
abbrev pub narrow_text : Text
narrow_text =
    text_of ([] ∷ codes "D" ∷ [] ∷ [] ∷ codes "M" ∷ [] ∷ [] ∷ [] ∷ [] ∷ codes "P" ∷ [] ∷ [] ∷ [] ∷ codes "M" ∷ [] ∷ codes "M" ∷ []) (0 ∷ 0 ∷ 0 ∷ 0 ∷ 0 ∷ 0 ∷ 0 ∷ 0 ∷ 0 ∷ 0 ∷ 0 ∷ 0 ∷ 0 ∷ 0 ∷ 0 ∷ 0 ∷ 0 ∷ 1 ∷ [])

abbrev pub narrow : Module
narrow =
    more (one (own (store 1 (more (one (variables (tree.byte 3) (one (tree.plain 4)))) tree.nothing))))
    (own (procedure 9 10 tree.none tree.none (body no_locals (single (assign (one (tree.place (name 13))) (dyadic (up (named 15)) tree.plus 16 (figure 17))))) 18))

-- DATA D ; INT A ; ENDDATA ; PROC P ( ) ; INT A := A ; ENDPROC, the data variable hidden by the local
abbrev pub early_text : Text
early_text = text_of ([] ∷ codes "D" ∷ [] ∷ [] ∷ codes "A" ∷ [] ∷ [] ∷ [] ∷ [] ∷ codes "P" ∷ [] ∷ [] ∷ [] ∷ [] ∷ codes "A" ∷ [] ∷ codes "A" ∷ []) []

abbrev pub early : Module
early =
    more (one (own (store 1 (more (one (variables tree.int (one (tree.plain 4)))) tree.nothing))))
    (own (procedure 9 10 tree.none tree.none (body (locals no_locals (tree.local tree.int (one (given (one 14) (up (named 16)))))) (single tree.dummy)) 18))

-- DATA D ; REF INT R ; INT R ; ENDDATA: declared twice, before the reference without a value
abbrev pub twice_text : Text
twice_text = text_of ([] ∷ codes "D" ∷ [] ∷ [] ∷ [] ∷ codes "R" ∷ [] ∷ [] ∷ codes "R" ∷ []) []

abbrev pub twice : Module
twice = one (own (store 1 (more (more (one (variables tree.ref_int (one (tree.plain 5)))) (variables tree.int (one (tree.plain 8)))) tree.nothing)))

-- DATA D ; REF INT R ; ENDDATA
abbrev pub unset : Module
unset = one (own (store 1 (more (one (variables tree.ref_int (one (tree.plain 5)))) tree.nothing)))

-- the symbols of these texts
abbrev pub counter_symbols : List Symbol
counter_symbols =
    DATA ∷ NAME ∷ SEMI ∷ INT ∷ NAME ∷ BECOMES ∷ INTEGER ∷ SEMI ∷ ENDDATA ∷ SEMI ∷ ENT ∷ PROC ∷ NAME ∷ LEFT ∷ RIGHT ∷ INT ∷ SEMI ∷ NAME ∷ BECOMES ∷ NAME ∷ PLUS ∷ INTEGER ∷ SEMI ∷ RETURN ∷ LEFT ∷ NAME ∷ RIGHT ∷ ENDPROC ∷ []

abbrev pub narrow_symbols : List Symbol
narrow_symbols = DATA ∷ NAME ∷ SEMI ∷ BYTE ∷ NAME ∷ SEMI ∷ ENDDATA ∷ SEMI ∷ PROC ∷ NAME ∷ LEFT ∷ RIGHT ∷ SEMI ∷ NAME ∷ BECOMES ∷ NAME ∷ PLUS ∷ INTEGER ∷ ENDPROC ∷ []

abbrev pub early_symbols : List Symbol
early_symbols = DATA ∷ NAME ∷ SEMI ∷ INT ∷ NAME ∷ SEMI ∷ ENDDATA ∷ SEMI ∷ PROC ∷ NAME ∷ LEFT ∷ RIGHT ∷ SEMI ∷ INT ∷ NAME ∷ BECOMES ∷ NAME ∷ SEMI ∷ ENDPROC ∷ []

abbrev pub twice_symbols : List Symbol
twice_symbols = DATA ∷ NAME ∷ SEMI ∷ REF ∷ INT ∷ NAME ∷ SEMI ∷ INT ∷ NAME ∷ SEMI ∷ ENDDATA ∷ []

abbrev pub unset_symbols : List Symbol
unset_symbols = DATA ∷ NAME ∷ SEMI ∷ REF ∷ INT ∷ NAME ∷ SEMI ∷ ENDDATA ∷ []

pub record Examples : Type 0 where
  pub counter_made : Made counter counter_symbols
  pub narrow_made : Made narrow narrow_symbols
  pub early_made : Made early early_symbols
  pub twice_made : Made twice twice_symbols
  pub unset_made : Made unset unset_symbols
  pub empty_module : (x : Text) → Static x (one blank) (Ok tt)
  pub counter_accepted : Static counter_text counter (Ok tt)
  pub narrow_misfit : Static narrow_text narrow (Err (Misfit 15))
  pub used_early : Static early_text early (Err (WrongName 16))
  pub declared_twice : Static twice_text twice (Err (DeclaredTwice 8))
  pub without_value : Static twice_text unset (Err (NoValue 5))
