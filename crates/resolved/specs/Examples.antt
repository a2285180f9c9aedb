-- Examples: the resolved tree of a module, each item of the text with its number. Assumes nothing.
use Rattle.std.specs.Prelude.{◌≡◌, ℕ, true, false, List, [], ◌∷◌, Some, None, Ok, Err, codes, Option}
use Rattle.statics.specs.declared.Refusal.TheVariants.{Misfit}
use Rattle.grammar.specs.Symbols.{NAME, BYTE, DATA, ENDDATA, ENDPROC, INT, PROC, REF, RETURN, LEFT, RIGHT, PLUS, SEMI, BECOMES, MODE, ARRAY, EXT, LENGTH, LAND, INTEGER, COMMA, DOT, TEXT, MINUS, VAL, BLOCK, ENDBLOCK, WHILE, DO, REP, TO, IF, THEN, ELSEIF, ELSE, END, AND, LESS, HASH, EQUAL, MORE}
use Rattle.grammar.specs.declared.Symbol.{Symbol}
use Rattle.grammar.specs.Sentences.{Made}
use Rattle.grammar.specs.Trees.{up, plus, one, more, given, no_locals, locals, identifier, variables, store, procedure, own, Module, Expr, term, Term, primary, size, integer, variable, name, constant, only, once, repeated, and, Moditem, Many, Brick}
use Rattle.grammar.specs.Trees as tree
use Rattle.statics.specs.Modes.{int, byte, ref, records, Mode, simple, ref_array}
use Rattle.statics.specs.Modes
use Rattle.statics.specs.Scopes.{Text}
use Rattle.statics.specs.Values.{simply, several, recorded}
use Rattle.statics.specs.Examples.{text_of, named, counter_text, counter, narrow_text, narrow}
use Rattle.resolved.specs.Forms.{figure, stored, read, widened, dyadic, number, address, Datum, Procedure, Resolved, inbyte, outbyte, nothing, beside, Form, Aim, Fresh, Part, Span}
use Rattle.resolved.specs.Forms as form
use Rattle.resolved.specs.ResolveModules.{resolve_module}

-- of DATA D ; INT N := 3 ; ENDDATA ; ENT PROC MAIN ( ) INT ; N := N + 1 ; RETURN ( N ) ENDPROC
abbrev pub counter_datum : Datum
counter_datum = record { item = 4; shape = simply Modes.INT; modes = Modes.INT ∷ []; cells = Some (number int 3 ∷ []) }

abbrev pub counter_body : form.Body
counter_body =
    form.body []
    (form.sequel (form.single (form.assign (one (record { item = 17; mode = Modes.INT; form = stored 4 })) (dyadic plus 20 (read (stored 4)) (widened (figure byte 1)))))
    (form.return_with (read (stored 4))))

abbrev pub counter_main : Procedure
counter_main = record { item = 12; entry = true; takes = []; gives = Some Modes.INT; end = 27; slots = 0; body = counter_body }

abbrev pub counter_tree : Resolved
counter_tree = record { parts = form.datum counter_datum ∷ form.procedure counter_main ∷ []; places = record { item = 4; first = 0; size = 1 } ∷ [] }

-- DATA D ; REF INT R := N ; INT N ; ENDDATA ; PROC P ( BYTE A ) INT ; INT L := A ; RETURN ( R LAND A + L ) ENDPROC
abbrev pub sum_text : Text
sum_text =
    text_of
    ([] ∷ codes "D" ∷ [] ∷ [] ∷ [] ∷ codes "R" ∷ [] ∷ codes "N" ∷ [] ∷ [] ∷ codes "N" ∷ [] ∷ [] ∷ [] ∷ [] ∷ codes "P" ∷ [] ∷ [] ∷ codes "A" ∷ [] ∷ [] ∷ [] ∷ [] ∷ codes "L" ∷ [] ∷ codes "A" ∷ [] ∷ [] ∷ [] ∷ codes "R" ∷ [] ∷ codes "A" ∷ [] ∷ codes "L" ∷ [])
    []

abbrev pub named_term : ℕ → Expr 0
named_term n = term (primary (variable (name n)))

abbrev pub sum_module : Module
sum_module =
    more (one (own (store 1 (more (more (one (variables tree.ref_int (one (given (one 5) (identifier 7))))) (variables tree.int (one (tree.plain 10)))) tree.nothing))))
    (own (procedure 15 16 (tree.some (tree.field (tree.byte 17) 18)) (tree.some tree.int) (tree.body (locals no_locals (tree.local tree.int (one (given (one 23) (up (named 25)))))) (tree.single (tree.return_with 27 28 (tree.dyadic (up (up (up (tree.dyadic (up (up (named_term 29))) tree.land 30 (up (named_term 31)))))) plus 32 (named 33))))) 35))

abbrev pub sum_symbols : List Symbol
sum_symbols =
    DATA ∷ NAME ∷ SEMI ∷ REF ∷ INT ∷ NAME ∷ BECOMES ∷ NAME ∷ SEMI ∷ INT ∷ NAME ∷ SEMI ∷ ENDDATA ∷ SEMI ∷ PROC ∷ NAME ∷ LEFT ∷ BYTE ∷ NAME ∷ RIGHT ∷ INT ∷ SEMI ∷ INT ∷ NAME ∷ BECOMES ∷ NAME ∷ SEMI ∷ RETURN ∷ LEFT ∷ NAME ∷ LAND ∷ NAME ∷ PLUS ∷ NAME ∷ RIGHT ∷ ENDPROC ∷ []

-- the parameter has slot 0, the local slot 1; the reference is read, and then what it refers to; a BYTE beside it is widened
abbrev pub sum_body : form.Body
sum_body =
    form.body (record { first = 1; count = 1; mode = Modes.INT; start = Some (widened (read (form.local 0))) } ∷ [])
    (form.single (form.return_with (dyadic plus 32 (dyadic tree.land 30 (read (read (stored 5))) (widened (read (form.local 0)))) (read (form.local 1)))))

abbrev pub sum_tree : Resolved
sum_tree = record {
  parts =
      form.datum (record { item = 5; shape = simply (ref int); modes = ref int ∷ []; cells = Some (address 10 ∷ []) })
      ∷ form.datum (record { item = 10; shape = simply Modes.INT; modes = Modes.INT ∷ []; cells = None })
      ∷ form.procedure (record { item = 15; entry = false; takes = Modes.BYTE ∷ []; gives = Some Modes.INT; end = 35; slots = 2; body = sum_body })
      ∷ [];
  places = record { item = 5; first = 0; size = 1 } ∷ record { item = 10; first = 1; size = 1 } ∷ [];
}

-- MODE M ( INT X , BYTE Y ) ; DATA D ; ARRAY ( 2 ) M A := ( ( 1 , 2 ) ( 2 ) ) ; ENDDATA ; EXT PROC ( ) INT INBYTE ; EXT PROC ( BYTE ) OUTBYTE ; PROC P ( ) ; OUTBYTE ( BYTE INBYTE ( ) ) ; A ( 1 ) . X := LENGTH A ENDPROC
abbrev pub echo_text : Text
echo_text =
    text_of
    ([] ∷ codes "M" ∷ [] ∷ [] ∷ codes "X" ∷ [] ∷ [] ∷ codes "Y" ∷ [] ∷ [] ∷ [] ∷ codes "D" ∷ [] ∷ [] ∷ [] ∷ [] ∷ [] ∷ codes "M" ∷ codes "A" ∷ [] ∷ [] ∷ [] ∷ [] ∷ [] ∷ [] ∷ [] ∷ [] ∷ [] ∷ [] ∷ [] ∷ [] ∷ [] ∷ [] ∷ [] ∷ [] ∷ [] ∷ [] ∷ [] ∷ codes "INBYTE" ∷ [] ∷ [] ∷ [] ∷ [] ∷ [] ∷ [] ∷ codes "OUTBYTE" ∷ [] ∷ [] ∷ codes "P" ∷ [] ∷ [] ∷ [] ∷ codes "OUTBYTE" ∷ [] ∷ [] ∷ codes "INBYTE" ∷ [] ∷ [] ∷ [] ∷ [] ∷ codes "A" ∷ [] ∷ [] ∷ [] ∷ [] ∷ codes "X" ∷ [] ∷ [] ∷ codes "A" ∷ [] ∷ [])
    (0 ∷ 0 ∷ 0 ∷ 0 ∷ 0 ∷ 0 ∷ 0 ∷ 0 ∷ 0 ∷ 0 ∷ 0 ∷ 0 ∷ 0 ∷ 0 ∷ 0 ∷ 2 ∷ 0 ∷ 0 ∷ 0 ∷ 0 ∷ 0 ∷ 0 ∷ 1 ∷ 0 ∷ 2 ∷ 0 ∷ 0 ∷ 2 ∷ 0 ∷ 0 ∷ 0 ∷ 0 ∷ 0 ∷ 0 ∷ 0 ∷ 0 ∷ 0 ∷ 0 ∷ 0 ∷ 0 ∷ 0 ∷ 0 ∷ 0 ∷ 0 ∷ 0 ∷ 0 ∷ 0 ∷ 0 ∷ 0 ∷ 0 ∷ 0 ∷ 0 ∷ 0 ∷ 0 ∷ 0 ∷ 0 ∷ 0 ∷ 0 ∷ 0 ∷ 0 ∷ 0 ∷ 0 ∷ 1 ∷ [])

abbrev pub echo_symbols : List Symbol
echo_symbols =
    MODE ∷ NAME ∷ LEFT ∷ INT ∷ NAME ∷ COMMA ∷ BYTE ∷ NAME ∷ RIGHT ∷ SEMI ∷ DATA ∷ NAME ∷ SEMI ∷ ARRAY ∷ LEFT ∷ INTEGER ∷ RIGHT ∷ NAME ∷ NAME ∷ BECOMES ∷ LEFT ∷ LEFT ∷ INTEGER ∷ COMMA ∷ INTEGER ∷ RIGHT ∷ LEFT ∷ INTEGER ∷ RIGHT ∷ RIGHT ∷ SEMI ∷ ENDDATA ∷ SEMI ∷ EXT ∷ PROC ∷ LEFT ∷ RIGHT ∷ INT ∷ NAME ∷ SEMI ∷ EXT ∷ PROC ∷ LEFT ∷ BYTE ∷ RIGHT ∷ NAME ∷ SEMI ∷ PROC ∷ NAME ∷ LEFT ∷ RIGHT ∷ SEMI ∷ NAME ∷ LEFT ∷ BYTE ∷ NAME ∷ LEFT ∷ RIGHT ∷ RIGHT ∷ SEMI ∷ NAME ∷ LEFT ∷ INTEGER ∷ RIGHT ∷ DOT ∷ NAME ∷ BECOMES ∷ LENGTH ∷ NAME ∷ ENDPROC ∷ []

-- an expression that is a term
abbrev pub alone : Term → Expr 5
alone t = up (up (up (up (up (term t)))))

abbrev pub echo_mode : Moditem
echo_mode = tree.record_mode 1 2 (tree.next (tree.field tree.int 4) (tree.byte 6) 7)

abbrev pub echo_data : Moditem
echo_data =
    own (store 11
    (more (one (tree.arrays 14 15 (tree.records 17) (one (given (one 18) (tree.list 20 (only (repeated (tree.list 21 (and (only (once (constant 22))) (once (constant 24)))) 26 27))))))) tree.nothing))

abbrev pub echo_procedure : Moditem
echo_procedure =
    own (procedure 48 49 tree.none tree.none
    (tree.body no_locals
    (tree.sequel (tree.single (tree.invoke_on 52 53 (tree.first (alone (tree.monadic tree.narrow 54 (primary (tree.call 55 56)))))))
    (tree.assign (one (tree.place (tree.component (tree.element (name 60) 61 (alone (primary (integer 62)))) 65))) (alone (tree.monadic size 67 (primary (variable (name 68))))))))
    69)

abbrev pub echo : Module
echo =
    more (more (more (more (one echo_mode) echo_data) (tree.external_procs 35 tree.none (tree.some tree.int) (one 38))) (tree.external_procs 42 (tree.some (one (tree.byte 43))) tree.none (one 45))) echo_procedure

-- two records of an INT and a BYTE; what INBYTE gives goes to OUTBYTE; the component of an element gets the length
abbrev pub echo_datum : Datum
echo_datum = record {
  item = 18;
  shape = several 2 (records (codes "M"));
  modes = Modes.INT ∷ Modes.BYTE ∷ Modes.INT ∷ Modes.BYTE ∷ [];
  cells = Some (number int 1 ∷ number byte 2 ∷ number int 1 ∷ number byte 2 ∷ []);
}

abbrev pub echo_body : form.Body
echo_body =
    form.body []
    (form.sequel (form.single (form.invoke 52 outbyte (beside nothing (form.monadic tree.narrow 54 (form.call 55 inbyte nothing)))))
    (form.assign (one (record { item = 60; mode = Modes.INT; form = form.component (form.element (stored 18) 61 (widened (figure byte 1))) 0 })) (form.monadic size 67 (stored 18))))

abbrev pub echo_tree : Resolved
echo_tree = record {
  parts =
      form.datum echo_datum ∷ form.procedure (record { item = 48; entry = false; takes = []; gives = None; end = 69; slots = 0; body = echo_body }) ∷ [];
  places = record { item = 18; first = 0; size = 4 } ∷ [];
}

-- MODE L ( INT Z ) ; MODE M ( INT X , BYTE Y ) ; DATA D ; ARRAY ( 2 ) BYTE T := "AB" ; REF ARRAY BYTE S := "C" ; INT A , B := C := - 1 ; REF INT R := A ; M V := ( 1 , 2 ) ENDDATA ; PROC P ( REF ARRAY BYTE E , INT F ) ; VAL R := F ; V . Y := E ( 1 ) ENDPROC ; PROC Q ( ) ; P ( "D" , V . Y ) ENDPROC
abbrev pub words_text : Text
words_text =
    text_of
    ([] ∷ codes "L" ∷ [] ∷ [] ∷ codes "Z" ∷ [] ∷ [] ∷ [] ∷ codes "M" ∷ [] ∷ [] ∷ codes "X" ∷ [] ∷ [] ∷ codes "Y" ∷ [] ∷ [] ∷ [] ∷ codes "D" ∷ [] ∷ [] ∷ [] ∷ [] ∷ [] ∷ [] ∷ codes "T" ∷ [] ∷ codes "AB" ∷ [] ∷ [] ∷ [] ∷ [] ∷ codes "S" ∷ [] ∷ codes "C" ∷ [] ∷ [] ∷ codes "A" ∷ [] ∷ codes "B" ∷ [] ∷ codes "C" ∷ [] ∷ [] ∷ [] ∷ [] ∷ [] ∷ [] ∷ codes "R" ∷ [] ∷ codes "A" ∷ [] ∷ codes "M" ∷ codes "V" ∷ [] ∷ [] ∷ [] ∷ [] ∷ [] ∷ [] ∷ [] ∷ [] ∷ [] ∷ codes "P" ∷ [] ∷ [] ∷ [] ∷ [] ∷ codes "E" ∷ [] ∷ [] ∷ codes "F" ∷ [] ∷ [] ∷ [] ∷ codes "R" ∷ [] ∷ codes "F" ∷ [] ∷ codes "V" ∷ [] ∷ codes "Y" ∷ [] ∷ codes "E" ∷ [] ∷ [] ∷ [] ∷ [] ∷ [] ∷ [] ∷ codes "Q" ∷ [] ∷ [] ∷ [] ∷ codes "P" ∷ [] ∷ codes "D" ∷ [] ∷ codes "V" ∷ [] ∷ codes "Y" ∷ [])
    (0 ∷ 0 ∷ 0 ∷ 0 ∷ 0 ∷ 0 ∷ 0 ∷ 0 ∷ 0 ∷ 0 ∷ 0 ∷ 0 ∷ 0 ∷ 0 ∷ 0 ∷ 0 ∷ 0 ∷ 0 ∷ 0 ∷ 0 ∷ 0 ∷ 0 ∷ 2 ∷ 0 ∷ 0 ∷ 0 ∷ 0 ∷ 0 ∷ 0 ∷ 0 ∷ 0 ∷ 0 ∷ 0 ∷ 0 ∷ 0 ∷ 0 ∷ 0 ∷ 0 ∷ 0 ∷ 0 ∷ 0 ∷ 0 ∷ 0 ∷ 0 ∷ 1 ∷ 0 ∷ 0 ∷ 0 ∷ 0 ∷ 0 ∷ 0 ∷ 0 ∷ 0 ∷ 0 ∷ 0 ∷ 0 ∷ 1 ∷ 0 ∷ 2 ∷ 0 ∷ 0 ∷ 0 ∷ 0 ∷ 0 ∷ 0 ∷ 0 ∷ 0 ∷ 0 ∷ 0 ∷ 0 ∷ 0 ∷ 0 ∷ 0 ∷ 0 ∷ 0 ∷ 0 ∷ 0 ∷ 0 ∷ 0 ∷ 0 ∷ 0 ∷ 0 ∷ 0 ∷ 0 ∷ 0 ∷ 1 ∷ [])

abbrev pub words_symbols : List Symbol
words_symbols =
    MODE ∷ NAME ∷ LEFT ∷ INT ∷ NAME ∷ RIGHT ∷ SEMI ∷ MODE ∷ NAME ∷ LEFT ∷ INT ∷ NAME ∷ COMMA ∷ BYTE ∷ NAME ∷ RIGHT ∷ SEMI ∷ DATA ∷ NAME ∷ SEMI ∷ ARRAY ∷ LEFT ∷ INTEGER ∷ RIGHT ∷ BYTE ∷ NAME ∷ BECOMES ∷ TEXT ∷ SEMI ∷ REF ∷ ARRAY ∷ BYTE ∷ NAME ∷ BECOMES ∷ TEXT ∷ SEMI ∷ INT ∷ NAME ∷ COMMA ∷ NAME ∷ BECOMES ∷ NAME ∷ BECOMES ∷ MINUS ∷ INTEGER ∷ SEMI ∷ REF ∷ INT ∷ NAME ∷ BECOMES ∷ NAME ∷ SEMI ∷ NAME ∷ NAME ∷ BECOMES ∷ LEFT ∷ INTEGER ∷ COMMA ∷ INTEGER ∷ RIGHT ∷ ENDDATA ∷ SEMI ∷ PROC ∷ NAME ∷ LEFT ∷ REF ∷ ARRAY ∷ BYTE ∷ NAME ∷ COMMA ∷ INT ∷ NAME ∷ RIGHT ∷ SEMI ∷ VAL ∷ NAME ∷ BECOMES ∷ NAME ∷ SEMI ∷ NAME ∷ DOT ∷ NAME ∷ BECOMES ∷ NAME ∷ LEFT ∷ INTEGER ∷ RIGHT ∷ ENDPROC ∷ SEMI ∷ PROC ∷ NAME ∷ LEFT ∷ RIGHT ∷ SEMI ∷ NAME ∷ LEFT ∷ TEXT ∷ COMMA ∷ NAME ∷ DOT ∷ NAME ∷ RIGHT ∷ ENDPROC ∷ []

abbrev pub bytes : ℕ → tree.Amode
bytes n = tree.simple (tree.byte n)

abbrev pub words_data : Many (tree.Dec (Many (tree.Init tree.Value)))
words_data =
    more (more (more (more (one (tree.arrays 21 22 (bytes 24) (one (given (one 25) (tree.string 27)))))
    (variables (tree.ref_array (bytes 31)) (one (given (one 32) (tree.string 34)))))
    (variables tree.int (more (one (tree.plain 37)) (given (more (one 39) 41) (tree.minus_signed 43 44)))))
    (variables tree.ref_int (one (given (one 48) (identifier 50)))))
    (tree.structures 52 (one (given (one 53) (tree.list 55 (and (only (once (constant 56))) (once (constant 58)))))))

abbrev pub words_taken : Brick
words_taken =
    procedure 63 64 (tree.some (tree.next (tree.field (tree.ref_array (bytes 67)) 68) tree.int 71)) tree.none
    (tree.body no_locals
    (tree.sequel (tree.single (tree.assign (one (tree.val 74 (name 75))) (up (named 77))))
    (tree.assign (one (tree.place (tree.component (name 79) 81))) (alone (primary (variable (tree.element (name 83) 84 (alone (primary (integer 85))))))))))
    87

abbrev pub words_given : Brick
words_given =
    procedure 90 91 tree.none tree.none
    (tree.body no_locals (tree.single (tree.invoke_on 94 95 (tree.comma (tree.first (alone (primary (tree.text 96)))) (alone (primary (variable (tree.component (name 98) 100))))))))
    102

abbrev pub words : Module
words =
    more (more (more (more (one (tree.record_mode 1 2 (tree.field tree.int 4))) (tree.record_mode 8 9 (tree.next (tree.field tree.int 11) (tree.byte 13) 14))) (own (store 18 words_data))) (own words_taken)) (own words_given)

-- a data variable of a mode, with what it holds
abbrev pub datum_of : ℕ → Mode → Option (List form.Cell) → Part
datum_of n m o = form.datum (record { item = n; shape = simply m; modes = m ∷ []; cells = o })

abbrev pub words_taken_body : form.Body
words_taken_body =
    form.body []
    (form.sequel (form.single (form.assign (one (record { item = 74; mode = Modes.INT; form = read (stored 48) })) (read (form.local 1))))
    (form.assign (one (record { item = 79; mode = Modes.BYTE; form = form.component (stored 53) 1 })) (read (form.element (read (form.local 0)) 84 (widened (figure byte 1))))))

abbrev pub words_given_body : form.Body
words_given_body = form.body [] (form.single (form.invoke 94 (form.own 63) (beside (beside nothing (form.string 96)) (widened (read (form.component (stored 53) 1))))))

-- a string fills an array or gives its address; names that share a value have it each; behind VAL the reference is read; Y is the second component of its record mode
abbrev pub words_parts : List Part
words_parts =
    form.datum (record { item = 25; shape = several 2 (simple Modes.BYTE); modes = Modes.BYTE ∷ Modes.BYTE ∷ []; cells = Some (form.byte_of 27 0 ∷ form.byte_of 27 1 ∷ []) })
    ∷ datum_of 32 (ref_array (simple Modes.BYTE)) (Some (form.string_address 34 ∷ []))
    ∷ datum_of 37 Modes.INT None
    ∷ datum_of 39 Modes.INT (Some (form.minus 1 ∷ []))
    ∷ datum_of 41 Modes.INT (Some (form.minus 1 ∷ []))
    ∷ datum_of 48 (ref int) (Some (address 37 ∷ []))
    ∷ form.datum (record { item = 53; shape = recorded (codes "M"); modes = Modes.INT ∷ Modes.BYTE ∷ []; cells = Some (number int 1 ∷ number byte 2 ∷ []) })
    ∷ form.procedure (record { item = 63; entry = false; takes = ref_array (simple Modes.BYTE) ∷ Modes.INT ∷ []; gives = None; end = 87; slots = 2; body = words_taken_body })
    ∷ form.procedure (record { item = 90; entry = false; takes = []; gives = None; end = 102; slots = 0; body = words_given_body })
    ∷ []

abbrev pub span : ℕ → ℕ → ℕ → Span
span n p k = record { item = n; first = p; size = k }

abbrev pub words_tree : Resolved
words_tree = record {
  parts = words_parts;
  places = span 25 0 2 ∷ span 27 2 2 ∷ span 32 4 1 ∷ span 34 5 1 ∷ span 37 6 1 ∷ span 39 7 1 ∷ span 41 8 1 ∷ span 48 9 1 ∷ span 53 10 2 ∷ span 96 12 1 ∷ [];
}

-- PROC F ( INT A , BYTE B ) INT ; INT C , D := E := B ; BLOCK INT G ; G := A ENDBLOCK ; BLOCK INT G , H ; BLOCK BYTE K := B ; H := K ENDBLOCK ; G := H ENDBLOCK ; WHILE C < D AND A # B DO C := F ( C , 1 ) REP ; TO C DO INT G ; G := E REP ; IF C = 0 THEN RETURN ( D ) ELSEIF E > 1 THEN C := E ELSE D := C := 1 END ; RETURN ( E ) ENDPROC
abbrev pub blocks_text : Text
blocks_text =
    text_of
    ([] ∷ codes "F" ∷ [] ∷ [] ∷ codes "A" ∷ [] ∷ [] ∷ codes "B" ∷ [] ∷ [] ∷ [] ∷ [] ∷ codes "C" ∷ [] ∷ codes "D" ∷ [] ∷ codes "E" ∷ [] ∷ codes "B" ∷ [] ∷ [] ∷ [] ∷ codes "G" ∷ [] ∷ codes "G" ∷ [] ∷ codes "A" ∷ [] ∷ [] ∷ [] ∷ [] ∷ codes "G" ∷ [] ∷ codes "H" ∷ [] ∷ [] ∷ [] ∷ codes "K" ∷ [] ∷ codes "B" ∷ [] ∷ codes "H" ∷ [] ∷ codes "K" ∷ [] ∷ [] ∷ codes "G" ∷ [] ∷ codes "H" ∷ [] ∷ [] ∷ [] ∷ codes "C" ∷ [] ∷ codes "D" ∷ [] ∷ codes "A" ∷ [] ∷ codes "B" ∷ [] ∷ codes "C" ∷ [] ∷ codes "F" ∷ [] ∷ codes "C" ∷ [] ∷ [] ∷ [] ∷ [] ∷ [] ∷ [] ∷ codes "C" ∷ [] ∷ [] ∷ codes "G" ∷ [] ∷ codes "G" ∷ [] ∷ codes "E" ∷ [] ∷ [] ∷ [] ∷ codes "C" ∷ [] ∷ [] ∷ [] ∷ [] ∷ [] ∷ codes "D" ∷ [] ∷ [] ∷ codes "E" ∷ [] ∷ [] ∷ [] ∷ codes "C" ∷ [] ∷ codes "E" ∷ [] ∷ codes "D" ∷ [] ∷ codes "C" ∷ [] ∷ [] ∷ [] ∷ [] ∷ [] ∷ [] ∷ codes "E" ∷ [])
    (0 ∷ 0 ∷ 0 ∷ 0 ∷ 0 ∷ 0 ∷ 0 ∷ 0 ∷ 0 ∷ 0 ∷ 0 ∷ 0 ∷ 0 ∷ 0 ∷ 0 ∷ 0 ∷ 0 ∷ 0 ∷ 0 ∷ 0 ∷ 0 ∷ 0 ∷ 0 ∷ 0 ∷ 0 ∷ 0 ∷ 0 ∷ 0 ∷ 0 ∷ 0 ∷ 0 ∷ 0 ∷ 0 ∷ 0 ∷ 0 ∷ 0 ∷ 0 ∷ 0 ∷ 0 ∷ 0 ∷ 0 ∷ 0 ∷ 0 ∷ 0 ∷ 0 ∷ 0 ∷ 0 ∷ 0 ∷ 0 ∷ 0 ∷ 0 ∷ 0 ∷ 0 ∷ 0 ∷ 0 ∷ 0 ∷ 0 ∷ 0 ∷ 0 ∷ 0 ∷ 0 ∷ 0 ∷ 0 ∷ 0 ∷ 0 ∷ 0 ∷ 1 ∷ 0 ∷ 0 ∷ 0 ∷ 0 ∷ 0 ∷ 0 ∷ 0 ∷ 0 ∷ 0 ∷ 0 ∷ 0 ∷ 0 ∷ 0 ∷ 0 ∷ 0 ∷ 0 ∷ 0 ∷ 0 ∷ 0 ∷ 0 ∷ 0 ∷ 0 ∷ 0 ∷ 0 ∷ 0 ∷ 0 ∷ 1 ∷ 0 ∷ 0 ∷ 0 ∷ 0 ∷ 0 ∷ 0 ∷ 0 ∷ 0 ∷ 0 ∷ 1 ∷ [])

abbrev pub blocks_symbols : List Symbol
blocks_symbols =
    PROC ∷ NAME ∷ LEFT ∷ INT ∷ NAME ∷ COMMA ∷ BYTE ∷ NAME ∷ RIGHT ∷ INT ∷ SEMI ∷ INT ∷ NAME ∷ COMMA ∷ NAME ∷ BECOMES ∷ NAME ∷ BECOMES ∷ NAME ∷ SEMI ∷ BLOCK ∷ INT ∷ NAME ∷ SEMI ∷ NAME ∷ BECOMES ∷ NAME ∷ ENDBLOCK ∷ SEMI ∷ BLOCK ∷ INT ∷ NAME ∷ COMMA ∷ NAME ∷ SEMI ∷ BLOCK ∷ BYTE ∷ NAME ∷ BECOMES ∷ NAME ∷ SEMI ∷ NAME ∷ BECOMES ∷ NAME ∷ ENDBLOCK ∷ SEMI ∷ NAME ∷ BECOMES ∷ NAME ∷ ENDBLOCK ∷ SEMI ∷ WHILE ∷ NAME ∷ LESS ∷ NAME ∷ AND ∷ NAME ∷ HASH ∷ NAME ∷ DO ∷ NAME ∷ BECOMES ∷ NAME ∷ LEFT ∷ NAME ∷ COMMA ∷ INTEGER ∷ RIGHT ∷ REP ∷ SEMI ∷ TO ∷ NAME ∷ DO ∷ INT ∷ NAME ∷ SEMI ∷ NAME ∷ BECOMES ∷ NAME ∷ REP ∷ SEMI ∷ IF ∷ NAME ∷ EQUAL ∷ INTEGER ∷ THEN ∷ RETURN ∷ LEFT ∷ NAME ∷ RIGHT ∷ ELSEIF ∷ NAME ∷ MORE ∷ INTEGER ∷ THEN ∷ NAME ∷ BECOMES ∷ NAME ∷ ELSE ∷ NAME ∷ BECOMES ∷ NAME ∷ BECOMES ∷ INTEGER ∷ END ∷ SEMI ∷ RETURN ∷ LEFT ∷ NAME ∷ RIGHT ∷ ENDPROC ∷ []

-- the name at n; a name that gets what another one has; locals without values
abbrev pub name_at : ℕ → Expr 5
name_at n = up (named n)

abbrev pub lone : ℕ → Expr 5
lone n = alone (primary (integer n))

abbrev pub move : ℕ → Expr 5 → tree.Statement
move n e = tree.assign (one (tree.place (name n))) e

abbrev pub local_of : tree.Mode → Many (tree.Init (Expr 5)) → tree.Locals
local_of m is = locals no_locals (tree.local m is)

abbrev pub first_block : tree.Body
first_block = tree.body (local_of tree.int (one (tree.plain 22))) (tree.single (move 24 (name_at 26)))

abbrev pub second_block : tree.Body
second_block =
    tree.body (local_of tree.int (more (one (tree.plain 31)) (tree.plain 33)))
    (tree.sequel (tree.single (tree.block (tree.body (local_of (tree.byte 36) (one (given (one 37) (name_at 39)))) (tree.single (move 41 (name_at 43)))))) (move 46 (name_at 48)))

abbrev pub while_loop : tree.Statement
while_loop =
    tree.loop (one (more (one (tree.compare (name_at 52) tree.less (name_at 54))) (tree.compare (name_at 56) tree.unequal (name_at 58))))
    (tree.single (move 60 (alone (primary (tree.call_on 62 63 (tree.first (name_at 64)) (lone 66))))))

abbrev pub to_loop : tree.Statement
to_loop = tree.repeat (name_at 71) (tree.body (local_of tree.int (one (tree.plain 74))) (tree.single (move 76 (name_at 78))))

abbrev pub choice : tree.Statement
choice =
    tree.branch_else
    (tree.elsewhen (tree.when (one (one (tree.compare (name_at 82) tree.equal (lone 84)))) (tree.single (tree.return_with 86 87 (name_at 88))))
    (one (one (tree.compare (name_at 91) tree.greater (lone 93)))) (tree.single (move 95 (name_at 97))))
    (tree.single (tree.assign (more (one (tree.place (name 99))) (tree.place (name 101))) (lone 103)))

abbrev pub blocks : Module
blocks =
    one (own (procedure 1 2 (tree.some (tree.next (tree.field tree.int 4) (tree.byte 6) 7)) (tree.some tree.int)
    (tree.body (local_of tree.int (more (one (tree.plain 12)) (given (more (one 14) 16) (name_at 18))))
    (tree.sequel (tree.sequel (tree.sequel (tree.sequel (tree.sequel (tree.single (tree.block first_block)) (tree.block second_block)) while_loop) to_loop) choice) (tree.return_with 106 107 (name_at 108))))
    110))

-- so many locals from a slot on, without a value; a local's contents; and a local that gets something
abbrev pub fresh_of : ℕ → ℕ → Mode → Option Form → Fresh
fresh_of s n m o = record { first = s; count = n; mode = m; start = o }

abbrev pub held : ℕ → Form
held s = read (form.local s)

abbrev pub aim_of : ℕ → ℕ → Aim
aim_of n s = record { item = n; mode = Modes.INT; form = form.local s }

abbrev pub put : ℕ → ℕ → Form → form.Statement
put n s x = form.assign (one (aim_of n s)) x

-- A and B have the slots 0 and 1; C, D and E 2 to 4; G of the first block has 5, as G of the second, behind which come H and, in the block inside, K; G in the loop has 5 too
abbrev pub first_resolved : form.Body
first_resolved = form.body (fresh_of 5 1 Modes.INT None ∷ []) (form.single (put 24 5 (held 0)))

abbrev pub second_resolved : form.Body
second_resolved =
    form.body (fresh_of 5 1 Modes.INT None ∷ fresh_of 6 1 Modes.INT None ∷ [])
    (form.sequel (form.single (form.block (form.body (fresh_of 7 1 Modes.BYTE (Some (held 1)) ∷ []) (form.single (put 41 6 (widened (held 7))))))) (put 46 5 (held 6)))

abbrev pub while_resolved : form.Statement
while_resolved =
    form.loop (one (more (one (form.compare tree.less (held 2) (held 3))) (form.compare tree.unequal (held 0) (widened (held 1)))))
    (form.single (put 60 2 (form.call 62 (form.own 1) (beside (beside nothing (held 2)) (figure byte 1)))))

abbrev pub to_resolved : form.Statement
to_resolved = form.repeat (held 2) (form.body (fresh_of 5 1 Modes.INT None ∷ []) (form.single (put 76 5 (held 4))))

abbrev pub choice_resolved : form.Statement
choice_resolved =
    form.branch_else
    (form.elsewhen (form.when (one (one (form.compare tree.equal (held 2) (widened (figure byte 0))))) (form.single (form.return_with (held 3))))
    (one (one (form.compare tree.greater (held 4) (widened (figure byte 1))))) (form.single (put 95 2 (held 4))))
    (form.single (form.assign (more (one (aim_of 99 3)) (aim_of 101 2)) (widened (figure byte 1))))

abbrev pub blocks_body : form.Body
blocks_body =
    form.body (fresh_of 2 1 Modes.INT None ∷ fresh_of 3 2 Modes.INT (Some (widened (held 1))) ∷ [])
    (form.sequel (form.sequel (form.sequel (form.sequel (form.sequel (form.single (form.block first_resolved)) (form.block second_resolved)) while_resolved) to_resolved) choice_resolved) (form.return_with (held 4)))

abbrev pub blocks_tree : Resolved
blocks_tree = record {
  parts = form.procedure (record { item = 1; entry = false; takes = Modes.INT ∷ Modes.BYTE ∷ []; gives = Some Modes.INT; end = 110; slots = 10; body = blocks_body }) ∷ [];
  places = [];
}

pub record Examples : Type 0 where
  pub counter_resolved : resolve_module counter_text counter ≡ Ok counter_tree
  pub sum_made : Made sum_module sum_symbols
  pub sum_resolved : resolve_module sum_text sum_module ≡ Ok sum_tree
  pub echo_made : Made echo echo_symbols
  pub echo_resolved : resolve_module echo_text echo ≡ Ok echo_tree
  pub words_made : Made words words_symbols
  pub words_resolved : resolve_module words_text words ≡ Ok words_tree
  pub blocks_made : Made blocks blocks_symbols
  pub blocks_resolved : resolve_module blocks_text blocks ≡ Ok blocks_tree
  pub narrow_refused : resolve_module narrow_text narrow ≡ Err (Misfit 15)
