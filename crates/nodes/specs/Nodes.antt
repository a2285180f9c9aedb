-- Which tree the nodes stand for. Assumes nothing.
use Rattle.std.specs.Prelude.{◌≡◌, ℕ, ◌<◌, List, slice_index_or}
use Rattle.grammar.specs.Trees.{spell, spell_monadic, Expr, term, up, dyadic, Term, monadic, primary, Primary, integer, text, variable, call, call_on, paren, Variable, name, element, component, Exprs, first, comma, Many, one, more, Opt, none, some, spell_comparator, Comparison, compare, Subcondition, Condition, Mode, int, byte, ref_int, ref_byte, ref_record, ref_array, ref_array_brackets, Amode, simple, records, Fields, field, also, next, Init, plain, given, Value, constant, signed, minus_signed, identifier, string, empty_list, list, Values, only, and, Entry, once, repeated, Dec, nothing, variables, arrays, structures, Local, local, Locals, no_locals, locals, Destination, place, val, Body, body, Sequence, single, sequel, Statement, dummy, block, assign, invoke, invoke_on, branch, branch_else, repeat, loop, return, return_with, Arms, when, elsewhen, Brick, store, procedure, Moditem, blank, external_procs, external_store, record_mode, own, entry, Module}
use Rattle.nodes.specs.declared.Node.{Node}
use Rattle.nodes.specs.declared.Node.TheVariants.{Integer, Text, Name, Element, Component, Call, CallOn, Paren, Monadic, Dyadic, Also, Absent, Compare, Int, Byte, RefInt, RefByte, RefRecord, RefArray, RefArrayBrackets, Records, Field, AlsoField, NextField, Plain, Given, Constant, Signed, MinusSigned, Identifier, Literal, EmptyList, List as ListNode, Repeated, Nothing, Variables, Arrays, Structures, Local as LocalNode, NoLocals, Locals as LocalsNode, Val, Body as BodyNode, Dummy, Block, Assign, Invoke, InvokeOn, Branch, BranchElse, Repeat, Loop, Return, ReturnWith, When, Store, Heading, Procedure, Blank, ExternalProcs, ExternalStore, RecordMode, Own, Ent}

abbrev pub blank_node : Node
blank_node = Integer 0

abbrev pub At : List Node → ℕ → Node → Type 0
At ns k n = slice_index_or ns k blank_node ≡ n

abbrev mutual
  pub IsExpr : {n : ℕ} → Expr n → List Node → ℕ → Type 0
  IsExpr (term t) ns k = IsTerm t ns k
  IsExpr (up e) ns k = IsExpr e ns k
  IsExpr (dyadic a o i b) ns k = (l : ℕ) × (r : ℕ) × (l < k) × (r < k) × At ns k (Dyadic (spell o) i l r) × IsExpr a ns l × IsExpr b ns r

  pub IsTerm : Term → List Node → ℕ → Type 0
  IsTerm (monadic o i t) ns k = (r : ℕ) × (r < k) × At ns k (Monadic (spell_monadic o) i r) × IsTerm t ns r
  IsTerm (primary p) ns k = IsPrimary p ns k

  pub IsPrimary : Primary → List Node → ℕ → Type 0
  IsPrimary (integer i) ns k = At ns k (Integer i)
  IsPrimary (text i) ns k = At ns k (Text i)
  IsPrimary (variable x) ns k = IsVariable x ns k
  IsPrimary (call n i) ns k = At ns k (Call n i)
  IsPrimary (call_on n i es e) ns k = (m : ℕ) × (l : ℕ) × (r : ℕ) × (m < k) × (l < m) × (r < m) × At ns k (CallOn n i m) × At ns m (Also l r) × IsExprs es ns l × IsExpr e ns r
  IsPrimary (paren i e) ns k = (r : ℕ) × (r < k) × At ns k (Paren i r) × IsExpr e ns r

  pub IsVariable : Variable → List Node → ℕ → Type 0
  IsVariable (name n) ns k = At ns k (Name n)
  IsVariable (element x i e) ns k = (l : ℕ) × (r : ℕ) × (l < k) × (r < k) × At ns k (Element l i r) × IsVariable x ns l × IsExpr e ns r
  IsVariable (component x n) ns k = (l : ℕ) × (l < k) × At ns k (Component l n) × IsVariable x ns l

  pub IsExprs : Exprs → List Node → ℕ → Type 0
  IsExprs (first e) ns k = IsExpr e ns k
  IsExprs (comma es e) ns k = (l : ℕ) × (r : ℕ) × (l < k) × (r < k) × At ns k (Also l r) × IsExprs es ns l × IsExpr e ns r

-- what nodes a tree of A has
abbrev pub Reading : Type 0 → Type 1
Reading A = A → List Node → ℕ → Type 0

abbrev pub IsMany : {A : Type 0} → Reading A → Many A → List Node → ℕ → Type 0
IsMany Is (one a) ns k = Is a ns k
IsMany Is (more m a) ns k = (l : ℕ) × (r : ℕ) × (l < k) × (r < k) × At ns k (Also l r) × IsMany Is m ns l × Is a ns r

abbrev pub IsOpt : {A : Type 0} → Reading A → Opt A → List Node → ℕ → Type 0
IsOpt Is none ns k = At ns k Absent
IsOpt Is (some a) ns k = Is a ns k

abbrev pub IsName : ℕ → List Node → ℕ → Type 0
IsName n ns k = At ns k (Name n)

abbrev pub IsComparison : Comparison → List Node → ℕ → Type 0
IsComparison (compare a o b) ns k = (l : ℕ) × (r : ℕ) × (l < k) × (r < k) × At ns k (Compare (spell_comparator o) l r) × IsExpr a ns l × IsExpr b ns r

abbrev pub IsSubcondition : Subcondition → List Node → ℕ → Type 0
IsSubcondition c ns k = IsMany IsComparison c ns k

abbrev pub IsCondition : Condition → List Node → ℕ → Type 0
IsCondition c ns k = IsMany IsSubcondition c ns k

abbrev mutual
  pub IsMode : Mode → List Node → ℕ → Type 0
  IsMode int ns k = At ns k Int
  IsMode (byte i) ns k = At ns k (Byte i)
  IsMode ref_int ns k = At ns k RefInt
  IsMode (ref_byte i) ns k = At ns k (RefByte i)
  IsMode (ref_record n) ns k = At ns k (RefRecord n)
  IsMode (ref_array m) ns k = (r : ℕ) × (r < k) × At ns k (RefArray r) × IsAmode m ns r
  IsMode (ref_array_brackets i m) ns k = (r : ℕ) × (r < k) × At ns k (RefArrayBrackets i r) × IsAmode m ns r

  pub IsAmode : Amode → List Node → ℕ → Type 0
  IsAmode (simple m) ns k = IsMode m ns k
  IsAmode (records n) ns k = At ns k (Records n)

abbrev pub IsFields : Fields → List Node → ℕ → Type 0
IsFields (field m n) ns k = (r : ℕ) × (r < k) × At ns k (Field r n) × IsMode m ns r
IsFields (also fs n) ns k = (l : ℕ) × (l < k) × At ns k (AlsoField l n) × IsFields fs ns l
IsFields (next fs m n) ns k = (l : ℕ) × (r : ℕ) × (l < k) × (r < k) × At ns k (NextField l r n) × IsFields fs ns l × IsMode m ns r

abbrev pub IsInit : {A : Type 0} → Reading A → Init A → List Node → ℕ → Type 0
IsInit Is (plain n) ns k = At ns k (Plain n)
IsInit Is (given xs a) ns k = (l : ℕ) × (r : ℕ) × (l < k) × (r < k) × At ns k (Given l r) × IsMany IsName xs ns l × Is a ns r

abbrev mutual
  pub IsValue : Value → List Node → ℕ → Type 0
  IsValue (constant i) ns k = At ns k (Constant i)
  IsValue (signed s i) ns k = At ns k (Signed s i)
  IsValue (minus_signed s i) ns k = At ns k (MinusSigned s i)
  IsValue (identifier n) ns k = At ns k (Identifier n)
  IsValue (string i) ns k = At ns k (Literal i)
  IsValue (empty_list i) ns k = At ns k (EmptyList i)
  IsValue (list i vs) ns k = (r : ℕ) × (r < k) × At ns k (ListNode i r) × IsValues vs ns r

  pub IsValues : Values → List Node → ℕ → Type 0
  IsValues (only e) ns k = IsEntry e ns k
  IsValues (and vs e) ns k = (l : ℕ) × (r : ℕ) × (l < k) × (r < k) × At ns k (Also l r) × IsValues vs ns l × IsEntry e ns r

  pub IsEntry : Entry → List Node → ℕ → Type 0
  IsEntry (once v) ns k = IsValue v ns k
  IsEntry (repeated v i n) ns k = (r : ℕ) × (r < k) × At ns k (Repeated r i n) × IsValue v ns r

abbrev pub IsDec : {I : Type 0} → Reading I → Dec I → List Node → ℕ → Type 0
IsDec Is nothing ns k = At ns k Nothing
IsDec Is (variables m i) ns k = (l : ℕ) × (r : ℕ) × (l < k) × (r < k) × At ns k (Variables l r) × IsMode m ns l × Is i ns r
IsDec Is (arrays b n m i) ns k = (l : ℕ) × (r : ℕ) × (l < k) × (r < k) × At ns k (Arrays b n l r) × IsAmode m ns l × Is i ns r
IsDec Is (structures n i) ns k = (r : ℕ) × (r < k) × At ns k (Structures n r) × Is i ns r

abbrev pub IsLocal : Local → List Node → ℕ → Type 0
IsLocal (local m is) ns k = (l : ℕ) × (r : ℕ) × (l < k) × (r < k) × At ns k (LocalNode l r) × IsMode m ns l × IsMany (IsInit IsExpr) is ns r

abbrev pub IsLocals : Locals → List Node → ℕ → Type 0
IsLocals no_locals ns k = At ns k NoLocals
IsLocals (locals ls x) ns k = (l : ℕ) × (r : ℕ) × (l < k) × (r < k) × At ns k (LocalsNode l r) × IsLocals ls ns l × IsLocal x ns r

abbrev pub IsDestination : Destination → List Node → ℕ → Type 0
IsDestination (place x) ns k = IsVariable x ns k
IsDestination (val i x) ns k = (r : ℕ) × (r < k) × At ns k (Val i r) × IsVariable x ns r

abbrev mutual
  pub IsBody : Body → List Node → ℕ → Type 0
  IsBody (body ls s) ns k = (l : ℕ) × (r : ℕ) × (l < k) × (r < k) × At ns k (BodyNode l r) × IsLocals ls ns l × IsSequence s ns r

  pub IsSequence : Sequence → List Node → ℕ → Type 0
  IsSequence (single s) ns k = IsStatement s ns k
  IsSequence (sequel ss s) ns k = (l : ℕ) × (r : ℕ) × (l < k) × (r < k) × At ns k (Also l r) × IsSequence ss ns l × IsStatement s ns r

  pub IsStatement : Statement → List Node → ℕ → Type 0
  IsStatement dummy ns k = At ns k Dummy
  IsStatement (block b) ns k = (r : ℕ) × (r < k) × At ns k (Block r) × IsBody b ns r
  IsStatement (assign ds e) ns k = (l : ℕ) × (r : ℕ) × (l < k) × (r < k) × At ns k (Assign l r) × IsMany IsDestination ds ns l × IsExpr e ns r
  IsStatement (invoke n i) ns k = At ns k (Invoke n i)
  IsStatement (invoke_on n i es) ns k = (r : ℕ) × (r < k) × At ns k (InvokeOn n i r) × IsExprs es ns r
  IsStatement (branch ws) ns k = (r : ℕ) × (r < k) × At ns k (Branch r) × IsArms ws ns r
  IsStatement (branch_else ws s) ns k = (l : ℕ) × (r : ℕ) × (l < k) × (r < k) × At ns k (BranchElse l r) × IsArms ws ns l × IsSequence s ns r
  IsStatement (repeat e b) ns k = (l : ℕ) × (r : ℕ) × (l < k) × (r < k) × At ns k (Repeat l r) × IsExpr e ns l × IsBody b ns r
  IsStatement (loop c s) ns k = (l : ℕ) × (r : ℕ) × (l < k) × (r < k) × At ns k (Loop l r) × IsCondition c ns l × IsSequence s ns r
  IsStatement (return i) ns k = At ns k (Return i)
  IsStatement (return_with i j e) ns k = (r : ℕ) × (r < k) × At ns k (ReturnWith i j r) × IsExpr e ns r

  -- a condition with what is done where it holds is a node; further ones, behind ELSEIF, make a list
  pub IsArms : Arms → List Node → ℕ → Type 0
  IsArms (when c s) ns k = (l : ℕ) × (r : ℕ) × (l < k) × (r < k) × At ns k (When l r) × IsCondition c ns l × IsSequence s ns r
  IsArms (elsewhen ws c s) ns k = (m : ℕ) × (j : ℕ) × (m < k) × (j < k) × At ns k (Also m j) × IsArms ws ns m × (l : ℕ) × (r : ℕ) × (l < j) × (r < j) × At ns j (When l r) × IsCondition c ns l × IsSequence s ns r

abbrev pub IsBrick : Brick → List Node → ℕ → Type 0
IsBrick (store n ds) ns k = (r : ℕ) × (r < k) × At ns k (Store n r) × IsMany (IsDec (IsMany (IsInit IsValue))) ds ns r
IsBrick (procedure n i ps m b e) ns k = (h : ℕ) × (p : ℕ) × (q : ℕ) × (r : ℕ) × (h < k) × (r < k) × (p < h) × (q < h) × At ns k (Procedure h r e) × At ns h (Heading n i p q) × IsOpt IsFields ps ns p × IsOpt IsMode m ns q × IsBody b ns r

abbrev pub IsModitem : Moditem → List Node → ℕ → Type 0
IsModitem blank ns k = At ns k Blank
IsModitem (external_procs i ms m xs) ns k = (p : ℕ) × (q : ℕ) × (r : ℕ) × (p < k) × (q < k) × (r < k) × At ns k (ExternalProcs i p q r) × IsOpt (IsMany IsMode) ms ns p × IsOpt IsMode m ns q × IsMany IsName xs ns r
IsModitem (external_store n ds) ns k = (r : ℕ) × (r < k) × At ns k (ExternalStore n r) × IsMany (IsDec (IsMany IsName)) ds ns r
IsModitem (record_mode n i fs) ns k = (r : ℕ) × (r < k) × At ns k (RecordMode n i r) × IsFields fs ns r
IsModitem (own b) ns k = (r : ℕ) × (r < k) × At ns k (Own r) × IsBrick b ns r
IsModitem (entry b) ns k = (r : ℕ) × (r < k) × At ns k (Ent r) × IsBrick b ns r

abbrev pub IsModule : Module → List Node → ℕ → Type 0
IsModule m ns k = IsMany IsModitem m ns k

-- the first n nodes are the same
abbrev pub Agree : ℕ → List Node → List Node → Type 0
Agree n ns ms = (j : ℕ) → j < n → slice_index_or ms j blank_node ≡ slice_index_or ns j blank_node
