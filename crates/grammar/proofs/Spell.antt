-- The items of the trees of goals, and of what is made of them. Assumes nothing.
use Rattle.std.proofs.Common.{◌≡◌, ℕ, zero, suc, List, [], ◌∷◌, refl, ap, ◌∙◌}
use Rattle.grammar.specs.Symbols.{NAME, INTEGER, ARRAY, BYTE, DATA, ELSE, ELSEIF, END, ENDDATA, EXT, INT, PROC, REF, RETURN, THEN, VAL, LEFT, RIGHT, COMMA, DOT, SEMI, BECOMES, Symbol}
use Rattle.grammar.specs.Trees.{Token, token, mark, key, Spelling, Many, one, more, of_many, Opt, none, some, of_opt, of_name, of_names, Dyadic, spell, Expr, Term, primary, variable, call, call_on, Variable, name, element, component, Exprs, first, comma, of_expr, of_term, of_primary, of_variable, of_exprs, spell_comparator, of_condition, of_mode, of_amode, Fields, also, next, of_fields, of_init, Value, Values, of_value, of_values, of_entry, of_dec, of_local, Locals, locals, of_locals, Destination, place, val, of_destination, Arms, elsewhen, of_body, of_sequence, of_statement, of_arms, of_brick, of_moditem}
use Rattle.grammar.specs.Machine.{Flat, here, below, Link, link, State, close_level, close, fresh, put, folds, arrange, Stand, inner, start, right, Part, index, select, plug, Source, final, onto, Tail, assigns, links, End, Rest, Ending, Closed, Argued, shut, several, Arguments, no_argument, argument, Named, called, goes, Result, assigned, finish, finish_call, gather, finish_calls, finish_closed, finish_argued, finish_arguments, finish_named, Others, ends, otherwise, elseif, branched, Inside, inside, declares, enclose, returns, Dims, bare, brackets, Target, to_int, to_byte, to_record, to_array, refers, Further, alike, other, fielded, Chain, value, via, chained, initial, stored_name, Linked, through, uses, block_name, listed, entered, External, procs, stores, externally, Repetition, exprs, ors, ands, statements, modes, entries, moditems, declareds, decs, Goal, tok, all, each, rest, links_on, a_term, a_primary, named, arguments, argued, closed_on, parts, a_source, compared, arms_on, returned, a_body, a_target, dims, an_amode, maybe_mode, maybe_modes, the_fields, fields_on, a_further, maybe_fields, given_on, chain, linked, a_value, times_on, maybe_values, an_external, a_brick, separator, Single, Whole, begun, added, adds, Tree, Forest, of_initial, of_single, of_whole}

abbrev pub spell_flat : {n : ℕ} → Flat n → Symbol
spell_flat (here n o) = spell o
spell_flat (below n f) = spell_flat f

abbrev pub of_links : List Link → List Token → List Token
of_links [] r = r
of_links (link f i t ∷ ls) r = token (spell_flat f) i ∷ of_term t (of_links ls r)

-- expressions
abbrev of_pending : (n : ℕ) → Opt (Expr (suc n) × Dyadic n × ℕ) → List Token → List Token
of_pending n none r = r
of_pending n (some p) r = of_expr p.0 (token (spell p.1) p.2 ∷ r)

abbrev of_state : (n : ℕ) → State n → List Token → List Token
of_state zero s r = of_term s r
of_state (suc n) s r = of_pending n s.0 (of_state n s.1 r)

close_level_of : (n : ℕ) (p : Opt (Expr (suc n) × Dyadic n × ℕ)) (e : Expr n) (r w : List Token) → of_expr e r ≡ w → of_expr (close_level n p e) r ≡ of_pending n p w
close_level_of n none e r w h = h
close_level_of n (some p) e r w h = ap (λ v. of_expr p.0 (token (spell p.1) p.2 ∷ v)) h

close_of : (n : ℕ) (s : State n) (r : List Token) → of_expr (close n s) r ≡ of_state n s r
close_of zero s r = refl
close_of (suc n) s r = close_level_of n s.0 (close n s.1) r _ (close_of n s.1 r)

fresh_of : (n : ℕ) (t : Term) (r : List Token) → of_state n (fresh n t) r ≡ of_term t r
fresh_of zero t r = refl
fresh_of (suc n) t r = fresh_of n t r

put_of : {n : ℕ} (f : Flat n) (i : ℕ) (t : Term) (s : State n) (r : List Token) → of_state n (put f i t s) r ≡ of_state n s (token (spell_flat f) i ∷ of_term t r)
put_of (here n o) i t s r = ap (λ w. of_expr (close (suc n) s) (token (spell o) i ∷ w)) (fresh_of n t r) ∙ close_of (suc n) s _
put_of (below n f) i t s r = ap (of_pending n s.0) (put_of f i t s.1 r)

folds_of : (s : State 5) (ls : List Link) (r : List Token) → of_state 5 (folds s ls) r ≡ of_state 5 s (of_links ls r)
folds_of s [] r = refl
folds_of s (link f i t ∷ ls) r = folds_of (put f i t s) ls r ∙ put_of f i t s (of_links ls r)

pub arrange_of : (t : Term) (ls : List Link) (r : List Token) → of_expr (arrange t ls) r ≡ of_term t (of_links ls r)
arrange_of t ls r = close_of 5 (folds (fresh 5 t) ls) r ∙ folds_of (fresh 5 t) ls r ∙ fresh_of 5 t (of_links ls r)

-- forms that begin with a name
abbrev pub of_part : Part → List Token → List Token
of_part (index i e) r = token LEFT i ∷ of_expr e (key RIGHT ∷ r)
of_part (select n) r = key DOT ∷ token NAME n ∷ r

abbrev pub of_parts : List Part → List Token → List Token
of_parts [] r = r
of_parts (p ∷ ps) r = of_part p (of_parts ps r)

abbrev pub of_source : Source → List Token → List Token
of_source (final e) r = of_expr e r
of_source (onto d s) r = of_destination d (key BECOMES ∷ of_source s r)

abbrev pub of_tail : Tail → List Token → List Token
of_tail (assigns s) r = key BECOMES ∷ of_source s r
of_tail (links ls) r = of_links ls r

abbrev pub of_end : (w : Stand) → Spelling (End w)
of_end inner e r = r
of_end start s r = key BECOMES ∷ of_source s r
of_end right t r = of_tail t r

abbrev pub of_rest : (w : Stand) → Spelling (Rest w)
of_rest inner e r = r
of_rest start e r = r
of_rest right ls r = of_links ls r

abbrev pub of_ending : (w : Stand) → Spelling (Ending w)
of_ending w e r = of_parts e.0 (of_end w e.1 r)

abbrev pub of_closed : (w : Stand) → Spelling (Closed w)
of_closed inner e r = of_ending inner e r
of_closed start e r = of_opt (of_ending start) e r
of_closed right e r = of_ending right e r

abbrev pub of_more_exprs : List (Expr 5) → List Token → List Token
of_more_exprs [] r = r
of_more_exprs (e ∷ es) r = key COMMA ∷ of_expr e (of_more_exprs es r)

abbrev pub of_result : (w : Stand) → Spelling (Result w)
of_result inner p r = of_primary p r
of_result start s r = of_statement s r
of_result right s r = of_source s r

plug_of : (v : Variable) (ps : List Part) (r : List Token) → of_variable (plug v ps) r ≡ of_variable v (of_parts ps r)
plug_of v [] r = refl
plug_of v (index i e ∷ ps) r = plug_of (element v i e) ps r
plug_of v (select n ∷ ps) r = plug_of (component v n) ps r

pub assigned_of : (ds : Many Destination) (s : Source) (r : List Token) → of_statement (assigned ds s) r ≡ of_many of_destination BECOMES ds (key BECOMES ∷ of_source s r)
assigned_of ds (final e) r = refl
assigned_of ds (onto d s) r = assigned_of (more ds d) s r

finish_of : (w : Stand) (v : Variable) (e : End w) (r : List Token) → of_result w (finish w v e) r ≡ of_variable v (of_end w e r)
finish_of inner v e r = refl
finish_of start v s r = assigned_of (one (place v)) s r
finish_of right v (assigns s) r = refl
finish_of right v (links ls) r = arrange_of (primary (variable v)) ls r

plugged_of : (w : Stand) (v : Variable) (e : Ending w) (r : List Token) → of_result w (finish w (plug v e.0) e.1) r ≡ of_variable v (of_ending w e r)
plugged_of w v e r = finish_of w (plug v e.0) e.1 r ∙ plug_of v e.0 (of_end w e.1 r)

pub val_of : (i n : ℕ) (e : Ending start) (r : List Token) → of_destination (val i (plug (name n) e.0)) (of_end start e.1 r) ≡ token VAL i ∷ token NAME n ∷ of_ending start e r
val_of i n e r = ap (λ w. token VAL i ∷ w) (plug_of (name n) e.0 (of_end start e.1 r))

gather_of : (es : Exprs) (e : Expr 5) (xs : List (Expr 5)) (r : List Token) → of_exprs (gather es e xs).0 (key COMMA ∷ of_expr (gather es e xs).1 r) ≡ of_exprs es (key COMMA ∷ of_expr e (of_more_exprs xs r))
gather_of es e [] r = refl
gather_of es e (x ∷ xs) r = gather_of (comma es e) x xs r

call_of : (w : Stand) (n i : ℕ) (x : Rest w) (r : List Token) → of_result w (finish_call w n i x) r ≡ token NAME n ∷ token LEFT i ∷ key RIGHT ∷ of_rest w x r
call_of inner n i x r = refl
call_of start n i x r = refl
call_of right n i ls r = arrange_of (primary (call n i)) ls r

calls_of : (w : Stand) (n i : ℕ) (g : Exprs × Expr 5) (x : Rest w) (r : List Token) → of_result w (finish_calls w n i g x) r ≡ token NAME n ∷ token LEFT i ∷ of_exprs g.0 (key COMMA ∷ of_expr g.1 (key RIGHT ∷ of_rest w x r))
calls_of inner n i g x r = refl
calls_of start n i g x r = refl
calls_of right n i g ls r = arrange_of (primary (call_on n i g.0 g.1)) ls r

closed_of : (w : Stand) (n i : ℕ) (e : Expr 5) (c : Closed w) (r : List Token) → of_result w (finish_closed w n i e c) r ≡ token NAME n ∷ token LEFT i ∷ of_expr e (key RIGHT ∷ of_closed w c r)
closed_of inner n i e c r = plugged_of inner (element (name n) i e) c r
closed_of start n i e none r = refl
closed_of start n i e (some c) r = plugged_of start (element (name n) i e) c r
closed_of right n i e c r = plugged_of right (element (name n) i e) c r

abbrev pub of_argued : (w : Stand) → Spelling (Argued w)
of_argued w (shut c) r = key RIGHT ∷ of_closed w c r
of_argued w (several x xs y) r = key COMMA ∷ of_expr x (of_more_exprs xs (key RIGHT ∷ of_rest w y r))

abbrev pub of_arguments : (w : Stand) → Spelling (Arguments w)
of_arguments w (no_argument x) r = key RIGHT ∷ of_rest w x r
of_arguments w (argument e a) r = of_expr e (of_argued w a r)

abbrev pub of_named : (w : Stand) → Spelling (Named w)
of_named w (called i a) r = token LEFT i ∷ of_arguments w a r
of_named w (goes e) r = of_ending w e r

argued_of : (w : Stand) (n i : ℕ) (e : Expr 5) (a : Argued w) (r : List Token) → of_result w (finish_argued w n i e a) r ≡ token NAME n ∷ token LEFT i ∷ of_expr e (of_argued w a r)
argued_of w n i e (shut c) r = closed_of w n i e c r
argued_of w n i e (several x xs y) r = calls_of w n i (gather (first e) x xs) y r ∙ ap (λ v. token NAME n ∷ token LEFT i ∷ v) (gather_of (first e) x xs (key RIGHT ∷ of_rest w y r))

arguments_of : (w : Stand) (n i : ℕ) (a : Arguments w) (r : List Token) → of_result w (finish_arguments w n i a) r ≡ token NAME n ∷ token LEFT i ∷ of_arguments w a r
arguments_of w n i (no_argument x) r = call_of w n i x r
arguments_of w n i (argument e a) r = argued_of w n i e a r

pub named_of : (w : Stand) (n : ℕ) (x : Named w) (r : List Token) → of_result w (finish_named w n x) r ≡ token NAME n ∷ of_named w x r
named_of w n (called i a) r = arguments_of w n i a r
named_of w n (goes e) r = plugged_of w (name n) e r

-- statements
abbrev pub of_others : Others → List Token → List Token
of_others ends r = key END ∷ r
of_others (otherwise s) r = key ELSE ∷ of_sequence s (key END ∷ r)
of_others (elseif c s o) r = key ELSEIF ∷ of_condition c (key THEN ∷ of_sequence s (of_others o r))

pub branched_of : (ws : Arms) (o : Others) (r : List Token) → of_statement (branched ws o) r ≡ of_arms ws (of_others o r)
branched_of ws ends r = refl
branched_of ws (otherwise s) r = refl
branched_of ws (elseif c s o) r = branched_of (elsewhen ws c s) o r

abbrev pub of_inside : Inside → List Token → List Token
of_inside (inside s) r = of_sequence s r
of_inside (declares l i) r = of_local l (key SEMI ∷ of_inside i r)

pub enclose_of : (ls : Locals) (i : Inside) (r : List Token) → of_body (enclose ls i) r ≡ of_locals ls (of_inside i r)
enclose_of ls (inside s) r = refl
enclose_of ls (declares l i) r = enclose_of (locals ls l) i r

abbrev pub of_returned : Opt (ℕ × Expr 5) → List Token → List Token
of_returned none r = r
of_returned (some p) r = token LEFT p.0 ∷ of_expr p.1 (key RIGHT ∷ r)

pub returns_of : (i : ℕ) (o : Opt (ℕ × Expr 5)) (r : List Token) → of_statement (returns i o) r ≡ token RETURN i ∷ of_returned o r
returns_of i none r = refl
returns_of i (some p) r = refl

-- modes
abbrev pub of_dims : Dims → List Token → List Token
of_dims (bare m) r = of_amode m r
of_dims (brackets i m) r = token LEFT i ∷ key RIGHT ∷ of_amode m r

abbrev pub of_target : Target → List Token → List Token
of_target to_int r = key INT ∷ r
of_target (to_byte i) r = token BYTE i ∷ r
of_target (to_record n) r = token NAME n ∷ r
of_target (to_array d) r = key ARRAY ∷ of_dims d r

pub refers_of : (t : Target) (r : List Token) → of_mode (refers t) r ≡ key REF ∷ of_target t r
refers_of (to_array (bare m)) r = refl
refers_of (to_array (brackets i m)) r = refl
refers_of _ r = refl

abbrev pub of_further : Further → List Token → List Token
of_further (alike n) r = token NAME n ∷ r
of_further (other m n) r = of_mode m (token NAME n ∷ r)

abbrev pub of_furthers : List Further → List Token → List Token
of_furthers [] r = r
of_furthers (x ∷ xs) r = key COMMA ∷ of_further x (of_furthers xs r)

pub fielded_of : (fs : Fields) (xs : List Further) (r : List Token) → of_fields (fielded fs xs) r ≡ of_fields fs (of_furthers xs r)
fielded_of fs [] r = refl
fielded_of fs (alike n ∷ xs) r = fielded_of (also fs n) xs r
fielded_of fs (other m n ∷ xs) r = fielded_of (next fs m n) xs r

-- declarations
abbrev pub of_chain : {A : Type 0} → Spelling A → Spelling (Chain A)
of_chain of (value a) r = of a r
of_chain of (via n c) r = token NAME n ∷ key BECOMES ∷ of_chain of c r

abbrev pub of_given : {A : Type 0} → Spelling A → Spelling (Opt (Chain A))
of_given of none r = r
of_given of (some c) r = key BECOMES ∷ of_chain of c r

pub chained_of : {A : Type 0} (of : Spelling A) (ns : Many ℕ) (c : Chain A) (r : List Token) → of_init of (chained ns c) r ≡ of_many of_name BECOMES ns (key BECOMES ∷ of_chain of c r)
chained_of of ns (value a) r = refl
chained_of of ns (via n c) r = chained_of of (more ns n) c r

pub initial_of : {A : Type 0} (of : Spelling A) (n : ℕ) (o : Opt (Chain A)) (r : List Token) → of_init of (initial n o) r ≡ token NAME n ∷ of_given of o r
initial_of of n none r = refl
initial_of of n (some c) r = chained_of of (one n) c r

pub stored_name_of : (n : ℕ) (o : Opt (Chain Value)) (r : List Token) → of_chain of_value (stored_name n o) r ≡ token NAME n ∷ of_given of_value o r
stored_name_of n none r = refl
stored_name_of n (some c) r = refl

abbrev pub of_linked : Linked → List Token → List Token
of_linked (through c) r = key BECOMES ∷ of_chain of_expr c r
of_linked (uses x ls) r = of_named inner x (of_links ls r)

pub block_name_of : (n : ℕ) (x : Linked) (r : List Token) → of_chain of_expr (block_name n x) r ≡ token NAME n ∷ of_linked x r
block_name_of n (through c) r = refl
block_name_of n (uses x ls) r = arrange_of (primary (finish_named inner n x)) ls r ∙ named_of inner n x (of_links ls r)

abbrev pub of_times : Opt (ℕ × ℕ) → List Token → List Token
of_times none r = r
of_times (some p) r = token LEFT p.0 ∷ token INTEGER p.1 ∷ key RIGHT ∷ r

pub entered_of : (v : Value) (o : Opt (ℕ × ℕ)) (r : List Token) → of_entry (entered v o) r ≡ of_value v (of_times o r)
entered_of v none r = refl
entered_of v (some p) r = refl

pub listed_of : (i : ℕ) (o : Opt Values) (r : List Token) → of_value (listed i o) r ≡ token LEFT i ∷ of_opt of_values o (key RIGHT ∷ r)
listed_of i none r = refl
listed_of i (some vs) r = refl

abbrev pub of_external : External → List Token → List Token
of_external (procs i ms m ns) r = key PROC ∷ token LEFT i ∷ of_opt (of_many of_mode COMMA) ms (key RIGHT ∷ of_opt of_mode m (of_names ns r))
of_external (stores n ds) r = key DATA ∷ token NAME n ∷ key SEMI ∷ of_many (of_dec of_names) SEMI ds (key ENDDATA ∷ r)

pub externally_of : (x : External) (r : List Token) → of_moditem (externally x) r ≡ key EXT ∷ of_external x r
externally_of (procs i ms m ns) r = refl
externally_of (stores n ds) r = refl

-- repetitions
abbrev pub of_more : (r : Repetition) → List (Single r) → List Token → List Token
of_more r [] x = x
of_more r (u ∷ us) x = key (separator r) ∷ of_single r u (of_more r us x)

pub begun_of : (r : Repetition) (u : Single r) (x : List Token) → of_whole r (begun r u) x ≡ of_single r u x
begun_of exprs u x = refl
begun_of _ u x = refl

pub added_of : (r : Repetition) (a : Whole r) (u : Single r) (x : List Token) → of_whole r (added r a u) x ≡ of_whole r a (key (separator r) ∷ of_single r u x)
added_of exprs a u x = refl
added_of _ a u x = refl

pub adds_of : (r : Repetition) (a : Whole r) (us : List (Single r)) (x : List Token) → of_whole r (adds r a us) x ≡ of_whole r a (of_more r us x)
adds_of r a [] x = refl
adds_of r a (u ∷ us) x = adds_of r (added r a u) us x ∙ added_of r a u (of_more r us x)

pub repeats_of : (r : Repetition) (u : Single r) (us : List (Single r)) (x : List Token) → of_whole r (adds r (begun r u) us) x ≡ of_single r u (of_more r us x)
repeats_of r u us x = adds_of r (begun r u) us x ∙ begun_of r u (of_more r us x)

-- goals and stacks
abbrev pub of_goal : (x : Goal) → Spelling (Tree x)
of_goal (tok k) n r = mark k n ∷ r
of_goal (all y) t r = of_whole y t r
of_goal (each y) t r = of_single y t r
of_goal (rest y) t r = of_more y t r
of_goal links_on t r = of_links t r
of_goal a_term t r = of_term t r
of_goal a_primary t r = of_primary t r
of_goal (named w) t r = of_named w t r
of_goal (arguments w) t r = of_arguments w t r
of_goal (argued w) t r = of_argued w t r
of_goal (closed_on w) t r = of_closed w t r
of_goal (parts w) t r = of_ending w t r
of_goal a_source t r = of_source t r
of_goal compared t r = key (spell_comparator t.0) ∷ of_expr t.1 r
of_goal arms_on t r = of_others t r
of_goal returned t r = of_returned t r
of_goal a_body t r = of_inside t r
of_goal a_target t r = of_target t r
of_goal dims t r = of_dims t r
of_goal an_amode t r = of_amode t r
of_goal maybe_mode t r = of_opt of_mode t r
of_goal maybe_modes t r = of_opt (of_many of_mode COMMA) t r
of_goal the_fields t r = of_fields t r
of_goal fields_on t r = of_furthers t r
of_goal a_further t r = of_further t.0 (of_furthers t.1 r)
of_goal maybe_fields t r = of_opt of_fields t r
of_goal (given_on v) t r = of_given (of_initial v) t r
of_goal (chain v) t r = of_chain (of_initial v) t r
of_goal linked t r = of_linked t r
of_goal a_value t r = of_value t r
of_goal times_on t r = of_times t r
of_goal maybe_values t r = of_opt of_values t r
of_goal an_external t r = of_external t r
of_goal a_brick t r = of_brick t r

abbrev pub of_forest : (γ : List Goal) → Forest γ → List Token
of_forest [] f = []
of_forest (x ∷ γ) f = of_goal x f.0 (of_forest γ f.1)
