-- What a tree opens it closes. Assumes nothing.
use Rattle.std.proofs.Common.{◌≡◌, ℕ, suc, ◌+◌, ◌≤◌, Bool, true, false, cond, List, [], ◌∷◌, ◌++◌, sym, refl, ap, ◌∙◌, arith}
use Rattle.grammar.specs.Symbols.{AND, END, ENDBLOCK, ENDDATA, ENDPROC, OR, REP, RIGHT, COMMA, SEMI, BECOMES, Symbol}
use Rattle.grammar.specs.Trees.{Token, token, key, Spelling, Many, one, more, of_many, Opt, none, some, of_opt, of_name, of_names, Dyadic, times, spell, Monadic, positive, spell_monadic, Expr, term, up, dyadic, Term, monadic, primary, Primary, variable, call_on, paren, Variable, name, element, component, Exprs, first, comma, of_expr, of_term, of_primary, of_variable, of_exprs, Comparator, equal, spell_comparator, Comparison, compare, Condition, of_comparison, of_subcondition, of_condition, Mode, ref_array, ref_array_brackets, Amode, simple, records, of_mode, of_amode, Fields, field, also, next, of_fields, Init, plain, given, of_init, of_inits, Value, list, Values, only, and, Entry, once, repeated, of_value, of_values, of_entry, Dec, nothing, variables, arrays, structures, of_dec, Local, local, of_local, Locals, no_locals, locals, of_locals, Destination, place, val, of_destination, Body, body, Sequence, single, sequel, Statement, block, assign, invoke_on, branch, branch_else, repeat, loop, return_with, Arms, when, elsewhen, of_body, of_sequence, of_statement, of_arms, Brick, store, procedure, of_brick, Moditem, blank, external_procs, external_store, record_mode, own, entry, of_moditem, Module, of_module}
use Rattle.grammar.specs.Sentences.{symbols, Sentence, Viable, count, opens, closes, Balanced}
use Rattle.grammar.specs.Machine.{fewer}
use Rattle.grammar.proofs.Right.{open_not_close}

-- how many are open after some items, if n are open before them, and never fewer are opened than closed
abbrev later : {A B : Type 0} → Opt A → (A → Opt B) → Opt B
later none k = none
later (some a) k = k a

abbrev rise : ℕ → Symbol → Opt ℕ
rise n c = cond (opens c) (some (suc n)) (cond (closes c) (fewer n) (some n))

abbrev steady : ℕ → List Symbol → Opt ℕ
steady n [] = some n
steady n (c ∷ w) = later (rise n c) (λ m. steady m w)

abbrev open_after : ℕ → List Token → Opt ℕ
open_after n w = steady n (symbols w)

abbrev Even : {A : Type 0} → Spelling A → A → Type 0
Even of a = (n : ℕ) (r : List Token) → open_after n (of a r) ≡ open_after n r

even_op : {l : ℕ} (o : Dyadic l) (i n : ℕ) (r : List Token) → open_after n (token (spell o) i ∷ r) ≡ open_after n r
even_op times i n r = refl
even_op _ i n r = refl

even_monadic : (o : Monadic) (i n : ℕ) (r : List Token) → open_after n (token (spell_monadic o) i ∷ r) ≡ open_after n r
even_monadic positive i n r = refl
even_monadic _ i n r = refl

mutual
  even_expr : {l : ℕ} (e : Expr l) (n : ℕ) (r : List Token) → open_after n (of_expr e r) ≡ open_after n r
  even_expr (term t) n r = even_term t n r
  even_expr (up e) n r = even_expr e n r
  even_expr (dyadic a o i b) n r = even_expr a n _ ∙ even_op o i n (of_expr b r) ∙ even_expr b n r

  even_term : (t : Term) → Even of_term t
  even_term (monadic o i t) n r = even_monadic o i n (of_term t r) ∙ even_term t n r
  even_term (primary p) n r = even_primary p n r

  even_primary : (p : Primary) → Even of_primary p
  even_primary (variable x) n r = even_variable x n r
  even_primary (call_on m i es e) n r = even_exprs es (suc n) _ ∙ even_expr e (suc n) (key RIGHT ∷ r)
  even_primary (paren i e) n r = even_expr e (suc n) (key RIGHT ∷ r)
  even_primary _ n r = refl

  even_variable : (x : Variable) → Even of_variable x
  even_variable (name m) n r = refl
  even_variable (element x i e) n r = even_variable x n _ ∙ even_expr e (suc n) (key RIGHT ∷ r)
  even_variable (component x m) n r = even_variable x n _

  even_exprs : (es : Exprs) → Even of_exprs es
  even_exprs (first e) n r = even_expr e n r
  even_exprs (comma es e) n r = even_exprs es n _ ∙ even_expr e n r

even_many : {A : Type 0} (of : Spelling A) (k : Symbol) → ((n : ℕ) (r : List Token) → open_after n (key k ∷ r) ≡ open_after n r) → ((a : A) → Even of a) → (m : Many A) → Even (of_many of k) m
even_many of k s e (one a) n r = e a n r
even_many of k s e (more m a) n r = even_many of k s e m n _ ∙ s n (of a r) ∙ e a n r

even_opt : {A : Type 0} (of : Spelling A) → ((a : A) → Even of a) → (o : Opt A) → Even (of_opt of) o
even_opt of e none n r = refl
even_opt of e (some a) n r = e a n r

even_name : (m : ℕ) → Even of_name m
even_name m n r = refl

even_comparator : (o : Comparator) (n : ℕ) (r : List Token) → open_after n (key (spell_comparator o) ∷ r) ≡ open_after n r
even_comparator equal n r = refl
even_comparator _ n r = refl

even_comparison : (c : Comparison) → Even of_comparison c
even_comparison (compare a o b) n r = even_expr a n _ ∙ even_comparator o n (of_expr b r) ∙ even_expr b n r

even_condition : (c : Condition) → Even of_condition c
even_condition c n r = even_many of_subcondition OR (λ n r. refl) (even_many of_comparison AND (λ n r. refl) even_comparison) c n r

mutual
  even_mode : (m : Mode) → Even of_mode m
  even_mode (ref_array m) n r = even_amode m n r
  even_mode (ref_array_brackets i m) n r = even_amode m n r
  even_mode _ n r = refl

  even_amode : (m : Amode) → Even of_amode m
  even_amode (simple m) n r = even_mode m n r
  even_amode (records m) n r = refl

even_fields : (fs : Fields) → Even of_fields fs
even_fields (field m i) n r = even_mode m n _
even_fields (also fs i) n r = even_fields fs n _
even_fields (next fs m i) n r = even_fields fs n _ ∙ even_mode m n _

even_init : {A : Type 0} (of : Spelling A) → ((a : A) → Even of a) → (i : Init A) → Even (of_init of) i
even_init of e (plain m) n r = refl
even_init of e (given ns a) n r = even_many of_name BECOMES (λ n r. refl) even_name ns n _ ∙ e a n r

even_inits : {A : Type 0} (of : Spelling A) → ((a : A) → Even of a) → (is : Many (Init A)) → Even (of_inits of) is
even_inits of e is n r = even_many (of_init of) COMMA (λ n r. refl) (even_init of e) is n r

mutual
  even_value : (v : Value) → Even of_value v
  even_value (list i vs) n r = even_values vs (suc n) (key RIGHT ∷ r)
  even_value _ n r = refl

  even_values : (vs : Values) → Even of_values vs
  even_values (only e) n r = even_entry e n r
  even_values (and vs e) n r = even_values vs n _ ∙ even_entry e n r

  even_entry : (e : Entry) → Even of_entry e
  even_entry (once v) n r = even_value v n r
  even_entry (repeated v i m) n r = even_value v n _

even_dec : {I : Type 0} (of : Spelling I) → ((i : I) → Even of i) → (d : Dec I) → Even (of_dec of) d
even_dec of e nothing n r = refl
even_dec of e (variables m i) n r = even_mode m n _ ∙ e i n r
even_dec of e (arrays b l m i) n r = even_amode m n _ ∙ e i n r
even_dec of e (structures m i) n r = e i n r

even_local : (l : Local) → Even of_local l
even_local (local m is) n r = even_mode m n _ ∙ even_inits of_expr even_expr is n r

even_locals : (ls : Locals) → Even of_locals ls
even_locals no_locals n r = refl
even_locals (locals ls l) n r = even_locals ls n _ ∙ even_local l n (key SEMI ∷ r)

even_destination : (d : Destination) → Even of_destination d
even_destination (place x) n r = even_variable x n r
even_destination (val i x) n r = even_variable x n r

mutual
  even_body : (b : Body) → Even of_body b
  even_body (body ls s) n r = even_locals ls n _ ∙ even_sequence s n r

  even_sequence : (s : Sequence) → Even of_sequence s
  even_sequence (single s) n r = even_statement s n r
  even_sequence (sequel ss s) n r = even_sequence ss n _ ∙ even_statement s n r

  even_statement : (s : Statement) → Even of_statement s
  even_statement (block b) n r = even_body b (suc n) (key ENDBLOCK ∷ r)
  even_statement (assign ds e) n r = even_many of_destination BECOMES (λ n r. refl) even_destination ds n _ ∙ even_expr e n r
  even_statement (invoke_on m i es) n r = even_exprs es (suc n) (key RIGHT ∷ r)
  even_statement (branch ws) n r = even_arms ws n (key END ∷ r)
  even_statement (branch_else ws s) n r = even_arms ws n _ ∙ even_sequence s (suc n) (key END ∷ r)
  even_statement (repeat e b) n r = even_expr e n _ ∙ even_body b (suc n) (key REP ∷ r)
  even_statement (loop c s) n r = even_condition c n _ ∙ even_sequence s (suc n) (key REP ∷ r)
  even_statement (return_with i j e) n r = even_expr e (suc n) (key RIGHT ∷ r)
  even_statement _ n r = refl

  even_arms : (ws : Arms) (n : ℕ) (r : List Token) → open_after n (of_arms ws r) ≡ open_after (suc n) r
  even_arms (when c s) n r = even_condition c (suc n) _ ∙ even_sequence s (suc n) r
  even_arms (elsewhen ws c s) n r = even_arms ws n _ ∙ even_condition c (suc n) _ ∙ even_sequence s (suc n) r

even_brick : (b : Brick) → Even of_brick b
even_brick (store m ds) n r = even_many (of_dec (of_inits of_value)) SEMI (λ n r. refl) (even_dec (of_inits of_value) (even_inits of_value even_value)) ds n (key ENDDATA ∷ r)
even_brick (procedure m i ps o b e) n r = even_opt of_fields even_fields ps (suc n) _ ∙ even_opt of_mode even_mode o n _ ∙ even_body b n (token ENDPROC e ∷ r)

even_names : (ns : Many ℕ) → Even of_names ns
even_names ns n r = even_many of_name COMMA (λ n r. refl) even_name ns n r

even_moditem : (m : Moditem) → Even of_moditem m
even_moditem blank n r = refl
even_moditem (external_procs i ms m ns) n r = even_opt (of_many of_mode COMMA) (even_many of_mode COMMA (λ n r. refl) even_mode) ms (suc n) _ ∙ even_opt of_mode even_mode m n _ ∙ even_names ns n r
even_moditem (external_store m ds) n r = even_many (of_dec of_names) SEMI (λ n r. refl) (even_dec of_names even_names) ds n (key ENDDATA ∷ r)
even_moditem (record_mode m i fs) n r = even_fields fs (suc n) (key RIGHT ∷ r)
even_moditem (own b) n r = even_brick b n r
even_moditem (entry b) n r = even_brick b n r

even_module : (m : Module) (n : ℕ) → open_after n (of_module m []) ≡ some n
even_module m n = even_many of_moditem SEMI (λ n r. refl) even_moditem m n []

-- what is counted
abbrev EndsAt : ℕ → ℕ → ℕ → Opt ℕ → Type 0
EndsAt n a b none = Unit {0}
EndsAt n a b (some m) = n + a ≡ m + b

counted_step : (n a b : ℕ) (o k : Bool) (q : Opt ℕ) (r : ℕ → Opt ℕ) → (o ≡ true → k ≡ false) → cond o (some (suc n)) (cond k (fewer n) (some n)) ≡ q → ((m : ℕ) → EndsAt m a b (r m)) → EndsAt n (cond o (suc a) a) (cond k (suc b) b) (later q r)
counted_step n a b o k none r x e h = tt
counted_step n a b o k (some m) r x e h = shown (r m) (h m)
  where
    shown : (q : Opt ℕ) → EndsAt m a b q → EndsAt n (cond o (suc a) a) (cond k (suc b) b) q
    shown none p = tt
    shown (some l) p = grind arith

counted : (w : List Symbol) (n : ℕ) → EndsAt n (count opens w) (count closes w) (steady n w)
counted [] n = refl
counted (c ∷ w) n = counted_step n (count opens w) (count closes w) (opens c) (closes c) (rise n c) (λ m. steady m w) (open_not_close c) refl (λ m. counted w m)

-- a front of what is steady is steady
abbrev IsSome : Opt ℕ → Type 0
IsSome o = (m : ℕ) × (o ≡ some m)

front_steady : (u x : List Symbol) (n : ℕ) → IsSome (steady n (u ++ x)) → IsSome (steady n u)
front_steady [] x n h = (n, refl)
front_steady (c ∷ u) x n h = by (rise n c) (λ m. front_steady u x m) h
  where
    by : (o : Opt ℕ) → ((m : ℕ) → IsSome (steady m (u ++ x)) → IsSome (steady m u)) → IsSome (later o (λ m. steady m (u ++ x))) → IsSome (later o (λ m. steady m u))
    by none ih h = h
    by (some m) ih h = ih m h

counted_at : (w : List Symbol) (n m : ℕ) → steady n w ≡ some m → n + count opens w ≡ m + count closes w
counted_at w n m e = rw e at (counted w n)

sentence_steady : (w : List Symbol) → Sentence w → steady 0 w ≡ some 0
sentence_steady w s = ap (steady 0) (sym s.1) ∙ even_module s.0 0

pub balanced : Balanced
balanced = (front, whole)
  where
    front : (w : List Symbol) → Viable w → count closes w ≤ count opens w
    front w v = let f = front_steady w v.0 0 (0, sentence_steady (w ++ v.0) v.1) in let z = counted_at w 0 f.0 f.1 in omega (arith, z)

    whole : (w : List Symbol) → Sentence w → count closes w ≡ count opens w
    whole w s = let z = counted_at w 0 0 (sentence_steady w s) in omega (arith, z)
