-- The items of a tree that is made of those of a text lie in the order of the text. Assumes nothing.
use Rattle.std.proofs.Common.{◌≡◌, ℕ, suc, ◌+◌, ◌<◌, ◌≤◌, true, cond, List, [], ◌∷◌, length, refl, arith}
use Rattle.grammar.specs.Symbols.{COMMA, BECOMES, SEMI, AND, OR}
use Rattle.grammar.specs.declared.Symbol.{Symbol}
use Rattle.grammar.specs.Trees.{Token, token, kept, mark, key, Spelling, Expr, term, up, dyadic, Term, monadic, primary, Primary, integer, text, variable, call, call_on, paren, Variable, name, element, component, Exprs, first, comma, Comparison, compare, Many, one, more, Opt, Init, given, Local, Locals, no_locals, locals, Destination, val, Body, body, Sequence, single, sequel, Statement, dummy, block, assign, invoke, invoke_on, branch, branch_else, repeat, loop, return, return_with, Arms, when, elsewhen, Value, constant, signed, minus_signed, identifier, string, empty_list, list, Values, only, and, Entry, once, repeated, Dec, variables, arrays, structures, Fields, also, Brick, store, procedure, Moditem, blank, external_procs, external_store, own, entry, Module, spell, spell_monadic, spell_comparator, of_many, of_opt, of_name, of_names, of_expr, of_term, of_primary, of_variable, of_exprs, of_comparison, of_subcondition, of_condition, of_mode, of_amode, of_fields, of_init, of_inits, of_value, of_values, of_entry, of_dec, of_local, of_locals, of_destination, of_body, of_sequence, of_statement, of_arms, of_brick, of_moditem, of_module}
use Rattle.grammar.specs.Trees as tree
use Rattle.grammar.specs.Sentences.{items, Made}
use Rattle.statics.specs.Order.{Span, In, InTerm, InPrimary, InVariable, InExprs, InComparison, InMany, InCondition, InMode, InElement, InName, InInit, InLocal, InLocals, InDestination, InBody, InSequence, InStatement, InArms, InValue, InValues, InEntry, InDecOf, InDec, InSpec, InOpt, InFields, InBrick, InModitem, InModule}

-- T is how many items the text has
module _ (T : ℕ) where
  -- r are the items of a text from the number k on
  abbrev pub From : List Token → ℕ → Type 0
  From r k = (w : List Symbol) × (r ≡ items k w) × (k + length w ≡ T)

  -- Something was read from the item k on, and r is left: where it ends, and that P holds of all bounds round it.
  pub record Placed (P : ℕ → ℕ → Type 0) (r : List Token) (k : ℕ) : Type 0 where
    pub end : ℕ
    pub rest : From r end
    pub onward : k ≤ end
    pub within : (lo hi : ℕ) → lo ≤ k → end ≤ hi → P lo hi

  abbrev pub Reads : {A : Type 0} → Spelling A → (ℕ → A → ℕ → Type 0) → Type 0
  Reads {A} of I = (a : A) (r : List Token) (k : ℕ) → From (of a r) k → Placed (λ lo hi. I lo a hi) r k

  -- The first item.
  drop_first : {c : Symbol} {n : ℕ} {r : List Token} {k : ℕ} → From (token c n ∷ r) k → From r (suc k)
  drop_first f = behind _ _ _ _ f.0 f.1 f.2
    where
      behind : (c : Symbol) (n : ℕ) (r : List Token) (k : ℕ) (w : List Symbol) → token c n ∷ r ≡ items k w → k + length w ≡ T → From r (suc k)
      behind c n r k [] e t = let z : ⊥ = grind arith in absurd z
      behind c n r k (d ∷ w) e t = (w, cc, omega arith)

  number_first : (c : Symbol) (n : ℕ) (r : List Token) (k : ℕ) (w : List Symbol) → kept c ≡ true → token c n ∷ r ≡ items k w → n ≡ k
  number_first c n r k [] q e = let z : ⊥ = grind arith in absurd z
  number_first c n r k (d ∷ w) q e =
      let t : token c n ≡ mark d k = cc in
      let s : c ≡ d = cc in
      let m : n ≡ cond (kept d) k 0 = cc in
      rw (← s, q) at m

  -- nothing is read; an item is passed over, before something and behind it
  stay : {r : List Token} {k : ℕ} → From r k → Placed (λ lo hi. lo ≤ hi) r k
  stay {r} {k} f = record { end = k; rest = f; onward = omega arith; within = λ lo hi l h. omega arith }

  skip : {P : ℕ → ℕ → Type 0} {c : Symbol} {n k : ℕ} {s r : List Token} → From (token c n ∷ s) k → (From s (suc k) → Placed P r (suc k)) → Placed P r k
  skip {P} {c} {n} {k} {s} {r} f g =
      let x = g (drop_first f) in
      let o = x.onward in
      record { end = x.end; rest = x.rest; onward = omega arith; within = λ lo hi l h. x.within lo hi (omega arith) h }

  past : {P : ℕ → ℕ → Type 0} {c : Symbol} {n k : ℕ} {r : List Token} → Placed P (token c n ∷ r) k → Placed P r k
  past {P} {c} {n} {k} {r} x =
      let o = x.onward in
      record { end = suc x.end; rest = drop_first x.rest; onward = omega arith; within = λ lo hi l h. x.within lo hi l (omega arith) }

  -- one after the other
  pair : {P Q : ℕ → ℕ → Type 0} {s r : List Token} {k : ℕ} → Placed P s k → ((m : ℕ) → From s m → Placed Q r m) → Placed (λ lo hi. (m : ℕ) × P lo m × Q m hi) r k
  pair x g =
      let y = g x.end x.rest in
      let o = x.onward in
      let q = y.onward in
      record { end = y.end; rest = y.rest; onward = omega arith; within = λ lo hi l h. (x.end, x.within lo x.end l (omega arith), y.within x.end hi (omega arith) h) }

  -- an item that a rule names, with what else it names behind it
  lead : {P : ℕ → ℕ → Type 0} {c : Symbol} {n k : ℕ} {s r : List Token} → From (token c n ∷ s) k → kept c ≡ true → (From s (suc k) → Placed P r (suc k)) → Placed (λ lo hi. (lo ≤ n) × P (n + 1) hi) r k
  lead {P} {c} {n} {k} {s} {r} f e g =
      let m = number_first c n s k f.0 e f.1 in
      let x = g (drop_first f) in
      let o = x.onward in
      record { end = x.end; rest = x.rest; onward = omega arith; within = λ lo hi l h. (omega arith, x.within (n + 1) hi (omega arith) h) }

  -- an item of which only room is asked
  an_item : {c : Symbol} {n k : ℕ} {r : List Token} → From (token c n ∷ r) k → Placed (λ lo hi. lo < hi) r k
  an_item {k} f = record { end = suc k; rest = drop_first f; onward = omega arith; within = λ lo hi l h. omega arith }

  leaf : {c : Symbol} {n k : ℕ} {r : List Token} → From (token c n ∷ r) k → kept c ≡ true → Placed (λ lo hi. Span lo hi n) r k
  leaf {c} {n} {k} {r} f e =
      let m = number_first c n r k f.0 e f.1 in
      record { end = suc k; rest = drop_first f; onward = omega arith; within = λ lo hi l h. (omega arith, omega arith) }

  read_name : Reads of_name InName
  read_name n r k f = leaf f refl

  read_many : {A : Type 0} (of : Spelling A) (c : Symbol) (I : ℕ → A → ℕ → Type 0) → Reads of I → Reads (of_many of c) (InMany I)
  read_many of c I read (one a) r k f = read a r k f
  read_many of c I read (more m a) r k f = pair (read_many of c I read m _ k f) (λ _ g. skip g (read a r _))

  read_opt : {A : Type 0} (of : Spelling A) (I : ℕ → A → ℕ → Type 0) → Reads of I → Reads (of_opt of) (InOpt I)
  read_opt of I read tree.none r k f = stay f
  read_opt of I read (tree.some a) r k f = read a r k f

  monadic_kept : (o : tree.Monadic) → kept (spell_monadic o) ≡ true
  monadic_kept tree.positive = refl
  monadic_kept tree.negative = refl
  monadic_kept tree.absolute = refl
  monadic_kept tree.complement = refl
  monadic_kept tree.narrow = refl
  monadic_kept tree.size = refl

  mutual
    pub read_expr : {n : ℕ} (a : Expr n) (r : List Token) (k : ℕ) → From (of_expr a r) k → Placed (λ lo hi. In lo a hi) r k
    read_expr (term t) r k f = read_term t r k f
    read_expr (up a) r k f = read_expr a r k f
    read_expr (dyadic a o i b) r k f = pair (read_expr a _ k f) (λ _ g. skip g (read_expr b r _))

    pub read_term : Reads of_term InTerm
    read_term (monadic o i t) r k f = lead f (monadic_kept o) (read_term t r _)
    read_term (primary p) r k f = read_primary p r k f

    pub read_primary : Reads of_primary InPrimary
    read_primary (integer i) r k f = leaf f refl
    read_primary (text i) r k f = leaf f refl
    read_primary (variable v) r k f = read_variable v r k f
    read_primary (call n i) r k f = past (past (leaf f refl))
    read_primary (call_on n i es a) r k f = lead f refl (λ g. skip g (λ h. pair (read_exprs es _ _ h) (λ _ j. skip j (λ l. past (read_expr a _ _ l)))))
    read_primary (paren i a) r k f = lead f refl (λ g. past (read_expr a _ _ g))

    pub read_variable : Reads of_variable InVariable
    read_variable (name n) r k f = leaf f refl
    read_variable (element v i a) r k f = pair (read_variable v _ k f) (λ _ g. skip g (λ h. past (read_expr a _ _ h)))
    read_variable (component v c) r k f = pair (read_variable v _ k f) (λ _ g. skip g (λ h. leaf h refl))

    pub read_exprs : Reads of_exprs InExprs
    read_exprs (first a) r k f = read_expr a r k f
    read_exprs (comma es a) r k f = pair (read_exprs es _ k f) (λ _ g. skip g (read_expr a r _))

  read_comparison : Reads of_comparison InComparison
  read_comparison (compare a o b) r k f = pair (read_expr a _ k f) (λ _ g. skip g (read_expr b r _))

  read_condition : Reads of_condition InCondition
  read_condition c r k f = read_many of_subcondition OR (InMany InComparison) (read_many of_comparison AND InComparison read_comparison) c r k f

  mutual
    read_mode : Reads of_mode InMode
    read_mode tree.int r k f = an_item f
    read_mode (tree.byte i) r k f = an_item f
    read_mode tree.ref_int r k f = past (an_item f)
    read_mode (tree.ref_byte i) r k f = past (an_item f)
    read_mode (tree.ref_record n) r k f = skip f (λ g. leaf g refl)
    read_mode (tree.ref_array m) r k f = skip f (λ g. skip g (read_amode m r _))
    read_mode (tree.ref_array_brackets i m) r k f = skip f (λ g. skip g (λ h. skip h (λ j. skip j (read_amode m r _))))

    read_amode : Reads of_amode InElement
    read_amode (tree.simple m) r k f = read_mode m r k f
    read_amode (tree.records n) r k f = leaf f refl

  read_fields : Reads of_fields InFields
  read_fields (tree.field m n) r k f = pair (read_mode m _ k f) (λ _ g. leaf g refl)
  read_fields (also fs n) r k f = pair (read_fields fs _ k f) (λ _ g. skip g (λ h. leaf h refl))
  read_fields (tree.next fs m n) r k f = pair (read_fields fs _ k f) (λ _ g. skip g (λ h. pair (read_mode m _ _ h) (λ _ j. leaf j refl)))

  read_init : {A : Type 0} (of : Spelling A) (I : ℕ → A → ℕ → Type 0) → Reads of I → Reads (of_init of) (InInit I)
  read_init of I read (tree.plain n) r k f = leaf f refl
  read_init of I read (given ns a) r k f = pair (read_many of_name BECOMES InName read_name ns _ k f) (λ _ g. skip g (read a r _))

  read_inits : {A : Type 0} (of : Spelling A) (I : ℕ → A → ℕ → Type 0) → Reads of I → Reads (of_inits of) (InMany (InInit I))
  read_inits of I read is r k f = read_many (of_init of) COMMA (InInit I) (read_init of I read) is r k f

  mutual
    read_value : Reads of_value InValue
    read_value (constant i) r k f = leaf f refl
    read_value (identifier i) r k f = leaf f refl
    read_value (string i) r k f = leaf f refl
    read_value (signed s i) r k f = past (leaf f refl)
    read_value (minus_signed s i) r k f = past (leaf f refl)
    read_value (empty_list i) r k f = past (leaf f refl)
    read_value (list i vs) r k f = lead f refl (λ g. past (read_values vs _ _ g))

    read_values : Reads of_values InValues
    read_values (only a) r k f = read_entry a r k f
    read_values (and vs a) r k f = pair (read_values vs _ k f) (λ _ g. skip g (read_entry a r _))

    read_entry : Reads of_entry InEntry
    read_entry (once v) r k f = read_value v r k f
    read_entry (repeated v i n) r k f = past (past (past (read_value v _ k f)))

  read_names : Reads of_names (InMany InName)
  read_names ns r k f = read_many of_name COMMA InName read_name ns r k f

  read_dec_of : {I : Type 0} (of : Spelling I) (J : ℕ → I → ℕ → Type 0) → Reads of J → Reads (of_dec of) (InDecOf J)
  read_dec_of of J read tree.nothing r k f = stay f
  read_dec_of of J read (variables m is) r k f = pair (read_mode m _ k f) (λ _ g. read is r _ g)
  read_dec_of of J read (arrays b n m is) r k f = skip f (λ g. skip g (λ h. skip h (λ j. skip j (λ l. pair (read_amode m _ _ l) (λ _ p. read is r _ p)))))
  read_dec_of of J read (structures n is) r k f = lead f refl (read is r _)

  read_dec : Reads (of_dec (of_inits of_value)) InDec
  read_dec d r k f = read_dec_of (of_inits of_value) (InMany (InInit InValue)) (read_inits of_value InValue read_value) d r k f

  read_spec : Reads (of_dec of_names) InSpec
  read_spec d r k f = read_dec_of of_names (InMany InName) read_names d r k f

  read_local : Reads of_local InLocal
  read_local (tree.local m is) r k f = pair (read_mode m _ k f) (λ _ g. read_inits of_expr In read_expr is r _ g)

  read_locals : Reads of_locals InLocals
  read_locals no_locals r k f = stay f
  read_locals (locals ls a) r k f = pair (read_locals ls _ k f) (λ _ g. past (read_local a _ _ g))

  read_destination : Reads of_destination InDestination
  read_destination (tree.place v) r k f = read_variable v r k f
  read_destination (val i v) r k f = lead f refl (read_variable v r _)

  mutual
    read_body : Reads of_body InBody
    read_body (body ls s) r k f = pair (read_locals ls _ k f) (λ _ g. read_sequence s r _ g)

    read_sequence : Reads of_sequence InSequence
    read_sequence (single s) r k f = read_statement s r k f
    read_sequence (sequel ss s) r k f = pair (read_sequence ss _ k f) (λ _ g. skip g (read_statement s r _))

    read_statement : Reads of_statement InStatement
    read_statement dummy r k f = stay f
    read_statement (block b) r k f = skip f (λ g. past (read_body b _ _ g))
    read_statement (assign ds a) r k f = pair (read_many of_destination BECOMES InDestination read_destination ds _ k f) (λ _ g. skip g (read_expr a r _))
    read_statement (invoke n i) r k f = past (past (leaf f refl))
    read_statement (invoke_on n i es) r k f = lead f refl (λ g. skip g (λ h. past (read_exprs es _ _ h)))
    read_statement (branch ws) r k f = past (read_arms ws _ k f)
    read_statement (branch_else ws s) r k f = pair (read_arms ws _ k f) (λ _ g. skip g (λ h. past (read_sequence s _ _ h)))
    read_statement (repeat a b) r k f = skip f (λ g. pair (read_expr a _ _ g) (λ _ h. skip h (λ j. past (read_body b _ _ j))))
    read_statement (loop c s) r k f = skip f (λ g. pair (read_condition c _ _ g) (λ _ h. skip h (λ j. past (read_sequence s _ _ j))))
    read_statement (return i) r k f = leaf f refl
    read_statement (return_with i j a) r k f = lead f refl (λ g. skip g (λ h. past (read_expr a _ _ h)))

    read_arms : Reads of_arms InArms
    read_arms (when c s) r k f = skip f (λ g. pair (read_condition c _ _ g) (λ _ h. skip h (read_sequence s r _)))
    read_arms (elsewhen ws c s) r k f = pair (read_arms ws _ k f) (λ _ g. skip g (λ h. pair (read_condition c _ _ h) (λ _ j. skip j (read_sequence s r _))))

  read_brick : Reads of_brick InBrick
  read_brick (store n ds) r k f = skip f (λ g. lead g refl (λ h. skip h (λ j. past (read_many (of_dec (of_inits of_value)) SEMI InDec read_dec ds _ _ j))))
  read_brick (procedure n i ps m b z) r k f =
      skip f
      (λ g. lead g refl
      (λ h. skip h
      (λ j. pair (read_opt of_fields InFields read_fields ps _ _ j)
      (λ _ l. skip l (λ p. pair (read_opt of_mode InMode read_mode m _ _ p) (λ _ q. skip q (λ t. past (read_body b _ _ t))))))))

  read_moditem : Reads of_moditem InModitem
  read_moditem blank r k f = stay f
  read_moditem (external_procs i ms m ns) r k f =
      skip f
      (λ g. skip g
      (λ h. skip h
      (λ j. pair (read_opt (of_many of_mode COMMA) (InMany InMode) (read_many of_mode COMMA InMode read_mode) ms _ _ j)
      (λ _ l. skip l (λ p. pair (read_opt of_mode InMode read_mode m _ _ p) (λ _ q. read_names ns r _ q))))))
  read_moditem (external_store n ds) r k f =
      skip f (λ g. skip g (λ h. lead h refl (λ j. skip j (λ l. past (read_many (of_dec of_names) SEMI InSpec read_spec ds _ _ l)))))
  read_moditem (tree.record_mode n i fs) r k f = skip f (λ g. lead g refl (λ h. skip h (λ j. past (read_fields fs _ _ j))))
  read_moditem (own b) r k f = read_brick b r k f
  read_moditem (entry b) r k f = skip f (read_brick b r _)

  read_module : Reads of_module InModule
  read_module m r k f = read_many of_moditem SEMI InModitem read_moditem m r k f

  -- behind the last item
  at_end : (k : ℕ) → From [] k → k ≡ T
  at_end k f = ended f.0 f.1 f.2
    where
      ended : (w : List Symbol) → [] ≡ items k w → k + length w ≡ T → k ≡ T
      ended [] e t = omega arith
      ended (d ∷ w) e t = let z : ⊥ = grind arith in absurd z

pub made_in_order : (m : Module) (w : List Symbol) → Made m w → InModule 0 m (length w)
made_in_order m w e =
    let x = read_module (length w) m [] 0 (w, e, omega arith) in
    let t = at_end (length w) x.end x.rest in
    x.within 0 (length w) (omega arith) (omega arith)
