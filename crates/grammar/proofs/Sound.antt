-- Read backwards, a move makes trees of trees: what is accepted is made of the items read, and every stack can be met. Assumes nothing.
use Rattle.std.proofs.Common.{◌≡◌, ℕ, Bool, true, false, cond, List, [], ◌∷◌, sym, refl, ap, ◌∙◌, subst}
use Rattle.grammar.specs.Symbols.{NAME, INTEGER, TEXT, ABS, ARRAY, BLOCK, BYTE, DATA, DO, ELSE, ELSEIF, END, ENT, EXT, IF, INT, LAND, LENGTH, LOR, MOD, MODE, NEV, NOT, PROC, REF, RETURN, TO, VAL, WHILE, LEFT, RIGHT, STAR, PLUS, MINUS, COMMA, DOT, SEMI, LESS, EQUAL, MORE, HASH, BECOMES, DIVIDE, ATMOST, ATLEAST, IS, ISNT, same, same_true, Symbol}
use Rattle.grammar.specs.Trees.{Token, token, mark, key, Spelling, one, of_many, Opt, none, some, of_opt, Expr, primary, integer, name, of_expr, of_term, of_primary, equal, compare, of_comparison, int, simple, records, of_mode, of_amode, field, of_fields, plain, constant, once, of_value, of_values, of_entry, nothing, no_locals, val, single, dummy, when, of_sequence, of_statement, store, of_brick, blank, own, of_moditem}
use Rattle.grammar.specs.Machine.{arrange, Stand, inner, start, right, plug, final, links, End, Rest, Closed, shut, no_argument, argument, called, goes, ends, inside, bare, to_int, alike, Setting, stored, inblock, Sort, unset, set, Initial, value, uses, entered, stores, Repetition, exprs, ors, ands, statements, modes, entries, moditems, declareds, decs, Goal, tok, all, each, rest, links_on, a_term, a_primary, named, arguments, argued, closed_on, parts, a_source, compared, arms_on, returned, a_body, a_target, dims, an_amode, maybe_mode, maybe_modes, the_fields, fields_on, a_further, maybe_fields, given_on, chain, linked, a_value, times_on, maybe_values, an_external, a_brick, separator, Single, begun, Tree, Forest, Move, shift, skip, refuse, on, mapped, then, orelse, never, followed, optional, at_links, at_primary, at_term, at_expr, at_end, no_parts, at_dots, at_parts, at_named, behind, pull, at_argued, at_arguments, at_closed, at_source, at_comparator, at_comparison, at_mode, at_amode, at_dims, at_target, at_fields, at_fields_on, at_further, at_value, at_times, at_entry, at_declared, at_given, at_chain, at_linked, at_dec, at_statement, at_arms, at_returned, at_brick, at_external, at_moditem, at_rest, at_whole, at_each, at_all, at_body, move, void_each, map_opt, void_closed, void, Left, taken, step, pair, done, of_initial, of_declared, of_single, of_whole}
use Rattle.grammar.proofs.Spell.{of_links, arrange_of, of_source, of_end, of_rest, of_ending, of_closed, of_more_exprs, assigned_of, val_of, of_argued, of_arguments, of_named, named_of, of_others, branched_of, of_inside, enclose_of, of_returned, returns_of, of_dims, of_target, refers_of, of_furthers, fielded_of, of_chain, of_given, initial_of, stored_name_of, of_linked, block_name_of, of_times, entered_of, listed_of, of_external, externally_of, of_more, begun_of, repeats_of, of_goal, of_forest}

-- What is made of trees for what is left has the symbol's item in front.
abbrev Makes : {T : Type 0} → Spelling T → Symbol → (push : List Goal → List Goal) → (ℕ → (α : List Goal) → Forest (push α) → T × Forest α) → Type 0
Makes of c push build = (n : ℕ) (α : List Goal) (g : Forest (push α)) → of (build n α g).0 (of_forest α (build n α g).1) ≡ mark c n ∷ of_forest (push α) g

abbrev Back : {T : Type 0} → Spelling T → Symbol → Move T → Type 0
Back of c (shift push build) = Makes of c push build
Back of c (skip t) = (r : List Token) → of t r ≡ r
Back of c refuse = Unit {0}

back_on : {T : Type 0} (of : Spelling T) (c k : Symbol) (push : List Goal → List Goal) (build : ℕ → (α : List Goal) → Forest (push α) → T × Forest α) (m : Move T) → Makes of k push build → Back of c m → Back of c (on c k push build m)
back_on of c k push build m p q = by (same c k) refl
  where
    by : (b : Bool) → same c k ≡ b → Back of c (cond b (shift push build) m)
    by true e = subst (λ (n : Symbol). Makes of n push build) (sym (same_true c k e)) p
    by false e = q

back_mapped : {A B : Type 0} (ofA : Spelling A) (ofB : Spelling B) (f : A → B) → ((a : A) (r : List Token) → ofB (f a) r ≡ ofA a r) → (c : Symbol) (m : Move A) → Back ofA c m → Back ofB c (mapped f m)
back_mapped ofA ofB f e c (shift push build) b = λ n α g. e _ _ ∙ b n α g
back_mapped ofA ofB f e c (skip a) b = λ r. e a r ∙ b r
back_mapped ofA ofB f e c refuse b = tt

module _ {A B : Type 0} (ofA : Spelling A) (ofB : Spelling B) (after : List Goal → List Goal) (join : A → (α : List Goal) → Forest (after α) → B × Forest α) where
  back_then : ((a : A) (α : List Goal) (g : Forest (after α)) → ofB (join a α g).0 (of_forest α (join a α g).1) ≡ ofA a (of_forest (after α) g)) → (n : A → Move B) (c : Symbol) (m : Move A) → Back ofA c m → ((a : A) → ((r : List Token) → ofA a r ≡ r) → Back ofB c (n a)) → Back ofB c (then m after join n)
  back_then e n c (shift push build) b d = λ i α g. e _ α _ ∙ b i (after α) g
  back_then e n c (skip a) b d = d a b
  back_then e n c refuse b d = tt

back_followed : {A B : Type 0} (ofA : Spelling A) (ofB : Spelling B) (y : Goal) (join : A → Tree y → B) → ((a : A) (b : Tree y) (r : List Token) → ofB (join a b) r ≡ ofA a (of_goal y b r)) → (c : Symbol) (m : Move A) (n : Move (Tree y)) → Back ofA c m → Back (of_goal y) c n → Back ofB c (followed m y n join)
back_followed ofA ofB y join e c m n p q = back_then ofA ofB (λ α. y ∷ α) _ (λ a α g. e a g.0 _) _ c m p (λ a h. back_mapped (of_goal y) ofB (join a) (λ b r. e a b r ∙ h _) c n q)

back_orelse : {A : Type 0} (of : Spelling A) (c : Symbol) (m n : Move A) → Back of c m → Back of c n → Back of c (orelse m n)
back_orelse of c (shift push build) n p q = p
back_orelse of c (skip a) n p q = p
back_orelse of c refuse n p q = q

back_optional : {A : Type 0} (of : Spelling A) (c : Symbol) (m : Move A) → Back of c m → Back (of_opt of) c (optional m)
back_optional of c m b = back_orelse (of_opt of) c (mapped some m) (skip none) (back_mapped of (of_opt of) some (λ a r. refl) c m b) (λ r. refl)

-- expressions
back_links : (c : Symbol) → Back of_links c (at_links c)
back_links c =
    back_on of_links c PLUS _ _ _ (λ n α g. refl)
    (back_on of_links c MINUS _ _ _ (λ n α g. refl)
    (back_on of_links c NEV _ _ _ (λ n α g. refl)
    (back_on of_links c LOR _ _ _ (λ n α g. refl)
    (back_on of_links c LAND _ _ _ (λ n α g. refl)
    (back_on of_links c STAR _ _ _ (λ n α g. refl)
    (back_on of_links c DIVIDE _ _ _ (λ n α g. refl)
    (back_on of_links c MOD _ _ _ (λ n α g. refl) (λ r. refl))))))))

back_primary : (c : Symbol) → Back of_primary c (at_primary c)
back_primary c =
    back_on of_primary c INTEGER _ _ _ (λ n α g. refl)
    (back_on of_primary c TEXT _ _ _ (λ n α g. refl)
    (back_on of_primary c NAME _ _ _ (λ n α g. named_of inner n g.0 _)
    (back_on of_primary c LEFT _ _ _ (λ n α g. refl) tt)))

back_term : (c : Symbol) → Back of_term c (at_term c)
back_term c =
    back_on of_term c PLUS _ _ _ (λ n α g. refl)
    (back_on of_term c MINUS _ _ _ (λ n α g. refl)
    (back_on of_term c ABS _ _ _ (λ n α g. refl)
    (back_on of_term c NOT _ _ _ (λ n α g. refl)
    (back_on of_term c BYTE _ _ _ (λ n α g. refl)
    (back_on of_term c LENGTH _ _ _ (λ n α g. refl)
    (back_mapped of_primary of_term primary (λ a r. refl) c (at_primary c) (back_primary c)))))))

back_expr : (c : Symbol) → Back of_expr c (at_expr c)
back_expr c = back_followed of_term of_expr links_on arrange arrange_of c (at_term c) (at_links c) (back_term c) (back_links c)

-- forms that begin with a name
back_end : (w : Stand) (c : Symbol) → Back (of_end w) c (at_end w c)
back_end inner c = λ r. refl
back_end start c = back_on (of_end start) c BECOMES _ _ _ (λ n α g. refl) tt
back_end right c = back_on (of_end right) c BECOMES _ _ _ (λ n α g. refl) (back_mapped of_links (of_end right) links (λ a r. refl) c (at_links c) (back_links c))

back_dots : (w : Stand) (c : Symbol) → Back (of_ending w) c (at_dots w c)
back_dots w c = back_on (of_ending w) c DOT _ _ _ (λ n α g. refl) (back_mapped (of_end w) (of_ending w) no_parts (λ a r. refl) c (at_end w c) (back_end w c))

back_parts : (w : Stand) (c : Symbol) → Back (of_ending w) c (at_parts w c)
back_parts w c = back_on (of_ending w) c LEFT _ _ _ (λ n α g. refl) (back_dots w c)

back_named : (w : Stand) (c : Symbol) → Back (of_named w) c (at_named w c)
back_named w c = back_on (of_named w) c LEFT _ _ _ (λ n α g. refl) (back_mapped (of_ending w) (of_named w) goes (λ a r. refl) c (at_dots w c) (back_dots w c))

pull_of : (w : Stand) (α : List Goal) (g : Forest (behind w α)) → of_rest w (pull w α g).0 (of_forest α (pull w α g).1) ≡ of_forest (behind w α) g
pull_of inner α g = refl
pull_of _ α g = refl

more_exprs : (es : List (Expr 5)) (r : List Token) → of_more_exprs es r ≡ of_more exprs es r
more_exprs [] r = refl
more_exprs (e ∷ es) r = ap (λ v. key COMMA ∷ of_expr e v) (more_exprs es r)

back_argued : (w : Stand) (c : Symbol) → Back (of_argued w) c (at_argued w c)
back_argued w c =
    back_on (of_argued w) c RIGHT _ _ _ (λ n α g. refl)
    (back_on (of_argued w) c COMMA _ _ _ (λ n α g. ap (λ v. key COMMA ∷ of_expr g.0 v) (more_exprs g.1.0 _ ∙ ap (λ v. of_more exprs g.1.0 (key RIGHT ∷ v)) (pull_of w α g.1.1.1))) tt)

back_arguments : (w : Stand) (c : Symbol) → Back (of_arguments w) c (at_arguments w c)
back_arguments w c =
    back_on (of_arguments w) c RIGHT _ _ _ (λ n α g. ap (λ v. key RIGHT ∷ v) (pull_of w α g))
    (back_followed of_expr (of_arguments w) (argued w) argument (λ e a r. refl) c (at_expr c) (at_argued w c) (back_expr c) (back_argued w c))

back_closed : (w : Stand) (c : Symbol) → Back (of_closed w) c (at_closed w c)
back_closed inner c = back_parts inner c
back_closed start c = back_optional (of_ending start) c (at_parts start c) (back_parts start c)
back_closed right c = back_parts right c

back_source : (c : Symbol) → Back of_source c (at_source c)
back_source c =
    back_on of_source c VAL _ _ _ (λ n α g. val_of n g.0 g.1.0 _)
    (back_on of_source c NAME _ _ _ (λ n α g. named_of right n g.0 _)
    (back_mapped of_expr of_source final (λ a r. refl) c (at_expr c) (back_expr c)))

-- conditions
back_comparator : (c : Symbol) → Back (of_goal compared) c (at_comparator c)
back_comparator c =
    back_on (of_goal compared) c EQUAL _ _ _ (λ n α g. refl)
    (back_on (of_goal compared) c HASH _ _ _ (λ n α g. refl)
    (back_on (of_goal compared) c LESS _ _ _ (λ n α g. refl)
    (back_on (of_goal compared) c ATMOST _ _ _ (λ n α g. refl)
    (back_on (of_goal compared) c MORE _ _ _ (λ n α g. refl)
    (back_on (of_goal compared) c ATLEAST _ _ _ (λ n α g. refl)
    (back_on (of_goal compared) c IS _ _ _ (λ n α g. refl)
    (back_on (of_goal compared) c ISNT _ _ _ (λ n α g. refl) tt)))))))

back_comparison : (c : Symbol) → Back of_comparison c (at_comparison c)
back_comparison c = back_followed of_expr of_comparison compared _ (λ e p r. refl) c (at_expr c) (at_comparator c) (back_expr c) (back_comparator c)

-- modes
back_mode : (c : Symbol) → Back of_mode c (at_mode c)
back_mode c =
    back_on of_mode c INT _ _ _ (λ n α g. refl)
    (back_on of_mode c BYTE _ _ _ (λ n α g. refl)
    (back_on of_mode c REF _ _ _ (λ n α g. refers_of g.0 _) tt))

back_amode : (c : Symbol) → Back of_amode c (at_amode c)
back_amode c = back_on of_amode c NAME _ _ _ (λ n α g. refl) (back_mapped of_mode of_amode simple (λ a r. refl) c (at_mode c) (back_mode c))

back_dims : (c : Symbol) → Back of_dims c (at_dims c)
back_dims c = back_on of_dims c LEFT _ _ _ (λ n α g. refl) (back_mapped of_amode of_dims bare (λ a r. refl) c (at_amode c) (back_amode c))

back_target : (c : Symbol) → Back of_target c (at_target c)
back_target c =
    back_on of_target c INT _ _ _ (λ n α g. refl)
    (back_on of_target c BYTE _ _ _ (λ n α g. refl)
    (back_on of_target c NAME _ _ _ (λ n α g. refl)
    (back_on of_target c ARRAY _ _ _ (λ n α g. refl) tt)))

back_fields : (c : Symbol) → Back of_fields c (at_fields c)
back_fields c = back_then of_mode of_fields _ _ (λ m α g. fielded_of (field m g.0) g.1.0 _) never c (at_mode c) (back_mode c) (λ a e. tt)

back_fields_on : (c : Symbol) → Back of_furthers c (at_fields_on c)
back_fields_on c = back_on of_furthers c COMMA _ _ _ (λ n α g. refl) (λ r. refl)

back_further : (c : Symbol) → Back (of_goal a_further) c (at_further c)
back_further c =
    back_on (of_goal a_further) c NAME _ _ _ (λ n α g. refl)
    (back_then of_mode (of_goal a_further) _ _ (λ m α g. refl) never c (at_mode c) (back_mode c) (λ a e. tt))

-- initial values and declarations
back_value : (c : Symbol) → Back of_value c (at_value c)
back_value c =
    back_on of_value c INTEGER _ _ _ (λ n α g. refl)
    (back_on of_value c PLUS _ _ _ (λ n α g. refl)
    (back_on of_value c MINUS _ _ _ (λ n α g. refl)
    (back_on of_value c NAME _ _ _ (λ n α g. refl)
    (back_on of_value c TEXT _ _ _ (λ n α g. refl)
    (back_on of_value c LEFT _ _ _ (λ n α g. listed_of n g.0 _) tt)))))

back_times : (c : Symbol) → Back of_times c (at_times c)
back_times c = back_on of_times c LEFT _ _ _ (λ n α g. refl) (λ r. refl)

back_entry : (c : Symbol) → Back of_entry c (at_entry c)
back_entry c = back_followed of_value of_entry times_on entered entered_of c (at_value c) (at_times c) (back_value c) (back_times c)

back_declared : (s : Sort) (c : Symbol) → Back (of_declared s) c (at_declared s c)
back_declared unset c = back_on (of_declared unset) c NAME _ _ _ (λ n α g. refl) tt
back_declared (set v) c = back_on (of_declared (set v)) c NAME _ _ _ (λ n α g. initial_of (of_initial v) n g.0 _) tt

back_given : (v : Setting) (c : Symbol) → Back (of_given (of_initial v)) c (at_given v c)
back_given v c = back_on (of_given (of_initial v)) c BECOMES _ _ _ (λ n α g. refl) (λ r. refl)

back_chain : (v : Setting) (c : Symbol) → Back (of_chain (of_initial v)) c (at_chain v c)
back_chain stored c = back_on (of_chain of_value) c NAME _ _ _ (λ n α g. stored_name_of n g.0 _) (back_mapped of_value (of_chain of_value) value (λ a r. refl) c (at_value c) (back_value c))
back_chain inblock c = back_on (of_chain of_expr) c NAME _ _ _ (λ n α g. block_name_of n g.0 _) (back_mapped of_expr (of_chain of_expr) value (λ a r. refl) c (at_expr c) (back_expr c))

back_linked : (c : Symbol) → Back of_linked c (at_linked c)
back_linked c =
    back_on of_linked c BECOMES _ _ _ (λ n α g. refl)
    (back_followed (of_named inner) of_linked links_on uses (λ x ls r. refl) c (at_named inner c) (at_links c) (back_named inner c) (back_links c))

back_dec : (s : Sort) (c : Symbol) → Back (of_single (decs s)) c (at_dec s c)
back_dec s c =
    back_on (of_single (decs s)) c ARRAY _ _ _ (λ n α g. refl)
    (back_on (of_single (decs s)) c NAME _ _ _ (λ n α g. refl)
    (back_orelse (of_single (decs s)) c _ (skip nothing) (back_then of_mode (of_single (decs s)) _ _ (λ m α g. refl) never c (at_mode c) (back_mode c) (λ a e. tt)) (λ r. refl)))

-- statements
back_statement : (c : Symbol) → Back of_statement c (at_statement c)
back_statement c =
    back_on of_statement c BLOCK _ _ _ (λ n α g. ap (λ v. key BLOCK ∷ v) (enclose_of no_locals g.0 _))
    (back_on of_statement c IF _ _ _ (λ n α g. branched_of (when g.0 g.1.1.0) g.1.1.1.0 _)
    (back_on of_statement c TO _ _ _ (λ n α g. ap (λ v. key TO ∷ of_expr g.0 (key DO ∷ v)) (enclose_of no_locals g.1.1.0 _))
    (back_on of_statement c WHILE _ _ _ (λ n α g. refl)
    (back_on of_statement c RETURN _ _ _ (λ n α g. returns_of n g.0 _)
    (back_on of_statement c VAL _ _ _ (λ n α g. assigned_of (one (val n (plug (name g.0) g.1.0.0))) g.1.0.1 _ ∙ val_of n g.0 g.1.0 _)
    (back_on of_statement c NAME _ _ _ (λ n α g. named_of start n g.0 _) (λ r. refl)))))))

back_arms : (c : Symbol) → Back of_others c (at_arms c)
back_arms c =
    back_on of_others c ELSEIF _ _ _ (λ n α g. refl)
    (back_on of_others c ELSE _ _ _ (λ n α g. refl)
    (back_on of_others c END _ _ _ (λ n α g. refl) tt))

back_returned : (c : Symbol) → Back of_returned c (at_returned c)
back_returned c = back_on of_returned c LEFT _ _ _ (λ n α g. refl) (λ r. refl)

-- module items
back_brick : (c : Symbol) → Back of_brick c (at_brick c)
back_brick c =
    back_on of_brick c DATA _ _ _ (λ n α g. refl)
    (back_on of_brick c PROC _ _ _ (λ n α g. ap (λ v. key PROC ∷ token NAME g.0 ∷ token LEFT g.1.0 ∷ of_opt of_fields g.1.1.0 (key RIGHT ∷ of_opt of_mode g.1.1.1.1.0 (key SEMI ∷ v))) (enclose_of no_locals g.1.1.1.1.1.1.0 _)) tt)

back_external : (c : Symbol) → Back of_external c (at_external c)
back_external c =
    back_on of_external c PROC _ _ _ (λ n α g. refl)
    (back_on of_external c DATA _ _ _ (λ n α g. refl) tt)

back_moditem : (c : Symbol) → Back of_moditem c (at_moditem c)
back_moditem c =
    back_on of_moditem c EXT _ _ _ (λ n α g. externally_of g.0 _)
    (back_on of_moditem c MODE _ _ _ (λ n α g. refl)
    (back_on of_moditem c ENT _ _ _ (λ n α g. refl)
    (back_orelse of_moditem c (mapped own (at_brick c)) (skip blank) (back_mapped of_brick of_moditem own (λ a r. refl) c (at_brick c) (back_brick c)) (λ r. refl))))

-- repetitions
back_separator : (r : Repetition) → (n : ℕ) → mark (separator r) n ≡ key (separator r)
back_separator exprs n = refl
back_separator _ n = refl

back_rest : (r : Repetition) (c : Symbol) → Back (of_more r) c (at_rest r c)
back_rest r c = back_on (of_more r) c (separator r) _ _ _ (λ n α g. ap (λ t. t ∷ of_single r g.0 (of_more r g.1.0 (of_forest α g.1.1))) (sym (back_separator r n))) (λ x. refl)

back_whole : (r : Repetition) (c : Symbol) (m : Move (Single r)) → Back (of_single r) c m → Back (of_whole r) c (at_whole r c m)
back_whole r c m b = back_followed (of_single r) (of_whole r) (rest r) _ (repeats_of r) c m (at_rest r c) b (back_rest r c)

back_each : (r : Repetition) (c : Symbol) → Back (of_single r) c (at_each r c)
back_each exprs c = back_expr c
back_each ors c = back_whole ands c (at_comparison c) (back_comparison c)
back_each ands c = back_comparison c
back_each statements c = back_statement c
back_each modes c = back_mode c
back_each entries c = back_entry c
back_each moditems c = back_moditem c
back_each (declareds s) c = back_declared s c
back_each (decs s) c = back_dec s c

back_all : (r : Repetition) (c : Symbol) → Back (of_whole r) c (at_all r c)
back_all r c = back_whole r c (at_each r c) (back_each r c)

back_body : (c : Symbol) → Back of_inside c (at_body c)
back_body c = back_orelse of_inside c _ _ (back_then of_mode of_inside _ _ (λ m α g. refl) never c (at_mode c) (back_mode c) (λ a e. tt)) (back_mapped of_sequence of_inside inside (λ a r. refl) c (at_all statements c) (back_all statements c))

back : (x : Goal) (c : Symbol) → Back (of_goal x) c (move x c)
back (tok k) c = back_on (of_goal (tok k)) c k _ _ refuse (λ n α g. refl) tt
back (all r) c = back_all r c
back (each r) c = back_each r c
back (rest r) c = back_rest r c
back links_on c = back_links c
back a_term c = back_term c
back a_primary c = back_primary c
back (named w) c = back_named w c
back (arguments w) c = back_arguments w c
back (argued w) c = back_argued w c
back (closed_on w) c = back_closed w c
back (parts w) c = back_parts w c
back a_source c = back_source c
back compared c = back_comparator c
back arms_on c = back_arms c
back returned c = back_returned c
back a_body c = back_body c
back a_target c = back_target c
back dims c = back_dims c
back an_amode c = back_amode c
back maybe_mode c = back_optional of_mode c (at_mode c) (back_mode c)
back maybe_modes c = back_optional (of_many of_mode COMMA) c (at_all modes c) (back_all modes c)
back the_fields c = back_fields c
back fields_on c = back_fields_on c
back a_further c = back_further c
back maybe_fields c = back_optional of_fields c (at_fields c) (back_fields c)
back (given_on v) c = back_given v c
back (chain v) c = back_chain v c
back linked c = back_linked c
back a_value c = back_value c
back times_on c = back_times c
back maybe_values c = back_optional of_values c (at_all entries c) (back_all entries c)
back an_external c = back_external c
back a_brick c = back_brick c

-- the same of a whole stack
abbrev pub Backs : (γ : List Goal) → Symbol → Opt (Left γ) → Type 0
Backs γ c none = Unit {0}
Backs γ c (some l) = (n : ℕ) (g : Forest l.0) → of_forest γ (l.1 n g) ≡ mark c n ∷ of_forest l.0 g

back_taken : (x : Goal) (α : List Goal) (c : Symbol) (m : Move (Tree x)) (o : Opt (Left α)) → Back (of_goal x) c m → Backs α c o → Backs (x ∷ α) c (taken x α m o)
back_taken x α c (shift push build) o p q = λ n g. p n α g
back_taken x α c (skip t) none p q = tt
back_taken x α c (skip t) (some l) p q = λ n g. p _ ∙ q n g
back_taken x α c refuse o p q = tt

pub back_step : (γ : List Goal) (c : Symbol) → Backs γ c (step γ c)
back_step [] c = tt
back_step (x ∷ α) c = back_taken x α c (move x c) (step α c) (back x c) (back_step α c)

-- what a goal is when it is empty
abbrev Blank : (x : Goal) → Opt (Tree x) → Type 0
Blank x none = Unit {0}
Blank x (some t) = (r : List Token) → of_goal x t r ≡ r

blank_each : (r : Repetition) → Blank (each r) (void_each r)
blank_each statements = λ r. refl
blank_each moditems = λ r. refl
blank_each (decs s) = λ r. refl
blank_each _ = tt

blank_all : (r : Repetition) (o : Opt (Single r)) → Blank (each r) o → Blank (all r) (map_opt (begun r) o)
blank_all r none b = tt
blank_all r (some u) b = λ x. begun_of r u x ∙ b x

blank_named : (w : Stand) → Blank (named w) (void (named w))
blank_named inner = λ r. refl
blank_named start = tt
blank_named right = λ r. refl

blank_parts : (w : Stand) → Blank (parts w) (void (parts w))
blank_parts inner = λ r. refl
blank_parts start = tt
blank_parts right = λ r. refl

blank_closed : (w : Stand) → Blank (closed_on w) (void_closed w)
blank_closed inner = λ r. refl
blank_closed _ = λ r. refl

blank_goal : (x : Goal) → Blank x (void x)
blank_goal (all r) = blank_all r (void_each r) (blank_each r)
blank_goal (each r) = blank_each r
blank_goal (rest r) = λ x. refl
blank_goal links_on = λ r. refl
blank_goal (named w) = blank_named w
blank_goal (closed_on w) = blank_closed w
blank_goal (parts w) = blank_parts w
blank_goal returned = λ r. refl
blank_goal a_body = λ r. refl
blank_goal maybe_mode = λ r. refl
blank_goal maybe_modes = λ r. refl
blank_goal fields_on = λ r. refl
blank_goal maybe_fields = λ r. refl
blank_goal (given_on v) = λ r. refl
blank_goal linked = λ r. refl
blank_goal times_on = λ r. refl
blank_goal maybe_values = λ r. refl
blank_goal _ = tt

abbrev pub Blanks : (γ : List Goal) → Opt (Forest γ) → Type 0
Blanks γ none = Unit {0}
Blanks γ (some f) = of_forest γ f ≡ []

blank_pair : (x : Goal) (α : List Goal) (o : Opt (Tree x)) (p : Opt (Forest α)) → Blank x o → Blanks α p → Blanks (x ∷ α) (pair o p)
blank_pair x α none p a b = tt
blank_pair x α (some t) none a b = tt
blank_pair x α (some t) (some f) a b = a _ ∙ b

pub blank_forest : (γ : List Goal) → Blanks γ (done γ)
blank_forest [] = refl
blank_forest (x ∷ α) = blank_pair x α (void x) (done α) (blank_goal x) (blank_forest α)

-- every goal has a tree
least_expr : Expr 5
least_expr = arrange (primary (integer 0)) []

least_single : (r : Repetition) → Single r
least_single exprs = least_expr
least_single ors = one (compare least_expr equal least_expr)
least_single ands = compare least_expr equal least_expr
least_single statements = dummy
least_single modes = int
least_single entries = once (constant 0)
least_single moditems = blank
least_single (declareds unset) = 0
least_single (declareds (set v)) = plain 0
least_single (decs s) = nothing

least_rest : (w : Stand) → Rest w
least_rest inner = tt
least_rest start = tt
least_rest right = []

least_end : (w : Stand) → End w
least_end inner = tt
least_end start = final least_expr
least_end right = links []

least_closed : (w : Stand) → Closed w
least_closed inner = ([], tt)
least_closed start = none
least_closed right = ([], links [])

least_initial : (v : Setting) → Initial v
least_initial stored = constant 0
least_initial inblock = least_expr

least : (x : Goal) → Tree x
least (tok k) = 0
least (all r) = begun r (least_single r)
least (each r) = least_single r
least (rest r) = []
least links_on = []
least a_term = primary (integer 0)
least a_primary = integer 0
least (named w) = called 0 (no_argument (least_rest w))
least (arguments w) = no_argument (least_rest w)
least (argued w) = shut (least_closed w)
least (closed_on w) = least_closed w
least (parts w) = ([], least_end w)
least a_source = final least_expr
least compared = (equal, least_expr)
least arms_on = ends
least a_body = inside (single dummy)
least a_target = to_int
least dims = bare (records 0)
least an_amode = records 0
least the_fields = field int 0
least fields_on = []
least a_further = (alike 0, [])
least (chain v) = value (least_initial v)
least linked = uses (goes ([], tt)) []
least a_value = constant 0
least an_external = stores 0 (one nothing)
least a_brick = store 0 (one nothing)
least _ = none

pub least_forest : (γ : List Goal) → Forest γ
least_forest [] = tt
least_forest (x ∷ γ) = (least x, least_forest γ)
