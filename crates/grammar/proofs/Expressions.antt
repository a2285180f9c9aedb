-- Every expression is read back from its items. Assumes nothing.
use Rattle.std.proofs.Common.{◌≡◌, ℕ, Bool, false, cond, List, [], ◌∷◌, sym, refl, ap, ◌∙◌}
use Rattle.grammar.specs.Symbols.{NAME, INTEGER, TEXT, LEFT, RIGHT, COMMA, DOT, BECOMES, same, Symbol}
use Rattle.grammar.specs.Trees.{Token, token, symbol, key, none, some, Dyadic, times, divide, modulo, land, lor, nev, plus, minus, spell, Monadic, positive, spell_monadic, Expr, term, up, dyadic, Term, monadic, primary, Primary, integer, text, variable, call, call_on, paren, Variable, name, element, component, Exprs, first, comma, of_expr, of_term, of_primary, of_variable, of_exprs}
use Rattle.grammar.specs.Machine.{Flat, here, below, link, State, close, fresh, put, folds, Stand, inner, start, right, plug, argument, goes, Result, finish, gather, finish_calls, finish_closed, finish_arguments, finish_named, exprs, Goal, tok, rest, links_on, a_term, a_primary, named, arguments, argued, closed_on, parts, an_expr, Tree, Forest, Move, shift, on, mapped, behind, pull, Seen, just_name, one_index, longer, var_of, indexed, seen, next_goal}
use Rattle.grammar.proofs.Spell.{spell_flat}
use Rattle.grammar.proofs.Read.{read, Off, Chains, off, chains, expr_is}

-- the first term of an expression, and what has been read when it has been read
abbrev pub head : {n : ℕ} → Expr n → Term
head (term t) = t
head (up e) = head e
head (dyadic a o i b) = head a

abbrev pub st : {n : ℕ} → Expr n → State n
st (term t) = t
st (up e) = (none, st e)
st (dyadic a o i b) = (some (a, o, i), st b)

pub closed_st : {n : ℕ} (e : Expr n) → close n (st e) ≡ e
closed_st (term t) = refl
closed_st (up e) = ap up (closed_st e)
closed_st (dyadic a o i b) = ap (dyadic a o i) (closed_st b)

-- nothing that goes on with a form, nor ':=', stands in front of v; nor an operator
abbrev pub Stays : List Token → Type 0
Stays [] = Unit {0}
Stays (u ∷ w) = (same (symbol u) LEFT ≡ false) × (same (symbol u) DOT ≡ false) × (same (symbol u) BECOMES ≡ false)

pub stays_op : {n : ℕ} (o : Dyadic n) (i : ℕ) (w : List Token) → Stays (token (spell o) i ∷ w)
stays_op times i w = (refl, refl, refl)
stays_op _ i w = (refl, refl, refl)

abbrev pub Ends : List Token → Type 0
Ends v = Stays v × Off links_on [] v

pub on_not : {T : Type 0} (c k : Symbol) (push : List Goal → List Goal) (build : ℕ → (α : List Goal) → Forest (push α) → T × Forest α) (m : Move T) → same c k ≡ false → on c k push build m ≡ m
on_not c k push build m h = ap (λ (b : Bool). cond b (shift push build) m) h

-- an expression does not begin with ')'
abbrev pub heads : Symbol → List Token → Bool
heads k [] = false
heads k (u ∷ w) = same (symbol u) k

mutual
  heads_expr : {n : ℕ} (e : Expr n) (v : List Token) → heads RIGHT (of_expr e v) ≡ false
  heads_expr (term t) v = heads_term t v
  heads_expr (up e) v = heads_expr e v
  heads_expr (dyadic a o i b) v = heads_expr a _

  heads_term : (t : Term) (v : List Token) → heads RIGHT (of_term t v) ≡ false
  heads_term (monadic positive i t) v = refl
  heads_term (monadic _ i t) v = refl
  heads_term (primary p) v = heads_primary p v

  heads_primary : (p : Primary) (v : List Token) → heads RIGHT (of_primary p v) ≡ false
  heads_primary (variable x) v = heads_variable x v
  heads_primary _ v = refl

  heads_variable : (x : Variable) (v : List Token) → heads RIGHT (of_variable x v) ≡ false
  heads_variable (name n) v = refl
  heads_variable (element x i e) v = heads_variable x _
  heads_variable (component x n) v = heads_variable x _

indexed_var : (s : Seen) (i : ℕ) (e : Expr 5) → var_of (indexed s i e) ≡ element (var_of s) i e
indexed_var (just_name n) i e = refl
indexed_var _ i e = refl

pub seen_var : (v : Variable) → var_of (seen v) ≡ v
seen_var (name n) = refl
seen_var (element v i e) = indexed_var (seen v) i e ∙ ap (λ (x : Variable). element x i e) (seen_var v)
seen_var (component v n) = ap (λ (x : Variable). component x n) (seen_var v)

abbrev pub result : (s : Seen) (w : Stand) → Tree (next_goal s w) → Result w
result (just_name n) w x = finish_named w n x
result (one_index n i e) w x = finish_closed w n i e x
result (longer v) w x = finish w (plug v x.0) x.1

args_chains : (w : Stand) (v : List Token) → heads RIGHT v ≡ false → Chains (arguments w) an_expr (argued w) argument v
args_chains w [] h = refl
args_chains w (u ∷ v) h = on_not (symbol u) RIGHT _ _ _ h

-- What is to be shown of a term, of an expression, and of an expression whose first term stands under some other goal: there C is
-- what has been read around it, and L how an operator of it looks from there.
abbrev pub TermRead : Type 0 → Term → Type 0
TermRead R t = (α : List Goal) (v : List Token) (k : Forest (a_term ∷ α) → R) → Stays v → read (a_term ∷ α) (of_term t v) k ≡ read α v (λ f. k (t, f))

abbrev pub ExprRead : Type 0 → Expr 5 → Type 0
ExprRead R e = (α : List Goal) (v : List Token) (k : Forest (an_expr ∷ α) → R) → Ends v → read (an_expr ∷ α) (of_expr e v) k ≡ read α v (λ f. k (e, f))

abbrev pub Spine : Type 0 → (n : ℕ) → Expr n → Type 0
Spine R n e =
    (C : State n → State 5) (L : Flat n → Flat 5)
    → ((f : Flat n) (i : ℕ) (t : Term) (s : State n) → put (L f) i t (C s) ≡ C (put f i t s))
    → ((f : Flat n) → spell_flat (L f) ≡ spell_flat f)
    → (γ : List Goal) (j : Forest γ → R) (α : List Goal) (k : Forest (an_expr ∷ α) → R)
    → ((v : List Token) → Stays v → read γ (of_term (head e) v) j ≡ read (links_on ∷ α) v (λ g. k (close 5 (folds (C (fresh n (head e))) g.0), g.1)))
    → (v : List Token) → Stays v → read γ (of_expr e v) j ≡ read (links_on ∷ α) v (λ g. k (close 5 (folds (C (st e)) g.0), g.1))

-- a stack that takes the first symbols of a primary as a primary does
pub record Primaries (R : Type 0) (γ : List Goal) (j : Forest γ → R) (α : List Goal) (k : Forest (a_primary ∷ α) → R) : Type 0 where
  pub at_integer : (i : ℕ) (w : List Token) → read γ (token INTEGER i ∷ w) j ≡ read (a_primary ∷ α) (token INTEGER i ∷ w) k
  pub at_text : (i : ℕ) (w : List Token) → read γ (token TEXT i ∷ w) j ≡ read (a_primary ∷ α) (token TEXT i ∷ w) k
  pub at_name : (i : ℕ) (w : List Token) → read γ (token NAME i ∷ w) j ≡ read (a_primary ∷ α) (token NAME i ∷ w) k
  pub at_left : (i : ℕ) (w : List Token) → read γ (token LEFT i ∷ w) j ≡ read (a_primary ∷ α) (token LEFT i ∷ w) k

module _ {R : Type 0} where
  -- an operator in front
  links_at : (f : Flat 5) (i : ℕ) (α : List Goal) (w : List Token) (k : Forest (links_on ∷ α) → R) → read (links_on ∷ α) (token (spell_flat f) i ∷ w) k ≡ read (a_term ∷ links_on ∷ α) w (λ g. k (link f i g.0 ∷ g.1.0, g.1.1))
  links_at (here _ plus) i α w k = refl
  links_at (here _ minus) i α w k = refl
  links_at (below _ (here _ nev)) i α w k = refl
  links_at (below _ (below _ (here _ lor))) i α w k = refl
  links_at (below _ (below _ (below _ (here _ land)))) i α w k = refl
  links_at (below _ (below _ (below _ (below _ (here _ times))))) i α w k = refl
  links_at (below _ (below _ (below _ (below _ (here _ divide))))) i α w k = refl
  links_at (below _ (below _ (below _ (below _ (here _ modulo))))) i α w k = refl
  links_at (below _ (below _ (below _ (below _ (below _ f))))) i α w k = elim f [ ]

  monadic_at : (o : Monadic) (i : ℕ) (α : List Goal) (w : List Token) (k : Forest (a_term ∷ α) → R) → read (a_term ∷ α) (token (spell_monadic o) i ∷ w) k ≡ read (a_term ∷ α) w (λ g. k (monadic o i g.0, g.1))
  monadic_at positive i α w k = refl
  monadic_at _ i α w k = refl

  -- a whole expression
  pub whole : (e : Expr 5) → TermRead R (head e) → Spine R 5 e → ExprRead R e
  whole e H S α v k h =
      expr_is α (of_expr e v) k
      ∙ S (λ s. s) (λ f. f) (λ f i t s. refl) (λ f. refl) (a_term ∷ links_on ∷ α) _ α k (λ v h. H (links_on ∷ α) v _ h) v h.0
      ∙ off links_on [] α v _ h.1
      ∙ ap (λ (x : Expr 5). read α v (λ f. k (x, f))) (closed_st e)

  -- brackets behind a name
  pub arguments_is : (w : Stand) (α : List Goal) (v : List Token) (k : Forest (arguments w ∷ α) → R) → heads RIGHT v ≡ false → read (arguments w ∷ α) v k ≡ read (an_expr ∷ argued w ∷ α) v (λ g. k (argument g.0 g.1.0, g.1.1))
  arguments_is w α v k h = chains (arguments w) an_expr (argued w) argument α v k (args_chains w v h)

  -- one more part of a form
  select_at : (s : Seen) (w : Stand) (α : List Goal) (n : ℕ) (v : List Token) (k : Result w × Forest α → R) → read (next_goal s w ∷ α) (key DOT ∷ token NAME n ∷ v) (λ g. k (result s w g.0, g.1)) ≡ read (parts w ∷ α) v (λ g. k (finish w (plug (component (var_of s) n) g.0.0) g.0.1, g.1))
  select_at (one_index m i e) inner α n v k = refl
  select_at (one_index m i e) _ α n v k = refl
  select_at _ w α n v k = refl

  pub index_at : (s : Seen) (w : Stand) (α : List Goal) (i : ℕ) (e : Expr 5) (v : List Token) (k : Result w × Forest α → R) → ExprRead R e → read (next_goal s w ∷ α) (token LEFT i ∷ of_expr e (key RIGHT ∷ v)) (λ g. k (result s w g.0, g.1)) ≡ read (next_goal (indexed s i e) w ∷ α) v (λ g. k (result (indexed s i e) w g.0, g.1))
  index_at (just_name m) w α i e v k E = arguments_is w α (of_expr e (key RIGHT ∷ v)) _ (heads_expr e _) ∙ E (argued w ∷ α) (key RIGHT ∷ v) _ ((refl, refl, refl), refl)
  index_at (one_index m j x) inner α i e v k E = E (tok RIGHT ∷ parts inner ∷ α) (key RIGHT ∷ v) _ ((refl, refl, refl), refl)
  index_at (one_index m j x) start α i e v k E = E (tok RIGHT ∷ parts start ∷ α) (key RIGHT ∷ v) _ ((refl, refl, refl), refl)
  index_at (one_index m j x) right α i e v k E = E (tok RIGHT ∷ parts right ∷ α) (key RIGHT ∷ v) _ ((refl, refl, refl), refl)
  index_at (longer x) w α i e v k E = E (tok RIGHT ∷ parts w ∷ α) (key RIGHT ∷ v) _ ((refl, refl, refl), refl)

  -- the end of a form in an expression
  pub end_inner : (s : Seen) (α : List Goal) (v : List Token) (k : Forest (a_primary ∷ α) → R) → Stays v → read (next_goal s inner ∷ α) v (λ g. k (result s inner g.0, g.1)) ≡ read α v (λ f. k (variable (var_of s), f))
  end_inner (just_name n) α [] k h = off (named inner) (goes ([], tt)) α [] (λ g. k (finish_named inner n g.0, g.1)) refl
  end_inner (just_name n) α (u ∷ w) k h = off (named inner) (goes ([], tt)) α (u ∷ w) (λ g. k (finish_named inner n g.0, g.1)) (on_not (symbol u) LEFT _ _ _ h.0 ∙ ap (mapped goes) (on_not (symbol u) DOT _ _ _ h.1))
  end_inner (one_index n i e) α [] k h = off (closed_on inner) ([], tt) α [] (λ g. k (finish_closed inner n i e g.0, g.1)) refl
  end_inner (one_index n i e) α (u ∷ w) k h = off (closed_on inner) ([], tt) α (u ∷ w) (λ g. k (finish_closed inner n i e g.0, g.1)) (on_not (symbol u) LEFT _ _ _ h.0 ∙ on_not (symbol u) DOT _ _ _ h.1)
  end_inner (longer x) α [] k h = off (parts inner) ([], tt) α [] (λ g. k (finish inner (plug x g.0.0) g.0.1, g.1)) refl
  end_inner (longer x) α (u ∷ w) k h = off (parts inner) ([], tt) α (u ∷ w) (λ g. k (finish inner (plug x g.0.0) g.0.1, g.1)) (on_not (symbol u) LEFT _ _ _ h.0 ∙ on_not (symbol u) DOT _ _ _ h.1)

  mutual
    pub head_read : {n : ℕ} (e : Expr n) → TermRead R (head e)
    head_read (term t) = term_read t
    head_read (up e) = head_read e
    head_read (dyadic a o i b) = head_read a

    pub spine : {n : ℕ} (e : Expr n) → Spine R n e
    spine (term t) C L law sp γ j α k P v h = P v h
    spine (up e) C L law sp γ j α k P v h = spine e (λ s. C (none, s)) (λ f. L (below _ f)) (λ f i t s. law (below _ f) i t (none, s)) (λ f. sp (below _ f)) γ j α k P v h
    spine (dyadic a o i b) C L law sp γ j α k P v h =
        spine a C L law sp γ j α k P (token (spell o) i ∷ of_expr b v) (stays_op o i (of_expr b v))
        ∙ ap (λ (c : Symbol). read (links_on ∷ α) (token c i ∷ of_expr b v) (λ g. k (close 5 (folds (C (st a)) g.0), g.1))) (sym (sp (here _ o)))
        ∙ links_at (L (here _ o)) i α (of_expr b v) (λ g. k (close 5 (folds (C (st a)) g.0), g.1))
        ∙ spine b (λ s. C (some (a, o, i), s)) (λ f. L (below _ f)) (λ f j t s. law (below _ f) j t (some (a, o, i), s)) (λ f. sp (below _ f)) (a_term ∷ links_on ∷ α) _ α k
        (λ v h. head_read b (links_on ∷ α) v _ h ∙ ap (λ (s : State 5). read (links_on ∷ α) v (λ g. k (close 5 (folds s g.0), g.1))) (law (here _ o) i (head b) (st a) ∙ ap (λ (x : Expr _). C (some (x, o, i), fresh _ (head b))) (closed_st a))) v h

    pub term_read : (t : Term) → TermRead R t
    term_read (monadic o i t) α v k h = monadic_at o i α (of_term t v) k ∙ term_read t α v _ h
    term_read (primary p) α v k h = primary_read p (a_term ∷ α) k α (λ g. k (primary g.0, g.1)) (record { at_integer = λ i w. refl; at_text = λ i w. refl; at_name = λ i w. refl; at_left = λ i w. refl }) v h

    pub primary_read : (p : Primary) (γ : List Goal) (j : Forest γ → R) (α : List Goal) (k : Forest (a_primary ∷ α) → R) → Primaries R γ j α k → (v : List Token) → Stays v → read γ (of_primary p v) j ≡ read α v (λ f. k (p, f))
    primary_read (integer i) γ j α k S v h = S.at_integer i v
    primary_read (text i) γ j α k S v h = S.at_text i v
    primary_read (variable x) γ j α k S v h = variable_read x inner γ j α k (λ v. false) (λ i w. refl) (λ w. refl) (λ n v q. S.at_name n v) v refl ∙ end_inner (seen x) α v k h ∙ ap (λ (y : Variable). read α v (λ f. k (variable y, f))) (seen_var x)
    primary_read (call n i) γ j α k S v h = S.at_name n (token LEFT i ∷ key RIGHT ∷ v)
    primary_read (call_on n i es e) γ j α k S v h = S.at_name n (token LEFT i ∷ of_exprs es (key COMMA ∷ of_expr e (key RIGHT ∷ v))) ∙ exprs_read es inner n i α (of_expr e (key RIGHT ∷ v)) k ∙ whole e (head_read e) (spine e) (rest exprs ∷ tok RIGHT ∷ α) (key RIGHT ∷ v) _ ((refl, refl, refl), refl)
    primary_read (paren i e) γ j α k S v h = S.at_left i (of_expr e (key RIGHT ∷ v)) ∙ whole e (head_read e) (spine e) (tok RIGHT ∷ α) (key RIGHT ∷ v) _ ((refl, refl, refl), refl)

    -- a variable whose name has been taken, if Q is false of what comes then, as the start of a form that stands at w
    pub variable_read : (x : Variable) (w : Stand) (γ : List Goal) (j : Forest γ → R) (α : List Goal) (k : Result w × Forest α → R) (Q : List Token → Bool) → ((i : ℕ) (v : List Token) → Q (token LEFT i ∷ v) ≡ false) → ((v : List Token) → Q (key DOT ∷ v) ≡ false) → ((n : ℕ) (v : List Token) → Q v ≡ false → read γ (token NAME n ∷ v) j ≡ read (named w ∷ α) v (λ g. k (finish_named w n g.0, g.1))) → (v : List Token) → Q v ≡ false → read γ (of_variable x v) j ≡ read (next_goal (seen x) w ∷ α) v (λ g. k (result (seen x) w g.0, g.1))
    variable_read (name n) w γ j α k Q ql qd S v q = S n v q
    variable_read (element x i e) w γ j α k Q ql qd S v q = variable_read x w γ j α k Q ql qd S _ (ql i _) ∙ index_at (seen x) w α i e v k (whole e (head_read e) (spine e))
    variable_read (component x n) w γ j α k Q ql qd S v q = variable_read x w γ j α k Q ql qd S _ (qd _) ∙ select_at (seen x) w α n v k

    -- the expressions in a call's brackets, if more follow
    pub exprs_read : (es : Exprs) (w : Stand) (n i : ℕ) (α : List Goal) (v : List Token) (k : Result w × Forest α → R) → read (arguments w ∷ α) (of_exprs es (key COMMA ∷ v)) (λ g. k (finish_arguments w n i g.0, g.1)) ≡ read (an_expr ∷ rest exprs ∷ tok RIGHT ∷ behind w α) v (λ g. k (finish_calls w n i (gather es g.0 g.1.0) (pull w α g.1.1.1).0, (pull w α g.1.1.1).1))
    exprs_read (first e) w n i α v k = arguments_is w α (of_expr e (key COMMA ∷ v)) _ (heads_expr e _) ∙ whole e (head_read e) (spine e) (argued w ∷ α) (key COMMA ∷ v) _ ((refl, refl, refl), refl)
    exprs_read (comma es e) w n i α v k = exprs_read es w n i α (of_expr e (key COMMA ∷ v)) k ∙ whole e (head_read e) (spine e) (rest exprs ∷ tok RIGHT ∷ behind w α) (key COMMA ∷ v) _ ((refl, refl, refl), refl)

  pub expr_read : (e : Expr 5) → ExprRead R e
  expr_read e = whole e (head_read e) (spine e)
