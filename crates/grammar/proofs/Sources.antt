-- Assignments are read back from their items, and expressions where another goal begins with them. Assumes nothing.
use Rattle.std.proofs.Common.{◌≡◌, ℕ, false, List, [], ◌∷◌, refl, ap, ◌∙◌}
use Rattle.grammar.specs.Symbols.{NAME, INTEGER, TEXT, LEFT, RIGHT, DOT, BECOMES}
use Rattle.grammar.specs.Trees.{Token, token, symbol, key, Many, one, more, of_many, Monadic, positive, spell_monadic, Expr, Term, monadic, primary, integer, text, variable, call, call_on, paren, Variable, name, element, component, Exprs, of_expr, of_term, of_primary, of_variable, Destination, place, val, of_destination}
use Rattle.grammar.specs.Machine.{close, folds, arrange, inner, start, right, plug, Source, final, onto, links, goes, assigned, finish, finish_closed, finish_named, inblock, value, uses, block_name, exprs, Goal, tok, rest, links_on, a_term, named, closed_on, parts, a_source, chain, linked, an_expr, a_statement, Tree, Forest, Move, shift, mapped, at_links, no_parts, Seen, just_name, one_index, longer, var_of, seen, next_goal}
use Rattle.grammar.proofs.Read.{read, Chains, off, like, chains}
use Rattle.grammar.proofs.Expressions.{head, st, closed_st, Stays, Ends, on_not, heads, seen_var, result, end_inner, spine, term_read, variable_read, exprs_read, expr_read}

mapped_twice : {A B C : Type 0} (f : B → C) (h : A → B) (m : Move A) → mapped f (mapped h m) ≡ mapped (λ a. f (h a)) m
mapped_twice f h (shift push build) = refl
mapped_twice f h _ = refl

linked_chains : (v : List Token) → heads BECOMES v ≡ false → Chains linked (named inner) links_on uses v
linked_chains [] h = refl
linked_chains (u ∷ w) h = on_not (symbol u) BECOMES _ _ _ h

no_becomes : (v : List Token) → Stays v → heads BECOMES v ≡ false
no_becomes [] h = refl
no_becomes (u ∷ w) h = h.2

-- How a goal x, whose tree is F of an expression, takes what an expression begins with.
pub record Starts (R : Type 0) (x : Goal) (F : Expr 5 → Tree x) : Type 0 where
  pub on_monad : (o : Monadic) (i : ℕ) (α : List Goal) (v : List Token) (k : Forest (x ∷ α) → R) → read (x ∷ α) (token (spell_monadic o) i ∷ v) k ≡ read (a_term ∷ links_on ∷ α) v (λ g. k (F (arrange (monadic o i g.0) g.1.0), g.1.1))
  pub on_integer : (i : ℕ) (α : List Goal) (v : List Token) (k : Forest (x ∷ α) → R) → read (x ∷ α) (token INTEGER i ∷ v) k ≡ read (links_on ∷ α) v (λ g. k (F (arrange (primary (integer i)) g.0), g.1))
  pub on_text : (i : ℕ) (α : List Goal) (v : List Token) (k : Forest (x ∷ α) → R) → read (x ∷ α) (token TEXT i ∷ v) k ≡ read (links_on ∷ α) v (λ g. k (F (arrange (primary (text i)) g.0), g.1))
  pub on_left : (i : ℕ) (α : List Goal) (v : List Token) (k : Forest (x ∷ α) → R) → read (x ∷ α) (token LEFT i ∷ v) k ≡ read (an_expr ∷ tok RIGHT ∷ links_on ∷ α) v (λ g. k (F (arrange (primary (paren i g.0)) g.1.1.0), g.1.1.1))
  pub on_variable : (y : Variable) (α : List Goal) (v : List Token) (k : Forest (x ∷ α) → R) → Stays v → read (x ∷ α) (of_variable y v) k ≡ read (links_on ∷ α) v (λ g. k (F (arrange (primary (variable y)) g.0), g.1))
  pub on_call : (n i : ℕ) (α : List Goal) (v : List Token) (k : Forest (x ∷ α) → R) → read (x ∷ α) (token NAME n ∷ token LEFT i ∷ key RIGHT ∷ v) k ≡ read (links_on ∷ α) v (λ g. k (F (arrange (primary (call n i)) g.0), g.1))
  pub on_calls : (n i : ℕ) (es : Exprs) (e : Expr 5) (α : List Goal) (v : List Token) (k : Forest (x ∷ α) → R) → read (x ∷ α) (of_primary (call_on n i es e) v) k ≡ read (links_on ∷ α) v (λ g. k (F (arrange (primary (call_on n i es e)) g.0), g.1))

module _ {R : Type 0} where
  module _ (x : Goal) (F : Expr 5 → Tree x) (S : Starts R x F) where
    start_term : (t : Term) (α : List Goal) (v : List Token) (k : Forest (x ∷ α) → R) → Stays v → read (x ∷ α) (of_term t v) k ≡ read (links_on ∷ α) v (λ g. k (F (arrange t g.0), g.1))
    start_term (monadic o i t) α v k h = S.on_monad o i α (of_term t v) k ∙ term_read t (links_on ∷ α) v _ h
    start_term (primary (integer i)) α v k h = S.on_integer i α v k
    start_term (primary (text i)) α v k h = S.on_text i α v k
    start_term (primary (variable y)) α v k h = S.on_variable y α v k h
    start_term (primary (call n i)) α v k h = S.on_call n i α v k
    start_term (primary (call_on n i es e)) α v k h = S.on_calls n i es e α v k
    start_term (primary (paren i e)) α v k h = S.on_left i α (of_expr e (key RIGHT ∷ v)) k ∙ expr_read e (tok RIGHT ∷ links_on ∷ α) (key RIGHT ∷ v) _ ((refl, refl, refl), refl)

    pub start_read : (e : Expr 5) (α : List Goal) (v : List Token) (k : Forest (x ∷ α) → R) → Ends v → read (x ∷ α) (of_expr e v) k ≡ read α v (λ f. k (F e, f))
    start_read e α v k h =
        spine e (λ s. s) (λ f. f) (λ f i t s. refl) (λ f. refl) (x ∷ α) k α (λ g. k (F g.0, g.1)) (λ v h. start_term (head e) α v k h) v h.0
        ∙ off links_on [] α v (λ g. k (F (close 5 (folds (st e) g.0)), g.1)) h.1
        ∙ ap (λ (y : Expr 5). read α v (λ f. k (F y, f))) (closed_st e)

  -- ':=' behind a form
  becomes_start : (s : Seen) (α : List Goal) (v : List Token) (k : Forest (a_statement ∷ α) → R) → read (next_goal s start ∷ α) (key BECOMES ∷ v) (λ g. k (result s start g.0, g.1)) ≡ read (a_source ∷ α) v (λ g. k (assigned (one (place (var_of s))) g.0, g.1))
  becomes_start (just_name n) α v k = refl
  becomes_start _ α v k = refl

  becomes_right : (s : Seen) (α : List Goal) (v : List Token) (k : Forest (a_source ∷ α) → R) → read (next_goal s right ∷ α) (key BECOMES ∷ v) (λ g. k (result s right g.0, g.1)) ≡ read (a_source ∷ α) v (λ g. k (onto (place (var_of s)) g.0, g.1))
  becomes_right (just_name n) α v k = refl
  becomes_right _ α v k = refl

  -- the end of a form behind ':='
  end_right : (s : Seen) (α : List Goal) (v : List Token) (k : Forest (a_source ∷ α) → R) → Stays v → read (next_goal s right ∷ α) v (λ g. k (result s right g.0, g.1)) ≡ read (links_on ∷ α) v (λ g. k (final (arrange (primary (variable (var_of s))) g.0), g.1))
  end_right (just_name n) α [] k h = like (named right) links_on (λ ls. goes ([], links ls)) α [] (λ g. k (finish_named right n g.0, g.1)) refl
  end_right (just_name n) α (u ∷ w) k h = like (named right) links_on (λ ls. goes ([], links ls)) α (u ∷ w) (λ g. k (finish_named right n g.0, g.1)) (on_not (symbol u) LEFT _ _ _ h.0 ∙ ap (mapped goes) (on_not (symbol u) DOT _ _ _ h.1 ∙ ap (mapped no_parts) (on_not (symbol u) BECOMES _ _ _ h.2) ∙ mapped_twice no_parts links (at_links (symbol u))) ∙ mapped_twice goes (λ ls. ([], links ls)) (at_links (symbol u)))
  end_right (one_index n i e) α [] k h = like (closed_on right) links_on (λ ls. ([], links ls)) α [] (λ g. k (finish_closed right n i e g.0, g.1)) refl
  end_right (one_index n i e) α (u ∷ w) k h = like (closed_on right) links_on (λ ls. ([], links ls)) α (u ∷ w) (λ g. k (finish_closed right n i e g.0, g.1)) (on_not (symbol u) LEFT _ _ _ h.0 ∙ on_not (symbol u) DOT _ _ _ h.1 ∙ ap (mapped no_parts) (on_not (symbol u) BECOMES _ _ _ h.2) ∙ mapped_twice no_parts links (at_links (symbol u)))
  end_right (longer x) α [] k h = like (parts right) links_on (λ ls. ([], links ls)) α [] (λ g. k (finish right (plug x g.0.0) g.0.1, g.1)) refl
  end_right (longer x) α (u ∷ w) k h = like (parts right) links_on (λ ls. ([], links ls)) α (u ∷ w) (λ g. k (finish right (plug x g.0.0) g.0.1, g.1)) (on_not (symbol u) LEFT _ _ _ h.0 ∙ on_not (symbol u) DOT _ _ _ h.1 ∙ ap (mapped no_parts) (on_not (symbol u) BECOMES _ _ _ h.2) ∙ mapped_twice no_parts links (at_links (symbol u)))

  pub source_starts : Starts R a_source final
  source_starts = record {
    on_monad = monad;
    on_integer = λ i α v k. refl;
    on_text = λ i α v k. refl;
    on_left = λ i α v k. refl;
    on_variable = λ y α v k h. variable_read y right (a_source ∷ α) k α k (λ v. false) (λ i w. refl) (λ w. refl) (λ n v q. refl) v refl ∙ end_right (seen y) α v k h ∙ ap (λ (z : Variable). read (links_on ∷ α) v (λ g. k (final (arrange (primary (variable z)) g.0), g.1))) (seen_var y);
    on_call = λ n i α v k. refl;
    on_calls = λ n i es e α v k. exprs_read es right n i α (of_expr e (key RIGHT ∷ v)) k ∙ expr_read e (rest exprs ∷ tok RIGHT ∷ links_on ∷ α) (key RIGHT ∷ v) _ ((refl, refl, refl), refl);
  }
    where
      monad : (o : Monadic) (i : ℕ) (α : List Goal) (v : List Token) (k : Forest (a_source ∷ α) → R) → read (a_source ∷ α) (token (spell_monadic o) i ∷ v) k ≡ read (a_term ∷ links_on ∷ α) v (λ g. k (final (arrange (monadic o i g.0) g.1.0), g.1.1))
      monad positive i α v k = refl
      monad _ i α v k = refl

  pub chain_starts : Starts R (chain inblock) value
  chain_starts = record {
    on_monad = monad;
    on_integer = λ i α v k. refl;
    on_text = λ i α v k. refl;
    on_left = λ i α v k. refl;
    on_variable = λ y α v k h. variable_read y inner (chain inblock ∷ α) k (links_on ∷ α) (λ g. k (value (arrange (primary g.0) g.1.0), g.1.1)) (heads BECOMES) (λ i w. refl) (λ w. refl) (λ n v q. chains linked (named inner) links_on uses α v (λ g. k (block_name n g.0, g.1)) (linked_chains v q)) v (no_becomes v h) ∙ end_inner (seen y) (links_on ∷ α) v (λ g. k (value (arrange (primary g.0) g.1.0), g.1.1)) h ∙ ap (λ (z : Variable). read (links_on ∷ α) v (λ g. k (value (arrange (primary (variable z)) g.0), g.1))) (seen_var y);
    on_call = λ n i α v k. refl;
    on_calls = λ n i es e α v k. exprs_read es inner n i (links_on ∷ α) (of_expr e (key RIGHT ∷ v)) (λ g. k (value (arrange (primary g.0) g.1.0), g.1.1)) ∙ expr_read e (rest exprs ∷ tok RIGHT ∷ links_on ∷ α) (key RIGHT ∷ v) _ ((refl, refl, refl), refl);
  }
    where
      monad : (o : Monadic) (i : ℕ) (α : List Goal) (v : List Token) (k : Forest (chain inblock ∷ α) → R) → read (chain inblock ∷ α) (token (spell_monadic o) i ∷ v) k ≡ read (a_term ∷ links_on ∷ α) v (λ g. k (value (arrange (monadic o i g.0) g.1.0), g.1.1))
      monad positive i α v k = refl
      monad _ i α v k = refl

  -- destinations
  valued_read : (x : Variable) (α : List Goal) (v : List Token) (k : Variable → Source → Forest α → R) → read (tok NAME ∷ parts start ∷ α) (of_variable x v) (λ g. k (plug (name g.0) g.1.0.0) g.1.0.1 g.1.1) ≡ read (parts start ∷ α) v (λ g. k (plug x g.0.0) g.0.1 g.1)
  valued_read (name n) α v k = refl
  valued_read (element x i e) α v k = valued_read x α (token LEFT i ∷ of_expr e (key RIGHT ∷ v)) k ∙ expr_read e (tok RIGHT ∷ parts start ∷ α) (key RIGHT ∷ v) _ ((refl, refl, refl), refl)
  valued_read (component x n) α v k = valued_read x α (key DOT ∷ token NAME n ∷ v) k

  pub source_onto : (d : Destination) (α : List Goal) (v : List Token) (k : Forest (a_source ∷ α) → R) → read (a_source ∷ α) (of_destination d (key BECOMES ∷ v)) k ≡ read (a_source ∷ α) v (λ g. k (onto d g.0, g.1))
  source_onto (place x) α v k = variable_read x right (a_source ∷ α) k α k (λ v. false) (λ i w. refl) (λ w. refl) (λ n v q. refl) (key BECOMES ∷ v) refl ∙ becomes_right (seen x) α v k ∙ ap (λ (z : Variable). read (a_source ∷ α) v (λ g. k (onto (place z) g.0, g.1))) (seen_var x)
  source_onto (val i x) α v k = valued_read x α (key BECOMES ∷ v) (λ y s f. k (onto (val i y) s, f))

  pub start_onto : (ds : Many Destination) (α : List Goal) (v : List Token) (k : Forest (a_statement ∷ α) → R) → read (a_statement ∷ α) (of_many of_destination BECOMES ds (key BECOMES ∷ v)) k ≡ read (a_source ∷ α) v (λ g. k (assigned ds g.0, g.1))
  start_onto (one (place x)) α v k = variable_read x start (a_statement ∷ α) k α k (λ v. false) (λ i w. refl) (λ w. refl) (λ n v q. refl) (key BECOMES ∷ v) refl ∙ becomes_start (seen x) α v k ∙ ap (λ (z : Variable). read (a_source ∷ α) v (λ g. k (assigned (one (place z)) g.0, g.1))) (seen_var x)
  start_onto (one (val i x)) α v k = valued_read x α (key BECOMES ∷ v) (λ y s f. k (assigned (one (val i y)) s, f))
  start_onto (more ds d) α v k = start_onto ds α (of_destination d (key BECOMES ∷ v)) k ∙ source_onto d α v (λ g. k (assigned ds g.0, g.1))
