-- Brackets, primaries, variables and calls, step by step. Assumes nothing.
use Rattle.std.proofs.Common.{◌≡◌, ℕ, ◌+◌, ◌-◌, ◌*◌, ◌<◌, List, [], ◌∷◌, ◌++◌, length, get_or, drop, set, refl, ap, ◌∙◌, arith}
use Rattle.grammar.specs.Symbols.{STOP, NAME, INTEGER, TEXT, LEFT, RIGHT, COMMA, DOT}
use Rattle.grammar.specs.declared.Symbol.{Symbol}
use Rattle.grammar.specs.Trees.{Token, token, key, Expr, Primary, integer, text, variable, call, call_on, paren, Variable, name, element, component, Exprs, first, comma, of_expr, of_exprs, of_primary, of_variable}
use Rattle.grammar.specs.Sentences.{items}
use Rattle.grammar.specs.Machine.{Goal, refuse, goes, mapped, tok, rest, exprs, an_expr, a_primary, named, arguments, argued, closed_on, parts, Stand, inner, start, right, argument, behind, Seen, just_name, one_index, longer, seen, indexed, next_goal}
use Rattle.grammar.proofs.Steps.{items_here, step_at, refuse_at, refuses, skip_at, followed_at}
use Rattle.nodes.proofs.Keep.{keep_expr, keep_exprs, keep_variable, agree_trans}
use Rattle.nodes.specs.Made.{Fewer, at, Made, Way, Refused, answer, Ended, FormWay, FormRefused, NotCalled, Opening, by_name, by_val, so_far, PartsWay, VariableWay, VariableRefused, ArgsWay}
use Rattle.nodes.specs.Nodes.{At, IsExpr, IsExprs, IsPrimary, IsVariable}
use Rattle.nodes.specs.declared.Node.{Node}
use Rattle.nodes.specs.declared.Node.TheVariants.{Integer, Text, Name, Element, Component, Call, CallOn, Paren, Also}
use Rattle.nodes.specs.declared.Parsed.{Parsed}
use Rattle.nodes.specs.declared.Fault.{Fault}
use Rattle.nodes.specs.declared.Fault.TheVariants.{Syntax}
use Rattle.nodes.proofs.Build.{not_on, fewer_is, more_is, alike, grown}

-- brackets
abbrev pub Brackets : List Goal
Brackets = tok LEFT ∷ an_expr ∷ tok RIGHT ∷ []

abbrev pub of_brackets : ℕ → Expr 5 → List Token → List Token
of_brackets i e r = token LEFT i ∷ of_expr e (key RIGHT ∷ r)

abbrev pub ExprMade : ℕ → List Symbol → ℕ → ℕ → List Node → List Node → Parsed → Type 0
ExprMade d s i used ns ms p = Made 0 (Expr 5) IsExpr of_expr (Way (an_expr ∷ []) d s i) s i used ns ms p

module _ (d : ℕ) (s : List Symbol) where
  pub shut_way : (j : ℕ) → j < length s → get_or s j STOP ≡ RIGHT → 0 < d → (γ : List Goal) → at (d - 1) (tok RIGHT ∷ γ) s j ≡ at d γ s (j + 1)
  shut_way j h q z γ = step_at (d - 1) (tok RIGHT ∷ γ) γ s j d RIGHT h q refl (more_is d z)

  module _ (i : ℕ) (h : i < length s) (q : get_or s i STOP ≡ LEFT) where
    open_way : 0 < d → (α : List Goal) → at d (Brackets ++ α) s i ≡ at (d - 1) (an_expr ∷ tok RIGHT ∷ α) s (i + 1)
    open_way z α = step_at d (Brackets ++ α) (an_expr ∷ tok RIGHT ∷ α) s i (d - 1) LEFT h q refl (fewer_is d z)

    pub brackets_refused : 0 < d → (f : Fault) → Refused (an_expr ∷ []) (d - 1) s (i + 1) f → Refused Brackets d s i f
    brackets_refused z f r α = open_way z α ∙ r (tok RIGHT ∷ α)

    module _ (z : 0 < d) (used : ℕ) (ns ms : List Node) (e : Parsed) (m : ExprMade (d - 1) s (i + 1) used ns ms e) where
      pub brackets_unclosed : (get_or s e.next STOP ≡ RIGHT → ⊥) → Refused Brackets d s i (Syntax e.next)
      brackets_unclosed n α = open_way z α ∙ m.met (tok RIGHT ∷ α) ∙ refuse_at (d - 1) (tok RIGHT ∷ α) s e.next refl (refuses (tok RIGHT) α (get_or s e.next STOP) (not_on (get_or s e.next STOP) RIGHT _ _ refuse n))

      pub made_brackets : e.next < length s → get_or s e.next STOP ≡ RIGHT → Made 0 (Expr 5) IsExpr (of_brackets i) (Way Brackets d s i) s i used ns ms (record { next = e.next + 1; used = e.used; root = e.root }) × (e.used + 2 * i < 2 * (e.next + 1) + used)
      made_brackets h' q' = (
        record {
          within = omega arith;
          more = m.more;
          few = omega (arith, m.few);
          below = m.below;
          kept = m.kept;
          tree = m.tree;
          is = m.is;
          text = items_here s i LEFT h q ∙ ap (λ (w : List Token). token LEFT i ∷ w) (m.text ∙ ap (of_expr m.tree) (items_here s e.next RIGHT h' q'));
          met = λ α. open_way z α ∙ m.met (tok RIGHT ∷ α) ∙ shut_way e.next h' q' z α;
        },
        omega (arith, m.few),
      )

-- primaries
abbrev pub PrimaryMade : ℕ → List Symbol → ℕ → ℕ → List Node → List Node → Parsed → Type 0
PrimaryMade d s i used ns ms p = Made 0 Primary IsPrimary of_primary (Way (a_primary ∷ []) d s i) s i used ns ms p

module _ (d : ℕ) (s : List Symbol) (i used : ℕ) (ns : List Node) (h : i < length s) where
  pub made_integer : get_or s i STOP ≡ INTEGER → used < length ns → PrimaryMade d s i used ns (set ns used (Integer i)) (record { next = i + 1; used = used + 1; root = used })
  made_integer q r = grown 0 IsPrimary of_primary (Way (a_primary ∷ []) d s i) s i used ns ns used (i + 1) (Integer i) r (integer i) (omega arith) (omega arith) (omega arith) (λ j l. refl) (λ g a. a) (items_here s i INTEGER h q) (λ α. step_at d (a_primary ∷ α) α s i d INTEGER h q refl refl)

  pub made_text : get_or s i STOP ≡ TEXT → used < length ns → PrimaryMade d s i used ns (set ns used (Text i)) (record { next = i + 1; used = used + 1; root = used })
  made_text q r = grown 0 IsPrimary of_primary (Way (a_primary ∷ []) d s i) s i used ns ns used (i + 1) (Text i) r (text i) (omega arith) (omega arith) (omega arith) (λ j l. refl) (λ g a. a) (items_here s i TEXT h q) (λ α. step_at d (a_primary ∷ α) α s i d TEXT h q refl refl)

  module _ (q : get_or s i STOP ≡ LEFT) where
    paren_way : (α : List Goal) → at d (a_primary ∷ α) s i ≡ at d (Brackets ++ α) s i
    paren_way α = alike d (a_primary ∷ α) (Brackets ++ α) s i LEFT h q refl

    pub paren_refused : (f : Fault) → Refused Brackets d s i f → Refused (a_primary ∷ []) d s i f
    paren_refused f r α = paren_way α ∙ r α

    pub made_paren : (ms : List Node) (e : Parsed) → e.used < length ms → Made 0 (Expr 5) IsExpr (of_brackets i) (Way Brackets d s i) s i used ns ms e → Fewer i used e → PrimaryMade d s i used ns (set ms e.used (Paren i e.root)) (record { next = e.next; used = e.used + 1; root = e.used })
    made_paren ms e r m few = grown 0 IsPrimary of_primary (Way (a_primary ∷ []) d s i) s i used ns ms e.used e.next (Paren i e.root) r (paren i m.tree) m.within m.more (omega (arith, few)) m.kept (λ g a. (e.root, m.below, a, keep_expr e.used ms _ g m.tree e.root m.below m.is)) m.text (λ α. paren_way α ∙ m.met α)

  module _ (q : get_or s i STOP ≡ NAME) where
    name_way : (α : List Goal) → at d (a_primary ∷ α) s i ≡ at d (named inner ∷ α) s (i + 1)
    name_way α = step_at d (a_primary ∷ α) (named inner ∷ α) s i d NAME h q refl refl

    pub form_refused : (f : Fault) → FormRefused d s i f → Refused (a_primary ∷ []) d s i f
    form_refused f r α = name_way α ∙ r inner α

    form_ends : (x : Seen) (j : ℕ) (α : List Goal) → Ended s j → at d (next_goal x inner ∷ α) s j ≡ at d α s j
    form_ends (just_name n) j α e = skip_at d (named inner) α s j (goes ([], tt)) (goes ([], tt)) refl (not_on (get_or s j STOP) LEFT _ _ _ e.0 ∙ ap (mapped goes) (not_on (get_or s j STOP) DOT _ _ _ e.1))
    form_ends (one_index n k x) j α e = skip_at d (closed_on inner) α s j ([], tt) ([], tt) refl (not_on (get_or s j STOP) LEFT _ _ _ e.0 ∙ not_on (get_or s j STOP) DOT _ _ _ e.1)
    form_ends (longer x) j α e = skip_at d (parts inner) α s j ([], tt) ([], tt) refl (not_on (get_or s j STOP) LEFT _ _ _ e.0 ∙ not_on (get_or s j STOP) DOT _ _ _ e.1)

    form_way : (t : Primary) (j : ℕ) → FormWay d s i t j → Way (a_primary ∷ []) d s i t j
    form_way (variable x) j m α = name_way α ∙ m.0 inner α ∙ form_ends (seen x) j α m.1
    form_way (call n k) j m α = name_way α ∙ m inner α
    form_way (call_on n k es e) j m α = name_way α ∙ m inner α
    form_way (integer n) j m α = absurd m
    form_way (text n) j m α = absurd m
    form_way (paren n e) j m α = absurd m

    pub made_form : (ms : List Node) (p : Parsed) → Made 0 Primary IsPrimary of_primary (FormWay d s i) s i used ns ms p → PrimaryMade d s i used ns ms p
    made_form ms p m = record { within = m.within; more = m.more; few = m.few; below = m.below; kept = m.kept; tree = m.tree; is = m.is; text = m.text; met = form_way m.tree p.next m.met }

-- the parts of a variable
abbrev pub VariableMade : Opening → ℕ → List Symbol → ℕ → ℕ → List Node → List Node → Parsed → Type 0
VariableMade b d s i used ns ms p = Made 0 Variable IsVariable of_variable (PartsWay b d s i) s i used ns ms p

abbrev pub VariableEnded : Opening → ℕ → List Symbol → ℕ → ℕ → List Node → List Node → Parsed → Type 0
VariableEnded b d s i used ns ms p = Made 0 Variable IsVariable of_variable (VariableWay b d s i) s i used ns ms p

abbrev pub FormMade : ℕ → List Symbol → ℕ → ℕ → List Node → List Node → Parsed → Type 0
FormMade d s i used ns ms p = Made 0 Primary IsPrimary of_primary (FormWay d s i) s i used ns ms p

module _ (d : ℕ) (s : List Symbol) (j : ℕ) where
  index_way : (x : Seen) → NotCalled x s j → j < length s → get_or s j STOP ≡ LEFT → (w : Stand) (α : List Goal) → at d (next_goal x w ∷ α) s j ≡ at d (Brackets ++ (parts w ∷ α)) s j
  index_way (just_name n) c h q w α = absurd (c q)
  index_way (one_index n k e) c h q inner α = alike d (closed_on inner ∷ α) (Brackets ++ (parts inner ∷ α)) s j LEFT h q refl
  index_way (one_index n k e) c h q start α = alike d (closed_on start ∷ α) (Brackets ++ (parts start ∷ α)) s j LEFT h q refl
  index_way (one_index n k e) c h q right α = alike d (closed_on right ∷ α) (Brackets ++ (parts right ∷ α)) s j LEFT h q refl
  index_way (longer x) c h q w α = alike d (parts w ∷ α) (Brackets ++ (parts w ∷ α)) s j LEFT h q refl

  element_way : (x : Seen) (k : ℕ) (e : Expr 5) → NotCalled x s j → get_or s j STOP ≡ LEFT → (w : Stand) (α : List Goal) → at d (parts w ∷ α) s k ≡ at d (next_goal (indexed x j e) w ∷ α) s k
  element_way (just_name n) k e c q w α = absurd (c q)
  element_way (one_index n m x) k e c q w α = refl
  element_way (longer x) k e c q w α = refl

  element_called : (x : Seen) (k : ℕ) (e : Expr 5) → NotCalled x s j → get_or s j STOP ≡ LEFT → NotCalled (indexed x j e) s k
  element_called (just_name n) k e c q = absurd (c q)
  element_called (one_index n m x) k e c q = tt
  element_called (longer x) k e c q = tt

  element_on : (b : Opening) (x : Variable) (k : ℕ) (e : Expr 5) → NotCalled (so_far b x) s j → get_or s j STOP ≡ LEFT → (w : Stand) (α : List Goal) → at d (parts w ∷ α) s k ≡ at d (next_goal (so_far b (element x j e)) w ∷ α) s k
  element_on by_name x k e c q w α = element_way (seen x) k e c q w α
  element_on by_val x k e c q w α = refl

  element_open : (b : Opening) (x : Variable) (k : ℕ) (e : Expr 5) → NotCalled (so_far b x) s j → get_or s j STOP ≡ LEFT → NotCalled (so_far b (element x j e)) s k
  element_open by_name x k e c q = element_called (seen x) k e c q
  element_open by_val x k e c q = tt

  component_on : (b : Opening) (x : Variable) (n k : ℕ) (w : Stand) (α : List Goal) → at d (parts w ∷ α) s k ≡ at d (next_goal (so_far b (component x n)) w ∷ α) s k
  component_on by_name x n k w α = refl
  component_on by_val x n k w α = refl

  component_open : (b : Opening) (x : Variable) (n k : ℕ) → NotCalled (so_far b (component x n)) s k
  component_open by_name x n k = tt
  component_open by_val x n k = tt

  dot_way : (x : Seen) → j < length s → get_or s j STOP ≡ DOT → (w : Stand) (α : List Goal) → at d (next_goal x w ∷ α) s j ≡ at d (tok NAME ∷ parts w ∷ α) s (j + 1)
  dot_way (just_name n) h q w α = step_at d (named w ∷ α) (tok NAME ∷ parts w ∷ α) s j d DOT h q refl refl
  dot_way (one_index n k e) h q inner α = step_at d (closed_on inner ∷ α) (tok NAME ∷ parts inner ∷ α) s j d DOT h q refl refl
  dot_way (one_index n k e) h q start α = step_at d (closed_on start ∷ α) (tok NAME ∷ parts start ∷ α) s j d DOT h q refl refl
  dot_way (one_index n k e) h q right α = step_at d (closed_on right ∷ α) (tok NAME ∷ parts right ∷ α) s j d DOT h q refl refl
  dot_way (longer x) h q w α = step_at d (parts w ∷ α) (tok NAME ∷ parts w ∷ α) s j d DOT h q refl refl

module _ (b : Opening) (d : ℕ) (s : List Symbol) (i used : ℕ) (es ns : List Node) (p : Parsed) (m : VariableMade b d s i used es ns p) where
  module _ (h : p.next < length s) (q : get_or s p.next STOP ≡ LEFT) where
    pub left_refused : (f : Fault) → Refused Brackets d s p.next f → VariableRefused b d s i f
    left_refused f r w α = m.met.0 w α ∙ index_way d s p.next (so_far b m.tree) m.met.1 h q w α ∙ r (parts w ∷ α)

    pub left_goes : (ms : List Node) (e : Parsed) → e.used < length ms → Made 0 (Expr 5) IsExpr (of_brackets p.next) (Way Brackets d s p.next) s p.next p.used ns ms e → Fewer p.next p.used e → VariableMade b d s i used es (set ms e.used (Element p.root p.next e.root)) (record { next = e.next; used = e.used + 1; root = e.used })
    left_goes ms e r o few =
        grown 0 IsVariable of_variable (PartsWay b d s i) s i used es ms e.used e.next (Element p.root p.next e.root) r (element m.tree p.next o.tree) o.within (omega (arith, m.more, o.more)) (omega (arith, m.few, few))
        (agree_trans used p.used es ns ms m.more m.kept o.kept)
        (λ g a. (p.root, e.root, omega (arith, m.below, o.more), o.below, a, keep_variable e.used ms _ g m.tree p.root (omega (arith, m.below, o.more)) (keep_variable p.used ns ms o.kept m.tree p.root m.below m.is), keep_expr e.used ms _ g o.tree e.root o.below o.is))
        (m.text ∙ ap (of_variable m.tree) o.text)
        (λ w α. m.met.0 w α ∙ index_way d s p.next (so_far b m.tree) m.met.1 h q w α ∙ o.met (parts w ∷ α) ∙ element_on d s p.next b m.tree e.next o.tree m.met.1 q w α, element_open d s p.next b m.tree e.next o.tree m.met.1 q)

  module _ (h : p.next < length s) (q : get_or s p.next STOP ≡ DOT) where
    pub dot_refused : (get_or s (p.next + 1) STOP ≡ NAME → ⊥) → VariableRefused b d s i (Syntax (p.next + 1))
    dot_refused n w α = m.met.0 w α ∙ dot_way d s p.next (so_far b m.tree) h q w α ∙ refuse_at d (tok NAME ∷ parts w ∷ α) s (p.next + 1) refl (refuses (tok NAME) (parts w ∷ α) (get_or s (p.next + 1) STOP) (not_on (get_or s (p.next + 1) STOP) NAME _ _ refuse n))

    pub dot_goes : p.next + 1 < length s → get_or s (p.next + 1) STOP ≡ NAME → p.used < length ns → VariableMade b d s i used es (set ns p.used (Component p.root (p.next + 1))) (record { next = p.next + 2; used = p.used + 1; root = p.used })
    dot_goes h' q' r =
        let two : p.next + 1 + 1 ≡ p.next + 2 = omega arith in
        grown 0 IsVariable of_variable (PartsWay b d s i) s i used es ns p.used (p.next + 2) (Component p.root (p.next + 1)) r (component m.tree (p.next + 1)) (omega arith) m.more (omega (arith, m.few)) m.kept
        (λ g a. (p.root, m.below, a, keep_variable p.used ns _ g m.tree p.root m.below m.is))
        (m.text ∙ ap (of_variable m.tree) (items_here s p.next DOT h q ∙ ap (λ (w : List Token). key DOT ∷ w) (items_here s (p.next + 1) NAME h' q' ∙ ap (λ (j : ℕ). token NAME (p.next + 1) ∷ items j (drop j s)) two)))
        (λ w α. m.met.0 w α ∙ dot_way d s p.next (so_far b m.tree) h q w α ∙ step_at d (tok NAME ∷ parts w ∷ α) (parts w ∷ α) s (p.next + 1) d NAME h' q' refl refl ∙ ap (λ (j : ℕ). at d (parts w ∷ α) s j) two ∙ component_on d s p.next b m.tree (p.next + 1) (p.next + 2) w α, component_open d s p.next b m.tree (p.next + 1) (p.next + 2))

pub form_of : (d : ℕ) (s : List Symbol) (i used : ℕ) (ns ms : List Node) (p : Parsed) → VariableEnded by_name d s i used ns ms p → FormMade d s i used ns ms p
form_of d s i used ns ms p m = record { within = m.within; more = m.more; few = m.few; below = m.below; kept = m.kept; tree = variable m.tree; is = m.is; text = m.text; met = m.met }

-- a form that is a name and no bracket
module _ (d : ℕ) (s : List Symbol) (i used : ℕ) (ns : List Node) (h : i < length s) (q : get_or s i STOP ≡ NAME) where
  pub made_name : (get_or s (i + 1) STOP ≡ LEFT → ⊥) → used < length ns → VariableMade by_name d s i used ns (set ns used (Name i)) (record { next = i + 1; used = used + 1; root = used })
  made_name n r = grown 0 IsVariable of_variable (PartsWay by_name d s i) s i used ns ns used (i + 1) (Name i) r (name i) (omega arith) (omega arith) (omega arith) (λ j l. refl) (λ g a. a) (items_here s i NAME h q) (λ w α. refl, n)

  -- a bracket behind the name
  module _ (h' : i + 1 < length s) (q' : get_or s (i + 1) STOP ≡ LEFT) where
    two : i + 1 + 1 ≡ i + 2
    two = omega arith

    three : i + 2 + 1 ≡ i + 3
    three = omega arith

    module _ (z : 0 < d) where
      called_way : (w : Stand) (α : List Goal) → at d (named w ∷ α) s (i + 1) ≡ at (d - 1) (arguments w ∷ α) s (i + 2)
      called_way w α = step_at d (named w ∷ α) (arguments w ∷ α) s (i + 1) (d - 1) LEFT h' q' refl (fewer_is d z) ∙ ap (λ (j : ℕ). at (d - 1) (arguments w ∷ α) s j) two

      called_text : items i (drop i s) ≡ token NAME i ∷ token LEFT (i + 1) ∷ items (i + 2) (drop (i + 2) s)
      called_text = items_here s i NAME h q ∙ ap (λ (v : List Token). token NAME i ∷ v) (items_here s (i + 1) LEFT h' q' ∙ ap (λ (j : ℕ). token LEFT (i + 1) ∷ items j (drop j s)) two)

      pub made_call : i + 2 < length s → get_or s (i + 2) STOP ≡ RIGHT → used < length ns → FormMade d s i used ns (set ns used (Call i (i + 1))) (record { next = i + 3; used = used + 1; root = used })
      made_call h'' q'' r =
          grown 0 IsPrimary of_primary (FormWay d s i) s i used ns ns used (i + 3) (Call i (i + 1)) r (call i (i + 1)) (omega arith) (omega arith) (omega arith) (λ j l. refl) (λ g a. a)
          (called_text ∙ ap (λ (v : List Token). token NAME i ∷ token LEFT (i + 1) ∷ v) (items_here s (i + 2) RIGHT h'' q'' ∙ ap (λ (j : ℕ). key RIGHT ∷ items j (drop j s)) three))
          (λ w α. called_way w α ∙ step_at (d - 1) (arguments w ∷ α) (behind w α) s (i + 2) d RIGHT h'' q'' refl (more_is d z) ∙ ap (λ (j : ℕ). at d (behind w α) s j) three)

      module _ (n : get_or s (i + 2) STOP ≡ RIGHT → ⊥) where
        argument_way : (w : Stand) (α : List Goal) → at d (named w ∷ α) s (i + 1) ≡ at (d - 1) (an_expr ∷ argued w ∷ α) s (i + 2)
        argument_way w α = called_way w α ∙ followed_at (d - 1) (arguments w) an_expr (argued w) α s (i + 2) argument refl (not_on (get_or s (i + 2) STOP) RIGHT _ _ _ n)

        pub argument_refused : (f : Fault) → Refused (an_expr ∷ []) (d - 1) s (i + 2) f → FormRefused d s i f
        argument_refused f r w α = argument_way w α ∙ r (argued w ∷ α)

        module _ (os ms : List Node) (e : Parsed) (m : ExprMade (d - 1) s (i + 2) (used + 1) os ms e) where
          pub argument_unclosed : (get_or s e.next STOP ≡ RIGHT → ⊥) → (get_or s e.next STOP ≡ COMMA → ⊥) → FormRefused d s i (Syntax e.next)
          argument_unclosed a b w α = argument_way w α ∙ m.met (argued w ∷ α) ∙ refuse_at (d - 1) (argued w ∷ α) s e.next refl (refuses (argued w) α (get_or s e.next STOP) (not_on (get_or s e.next STOP) RIGHT _ _ _ a ∙ not_on (get_or s e.next STOP) COMMA _ _ refuse b))

          pub first_argument : get_or s e.next STOP ≡ COMMA → Made 0 Exprs IsExprs of_exprs (ArgsWay d s i) s (i + 2) (used + 1) ms ms e
          first_argument c = record { within = m.within; more = m.more; few = m.few; below = m.below; kept = λ j l. refl; tree = first m.tree; is = m.is; text = m.text; met = (λ w α. argument_way w α ∙ m.met (argued w ∷ α), c) }

          pub made_element : At os used (Name i) → e.next < length s → get_or s e.next STOP ≡ RIGHT → e.used < length ms → VariableMade by_name d s i used os (set ms e.used (Element used (i + 1) e.root)) (record { next = e.next + 1; used = e.used + 1; root = e.used })
          made_element o h'' q'' r =
              grown 0 IsVariable of_variable (PartsWay by_name d s i) s i used os ms e.used (e.next + 1) (Element used (i + 1) e.root) r (element (name i) (i + 1) m.tree) (omega arith) (omega (arith, m.more)) (omega (arith, m.few))
              (λ j l. m.kept j (omega arith))
              (λ g a. (used, e.root, omega (arith, m.more), m.below, a, g used (omega (arith, m.more)) ∙ m.kept used (omega arith) ∙ o, keep_expr e.used ms _ g m.tree e.root m.below m.is))
              (called_text ∙ ap (λ (v : List Token). token NAME i ∷ token LEFT (i + 1) ∷ v) (m.text ∙ ap (of_expr m.tree) (items_here s e.next RIGHT h'' q'')))
              (λ w α. argument_way w α ∙ m.met (argued w ∷ α) ∙ step_at (d - 1) (argued w ∷ α) (closed_on w ∷ α) s e.next d RIGHT h'' q'' refl (more_is d z), tt)

-- the further expressions of a call
abbrev pub ArgsMade : ℕ → List Symbol → ℕ → ℕ → List Node → List Node → Parsed → Type 0
ArgsMade d s i used ns ms p = Made 0 Exprs IsExprs of_exprs (ArgsWay d s i) s (i + 2) (used + 1) ns ms p

module _ (d : ℕ) (s : List Symbol) (i : ℕ) (z : 0 < d) (j : ℕ) where
  comma_way : (es : Exprs) → ArgsWay d s i es j → j < length s → get_or s j STOP ≡ COMMA → (w : Stand) (α : List Goal) → at d (named w ∷ α) s (i + 1) ≡ at (d - 1) (an_expr ∷ rest exprs ∷ tok RIGHT ∷ behind w α) s (j + 1)
  comma_way (first e) m h q w α = m.0 w α ∙ step_at (d - 1) (argued w ∷ α) (an_expr ∷ rest exprs ∷ tok RIGHT ∷ behind w α) s j (d - 1) COMMA h q refl refl
  comma_way (comma es e) m h q w α = m.0 w α ∙ step_at (d - 1) (rest exprs ∷ tok RIGHT ∷ behind w α) (an_expr ∷ rest exprs ∷ tok RIGHT ∷ behind w α) s j (d - 1) COMMA h q refl refl

  unclosed_way : (es : Exprs) → ArgsWay d s i es j → (get_or s j STOP ≡ COMMA → ⊥) → (get_or s j STOP ≡ RIGHT → ⊥) → (w : Stand) (α : List Goal) → at d (named w ∷ α) s (i + 1) ≡ answer (Syntax j)
  unclosed_way (first e) m a b w α = absurd (a m.1)
  unclosed_way (comma es e) m a b w α =
      m.0 w α ∙ skip_at (d - 1) (rest exprs) (tok RIGHT ∷ behind w α) s j [] [] refl (not_on (get_or s j STOP) COMMA _ _ _ a)
      ∙ refuse_at (d - 1) (tok RIGHT ∷ behind w α) s j refl (refuses (tok RIGHT) (behind w α) (get_or s j STOP) (not_on (get_or s j STOP) RIGHT _ _ refuse b))

module _ (d : ℕ) (s : List Symbol) (i used : ℕ) (z : 0 < d) (os ns : List Node) (p : Parsed) (m : ArgsMade d s i used os ns p) where
  module _ (h : p.next < length s) (q : get_or s p.next STOP ≡ COMMA) where
    pub more_refused : (f : Fault) → Refused (an_expr ∷ []) (d - 1) s (p.next + 1) f → FormRefused d s i f
    more_refused f r w α = comma_way d s i z p.next m.tree m.met h q w α ∙ r (rest exprs ∷ tok RIGHT ∷ behind w α)

    pub more_goes : (ms : List Node) (e : Parsed) → e.used < length ms → ExprMade (d - 1) s (p.next + 1) p.used ns ms e → ArgsMade d s i used os (set ms e.used (Also p.root e.root)) (record { next = e.next; used = e.used + 1; root = e.used })
    more_goes ms e r b =
        grown 0 IsExprs of_exprs (ArgsWay d s i) s (i + 2) (used + 1) os ms e.used e.next (Also p.root e.root) r (comma m.tree b.tree) b.within (omega (arith, m.more, b.more)) (omega (arith, m.few, b.few))
        (agree_trans (used + 1) p.used os ns ms m.more m.kept b.kept)
        (λ g a. (p.root, e.root, omega (arith, m.below, b.more), b.below, a, keep_exprs e.used ms _ g m.tree p.root (omega (arith, m.below, b.more)) (keep_exprs p.used ns ms b.kept m.tree p.root m.below m.is), keep_expr e.used ms _ g b.tree e.root b.below b.is))
        (m.text ∙ ap (of_exprs m.tree) (items_here s p.next COMMA h q ∙ ap (λ (v : List Token). key COMMA ∷ v) b.text))
        (λ w α. comma_way d s i z p.next m.tree m.met h q w α ∙ b.met (rest exprs ∷ tok RIGHT ∷ behind w α), tt)

  pub more_unclosed : (get_or s p.next STOP ≡ COMMA → ⊥) → (get_or s p.next STOP ≡ RIGHT → ⊥) → FormRefused d s i (Syntax p.next)
  more_unclosed a b w α = unclosed_way d s i z p.next m.tree m.met a b w α

  module _ (h₀ : i < length s) (q₀ : get_or s i STOP ≡ NAME) (h₁ : i + 1 < length s) (q₁ : get_or s (i + 1) STOP ≡ LEFT) (n : get_or s p.next STOP ≡ COMMA → ⊥) (h : p.next < length s) (q : get_or s p.next STOP ≡ RIGHT) (r : p.used < length ns) where
    calls_of : (t : Exprs) → IsExprs t ns p.root → items (i + 2) (drop (i + 2) s) ≡ of_exprs t (items p.next (drop p.next s)) → ArgsWay d s i t p.next → FormMade d s i used os (set ns p.used (CallOn i (i + 1) p.root)) (record { next = p.next + 1; used = p.used + 1; root = p.used })
    calls_of (first e) is e' w = absurd (n w.1)
    calls_of (comma es e) is e' w =
        grown 0 IsPrimary of_primary (FormWay d s i) s i used os ns p.used (p.next + 1) (CallOn i (i + 1) p.root) r (call_on i (i + 1) es e) (omega arith) (omega (arith, m.more)) (omega (arith, m.few))
        (λ j l. m.kept j (omega arith))
        (λ g a. (p.root, is.0, is.1, m.below, is.2, is.3, a, g p.root m.below ∙ is.4, keep_exprs p.used ns _ g es is.0 (omega (arith, m.below, is.2)) is.5, keep_expr p.used ns _ g e is.1 (omega (arith, m.below, is.3)) is.6))
        (called_text d s i used ns h₀ q₀ h₁ q₁ z ∙ ap (λ (v : List Token). token NAME i ∷ token LEFT (i + 1) ∷ v) (e' ∙ ap (of_exprs (comma es e)) (items_here s p.next RIGHT h q)))
        (λ x α. w.0 x α ∙ step_at (d - 1) (rest exprs ∷ tok RIGHT ∷ behind x α) (behind x α) s p.next d RIGHT h q refl (more_is d z))

    pub made_calls : FormMade d s i used os (set ns p.used (CallOn i (i + 1) p.root)) (record { next = p.next + 1; used = p.used + 1; root = p.used })
    made_calls = calls_of m.tree m.is m.text m.met
