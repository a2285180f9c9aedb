-- What stands at a node, by the kind of the node, and how it is judged. Assumes nothing.
use Rattle.std.proofs.Common.{◌≡◌, ℕ, zero, suc, ◌<◌, List, Ok, Err, Result, slice_get, Some, None, Option, MatchOption, IfSome, option_copied, option_map, map, length, get_or, ◌≤◌, Bor, sym, refl, ap, ◌∙◌, subst}
use Rattle.std.proofs.lemmas.Option.{slice_get-map, slice_get_past, slice_get-get_or}
use Rattle.grammar.specs.declared.Symbol.{Symbol}
use Rattle.grammar.specs.Trees.{Expr, term, up, dyadic, Term, monadic, primary, Primary, integer, text, variable, call, call_on, paren, Variable, name, element, component, Exprs, first, comma, Dyadic as DyadicOperator, Monadic as MonadicOperator, spell, spell_monadic}
use Rattle.nodes.specs.Nodes.{At, IsExpr, IsTerm, IsPrimary, IsVariable, IsExprs}
use Rattle.nodes.specs.declared.Node.{Node}
use Rattle.nodes.specs.declared.Node.TheVariants.{Integer, Text, Name, Element, Component, Call, CallOn, Paren, Monadic, Dyadic}
use Rattle.statics.specs.declared.Refusal.{Refusal}
use Rattle.statics.specs.Modes.{Mode, Thing, value, Need}
use Rattle.statics.specs.Scopes.{Env}
use Rattle.statics.specs.Fronts.{spot, front_variable}
use Rattle.statics.specs.Expressions.{operand, result, argument, outcome, count, figure, string_thing}
use Rattle.statics.specs.JudgeExpressions.{then, bring, look, heads, yields, judge, judge_term, judge_primary, judge_variable, judge_args, judge_call, judge_bracketed, judge_head, judge_subscript, judge_select}
use Rattle.scopes.proofs.Following.{stops}
use Rattle.lists.specs.Lists.{of_exprs}
use Rattle.judging.specs.Openings.{stripped, layer}

-- where an operator with one operand gives t
pub inward : (x : Result Mode Refusal) (n : Need) (s : ℕ) (t : Thing) (w : Result Thing Refusal) → then (bring n s (then x (λ m. Ok t))) (λ m. w) ≡ then x (λ m. then (bring n s (Ok t)) (λ k. w))
inward (Ok m) n s t w = refl
inward (Err f) n s t w = refl

-- what is found by an index, read by f
pub found : {A B : Type 0} (f : A → B) (Q : Bor A → Type 0) (a : Option A) (o : Option (Bor A)) (xs : List A) (i : ℕ) → a ≡ option_copied o → IfSome o (λ x. x.now ≡ get_or xs i x.now) → MatchOption o (length xs ≤ i) (λ x. (i < length xs) × Q x) → option_map f a ≡ slice_get (map f xs) i
found f Q a None xs i e s m = ap (option_map f) (e ∙ sym (slice_get_past xs i m)) ∙ sym (slice_get-map f xs i)
found f Q a (Some x) xs i e s m = ap (option_map f) (e ∙ ap Some s ∙ sym (slice_get-get_or xs i x.now m.0)) ∙ sym (slice_get-map f xs i)

-- how the variable v at k with the node x is judged by what it is without its last layer
abbrev pub Placed : Env → List Node → ℕ → Node → Variable → Type 0
Placed Γ ns k (Name n) v = v ≡ name n
Placed Γ ns k (Element l i r) v = (e : Expr 5) × (r < k) × IsExpr e ns r × (judge_variable Γ v ≡ judge_subscript (judge_variable Γ (stripped v)) (front_variable v) (judge Γ e) (spot e))
Placed Γ ns k (Component l n) v = judge_variable Γ v ≡ judge_select Γ (judge_variable Γ (stripped v)) (front_variable v) n
Placed Γ ns k _ v = ⊥

-- j is the judgement of an expression at k with the node x
abbrev pub Judged : Env → List Node → ℕ → Node → Result Thing Refusal → Type 0
Judged Γ ns k (Dyadic c i l r) j = (n : ℕ) × (a : Expr (suc n)) × (o : DyadicOperator n) × (b : Expr n) × (c ≡ spell o) × (l < k) × (r < k) × IsExpr a ns l × IsExpr b ns r × (j ≡ then (bring (operand o) (spot a) (judge Γ a)) (λ m. then (bring (operand o) (spot b) (judge Γ b)) (λ p. Ok (value (result o m p)))))
Judged Γ ns k (Monadic c i r) j = (a : Expr 0) × (o : MonadicOperator) × (c ≡ spell_monadic o) × (r < k) × IsExpr a ns r × (j ≡ then (bring (argument o) (spot a) (judge Γ a)) (λ m. Ok (value (outcome o))))
Judged Γ ns k (Integer i) j = j ≡ Ok (figure (Γ.text.value i))
Judged Γ ns k (Text i) j = j ≡ Ok string_thing
Judged Γ ns k (Call n i) j = j ≡ judge_call Γ n (λ ms. Ok tt) 0 yields
Judged Γ ns k (CallOn n i m) j = (es : Exprs) × (m < k) × IsExprs es ns m × (j ≡ judge_call Γ n (λ ms. judge_args Γ ms es) (count es) yields)
Judged Γ ns k (Paren i r) j = (e : Expr 5) × (r < k) × IsExpr e ns r × (j ≡ judge Γ e)
Judged Γ ns k (Name n) j = (v : Variable) × IsVariable v ns k × (j ≡ judge_variable Γ v)
Judged Γ ns k (Component l n) j = (v : Variable) × IsVariable v ns k × (j ≡ judge_variable Γ v)
Judged Γ ns k (Element l i r) j = (v : Variable) × (e : Expr 5) × (r < k) × IsVariable v ns l × IsExpr e ns r × IsVariable (element v i e) ns k × (j ≡ judge_bracketed Γ v (judge_variable Γ v) (judge Γ e) (spot e))
Judged Γ ns k _ j = ⊥

module _ (Γ : Env) (ns : List Node) (k : ℕ) where
  moved : (x y : Node) (j : Result Thing Refusal) → At ns k x → At ns k y → Judged Γ ns k x j → Judged Γ ns k y j
  moved x y j a b h = subst (λ (z : Node). Judged Γ ns k z j) (sym a ∙ b) h

  moved_place : (x y : Node) (v : Variable) → At ns k x → At ns k y → Placed Γ ns k x v → Placed Γ ns k y v
  moved_place x y v a b h = subst (λ (z : Node). Placed Γ ns k z v) (sym a ∙ b) h

  pub placed : (v : Variable) (x : Node) → At ns k x → IsVariable v ns k → Placed Γ ns k x v
  placed (name n) x at is = moved_place _ x _ is at refl
  placed (element v i e) x at is = moved_place _ x _ is.4 at (e, is.3, is.6, refl)
  placed (component v n) x at is = moved_place _ x _ is.2 at refl

  judged_primary : (p : Primary) (x : Node) → At ns k x → IsPrimary p ns k → Judged Γ ns k x (judge_primary Γ p)
  judged_primary (integer i) x at is = moved _ x _ is at refl
  judged_primary (text i) x at is = moved _ x _ is at refl
  judged_primary (variable (name n)) x at is = moved _ x _ is at (name n, is, refl)
  judged_primary (variable (element v i e)) x at is = moved _ x _ is.4 at (v, e, is.3, is.5, is.6, is, refl)
  judged_primary (variable (component v n)) x at is = moved _ x _ is.2 at (component v n, is, refl)
  judged_primary (call n i) x at is = moved _ x _ is at refl
  judged_primary (call_on n i es e) x at is = moved _ x _ is.6 at (comma es e, is.3, (is.1, is.2, is.4, is.5, is.7, is.8, is.9), refl)
  judged_primary (paren i e) x at is = moved _ x _ is.2 at (e, is.1, is.3, refl)

  judged_term : (t : Term) (x : Node) → At ns k x → IsTerm t ns k → Judged Γ ns k x (judge_term Γ t)
  judged_term (monadic o i t) x at is = moved _ x _ is.2 at (term t, o, refl, is.1, is.3, refl)
  judged_term (primary p) x at is = judged_primary p x at is

  pub judged : {n : ℕ} (e : Expr n) (x : Node) → At ns k x → IsExpr e ns k → Judged Γ ns k x (judge Γ e)
  judged (term t) x at is = judged_term t x at is
  judged (up e) x at is = judged e x at is
  judged (dyadic a o i b) x at is = moved _ x _ is.4 at (_, a, o, b, refl, is.2, is.3, is.5, is.6, refl)

  -- what none of the other forms is, is a variable with no bracket
  pub left_over : (x : Node) (j : Result Thing Refusal) → Judged Γ ns k x j → ((c : Symbol) (i l r : ℕ) → x ≡ Dyadic c i l r → ⊥) → ((c : Symbol) (i r : ℕ) → x ≡ Monadic c i r → ⊥) → ((i : ℕ) → x ≡ Integer i → ⊥) → ((i : ℕ) → x ≡ Text i → ⊥) → ((n i : ℕ) → x ≡ Call n i → ⊥) → ((n i m : ℕ) → x ≡ CallOn n i m → ⊥) → ((i r : ℕ) → x ≡ Paren i r → ⊥) → ((l i r : ℕ) → x ≡ Element l i r → ⊥) → (v : Variable) × IsVariable v ns k × (j ≡ judge_variable Γ v)
  left_over (Dyadic c i l r) j h d m a t f g p s = absurd (d c i l r refl)
  left_over (Monadic c i r) j h d m a t f g p s = absurd (m c i r refl)
  left_over (Integer i) j h d m a t f g p s = absurd (a i refl)
  left_over (Text i) j h d m a t f g p s = absurd (t i refl)
  left_over (Call n i) j h d m a t f g p s = absurd (f n i refl)
  left_over (CallOn n i l) j h d m a t f g p s = absurd (g n i l refl)
  left_over (Paren i r) j h d m a t f g p s = absurd (p i r refl)
  left_over (Element l i r) j h d m a t f g p s = absurd (s l i r refl)
  left_over (Name n) j h d m a t f g p s = h
  left_over (Component l n) j h d m a t f g p s = h
  left_over _ j h d m a t f g p s = absurd h

  pub left_over_place : (x : Node) (v : Variable) → Placed Γ ns k x v → ((l i r : ℕ) → x ≡ Element l i r → ⊥) → ((l n : ℕ) → x ≡ Component l n → ⊥) → (n : ℕ) × (v ≡ name n)
  left_over_place (Name n) v h b c = (n, h)
  left_over_place (Element l i r) v h b c = absurd (b l i r refl)
  left_over_place (Component l n) v h b c = absurd (c l n refl)
  left_over_place _ v h b c = absurd h

-- the expressions of a call are the entries of their list
pub as_many : (es : Exprs) → length (of_exprs es) ≡ count es
as_many (first e) = refl
as_many (comma es e) = ap suc (as_many es)

-- what stands before brackets: a name, and anything else
module _ (Γ : Env) (ns : List Node) (k : ℕ) (j : Result Thing Refusal) (z : ℕ) where
  pub named : (v : Variable) (n : ℕ) → At ns k (Name n) → IsVariable v ns k → judge_bracketed Γ v (judge_variable Γ v) j z ≡ then (look Γ n heads) (judge_head n j z)
  named (name m) n at is =
      let e : m ≡ n = cc (at, is) in
      ap (λ (i : ℕ). then (look Γ i heads) (judge_head i j z)) e
  named (element v i e) n at is = absurd (cc (at, is.4))
  named (component v m) n at is = absurd (cc (at, is.2))

  pub unnamed : (v : Variable) → ((n : ℕ) → At ns k (Name n) → ⊥) → IsVariable v ns k → judge_bracketed Γ v (judge_variable Γ v) j z ≡ judge_subscript (judge_variable Γ v) (front_variable v) j z
  unnamed (name n) other is = absurd (other n is)
  unnamed (element v i e) other is = refl
  unnamed (component v n) other is = refl

-- a variable of which a part is wrong
module _ (Γ : Env) where
  fails_stripped : (v : Variable) (f : Refusal) → judge_variable Γ (stripped v) ≡ Err f → judge_variable Γ v ≡ Err f
  fails_stripped (name n) f h = h
  fails_stripped (element v i e) f h = stops _ _ f (stops _ _ f h)
  fails_stripped (component v n) f h = stops _ _ f (stops _ _ f h)

  pub fails : (v : Variable) (d : ℕ) (f : Refusal) → judge_variable Γ (layer v d) ≡ Err f → judge_variable Γ v ≡ Err f
  fails v zero f h = h
  fails v (suc d) f h = fails v d f (fails_stripped (layer v d) f h)
