-- Terms and the levels of an expression, step by step. Assumes nothing.
use Rattle.std.proofs.lemmas.Bool.{cases_lt}
use Rattle.std.specs.List.{prefix_len}
use Rattle.std.proofs.lemmas.List.{get_or-drop, length-drop, get_or_past, take_all}
use Rattle.std.proofs.lemmas.List.Sums.{prefix_len-le-length, prefix_len_passes, prefix_len_stops}
use Rattle.std.proofs.Common.{zero, ◌≡◌, ℕ, suc, ◌+◌, ◌-◌, ◌<◌, ◌≤◌, Bool, true, false, cond, List, [], ◌∷◌, length, get_or, take, drop, set, sym, refl, ap, ◌∙◌, subst, arith, below_more, ◌⊎◌, inl, inr}
use Rattle.grammar.specs.Symbols.{among, same, same_true, STOP, PLUS, MINUS, STAR, DIVIDE, MOD, LAND, LOR, NEV, ABS, NOT, BYTE, LENGTH}
use Rattle.grammar.specs.declared.Symbol.{Symbol}
use Rattle.grammar.specs.Trees.{Token, token, mark, some, Dyadic, times, divide, modulo, land, lor, nev, plus, minus, spell, Monadic, positive, negative, absolute, complement, narrow, size, spell_monadic, Expr, term, up, dyadic, Term, monadic, primary, Primary, of_expr, of_term, of_primary}
use Rattle.grammar.specs.Sentences.{items}
use Rattle.grammar.specs.Machine.{Goal, Move, skip, mapped, an_expr, a_term, a_primary, links_on, at_term, at_primary, at_links, taken, onto_stack, step, step_to, level}
use Rattle.grammar.proofs.Expressions.{on_not}
use Rattle.grammar.proofs.Right.{clash, among_but as found_in}
use Rattle.grammar.proofs.Steps.{items_here, step_at, like_at, skip_at, expr_at, mapped_on}
use Rattle.nodes.proofs.Build.{grown}
use Rattle.nodes.proofs.Keep.{keep_expr, keep_term, agree_trans}
use Rattle.nodes.specs.Made.{at, Made, Way, Refused, rank, LevelWay, LevelRefused, monadics, Monads}
use Rattle.nodes.specs.Nodes.{IsExpr, IsTerm, IsPrimary, Agree}
use Rattle.nodes.specs.declared.Node.{Node}
use Rattle.nodes.specs.declared.Node.TheVariants as node
use Rattle.nodes.specs.declared.Parsed.{Parsed}
use Rattle.nodes.specs.declared.Fault.{Fault}

pub none_of : (k : Symbol) (ks : List Symbol) (c : Symbol) → among (k ∷ ks) c ≡ false → (same c k ≡ false) × (among ks c ≡ false)
none_of k ks c h = by (same c k) refl h
  where
    by : (b : Bool) → same c k ≡ b → cond b true (among ks c) ≡ false → (same c k ≡ false) × (among ks c ≡ false)
    by true e h = absurd (clash refl h)
    by false e h = (e, h)

pub no_such : (c : Symbol) (P : Type 0) → among [] c ≡ true → P
no_such c P e = absurd (clash e refl)

-- monadic operators
abbrev IsMonadic : Symbol → Type 0
IsMonadic c = (o : Monadic) × (c ≡ spell_monadic o)

monadic_of : (c : Symbol) → among monadics c ≡ true → IsMonadic c
monadic_of c h =
    found_in PLUS (MINUS ∷ ABS ∷ NOT ∷ BYTE ∷ LENGTH ∷ []) IsMonadic c (positive, refl)
    (found_in MINUS (ABS ∷ NOT ∷ BYTE ∷ LENGTH ∷ []) IsMonadic c (negative, refl)
    (found_in ABS (NOT ∷ BYTE ∷ LENGTH ∷ []) IsMonadic c (absolute, refl)
    (found_in NOT (BYTE ∷ LENGTH ∷ []) IsMonadic c (complement, refl)
    (found_in BYTE (LENGTH ∷ []) IsMonadic c (narrow, refl)
    (found_in LENGTH [] IsMonadic c (size, refl) (no_such c (IsMonadic c))))))) h

monadic_step : (o : Monadic) (α : List Goal) → step_to (a_term ∷ α) (spell_monadic o) ≡ some (a_term ∷ α)
monadic_step positive α = refl
monadic_step negative α = refl
monadic_step absolute α = refl
monadic_step complement α = refl
monadic_step narrow α = refl
monadic_step size α = refl

monadic_level : (o : Monadic) (d : ℕ) → level d (spell_monadic o) ≡ some d
monadic_level positive d = refl
monadic_level negative d = refl
monadic_level absolute d = refl
monadic_level complement d = refl
monadic_level narrow d = refl
monadic_level size d = refl

monadic_mark : (o : Monadic) (i : ℕ) → mark (spell_monadic o) i ≡ token (spell_monadic o) i
monadic_mark positive i = refl
monadic_mark negative i = refl
monadic_mark absolute i = refl
monadic_mark complement i = refl
monadic_mark narrow i = refl
monadic_mark size i = refl

monadic_way : (d : ℕ) (s : List Symbol) (k : ℕ) → k < length s → among monadics (get_or s k STOP) ≡ true → (α : List Goal) → at d (a_term ∷ α) s k ≡ at d (a_term ∷ α) s (k + 1)
monadic_way d s k h q α = let o = monadic_of (get_or s k STOP) q in step_at d (a_term ∷ α) (a_term ∷ α) s k d (spell_monadic o.0) h o.1 (monadic_step o.0 α) (monadic_level o.0 d)

pub monads_start : (d : ℕ) (s : List Symbol) (i : ℕ) → i ≤ length s → Monads d s i i
monads_start d s i h = record { low = omega arith; high = h; each = λ j a b. (let z : ◌≡◌ {A = ℕ} 0 1 = omega arith in cc); met = λ α. refl }

pub monads_more : (d : ℕ) (s : List Symbol) (i k : ℕ) → k < length s → among monadics (get_or s k STOP) ≡ true → Monads d s i k → Monads d s i (k + 1)
monads_more d s i k h q m = record {
  low = omega (arith, m.low);
  high = omega arith;
  each = λ j a b. below_more (λ (n : ℕ). i ≤ n → among monadics (get_or s n STOP) ≡ true) k (λ n b a. m.each n a b) (λ a. q) j b a;
  met = λ α. m.met α ∙ monadic_way d s k h q α;
}

-- as many operators as stand there, and no further one
monads_upto : (d : ℕ) (s : List Symbol) (i n : ℕ) → i ≤ length s → n ≤ prefix_len (among monadics) (drop i s) → Monads d s i (i + n)
monads_upto d s i zero h l = let e : i ≡ i + 0 = omega arith in subst (λ (k : ℕ). Monads d s i k) e (monads_start d s i h)
monads_upto d s i (suc n) h l =
    let e : i + n + 1 ≡ i + suc n = omega arith in
    let f = prefix_len-le-length (among monadics) (drop i s) in
    let g = length-drop i s in
    let q = prefix_len_passes (among monadics) (drop i s) n STOP (omega arith) in
    subst (λ (k : ℕ). Monads d s i k) e (monads_more d s i (i + n) (omega (arith, f, g)) (ap (among monadics) (sym (get_or-drop i s n STOP)) ∙ q) (monads_upto d s i n h (omega arith)))

all_left : (s : List Symbol) (i n : ℕ) → n ≡ prefix_len (among monadics) (take (length s - i) (drop i s)) → n ≡ prefix_len (among monadics) (drop i s)
all_left s i n e = let g = length-drop i s in e ∙ ap (prefix_len (among monadics)) (take_all (length s - i) (drop i s) (omega (arith, g)))

pub monads_there : (d : ℕ) (s : List Symbol) (i n : ℕ) → i ≤ length s → n ≡ prefix_len (among monadics) (take (length s - i) (drop i s)) → Monads d s i (i + n)
monads_there d s i n h e = let f = all_left s i n e in monads_upto d s i n h (omega (arith, f))

pub monads_end : (s : List Symbol) (i n : ℕ) → i ≤ length s → n ≡ prefix_len (among monadics) (take (length s - i) (drop i s)) → among monadics (get_or s (i + n) STOP) ≡ false
monads_end s i n h z = by (cases_lt n (length (drop i s)))
  where
    e : n ≡ prefix_len (among monadics) (drop i s)
    e = all_left s i n z

    g : length (drop i s) ≡ length s - i
    g = length-drop i s

    by : n < length (drop i s) ⊎ length (drop i s) ≤ n → among monadics (get_or s (i + n) STOP) ≡ false
    by (inl l) = ap (among monadics) (sym (get_or-drop i s n STOP)) ∙ ap (λ (k : ℕ). among monadics (get_or (drop i s) k STOP)) e ∙ prefix_len_stops (among monadics) (drop i s) STOP (omega (arith, e, l))
    by (inr l) = ap (among monadics) (get_or_past s (i + n) STOP (omega (arith, g, l)))

-- a term without an operator
plain_move : (c : Symbol) → among monadics c ≡ false → at_term c ≡ mapped primary (at_primary c)
plain_move c h =
    let a = none_of PLUS (MINUS ∷ ABS ∷ NOT ∷ BYTE ∷ LENGTH ∷ []) c h in
    let b = none_of MINUS (ABS ∷ NOT ∷ BYTE ∷ LENGTH ∷ []) c a.1 in
    let e = none_of ABS (NOT ∷ BYTE ∷ LENGTH ∷ []) c b.1 in
    let f = none_of NOT (BYTE ∷ LENGTH ∷ []) c e.1 in
    let g = none_of BYTE (LENGTH ∷ []) c f.1 in
    let k = none_of LENGTH [] c g.1 in
    on_not c PLUS _ _ _ a.0 ∙ on_not c MINUS _ _ _ b.0 ∙ on_not c ABS _ _ _ e.0 ∙ on_not c NOT _ _ _ f.0 ∙ on_not c BYTE _ _ _ g.0 ∙ on_not c LENGTH _ _ _ k.0

plain_way : (d : ℕ) (s : List Symbol) (k : ℕ) → among monadics (get_or s k STOP) ≡ false → (α : List Goal) → at d (a_term ∷ α) s k ≡ at d (a_primary ∷ α) s k
plain_way d s k n α =
    let c : Symbol = get_or s k STOP in
    like_at d (a_term ∷ α) (a_primary ∷ α) s k refl (ap (λ (m : Move Term). onto_stack (a_term ∷ α) (taken a_term α m (step α c))) (plain_move c n) ∙ mapped_on a_term a_primary primary α (at_primary c) (step α c))

abbrev pub TermMade : ℕ → List Symbol → ℕ → ℕ → List Node → List Node → Parsed → Type 0
TermMade d s i used ns ms p = Made 0 Term IsTerm of_term (Way (a_term ∷ []) d s i) s i used ns ms p

module _ (d : ℕ) (s : List Symbol) (i k used : ℕ) where
  pub term_refused : Monads d s i k → among monadics (get_or s k STOP) ≡ false → (f : Fault) → Refused (a_primary ∷ []) d s k f → Refused (a_term ∷ []) d s i f
  term_refused m n f r α = m.met α ∙ plain_way d s k n α ∙ r α

  pub term_plain : (ns ms : List Node) (p : Parsed) → among monadics (get_or s k STOP) ≡ false → Made 0 Primary IsPrimary of_primary (Way (a_primary ∷ []) d s k) s k used ns ms p → TermMade d s k used ms ms p
  term_plain ns ms p n m = record { within = m.within; more = m.more; few = m.few; below = m.below; kept = λ j l. refl; tree = primary m.tree; is = m.is; text = m.text; met = λ α. plain_way d s k n α ∙ m.met α }

  pub term_monad : (es ns : List Node) (p : Parsed) (c : Symbol) → 0 < k → k ≤ length s → among monadics (get_or s (k - 1) STOP) ≡ true → c ≡ get_or s (k - 1) STOP → p.used < length ns → TermMade d s k used es ns p → TermMade d s (k - 1) used es (set ns p.used (node.Monadic c (k - 1) p.root)) (record { next = p.next; used = p.used + 1; root = p.used })
  term_monad es ns p c z h q e room m =
      let l : k - 1 < length s = omega arith in
      let w : k - 1 + 1 ≡ k = omega arith in
      let o = monadic_of (get_or s (k - 1) STOP) q in
      grown 0 IsTerm of_term (Way (a_term ∷ []) d s (k - 1)) s (k - 1) used es ns p.used p.next (node.Monadic c (k - 1) p.root) room (monadic o.0 (k - 1) m.tree) m.within m.more (omega (arith, m.few)) m.kept
      (λ g a. (p.root, m.below, a ∙ ap (λ (x : Symbol). node.Monadic x (k - 1) p.root) (e ∙ o.1), keep_term p.used ns _ g m.tree p.root m.below m.is))
      (items_here s (k - 1) (spell_monadic o.0) l o.1 ∙ ap (λ (x : Token). x ∷ items (k - 1 + 1) (drop (k - 1 + 1) s)) (monadic_mark o.0 (k - 1)) ∙ ap (λ (j : ℕ). token (spell_monadic o.0) (k - 1) ∷ items j (drop j s)) w ∙ ap (λ (v : List Token). token (spell_monadic o.0) (k - 1) ∷ v) m.text)
      (λ α. monadic_way d s (k - 1) l q α ∙ ap (λ (j : ℕ). at d (a_term ∷ α) s j) w ∙ m.met α)

-- dyadic operators
abbrev IsDyadic : ℕ → Symbol → Type 0
IsDyadic n c = (o : Dyadic n) × (c ≡ spell o)

tight_of : (c : Symbol) → among (STAR ∷ DIVIDE ∷ MOD ∷ []) c ≡ true → IsDyadic 0 c
tight_of c h = found_in STAR (DIVIDE ∷ MOD ∷ []) (IsDyadic 0) c (times, refl) (found_in DIVIDE (MOD ∷ []) (IsDyadic 0) c (divide, refl) (found_in MOD [] (IsDyadic 0) c (modulo, refl) (no_such c (IsDyadic 0 c)))) h

loose_of : (c : Symbol) → among (PLUS ∷ MINUS ∷ []) c ≡ true → IsDyadic 4 c
loose_of c h = found_in PLUS (MINUS ∷ []) (IsDyadic 4) c (plus, refl) (found_in MINUS [] (IsDyadic 4) c (minus, refl) (no_such c (IsDyadic 4 c))) h

dyadic_of : (c : Symbol) (n : ℕ) → rank c ≡ n → n < 5 → IsDyadic n c
dyadic_of c n e l = by0 (among (STAR ∷ DIVIDE ∷ MOD ∷ []) c) refl e
  where
    by4 : (b : Bool) → among (PLUS ∷ MINUS ∷ []) c ≡ b → cond b 4 5 ≡ n → IsDyadic n c
    by4 true h e = subst (λ (m : ℕ). IsDyadic m c) e (loose_of c h)
    by4 false h e = absurd (omega arith)

    by3 : (b : Bool) → same c NEV ≡ b → cond b 3 (cond (among (PLUS ∷ MINUS ∷ []) c) 4 5) ≡ n → IsDyadic n c
    by3 true h e = subst (λ (m : ℕ). IsDyadic m c) e (nev, same_true c NEV h)
    by3 false h e = by4 (among (PLUS ∷ MINUS ∷ []) c) refl e

    by2 : (b : Bool) → same c LOR ≡ b → cond b 2 (cond (same c NEV) 3 (cond (among (PLUS ∷ MINUS ∷ []) c) 4 5)) ≡ n → IsDyadic n c
    by2 true h e = subst (λ (m : ℕ). IsDyadic m c) e (lor, same_true c LOR h)
    by2 false h e = by3 (same c NEV) refl e

    by1 : (b : Bool) → same c LAND ≡ b → cond b 1 (cond (same c LOR) 2 (cond (same c NEV) 3 (cond (among (PLUS ∷ MINUS ∷ []) c) 4 5))) ≡ n → IsDyadic n c
    by1 true h e = subst (λ (m : ℕ). IsDyadic m c) e (land, same_true c LAND h)
    by1 false h e = by2 (same c LOR) refl e

    by0 : (b : Bool) → among (STAR ∷ DIVIDE ∷ MOD ∷ []) c ≡ b → cond b 0 (cond (same c LAND) 1 (cond (same c LOR) 2 (cond (same c NEV) 3 (cond (among (PLUS ∷ MINUS ∷ []) c) 4 5)))) ≡ n → IsDyadic n c
    by0 true h e = subst (λ (m : ℕ). IsDyadic m c) e (tight_of c h)
    by0 false h e = by1 (same c LAND) refl e

-- a terminal that is no operator
loose_move : (c : Symbol) → 5 ≤ rank c → at_links c ≡ skip []
loose_move c l = by0 (among (STAR ∷ DIVIDE ∷ MOD ∷ []) c) refl l
  where
    chain : among (STAR ∷ DIVIDE ∷ MOD ∷ []) c ≡ false → same c LAND ≡ false → same c LOR ≡ false → same c NEV ≡ false → among (PLUS ∷ MINUS ∷ []) c ≡ false → at_links c ≡ skip []
    chain t a o v p =
        let x = none_of STAR (DIVIDE ∷ MOD ∷ []) c t in
        let y = none_of DIVIDE (MOD ∷ []) c x.1 in
        let z = none_of MOD [] c y.1 in
        let f = none_of PLUS (MINUS ∷ []) c p in
        let g = none_of MINUS [] c f.1 in
        on_not c PLUS _ _ _ f.0 ∙ on_not c MINUS _ _ _ g.0 ∙ on_not c NEV _ _ _ v ∙ on_not c LOR _ _ _ o ∙ on_not c LAND _ _ _ a ∙ on_not c STAR _ _ _ x.0 ∙ on_not c DIVIDE _ _ _ y.0 ∙ on_not c MOD _ _ _ z.0

    by4 : among (STAR ∷ DIVIDE ∷ MOD ∷ []) c ≡ false → same c LAND ≡ false → same c LOR ≡ false → same c NEV ≡ false → (b : Bool) → among (PLUS ∷ MINUS ∷ []) c ≡ b → 5 ≤ cond b 4 5 → at_links c ≡ skip []
    by4 t a o v true h l = absurd (omega arith)
    by4 t a o v false h l = chain t a o v h

    by3 : among (STAR ∷ DIVIDE ∷ MOD ∷ []) c ≡ false → same c LAND ≡ false → same c LOR ≡ false → (b : Bool) → same c NEV ≡ b → 5 ≤ cond b 3 (cond (among (PLUS ∷ MINUS ∷ []) c) 4 5) → at_links c ≡ skip []
    by3 t a o true h l = absurd (omega arith)
    by3 t a o false h l = by4 t a o h (among (PLUS ∷ MINUS ∷ []) c) refl l

    by2 : among (STAR ∷ DIVIDE ∷ MOD ∷ []) c ≡ false → same c LAND ≡ false → (b : Bool) → same c LOR ≡ b → 5 ≤ cond b 2 (cond (same c NEV) 3 (cond (among (PLUS ∷ MINUS ∷ []) c) 4 5)) → at_links c ≡ skip []
    by2 t a true h l = absurd (omega arith)
    by2 t a false h l = by3 t a h (same c NEV) refl l

    by1 : among (STAR ∷ DIVIDE ∷ MOD ∷ []) c ≡ false → (b : Bool) → same c LAND ≡ b → 5 ≤ cond b 1 (cond (same c LOR) 2 (cond (same c NEV) 3 (cond (among (PLUS ∷ MINUS ∷ []) c) 4 5))) → at_links c ≡ skip []
    by1 t true h l = absurd (omega arith)
    by1 t false h l = by2 t h (same c LOR) refl l

    by0 : (b : Bool) → among (STAR ∷ DIVIDE ∷ MOD ∷ []) c ≡ b → 5 ≤ cond b 0 (cond (same c LAND) 1 (cond (same c LOR) 2 (cond (same c NEV) 3 (cond (among (PLUS ∷ MINUS ∷ []) c) 4 5)))) → at_links c ≡ skip []
    by0 true h l = absurd (omega arith)
    by0 false h l = by1 h (same c LAND) refl l

dyadic_step : {n : ℕ} (o : Dyadic n) (α : List Goal) → step_to (links_on ∷ α) (spell o) ≡ some (a_term ∷ links_on ∷ α)
dyadic_step times α = refl
dyadic_step divide α = refl
dyadic_step modulo α = refl
dyadic_step land α = refl
dyadic_step lor α = refl
dyadic_step nev α = refl
dyadic_step plus α = refl
dyadic_step minus α = refl

dyadic_level : {n : ℕ} (o : Dyadic n) (d : ℕ) → level d (spell o) ≡ some d
dyadic_level times d = refl
dyadic_level divide d = refl
dyadic_level modulo d = refl
dyadic_level land d = refl
dyadic_level lor d = refl
dyadic_level nev d = refl
dyadic_level plus d = refl
dyadic_level minus d = refl

dyadic_mark : {n : ℕ} (o : Dyadic n) (i : ℕ) → mark (spell o) i ≡ token (spell o) i
dyadic_mark times i = refl
dyadic_mark divide i = refl
dyadic_mark modulo i = refl
dyadic_mark land i = refl
dyadic_mark lor i = refl
dyadic_mark nev i = refl
dyadic_mark plus i = refl
dyadic_mark minus i = refl

pub no_stop : (c : Symbol) (n : ℕ) → rank c ≡ n → n < 5 → c ≡ STOP → ⊥
no_stop c n e l q = let z : rank STOP ≡ n = ap rank (sym q) ∙ e in omega arith

dyadic_way : (d : ℕ) (s : List Symbol) (j n : ℕ) → j < length s → rank (get_or s j STOP) ≡ n → n < 5 → (α : List Goal) → at d (links_on ∷ α) s j ≡ at d (a_term ∷ links_on ∷ α) s (j + 1)
dyadic_way d s j n h q l α = let o = dyadic_of (get_or s j STOP) n q l in step_at d (links_on ∷ α) (a_term ∷ links_on ∷ α) s j d (spell o.0) h o.1 (dyadic_step o.0 α) (dyadic_level o.0 d)

-- an expression of level n, where operators of level m at least may still follow
abbrev pub LevelMade : (n m : ℕ) → ℕ → List Symbol → ℕ → ℕ → List Node → List Node → Parsed → Type 0
LevelMade n m d s i used ns ms p = Made 0 (Expr n) IsExpr of_expr (LevelWay m d s i) s i used ns ms p

module _ (d : ℕ) (s : List Symbol) (i used : ℕ) where
  pub level_zero : (n : ℕ) → n ≡ 0 → (ns ms : List Node) (p : Parsed) → TermMade d s i used ns ms p → LevelMade n n d s i used ns ms p
  level_zero n e ns ms p m = subst (λ (k : ℕ). LevelMade k k d s i used ns ms p) (sym e) (record { within = m.within; more = m.more; few = m.few; below = m.below; kept = m.kept; tree = term m.tree; is = m.is; text = m.text; met = (λ α. m.met (links_on ∷ α), omega arith) })

  pub level_up : (n : ℕ) (ns ms : List Node) (p : Parsed) → LevelMade n n d s i used ns ms p → LevelMade (suc n) n d s i used ms ms p
  level_up n ns ms p m = record { within = m.within; more = m.more; few = m.few; below = m.below; kept = λ j l. refl; tree = up m.tree; is = m.is; text = m.text; met = m.met }

  module _ (n : ℕ) (es ns : List Node) (p : Parsed) (m : LevelMade (suc n) n d s i used es ns p) where
    module _ (h : p.next < length s) (q : rank (get_or s p.next STOP) ≡ n) (l : n < 5) where
      pub level_refused : (f : Fault) → LevelRefused d s (p.next + 1) f → LevelRefused d s i f
      level_refused f r α = m.met.0 α ∙ dyadic_way d s p.next n h q l α ∙ r α

      pub level_goes : (ms : List Node) (e : Parsed) (c : Symbol) → c ≡ get_or s p.next STOP → e.used < length ms → LevelMade n n d s (p.next + 1) p.used ns ms e → LevelMade (suc n) n d s i used es (set ms e.used (node.Dyadic c p.next p.root e.root)) (record { next = e.next; used = e.used + 1; root = e.used })
      level_goes ms e c w r b =
          let o = dyadic_of (get_or s p.next STOP) n q l in
          grown 0 IsExpr of_expr (LevelWay n d s i) s i used es ms e.used e.next (node.Dyadic c p.next p.root e.root) r (dyadic m.tree o.0 p.next b.tree) b.within (omega (arith, m.more, b.more)) (omega (arith, m.few, b.few))
          (agree_trans used p.used es ns ms m.more m.kept b.kept)
          (λ g a. (p.root, e.root, omega (arith, m.below, b.more), b.below, a ∙ ap (λ (x : Symbol). node.Dyadic x p.next p.root e.root) (w ∙ o.1), keep_expr e.used ms _ g m.tree p.root (omega (arith, m.below, b.more)) (keep_expr p.used ns ms b.kept m.tree p.root m.below m.is), keep_expr e.used ms _ g b.tree e.root b.below b.is))
          (m.text ∙ ap (of_expr m.tree) (items_here s p.next (spell o.0) h o.1 ∙ ap (λ (x : Token). x ∷ items (p.next + 1) (drop (p.next + 1) s)) (dyadic_mark o.0 p.next) ∙ ap (λ (v : List Token). token (spell o.0) p.next ∷ v) b.text))
          (λ α. m.met.0 α ∙ dyadic_way d s p.next n h q l α ∙ b.met.0 α, b.met.1)

    pub level_ends : (k : ℕ) → suc n ≡ k → (os : List Node) → Agree used os es → (rank (get_or s p.next STOP) ≡ n → ⊥) → LevelMade k k d s i used os ns p
    level_ends k e os a x =
        let y : suc n ≤ rank (get_or s p.next STOP) = omega (arith, m.met.1, x) in
        subst (λ (j : ℕ). LevelMade j j d s i used os ns p) e (record { within = m.within; more = m.more; few = m.few; below = m.below; kept = agree_trans used used os es ns (omega arith) a m.kept; tree = m.tree; is = m.is; text = m.text; met = (m.met.0, y) })

  pub expr_made : (ns ms : List Node) (p : Parsed) → LevelMade 5 5 d s i used ns ms p → Made 0 (Expr 5) IsExpr of_expr (Way (an_expr ∷ []) d s i) s i used ns ms p
  expr_made ns ms p m = record { within = m.within; more = m.more; few = m.few; below = m.below; kept = m.kept; tree = m.tree; is = m.is; text = m.text; met = λ α. expr_at d α s i ∙ m.met.0 α ∙ skip_at d links_on α s p.next [] [] refl (loose_move (get_or s p.next STOP) m.met.1) }

  pub expr_refused : (f : Fault) → LevelRefused d s i f → Refused (an_expr ∷ []) d s i f
  expr_refused f r α = expr_at d α s i ∙ r α
