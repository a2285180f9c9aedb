-- What the machine answers is right. Assumes nothing.
use Rattle.std.proofs.Common.{◌≡◌, ℕ, suc, ◌+◌, Bool, true, false, cond, List, [], ◌∷◌, ◌++◌, length, sym, refl, ap, ◌∙◌, subst, append_assoc, arith}
use Rattle.grammar.specs.Symbols.{BLOCK, DO, IF, LEFT, same, same_true, among, Symbol}
use Rattle.grammar.specs.Trees.{Token, mark, Opt, none, some, Module, of_module}
use Rattle.grammar.specs.Sentences.{symbols, items, Made, Sentence, Viable, count, opens, closes, Full, Shallow, Stops, Sinks, Answer, fine, bad, deep, Meaning, OneTree, MadeSentence, Unique, NothingAfter}
use Rattle.grammar.specs.Machine.{Goal, Forest, Left, step, done, onto_stack, step_to, is_some, may_end, onward, accepts, follows, fewer, level, end, go, run, a_module, RunRight, ViableFronts, Accepted}
use Rattle.grammar.proofs.Spell.{of_forest}
use Rattle.grammar.proofs.Sound.{Backs, back_step, Blanks, blank_forest, least_forest}
use Rattle.grammar.proofs.Read.{read, read_accepts}
use Rattle.grammar.proofs.Complete.{module_read}

pub clash : {b : Bool} → b ≡ true → b ≡ false → ⊥
clash p q = grind arith

-- every tree's symbols are accepted
pub complete : (m : Module) → accepts a_module (symbols (of_module m [])) ≡ true
complete m = sym (read_accepts a_module (of_module m []) (λ f. f.0)) ∙ ap is_some (module_read m)

-- no two trees have the same items
abbrev from_some : {A : Type 0} → A → Opt A → A
from_some d none = d
from_some d (some a) = a

pub unique : Unique
unique m k e = ap (from_some m) (sym (module_read m) ∙ ap (λ (w : List Token). read a_module w (λ f. f.0)) e ∙ module_read k)

-- a step, read backwards
abbrev BacksTo : (γ : List Goal) → Symbol → Opt (List Goal) → Type 0
BacksTo γ c none = Unit {0}
BacksTo γ c (some β) = (n : ℕ) (g : Forest β) → (f : Forest γ) × (of_forest γ f ≡ mark c n ∷ of_forest β g)

backs_to : (γ : List Goal) (c : Symbol) (o : Opt (Left γ)) → Backs γ c o → BacksTo γ c (onto_stack γ o)
backs_to γ c none b = tt
backs_to γ c (some l) b = λ n g. (l.1 n g, b n g)

back_to : (γ : List Goal) (c : Symbol) → BacksTo γ c (step_to γ c)
back_to γ c = backs_to γ c (step γ c) (back_step γ c)

ends_blank : (γ : List Goal) (o : Opt (Forest γ)) → Blanks γ o → is_some o ≡ true → (f : Forest γ) × (of_forest γ f ≡ [])
ends_blank γ none b h = let z : ⊥ = grind arith in absurd z
ends_blank γ (some f) b h = (f, b)

empty_forest : (γ : List Goal) → may_end γ ≡ true → (f : Forest γ) × (of_forest γ f ≡ [])
empty_forest γ h = ends_blank γ (done γ) (blank_forest γ) h

-- what is accepted is made of the items read
module _ (c : Symbol) (w : List Symbol) (n : ℕ) where
  made_step : (γ : List Goal) (o : Opt (List Goal)) → BacksTo γ c o → ((β : List Goal) → accepts β w ≡ true → (f : Forest β) × (of_forest β f ≡ items (suc n) w)) → onward o (λ β. accepts β w) ≡ true → (f : Forest γ) × (of_forest γ f ≡ items n (c ∷ w))
  made_step γ none b ih h = let z : ⊥ = grind arith in absurd z
  made_step γ (some β) b ih h = let g = ih β h in let f = b n g.0 in (f.0, f.1 ∙ ap (λ (v : List Token). mark c n ∷ v) g.1)

made : (γ : List Goal) (n : ℕ) (w : List Symbol) → accepts γ w ≡ true → (f : Forest γ) × (of_forest γ f ≡ items n w)
made γ n [] h = empty_forest γ h
made γ n (c ∷ w) h = made_step c w n γ (step_to γ c) (back_to γ c) (λ β. made β (suc n) w) h

symbols_items : (n : ℕ) (w : List Symbol) → symbols (items n w) ≡ w
symbols_items n [] = refl
symbols_items n (c ∷ w) = ap (λ (v : List Symbol). c ∷ v) (symbols_items (suc n) w)

pub made_sentence_lem : MadeSentence
made_sentence_lem m w e = (m, ap symbols e ∙ symbols_items 0 w)

sentence_accepted : (w : List Symbol) → Sentence w → accepts a_module w ≡ true
sentence_accepted w s = subst (λ (v : List Symbol). accepts a_module v ≡ true) s.1 (complete s.0)

accepted_made : (w : List Symbol) → accepts a_module w ≡ true → (m : Module) × Made m w
accepted_made w h = let f = made a_module 0 w h in (f.0.0, f.1)

pub accepted : Accepted
accepted w = (sentence_accepted w, λ h. let m = accepted_made w h in made_sentence_lem m.0 w m.1)

pub one_tree_lem : OneTree
one_tree_lem w s = let m = accepted_made w (sentence_accepted w s) in (m.0, m.1, λ k e. unique m.0 k (m.1 ∙ sym e))

-- w begins what γ asks for; γ takes nothing that begins with u and the first of v
abbrev Begins : List Goal → List Symbol → Type 0
Begins γ w = (x : List Symbol) × (f : Forest γ) × (symbols (of_forest γ f) ≡ w ++ x)

least_begins : (γ : List Goal) → Begins γ []
least_begins γ = (symbols (of_forest γ (least_forest γ)), least_forest γ, refl)

abbrev Halts : List Goal → List Symbol → List Symbol → Type 0
Halts γ u [] = accepts γ u ≡ false
Halts γ u (c ∷ v) = (x : List Symbol) → accepts γ (u ++ (c ∷ x)) ≡ false

abbrev Plunges : ℕ → List Goal → List Symbol → List Symbol → Type 0
Plunges n γ u [] = ⊥
Plunges n γ u (c ∷ v) = Begins γ (u ++ (c ∷ [])) × (opens c ≡ true) × Full n u

-- what is said of γ and symbols of which the first has the number i
abbrev Says : ℕ → List Goal → ℕ → List Symbol → Answer → Type 0
Says n γ i w fine = (f : Forest γ) × (symbols (of_forest γ f) ≡ w) × Shallow n w
Says n γ i w (bad e) = (u : List Symbol) × (v : List Symbol) × (w ≡ u ++ v) × (i + length u ≡ e) × Begins γ u × Halts γ u v × Shallow n u
Says n γ i w (deep e) = (u : List Symbol) × (v : List Symbol) × (w ≡ u ++ v) × (i + length u ≡ e) × Plunges n γ u v × Shallow n u

no_cons : (c : Symbol) (q p : List Symbol) → [] ≡ p ++ (c ∷ q) → ⊥
no_cons c q [] e = grind arith
no_cons c q (a ∷ p) e = grind arith

shallow_none : (n : ℕ) → Shallow n []
shallow_none n p c q e o f = no_cons c q p e

-- how a symbol changes the number that may still open
pub among_but : (k : Symbol) (ks : List Symbol) (P : Symbol → Type 0) (c : Symbol) → P k → (among ks c ≡ true → P c) → among (k ∷ ks) c ≡ true → P c
among_but k ks P c p q h = by (same c k) refl h
  where
    by : (b : Bool) → same c k ≡ b → cond b true (among ks c) ≡ true → P c
    by true e h = subst P (sym (same_true c k e)) p
    by false e h = q h

pub open_not_close : (c : Symbol) → opens c ≡ true → closes c ≡ false
open_not_close c h =
    let P : Symbol → Type 0 = λ k. closes k ≡ false in
    among_but LEFT (BLOCK ∷ IF ∷ DO ∷ []) P c refl (among_but BLOCK (IF ∷ DO ∷ []) P c refl (among_but IF (DO ∷ []) P c refl (among_but DO [] P c refl (λ e. absurd (clash e refl))))) h

abbrev Level : ℕ → Bool → Bool → Opt ℕ
Level n o k = cond o (fewer n) (cond k (some (suc n)) (some n))

full_step : (n d a b : ℕ) (o k : Bool) → (o ≡ true → k ≡ false) → Level n o k ≡ some d → ((cond o (suc a) a ≡ n + cond k (suc b) b) → a ≡ d + b) × (a ≡ d + b → (cond o (suc a) a ≡ n + cond k (suc b) b))
full_step n d a b o k x e = (λ h. grind arith, λ h. grind arith)

stuck : (n : ℕ) (o k : Bool) → Level n o k ≡ none → (o ≡ true) × (n ≡ 0)
stuck n o k e = (grind arith, grind arith)

unstuck : (n d : ℕ) (o k : Bool) → Level n o k ≡ some d → o ≡ true → 0 ≡ n + 0 → ⊥
unstuck n d o k e h z = grind arith

module _ (n d : ℕ) (c : Symbol) (l : level n c ≡ some d) where
  full_in : (w : List Symbol) → Full n (c ∷ w) → Full d w
  full_in w = (full_step n d (count opens w) (count closes w) (opens c) (closes c) (open_not_close c) l).0

  full_out : (w : List Symbol) → Full d w → Full n (c ∷ w)
  full_out w = (full_step n d (count opens w) (count closes w) (opens c) (closes c) (open_not_close c) l).1

  shallow_more : (w : List Symbol) → Shallow d w → Shallow n (c ∷ w)
  shallow_more w s [] b q e o f = unstuck n d (opens c) (closes c) l (let z : c ≡ b = cc in subst (λ (k : Symbol). opens k ≡ true) (sym z) o) f
  shallow_more w s (a ∷ p) b q e o f =
      let z : c ≡ a = cc in
      let y : w ≡ p ++ (b ∷ q) = cc in
      s p b q y o (full_in p (subst (λ (k : Symbol). Full n (k ∷ p)) (sym z) f))

  module _ (γ β : List Goal) (e : step_to γ c ≡ some β) where
    grow : (g : Forest β) → (f : Forest γ) × (symbols (of_forest γ f) ≡ c ∷ symbols (of_forest β g))
    grow g = let f = subst (BacksTo γ c) e (back_to γ c) 0 g in (f.0, ap symbols f.1)

    begins_more : (w : List Symbol) → Begins β w → Begins γ (c ∷ w)
    begins_more w b = let f = grow b.1 in (b.0, f.0, f.1 ∙ ap (λ (v : List Symbol). c ∷ v) b.2)

    accepts_more : (w : List Symbol) → accepts β w ≡ false → accepts γ (c ∷ w) ≡ false
    accepts_more w h = ap (λ (o : Opt (List Goal)). onward o (λ δ. accepts δ w)) e ∙ h

    halts_more : (u v : List Symbol) → Halts β u v → Halts γ (c ∷ u) v
    halts_more u [] h = accepts_more _ h
    halts_more u (a ∷ v) h = λ x. accepts_more _ (h x)

    plunges_more : (u v : List Symbol) → Plunges d β u v → Plunges n γ (c ∷ u) v
    plunges_more u [] h = h
    plunges_more u (a ∷ v) h = (begins_more _ h.0, h.1, full_out u h.2)

    says_more : (i : ℕ) (w : List Symbol) (o : Answer) → Says d β (suc i) w o → Says n γ i (c ∷ w) o
    says_more i w fine s = let f = grow s.0 in (f.0, f.1 ∙ ap (λ (v : List Symbol). c ∷ v) s.1, shallow_more w s.2)
    says_more i w (bad e) s = (c ∷ s.0, s.1, ap (λ (v : List Symbol). c ∷ v) s.2, omega (arith, s.3), begins_more s.0 s.4, halts_more s.0 s.1 s.5, shallow_more s.0 s.6)
    says_more i w (deep e) s = (c ∷ s.0, s.1, ap (λ (v : List Symbol). c ∷ v) s.2, omega (arith, s.3), plunges_more s.0 s.1 s.4, shallow_more s.0 s.5)

says_end : (n i : ℕ) (γ : List Goal) (b : Bool) → may_end γ ≡ b → Says n γ i [] (end i b)
says_end n i γ true e = let f = empty_forest γ e in (f.0, ap symbols f.1, shallow_none n)
says_end n i γ false e = ([], [], refl, omega arith, least_begins γ, e, shallow_none n)

says_go : (n i : ℕ) (c : Symbol) (γ : List Goal) (w : List Symbol) (o : Opt (List Goal)) (l : Opt ℕ) → step_to γ c ≡ o → level n c ≡ l → ((d : ℕ) (β : List Goal) → Says d β (suc i) w (run d β (suc i) w)) → Says n γ i (c ∷ w) (go i o l (λ d β. run d β (suc i) w))
says_go n i c γ w none l e h k = ([], c ∷ w, refl, omega arith, least_begins γ, (λ x. ap (λ (o : Opt (List Goal)). onward o (λ δ. accepts δ x)) e), shallow_none n)
says_go n i c γ w (some β) none e h k =
    let s = stuck n (opens c) (closes c) h in
    let f = subst (BacksTo γ c) e (back_to γ c) 0 (least_forest β) in
    ([], c ∷ w, refl, omega arith, ((symbols (of_forest β (least_forest β)), f.0, ap symbols f.1), s.0, omega arith), shallow_none n)
says_go n i c γ w (some β) (some d) e h k = says_more n d c h γ β e i w (run d β (suc i) w) (k d β)

says : (n : ℕ) (γ : List Goal) (i : ℕ) (w : List Symbol) → Says n γ i w (run n γ i w)
says n γ i [] = says_end n i γ (may_end γ) refl
says n γ i (c ∷ w) = says_go n i c γ w (step_to γ c) (level n c) refl refl (λ d β. says d β (suc i) w)

viable : (u : List Symbol) → Begins a_module u → Viable u
viable u b = (b.0, (b.1.0, b.2))

module _ (n : ℕ) (w : List Symbol) where
  stops : (u v : List Symbol) → Halts a_module u v → Stops u v
  stops u [] h = λ s. clash (sentence_accepted u s) h
  stops u (c ∷ v) h = λ s. clash (sentence_accepted _ s.1) (ap (accepts a_module) (append_assoc u (c ∷ []) s.0) ∙ h s.0)

  sinks : (u v : List Symbol) → Plunges n a_module u v → Sinks n u v
  sinks u [] h = h
  sinks u (c ∷ v) h = (viable (u ++ (c ∷ [])) h.0, h.1, h.2)

  meaning : (o : Answer) → Says n a_module 0 w o → Meaning n w o
  meaning fine s = record { sentence = (s.0.0, s.1); shallow = s.2 }
  meaning (bad e) s = record { front = s.0; behind = s.1; parts = s.2; place = omega (arith, s.3); viable = viable s.0 s.4; stops = stops s.0 s.1 s.5; shallow = s.6 }
  meaning (deep e) s = record { front = s.0; behind = s.1; parts = s.2; place = omega (arith, s.3); sinks = sinks s.0 s.1 s.4; shallow = s.5 }

pub run_right_lem : RunRight
run_right_lem n w = meaning n w (run n a_module 0 w) (says n a_module 0 w)

-- the fronts of sentences
accepts_follows : (γ : List Goal) (w x : List Symbol) → accepts γ (w ++ x) ≡ true → follows γ w ≡ true
accepts_follows γ [] x h = refl
accepts_follows γ (c ∷ w) x h = by (step_to γ c) (λ β. accepts_follows β w x) h
  where
    by : (o : Opt (List Goal)) → ((β : List Goal) → accepts β (w ++ x) ≡ true → follows β w ≡ true) → onward o (λ β. accepts β (w ++ x)) ≡ true → onward o (λ β. follows β w) ≡ true
    by none ih h = h
    by (some β) ih h = ih β h

follows_begins : (γ : List Goal) (w : List Symbol) → follows γ w ≡ true → Begins γ w
follows_begins γ [] h = least_begins γ
follows_begins γ (c ∷ w) h = by (step_to γ c) (back_to γ c) (λ β. follows_begins β w) h
  where
    by : (o : Opt (List Goal)) → BacksTo γ c o → ((β : List Goal) → follows β w ≡ true → Begins β w) → onward o (λ β. follows β w) ≡ true → Begins γ (c ∷ w)
    by none b ih h = let z : ⊥ = grind arith in absurd z
    by (some β) b ih h = let g = ih β h in let f = b 0 g.1 in (g.0, f.0, ap symbols f.1 ∙ ap (λ (v : List Symbol). c ∷ v) g.2)

pub viable_fronts_lem : ViableFronts
viable_fronts_lem w = (λ v. accepts_follows a_module w v.0 (sentence_accepted _ v.1), λ h. viable w (follows_begins a_module w h))

pub viable_less : (u x : List Symbol) → Viable (u ++ x) → Viable u
viable_less u x v = (x ++ v.0, (v.1.0, v.1.1 ∙ append_assoc u x v.0))

pub nothing_after_lem : NothingAfter
nothing_after_lem u x h v = h (viable_less u x v)
