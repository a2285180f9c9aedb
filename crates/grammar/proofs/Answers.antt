-- A text has one answer only. Assumes nothing.
use Rattle.std.proofs.Common.{◌≡◌, ℕ, List, [], ◌∷◌, ◌++◌, length, sym, refl, ap, ◌∙◌, subst, append_assoc, append-nil, arith}
use Rattle.grammar.specs.Symbols.{Symbol}
use Rattle.grammar.specs.Sentences.{Sentence, Viable, Shallow, Stops, Sinks, Answer, fine, bad, deep, Fine, Bad, Deep, Meaning, OneAnswer}
use Rattle.grammar.specs.Machine.{run, a_module}
use Rattle.grammar.proofs.Right.{run_right_lem, viable_less}

-- two ways of cutting a word in two
data Cut (u v p q : List Symbol) : Type 0 where
  alike_cut : u ≡ p → v ≡ q → Cut u v p q
  earlier : (c : Symbol) (z : List Symbol) → p ≡ u ++ (c ∷ z) → v ≡ c ∷ (z ++ q) → Cut u v p q
  later : (c : Symbol) (z : List Symbol) → u ≡ p ++ (c ∷ z) → q ≡ c ∷ (z ++ v) → Cut u v p q

longer_cut : (a : Symbol) (u v p q : List Symbol) → Cut u v p q → Cut (a ∷ u) v (a ∷ p) q
longer_cut a u v p q (alike_cut e f) = alike_cut (ap (λ (w : List Symbol). a ∷ w) e) f
longer_cut a u v p q (earlier c z e f) = earlier c z (ap (λ (w : List Symbol). a ∷ w) e) f
longer_cut a u v p q (later c z e f) = later c z (ap (λ (w : List Symbol). a ∷ w) e) f

cut : (u v p q : List Symbol) → u ++ v ≡ p ++ q → Cut u v p q
cut [] v [] q e = alike_cut refl e
cut [] v (c ∷ p) q e = earlier c p refl e
cut (a ∷ u) v [] q e = later a u refl (sym e)
cut (a ∷ u) v (b ∷ p) q e =
    let z : a ≡ b = cc in
    let y : u ++ v ≡ p ++ q = cc in
    subst (λ (k : Symbol). Cut (a ∷ u) v (k ∷ p) q) z (longer_cut a u v p q (cut u v p q y))

-- a word that goes on where it stops
stopped : (u v x : List Symbol) (c : Symbol) (z : List Symbol) → v ≡ c ∷ x → Stops u v → Viable (u ++ (c ∷ z)) → ⊥
stopped u [] x c z e s h = grind arith
stopped u (a ∷ v) x c z e s h =
    let y : a ≡ c = cc in
    s (subst (λ (k : Symbol). Viable (u ++ (k ∷ []))) (sym y) (viable_less (u ++ (c ∷ [])) z (subst Viable (sym (append_assoc u (c ∷ []) z)) h)))

sunk : (n : ℕ) (u v w : List Symbol) → w ≡ u ++ v → Sinks n u v → Shallow n w → ⊥
sunk n u [] w e h s = h
sunk n u (c ∷ v) w e h s = s u c v e h.1 h.2

sunk_at : (n : ℕ) (u v p x : List Symbol) (c : Symbol) (z : List Symbol) → v ≡ c ∷ x → p ≡ u ++ (c ∷ z) → Sinks n u v → Shallow n p → ⊥
sunk_at n u [] p x c z e f h s = h
sunk_at n u (a ∷ v) p x c z e f h s =
    let y : a ≡ c = cc in
    s u a z (f ∙ ap (λ (k : Symbol). u ++ (k ∷ z)) (sym y)) h.1 h.2

sinks_viable : (n : ℕ) (u v : List Symbol) → Sinks n u v → Viable u
sinks_viable n u [] h = absurd h
sinks_viable n u (c ∷ v) h = viable_less u (c ∷ []) h.0

module _ (n : ℕ) (w : List Symbol) where
  fine_bad : (e : ℕ) → Fine n w → Bad n w e → ⊥
  fine_bad e f b = by b.behind b.parts b.stops
    where
      by : (v : List Symbol) → w ≡ b.front ++ v → Stops b.front v → ⊥
      by [] e s = s (subst Sentence (e ∙ append-nil b.front) f.sentence)
      by (c ∷ v) e s = s (v, subst Sentence (e ∙ sym (append_assoc b.front (c ∷ []) v)) f.sentence)

  fine_deep : (e : ℕ) → Fine n w → Deep n w e → ⊥
  fine_deep e f d = sunk n d.front d.behind w d.parts d.sinks f.shallow

  module _ (e g : ℕ) where
    bad_deep : Bad n w e → Deep n w g → ⊥
    bad_deep b d = by (cut b.front b.behind d.front d.behind (sym b.parts ∙ d.parts))
      where
        sinks_stops : (q : List Symbol) → Stops b.front q → Sinks n b.front q → ⊥
        sinks_stops [] s h = h
        sinks_stops (c ∷ q) s h = s h.0

        by : Cut b.front b.behind d.front d.behind → ⊥
        by (alike_cut e f) = sinks_stops d.behind (subst (Stops b.front) f b.stops) (subst (λ (u : List Symbol). Sinks n u d.behind) (sym e) d.sinks)
        by (earlier c z e f) = stopped b.front b.behind (z ++ d.behind) c z f b.stops (subst Viable e (sinks_viable n d.front d.behind d.sinks))
        by (later c z e f) = sunk_at n d.front d.behind b.front (z ++ b.behind) c z f e d.sinks b.shallow

    bad_bad : Bad n w e → Bad n w g → e ≡ g
    bad_bad a b = sym a.place ∙ ap length (by (cut a.front a.behind b.front b.behind (sym a.parts ∙ b.parts))) ∙ b.place
      where
        by : Cut a.front a.behind b.front b.behind → a.front ≡ b.front
        by (alike_cut e f) = e
        by (earlier c z e f) = absurd (stopped a.front a.behind (z ++ b.behind) c z f a.stops (subst Viable e b.viable))
        by (later c z e f) = absurd (stopped b.front b.behind (z ++ a.behind) c z f b.stops (subst Viable e a.viable))

    deep_deep : Deep n w e → Deep n w g → e ≡ g
    deep_deep a b = sym a.place ∙ ap length (by (cut a.front a.behind b.front b.behind (sym a.parts ∙ b.parts))) ∙ b.place
      where
        by : Cut a.front a.behind b.front b.behind → a.front ≡ b.front
        by (alike_cut e f) = e
        by (earlier c z e f) = absurd (sunk_at n a.front a.behind b.front (z ++ b.behind) c z f e a.sinks b.shallow)
        by (later c z e f) = absurd (sunk_at n b.front b.behind a.front (z ++ a.behind) c z f e b.sinks a.shallow)

  same_answer : (a b : Answer) → Meaning n w a → Meaning n w b → a ≡ b
  same_answer fine fine p q = refl
  same_answer fine (bad e) p q = absurd (fine_bad e p q)
  same_answer fine (deep e) p q = absurd (fine_deep e p q)
  same_answer (bad e) fine p q = absurd (fine_bad e q p)
  same_answer (bad e) (bad g) p q = ap bad (bad_bad e g p q)
  same_answer (bad e) (deep g) p q = absurd (bad_deep e g p q)
  same_answer (deep e) fine p q = absurd (fine_deep e q p)
  same_answer (deep e) (bad g) p q = absurd (bad_deep g e q p)
  same_answer (deep e) (deep g) p q = ap deep (deep_deep e g p q)

pub one_answer : OneAnswer
one_answer n w = (run n a_module 0 w, run_right_lem n w, λ b. same_answer n w (run n a_module 0 w) b (run_right_lem n w))
