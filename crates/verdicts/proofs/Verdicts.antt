-- Every text has exactly one verdict; and it is what reading and checking answer. Assumes nothing.
use Rattle.std.proofs.Common.{◌≡◌, ℕ, ◌<◌, ◌≤◌, List, length, take, Ok, Err, Result, sym, refl, ap, ◌∙◌, subst, ⊎_elim, arith}
use Rattle.std.proofs.lemmas.List.{length-map, length-take}
use Rattle.std.proofs.lemmas.Bool.{cases_lt}
use Rattle.answers.specs.Declines.{place}
use Rattle.answers.specs.Declines as declines
use Rattle.answers.specs.declared.Decline.{Decline}
use Rattle.answers.specs.declared.Decline.TheVariants.{TextTooLong, Unexpected, TooDeep}
use Rattle.answers.proofs.Figures.{one_line, some_line}
use Rattle.symbols.specs.Cut.{Verdict as Cut, whole, too_long}
use Rattle.symbols.specs.Twin.{verdict}
use Rattle.symbols.specs.declared.Entry.{Entry}
use Rattle.symbols.proofs.Answer.{verdict_meets, verdict_only}
use Rattle.grammar.specs.Trees.{Module}
use Rattle.grammar.specs.Sentences.{Made, Fine, Answer, fine, bad, deep, Meaning}
use Rattle.grammar.specs.Machine.{run, a_module}
use Rattle.grammar.proofs.Right.{run_right_lem, one_tree_lem, unique}
use Rattle.grammar.proofs.Answers.{one_answer}
use Rattle.nodes.specs.Nodes.{IsModule}
use Rattle.nodes.specs.declared.Node.{Node}
use Rattle.terminals.specs.Signs.{signs}
use Rattle.syntax.specs.Parsing.{place_of, Parses, module_read, Reads}
use Rattle.syntax.specs.Parsing as syntax
use Rattle.statics.specs.declared.Refusal.{Refusal}
use Rattle.statics.specs.Stages.{stages, Static}
use Rattle.statics.specs.JudgeLimits.{judge_static}
use Rattle.statics.proofs.Limits.{static_right_lem, staged_one}
use Rattle.statics.proofs.Places.{made_in_order}
use Rattle.texts.specs.Facts.{facts_of}
use Rattle.verdicts.specs.Verdicts.{at_places, Verdict, uncut, unexpected, too_deep, judged, OneVerdict}
use Rattle.verdicts.specs.Lines.{accepted, Tells, OneLine}

abbrev Outcome : Type 0
Outcome = Result (Unit {0}) Decline

-- what is judged of the one tree is its static verdict
pub static_meets : (text : List ℕ) (items : List Entry) (m : Module) → Made m (signs items) → Static (facts_of text items) m (judge_static (facts_of text items) m)
static_meets text items m e = static_right_lem (facts_of text items) m 0 (length (signs items)) (made_in_order m (signs items) e)

module _ (text : List ℕ) where
  -- some verdict
  some_of_items : (items : List Entry) → Cut text (Ok items) → (a : Answer) → Meaning 32 (signs items) a → (r : Outcome) × Verdict text r
  some_of_items items c fine f =
      let t = one_tree_lem (signs items) f.sentence in
      (_, judged items t.0 (judge_static (facts_of text items) t.0) c f t.1 (static_meets text items t.0 t.1))
  some_of_items items c (bad e) b = (_, unexpected items e c b)
  some_of_items items c (deep e) b = (_, too_deep items e c b)

  some_of_cut : (c : Result (List Entry) Decline) → Cut text c → (r : Outcome) × Verdict text r
  some_of_cut (Err d) c = (Err d, uncut d c)
  some_of_cut (Ok items) c = some_of_items items c (run 32 a_module 0 (signs items)) (run_right_lem 32 (signs items))

  -- what a verdict is, by the answer of the grammar to the items, and by that of the cut
  abbrev OfItems : List Entry → Answer → Outcome → Type 0
  OfItems items fine r = (m : Module) × (q : Result (Unit {0}) Refusal) × Made m (signs items) × Static (facts_of text items) m q × (r ≡ at_places items (place (length text)) q)
  OfItems items (bad e) r = r ≡ Err (Unexpected (place_of items (place (length text)) e))
  OfItems items (deep e) r = r ≡ Err (TooDeep (place_of items (place (length text)) e))

  abbrev OfCut : Result (List Entry) Decline → Outcome → Type 0
  OfCut (Err d) r = r ≡ Err d
  OfCut (Ok items) r = OfItems items (run 32 a_module 0 (signs items)) r

  answer_is : (items : List Entry) (a : Answer) → Meaning 32 (signs items) a → a ≡ run 32 a_module 0 (signs items)
  answer_is items a m =
      let one = (one_answer 32 (signs items)).2 in
      sym (one a m) ∙ one (run 32 a_module 0 (signs items)) (run_right_lem 32 (signs items))

  by_items : (items : List Entry) (a : Answer) (r : Outcome) → Cut text (Ok items) → Meaning 32 (signs items) a → OfItems items a r → OfCut (verdict text) r
  by_items items a r c m o =
      subst (λ (x : Result (List Entry) Decline). OfCut x r) (sym (verdict_only text (Ok items) c))
      (subst (λ (b : Answer). OfItems items b r) (answer_is items a m) o)

  by_cut : (r : Outcome) → Verdict text r → OfCut (verdict text) r
  by_cut _ (uncut d c) = subst (λ (x : Result (List Entry) Decline). OfCut x (Err d)) (sym (verdict_only text (Err d) c)) refl
  by_cut _ (unexpected items e c b) = by_items items (bad e) _ c b refl
  by_cut _ (too_deep items e c b) = by_items items (deep e) _ c b refl
  by_cut _ (judged items m q c f e s) = by_items items fine _ c f (m, q, e, s, refl)

  one_static : (items : List Entry) (m k : Module) (q p : Result (Unit {0}) Refusal) → m ≡ k → Static (facts_of text items) m q → Static (facts_of text items) k p → q ≡ p
  one_static items m k q p e s t = staged_one (stages (facts_of text items) k) p q t (subst (λ (n : Module). Static (facts_of text items) n q) e s)

  one_of_items : (items : List Entry) (a : Answer) (r s : Outcome) → OfItems items a r → OfItems items a s → r ≡ s
  one_of_items items fine r s x y =
      x.4 ∙ ap (at_places items (place (length text))) (one_static items x.0 y.0 x.1 y.1 (unique x.0 y.0 (x.2 ∙ sym y.2)) x.3 y.3) ∙ sym y.4
  one_of_items items (bad e) r s x y = x ∙ sym y
  one_of_items items (deep e) r s x y = x ∙ sym y

  one_of_cut : (c : Result (List Entry) Decline) (r s : Outcome) → OfCut c r → OfCut c s → r ≡ s
  one_of_cut (Err d) r s x y = x ∙ sym y
  one_of_cut (Ok items) r s x y = one_of_items items (run 32 a_module 0 (signs items)) r s x y

pub one_verdict_lem : OneVerdict
one_verdict_lem text =
    let v = some_of_cut text (verdict text) (verdict_meets text) in
    (v.0, v.1, λ s w. one_of_cut text (verdict text) s v.0 (by_cut text s w) (by_cut text v.0 v.1))

tells_one : (text : List ℕ) (a : Outcome) (k l : List ℕ) → Tells text a k → Tells text a l → k ≡ l
tells_one text (Ok u) k l x y = x ∙ sym y
tells_one text (Err d) k l x y = one_line d text k l x y

-- few bytes stand before the place of a decline
few_before : (text : List ℕ) (d : Decline) → Verdict text (Err d) → length (take (declines.place_of d).offset text) ≤ 32768
few_before text d v = ⊎_elim long (λ l. simp length-take (omega (arith, l))) (cases_lt 32768 (length text))
  where
    long : 32768 < length text → length (take (declines.place_of d).offset text) ≤ 32768
    long l =
        let one = (one_verdict_lem text).2 in
        let e : Err d ≡ Err TextTooLong = one (Err d) v ∙ sym (one (Err TextTooLong) (uncut TextTooLong (too_long l))) in
        let f : d ≡ TextTooLong = cc in
        rw f (simp length-take (omega arith))

some_tells : (text : List ℕ) (a : Outcome) → Verdict text a → (line : List ℕ) × Tells text a line
some_tells text (Ok u) v = (accepted, refl)
some_tells text (Err d) v = some_line d text (few_before text d v)

pub one_line_lem : OneLine
one_line_lem text =
    let v = one_verdict_lem text in
    let t = some_tells text v.0 v.1 in (
      t.0,
      record { answer = v.0; meets = v.1; tells = t.1 },
      λ l x. tells_one text v.0 l t.0 (subst (λ (a : Outcome). Tells text a l) (v.2 x.answer x.meets) x.tells) t.1,
    )

-- What reading answers.
pub unread : (text : List ℕ) (items : List Entry) (ns : List Node) (d : Decline) → Reads text items ns (Err d) → Verdict text (Err d)
unread text items ns d (syntax.uncut _ c) = uncut d c
unread text items ns d (syntax.cut _ c p) = by d p
  where
    by : (f : Decline) → Parses items (place (length text)) ns (Err f) → Verdict text (Err f)
    by _ (syntax.unexpected e b) = unexpected items e c b
    by _ (syntax.too_deep e b) = too_deep items e c b

pub record Tree (text : List ℕ) (items : List Entry) (ns : List Node) (k : ℕ) : Type 0 where
  pub cut : Cut text (Ok items)
  pub module_of : Module
  pub shallow : Fine 32 (signs items)
  pub made : Made module_of (signs items)
  pub is : IsModule module_of ns k

pub tree_read : (text : List ℕ) (items : List Entry) (ns : List Node) (k : ℕ) → Reads text items ns (Ok k) → Tree text items ns k
tree_read text items ns k (syntax.cut _ c p) = by k p
  where
    by : (j : ℕ) → Parses items (place (length text)) ns (Ok j) → Tree text items ns j
    by j (module_read _ m f e one i) = record { cut = c; module_of = m; shallow = f; made = e; is = i }

pub few_signs : (text : List ℕ) (items : List Entry) → Cut text (Ok items) → length (signs items) ≤ 4096
few_signs text items (whole _ l c n) = simp length-map n

-- What checking it answers.
pub verdict_at_places : (text : List ℕ) (items : List Entry) (ns : List Node) (k : ℕ) (t : Tree text items ns k) (r : Result (Unit {0}) Refusal) → judge_static (facts_of text items) t.module_of ≡ r → Verdict text (at_places items (place (length text)) r)
verdict_at_places text items ns k t r e = judged items t.module_of r t.cut t.shallow t.made (subst (Static (facts_of text items) t.module_of) e (static_meets text items t.module_of t.made))
