-- From the loop of the cut to its answer.
use Rattle.std.proofs.Common.{◌≡◌, ℕ, ◌<◌, ◌≤◌, List, [], ◌∷◌, ◌++◌, length, drop, Some, None, Ok, Err, Option, Result, OnOk, OnErr, IfErr, sym, ap, ◌∙◌, subst, append_assoc, append-nil, arith}
use Rattle.std.proofs.lemmas.List.{drop_all, length-take, length_push}
use Rattle.std.specs.Result.{result_and}
use Rattle.answers.specs.Declines.{place}
use Rattle.answers.specs.declared.Place.{Place}
use Rattle.answers.specs.declared.Decline.{Decline}
use Rattle.answers.specs.declared.Decline.TheVariants.{TextTooLong, TooManyItems}
use Rattle.symbols.specs.Cut.{Cut, ended, too_long, declined, too_many, whole, entry, max_items}
use Rattle.symbols.specs.Laws.{Answer}
use Rattle.symbols.specs.declared.Symbol.{Symbol}
use Rattle.symbols.specs.declared.Entry.{Entry}
use Rattle.symbols.proofs.Examples.{answer}
use Rattle.lexer.specs.Steps.{Answered, Joins, Over}
use Rattle.lexer.specs.Tables.{items_of}
use Rattle.lexer.specs.declared.table.ItemTable.{ItemTable}

-- the items es stand before `at`
abbrev pub Reached : List ℕ → ℕ → List Entry → Type 0
Reached t at es = (rest : List Entry) (o : Option Decline) → Cut at (drop at t) rest o → Cut 0 t (es ++ rest) o

pub long_answer : (t : List ℕ) → 32768 < length t → Answer t (Err TextTooLong)
long_answer t l = answer t (Err TextTooLong) (too_long l)

pub decline_answer :
    (t : List ℕ) (at : ℕ) (es : List Entry) (d : Decline)
    → length t ≤ 32768
    → Reached t at es
    → Cut at (drop at t) [] (Some d)
    → Answer t (Err d)
decline_answer t at es d l h c = answer t (Err d) (declined (es ++ []) d l (h [] (Some d) c))

finished : (t : List ℕ) (at : ℕ) (es : List Entry) → length t ≤ at → Reached t at es → Cut 0 t es None
finished t at es l h =
    subst (λ y. Cut 0 t y None) (append-nil es)
    (h [] None (subst (λ u. Cut at u [] None) (sym (drop_all at t l)) (ended at)))

pub room_answer :
    (t : List ℕ) (at : ℕ) (front es : List Entry) (r : Result (Unit {0}) Decline)
    → length t ≤ 32768
    → length t ≤ at
    → length front ≤ max_items
    → Over r front es
    → Reached t at es
    → Answered t front r
room_answer t at front es (Ok x) l m few o h =
    let c = subst (λ y. Cut 0 t y None) o (finished t at es m h) in
    answer t (Ok front) (whole front l c few)
room_answer t at front es (Err d) l m few o h =
    let x = o.1 in
    let c = subst (λ y. Cut 0 t y None) x.2 (finished t at es m h) in
    subst (λ y. Answer t (Err y)) (sym x.3) (answer t (Err (TooManyItems x.0.start)) (too_many front x.0 x.1 l c o.0))

-- one item more
pub reached_more :
    (t : List ℕ) (at end : ℕ) (es : List Entry) (f : Option Symbol) (s : Symbol) (p q : Place)
    → f ≡ Some s
    → p ≡ place at
    → q ≡ place end
    → Joins t at f end
    → Reached t at es
    → Reached t end (es ++ (record { symbol = s; start = p; end = q } ∷ []))
reached_more t at end es f s p q e a b j h rest o c =
    let k : Joins t at (Some s) end = subst (λ g. Joins t at g end) e j in
    let x : Entry = record { symbol = s; start = p; end = q } in
    let same : entry s at end ≡ x = cc in
    subst (λ y. Cut 0 t y o) (sym (append_assoc es (x ∷ []) rest))
    (subst (λ y. Cut 0 t (es ++ (y ∷ rest)) o) same (h (entry s at end ∷ rest) o (k rest o c)))

-- what the table holds once it was asked to hold an item more
pub put :
    (x y r : Result (Unit {0}) Decline) (front after es : List Entry) (e : Entry)
    → Over x front es
    → y ≡ result_and x r
    → OnOk r (after ≡ front ++ (e ∷ []))
    → OnErr r ((length front ≡ 4096) × (after ≡ front))
    → IfErr r (λ d. d ≡ TooManyItems e.start)
    → length after ≤ 4096
    → Over y after (es ++ (e ∷ []))
put (Ok u) y (Ok v) front after es e o p a b z few =
    subst (λ x. Over x after (es ++ (e ∷ []))) (sym p) (ap (λ xs. xs ++ (e ∷ [])) o ∙ sym a)
put (Ok u) y (Err d) front after es e o p a b z few =
    let n : length after ≡ max_items = cc in
    subst (λ x. Over x after (es ++ (e ∷ []))) (sym p) (n, (e, [], ap (λ xs. xs ++ (e ∷ [])) (o ∙ sym b.1), z))
put (Err d) y (Ok v) front after es e o p a b z few =
    absurd (omega (arith, ap length a, length_push front e, o.0))
put (Err d) y (Err f) front after es e o p a b z few =
    let x = o.1.0 in
    let n : length after ≡ max_items = cc in
    let m : es ++ (e ∷ []) ≡ after ++ (x ∷ (o.1.1 ++ (e ∷ []))) = ap (λ xs. xs ++ (e ∷ [])) o.1.2 ∙ append_assoc front (x ∷ o.1.1) (e ∷ []) ∙ ap (λ xs. xs ++ (x ∷ (o.1.1 ++ (e ∷ [])))) (sym b.1) in
    subst (λ z. Over z after (es ++ (e ∷ []))) (sym p) (n, (x, o.1.1 ++ (e ∷ []), m, o.1.3))

pub few_items : (x : ItemTable) → length (items_of x) ≤ 4096
few_items x = omega (arith, length-take x.count x.entries, x.few)
