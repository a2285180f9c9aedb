-- The items of a cut stand in the text one behind the other, each as its symbol is spelled.
use Rattle.std.proofs.Common.{◌≡◌, ℕ, ◌+◌, ◌-◌, ◌<◌, ◌≤◌, List, [], ◌∷◌, ◌++◌, length, take, drop, Some, None, Ok, Option, Result, sym, refl, ap, ◌∙◌, subst, arith}
use Rattle.std.proofs.lemmas.List.{drop-drop, drop_at, take_at, length-drop, length-append}
use Rattle.answers.specs.declared.Decline.{Decline}
use Rattle.symbols.specs.Items.{Spells}
use Rattle.symbols.specs.Cut.{Cut, ended, layout, comment, item, large, unfinished, foreign, Verdict, too_long, declined, too_many, whole, entry, covered}
use Rattle.symbols.specs.Laws.{Laid, InOrder}
use Rattle.symbols.specs.declared.Entry.{Entry}
use Rattle.symbols.proofs.Rules.{longest_seen}
use Rattle.symbols.proofs.Cutting.{some_byte}

earlier : (t : List ℕ) (p q : ℕ) (es : List Entry) → q ≤ p → Laid t p es → Laid t q es
earlier t p q [] l h = tt
earlier t p q (e ∷ es) l h = (omega (arith, h.0), h.1, h.2, h.3, h.4)

behind : (t : List ℕ) (p : ℕ) (w r : List ℕ) → drop p t ≡ w ++ r → drop (p + length w) t ≡ r
behind t p w r e = sym (drop-drop (length w) p t) ∙ ap (drop (length w)) e ∙ drop_at w r (length w) refl

room : (t : List ℕ) (p : ℕ) (w r : List ℕ) → p ≤ length t → drop p t ≡ w ++ r → p + length w ≤ length t
room t p w r l e = omega (arith, ap length e, length-drop p t, length-append w r)

laid :
    (p : ℕ) (u : List ℕ) (es : List Entry) (o : Option Decline)
    → Cut p u es o
    → (t : List ℕ)
    → p ≤ length t
    → drop p t ≡ u
    → Laid t p es
laid _ _ _ _ (ended p) t l e = tt
laid _ _ _ _ (layout p b u es o h c) t l e =
    earlier t (p + 1) p es (omega arith)
    (laid (p + 1) u es o c t (room t p (b ∷ []) u l e) (behind t p (b ∷ []) u e))
laid _ _ _ _ (comment p w r es o h c) t l e =
    earlier t (p + length w) p es (omega arith) (laid (p + length w) r es o c t (room t p w r l e) (behind t p w r e))
laid _ _ _ _ (item p s w r es o h small c) t l e =
    let n : 0 < length w = some_byte (w ++ r) (Some s) (length w) (longest_seen (Some s) w r h) in
    let m : p + length w ≤ length t = room t p w r l e in
    let k : p + length w - p ≡ length w = omega arith in
    let part : covered t (entry s p (p + length w)) ≡ w = ap (λ j. take j (drop p t)) k ∙ ap (take (length w)) e ∙ take_at w r (length w) refl in
    (omega arith, omega arith, m, subst (Spells s) (sym part) h.item, laid (p + length w) r es o c t m (behind t p w r e))
laid _ _ _ _ (large p w r v h i m) t l e = tt
laid _ _ _ _ (unfinished p b u h c) t l e = tt
laid _ _ _ _ (foreign p u c r h f b n) t l e = tt

go : (t : List ℕ) (r : Result (List Entry) Decline) → Verdict t r → (es : List Entry) → r ≡ Ok es → Laid t 0 es
go t _ (too_long l) es e = cc
go t _ (declined xs d l c) es e = cc
go t _ (too_many xs x more l c n) es e = cc
go t _ (whole xs l c n) es e =
    let q : xs ≡ es = cc in
    subst (Laid t 0) q (laid 0 t xs None c t (omega arith) refl)

pub in_order : InOrder
in_order t es v = go t (Ok es) v es refl
