use Rattle.std.proofs.Common.{◌≡◌, ℕ, zero, suc, ◌+◌, ◌-◌, ◌*◌, ◌/◌, ◌<◌, ◌≤◌, List, [], ◌∷◌, ◌++◌, length, get_or, take, drop, pos, Some, sym, refl, ap, ◌∙◌, subst, add-one, arith, length-append, rules}
use native.Mathlib.Numerals.{unary_clauses}
use Rattle.std.proofs.lemmas.List.{drop-drop, take-append-le, drop-append-le, length-drop, take_more, take_all}
use Rattle.std.proofs.ByRecursion.{All-get_or}
use Rattle.std.specs.List.{flat_map, AllByRecursion}
use Rattle.std.specs.Option.{option_to_list}
use Rattle.streams.specs.Recorders.{Meaning, State, Kept, empty}
use Rattle.streams.specs.History.{begun, Closed}
use Rattle.streams.proofs.Laws.{nothing_lost}
use Rattle.gatelog.specs.declared.entries.Entry.{Entry}
use Rattle.gatelog.specs.declared.positions.Positions.{Positions}
use Rattle.gatelog.specs.Entries.{Valid, encoded, decoded}
use Rattle.gatelog.specs.Restored.{record_at, entries_in, entries, Stands}
use Rattle.gatelog.specs.Logged.{Accepted}

none : Entry
none = record { gate = 0; position = pos 0 }

pub decoded_encoded : (e : Entry) → Valid e → decoded (encoded e) ≡ Some e
decoded_encoded e v = search rules

six_more : (k : ℕ) → 6 * suc k ≡ 6 + 6 * k
six_more k = omega arith

length_records : (es : List Entry) → length (flat_map encoded es) ≡ 6 * length es
length_records [] = refl
length_records (e ∷ es) = omega (arith, length_records es)

-- the k-th record of the records of some entries is that of the k-th
record_at_lem :
    (es : List Entry) (k : ℕ) → k < length es → record_at k (flat_map encoded es) ≡ encoded (get_or es k none)
record_at_lem [] k l = absurd (omega arith)
record_at_lem (e ∷ es) zero l = refl
record_at_lem (e ∷ es) (suc k) l =
    ap (λ x. take 6 (drop x (encoded e ++ flat_map encoded es))) (six_more k)
    ∙ ap (take 6) (sym (drop-drop (6 * k) 6 (encoded e ++ flat_map encoded es)))
    ∙ record_at_lem es k (omega arith)

-- the first k entries are read from the first k records
pub entries_front :
    (k : ℕ) (es : List Entry) → AllByRecursion Valid es → k ≤ length es → entries_in k (flat_map encoded es) ≡ take k es
entries_front zero es v l = refl
entries_front (suc k) es v l =
    let h : k < length es = omega arith in
    let d : decoded (record_at k (flat_map encoded es)) ≡ Some (get_or es k none) = ap decoded (record_at_lem es k h) ∙ decoded_encoded (get_or es k none) (All-get_or Valid es k none h v) in
    ap (λ x. x ++ option_to_list (decoded (record_at k (flat_map encoded es)))) (entries_front k es v (omega arith))
    ∙ ap (λ x. take k es ++ option_to_list x) d
    ∙ sym (take_more es k none h)
    ∙ ap (λ x. take x es) (add-one k)

-- and from nothing behind them
pub entries_append :
    (k : ℕ) (bs cs : List ℕ) → 6 * k ≤ length bs → entries_in k (bs ++ cs) ≡ entries_in k bs
entries_append zero bs cs l = refl
entries_append (suc k) bs cs l =
    let a : 6 * k ≤ length bs = omega arith in
    let r : record_at k (bs ++ cs) ≡ record_at k bs = ap (take 6) (drop-append-le (6 * k) bs cs a) ∙ take-append-le 6 (drop (6 * k) bs) cs (simp length-drop (omega arith)) in
    ap (λ x. x ++ option_to_list (decoded (record_at k (bs ++ cs)))) (entries_append k bs cs a) ∙ ap (λ x. entries_in k bs ++ option_to_list (decoded x)) r

-- what is written of a log are whole records of its first entries, and perhaps a part of one more
pub entries_written :
    (n : ℕ) (es : List Entry) (s : Meaning)
    → Accepted n es s
    → entries s.written ≡ take (length s.written / 6) es
entries_written n es s a =
    let k = length s.written / 6 in
    let w : s.written ++ s.held ≡ flat_map encoded es = (nothing_lost (empty n) s (flat_map encoded es) a.history).0 in
    let l : length s.written + length s.held ≡ 6 * length es = sym (length-append s.written s.held) ∙ ap length w ∙ length_records es in
    sym (entries_append k s.written s.held (omega arith)) ∙ ap (entries_in k) w ∙ entries_front k es a.valid (omega arith)

-- after a shutdown it is all of them
pub entries_closed :
    (n : ℕ) (es : List Entry) (s t : Meaning) → Accepted n es s → Closed s t → entries t.written ≡ es
entries_closed n es s t a c =
    let since = c.since (empty n) (flat_map encoded es) a.history in
    let w : t.written ≡ flat_map encoded es = since.1 in
    let l : length t.written ≡ 6 * length es = ap length w ∙ length_records es in
    entries_written n es t (record { valid = a.valid; history = since.0 }) ∙ take_all (length t.written / 6) es (omega arith)

-- what is restored from the text of a log
pub stands_written :
    (n : ℕ) (es : List Entry) (s : Meaning) (text : List ℕ) (p : Positions)
    → text ≡ s.written
    → Stands p (entries text)
    → Accepted n es s
    → Stands p (take (length s.written / 6) es)
stands_written n es s text p e h a =
    subst (λ (x : List Entry). Stands p x) (ap entries e ∙ entries_written n es s a) h

pub stands_closed :
    (s t : State) (text : List ℕ) (p : Positions)
    → Kept Closed s t
    → text ≡ t.means.written
    → Stands p (entries text)
    → s.sound
    → (n : ℕ) (es : List Entry)
    → Accepted n es s.means
    → Stands p es
stands_closed s t text p c e h d n es a =
    subst (λ (x : List Entry). Stands p x) (ap entries e ∙ entries_closed n es s.means t.means a (c.does d)) h

-- a log that is opened on an empty page
pub opened :
    (used : ℕ) (own page lent : List ℕ)
    → own ≡ []
    → used ≡ 0
    → page ≡ lent
    → Accepted (length lent) [] (record { written = take used page; held = own; space = (length page - used) - length own })
opened used own page lent e f p =
    record { valid = tt; history = rw (e, f, p) (simp unary_clauses begun) }
