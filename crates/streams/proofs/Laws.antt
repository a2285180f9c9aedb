use Rattle.std.proofs.Common.{◌≡◌, ℕ, ◌+◌, ◌<◌, List, [], ◌∷◌, ◌++◌, length, get_or, take, sym, ap, ◌∙◌, subst, append_assoc, append-nil, arith, length-append, length-take, take_all, Ok, Err, Result}
use Rattle.std.proofs.lemmas.List.{take_more, length-take-le}
use Rattle.streams.specs.declared.recorders.Full.{Full}
use Rattle.streams.specs.Recorders.{Meaning, State, Kept, Put, Arrive, whole, flushed}
use Rattle.streams.specs.History.{History, begun, accepted, declined, emptied, NothingLost, Recorded, Closed, Shut}

-- One call after another.
pub kept_then :
    {P Q : Meaning → Meaning → Type 0} (W : Meaning → Meaning → Type 0) {s t u : State}
    → Kept P s t
    → Kept Q t u
    → (P s.means t.means → Q t.means u.means → W s.means u.means)
    → Kept W s u
kept_then W p q f =
    record {
      lent = q.lent ∙ p.lent;
      stays = λ h. q.stays (p.stays h);
      does = λ h. f (p.does h) (q.does (p.stays h));
    }

pub kept_map :
    {P : Meaning → Meaning → Type 0} (W : Meaning → Meaning → Type 0) {s t : State}
    → Kept P s t
    → (P s.means t.means → W s.means t.means)
    → Kept W s t
kept_map W p f = record { lent = p.lent; stays = p.stays; does = λ h. f (p.does h) }

-- Arrivals.

pub arrive_whole : (bs : List ℕ) (s t : Meaning) → Arrive bs s t → whole t ≡ whole s ++ bs
arrive_whole bs s t p =
    let m = p.passes.0 in
    ap (λ x. x ++ t.held) p.passes.1 ∙ append_assoc s.written m t.held ∙ ap (λ x. s.written ++ x) p.passes.2 ∙ sym (append_assoc s.written s.held bs)

pub arrive_none : (s : Meaning) → Arrive [] s s
arrive_none s =
    record { spends = omega arith; passes = ([], sym (append-nil s.written), sym (append-nil s.held)) }

pub arrive_then : (bs cs : List ℕ) (s t u : Meaning) → Arrive bs s t → Arrive cs t u → Arrive (bs ++ cs) s u
arrive_then bs cs s t u p q =
    let m = p.passes.0 in
    let l = q.passes.0 in
    record {
      spends = omega (arith, p.spends, q.spends, length-append bs cs);
      passes = (m ++ l, q.passes.1 ∙ ap (λ x. x ++ l) p.passes.1 ∙ append_assoc s.written m l, append_assoc m l u.held ∙ ap (λ x. m ++ x) q.passes.2 ∙ sym (append_assoc m t.held cs) ∙ ap (λ x. x ++ cs) p.passes.2 ∙ append_assoc s.held bs cs);
    }

-- where there is space, a `put` is not declined
pub space_put :
    (r : Result (Unit {0}) Full) (b : ℕ) (s t : Meaning) → 0 < s.space → Put r b s t → Arrive (b ∷ []) s t
space_put (Ok x) b s t l p = p
space_put (Err e) b s t l p = absurd (omega (arith, l, p.0))

-- Histories.

pub nothing_lost : NothingLost
nothing_lost s t bs begun = (sym (append-nil (whole s)), omega arith)
nothing_lost s t bs (accepted {bs = cs} {b = b} {t = m} h a) =
    let i = nothing_lost s m cs h in (
      arrive_whole (b ∷ []) m t a ∙ ap (λ x. x ++ b ∷ []) i.0 ∙ append_assoc (whole s) cs (b ∷ []),
      omega (arith, i.1, a.spends, length-append cs (b ∷ [])),
    )
nothing_lost s t bs (declined {t = m} h z e) =
    let i = nothing_lost s m bs h in
    (ap whole e ∙ i.0, i.1 ∙ ap (λ (x : Meaning). x.space + length bs) (sym e))
nothing_lost s t bs (emptied {t = m} h e) =
    let i = nothing_lost s m bs h in (
      ap whole e ∙ append-nil (whole m) ∙ i.0,
      i.1 ∙ ap (λ (x : Meaning). x.space + length bs) (sym e),
    )

-- one history after another
pub history_then :
    {s t u : Meaning} {bs ds : List ℕ} → History s bs t → History t ds u → History s (bs ++ ds) u
history_then {s = s} {u = u} {bs = bs} g begun = subst (λ (x : List ℕ). History s x u) (sym (append-nil bs)) g
history_then {s = s} {u = u} {bs = bs} g (accepted {bs = cs} {b = b} h a) =
    subst (λ (x : List ℕ). History s x u) (append_assoc bs cs (b ∷ [])) (accepted (history_then g h) a)
history_then g (declined h z e) = declined (history_then g h) z e
history_then g (emptied h e) = emptied (history_then g h) e

-- The loop that puts bytes from the left: what holds before each turn, ..

pub record Front (bs : List ℕ) (s t : Meaning) : Type 0 where
  pub arrives : Arrive bs s t
  pub history : History s bs t

pub front_none : (s : Meaning) → Front [] s s
front_none s = record { arrives = arrive_none s; history = begun }

-- .. one turn more, ..
pub front_more :
    (bs : List ℕ) (i : ℕ) (s t u : Meaning)
    → i < length bs
    → Front (take i bs) s t
    → Arrive (get_or bs i 0 ∷ []) t u
    → Front (take (i + 1) bs) s u
front_more bs i s t u l p q =
    rw (take_more bs i 0 l)
    (record { arrives = arrive_then (take i bs) (get_or bs i 0 ∷ []) s t u p.arrives q; history = accepted p.history q })

-- .. and its two ends
since_front :
    {s t start : Meaning} {bs : List ℕ} {before : List ℕ}
    → History s bs t
    → History start before s
    → History start (before ++ bs) t × (whole t ≡ whole start ++ (before ++ bs))
since_front {t = t} {start = start} {bs = bs} {before = before} h g =
    let k = history_then g h in (k, (nothing_lost start t (before ++ bs) k).0)

pub front_declined :
    (bs : List ℕ) (i : ℕ) (s t u : Meaning)
    → i < length bs
    → Front (take i bs) s t
    → (t.space ≡ 0) × (u ≡ t)
    → Recorded bs i s u
front_declined bs i s t u l p q =
    let n = length-take-le i bs (omega arith) in
    let a : Arrive (take i bs) s u = subst (λ (x : Meaning). Arrive (take i bs) s x) (sym q.1) p.arrives in
    record {
      count = omega (arith, n, p.arrives.spends, q.0);
      arrives = a;
      keeps = arrive_whole (take i bs) s u a;
      since = λ start before g. since_front (declined p.history q.0 q.1) g;
    }

pub front_all :
    (bs : List ℕ) (i : ℕ) (s t : Meaning)
    → i ≡ length bs
    → Front (take i bs) s t
    → Recorded bs (length bs) s t
front_all bs i s t e p =
    let q : Front (take (length bs) bs) s t = subst (λ (k : ℕ). Front (take k bs) s t) e p in
    record {
      count = omega (arith, length-take-le (length bs) bs (omega arith), q.arrives.spends);
      arrives = q.arrives;
      keeps = arrive_whole (take (length bs) bs) s t q.arrives;
      since = λ start before g. since_front q.history g;
    }

-- a flush after any history
pub closed : (s t : Meaning) → t ≡ flushed s → Closed s t
closed s t e =
    record {
      flushes = e;
      since =
          λ start before g.
          (emptied g e, ap (λ (x : Meaning). x.written) e ∙ (nothing_lost start s before g).0, ap (λ (x : Meaning). x.held) e);
    }

pub closed_kept : {s t : State} → Kept (λ s t. t ≡ flushed s) s t → Kept Closed s t
closed_kept p = kept_map Closed p (closed _ _)

-- and after bytes were put
pub recorded_closed :
    (bytes : List ℕ) (n : ℕ) (s t u : Meaning) → Recorded bytes n s t → Closed t u → Shut bytes n s u
recorded_closed bytes n s t u r d =
    let e = d.flushes in
    let w : u.written ≡ whole s ++ take n bytes = ap (λ (x : Meaning). x.written) e ∙ r.keeps in
    record {
      count = r.count;
      spends = omega (arith, r.arrives.spends, ap (λ (x : Meaning). x.space) e, r.count, length-take n bytes);
      writes = w;
      holds = ap (λ (x : Meaning). x.held) e;
      all = λ l. w ∙ ap (λ x. whole s ++ x) (take_all n bytes (omega (arith, r.count)));
    }

pub recorded_then_closed :
    {s t u : State} (bytes : List ℕ) (n : ℕ)
    → Kept (Recorded bytes n) s t
    → Kept Closed t u
    → Kept (Shut bytes n) s u
recorded_then_closed bytes n p q = kept_then (Shut bytes n) p q (recorded_closed bytes n _ _ _)
