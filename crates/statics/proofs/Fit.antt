-- Tests and options, and what fits. Assumes nothing.
use Rattle.std.proofs.Common.{◌≡◌, ℕ, Bool, true, false, cond, Some, None, Option, option_map, option_and_then, sym, refl, ap, ◌∙◌, subst, arith}
use Rattle.std.specs.Bool.{Decides, then_some}
use Rattle.std.proofs.lemmas.Bool.{true≢false}
use Rattle.std.proofs.lemmas.Bool.Decides.{Decides-like, not_from_Decides}
use Rattle.std.proofs.lemmas.Slice.Eq.{bytes_eq-Decides}
use Rattle.statics.specs.Laws.{Pair}
use Rattle.statics.specs.Modes.{Word, Plain, int, byte, Mode, plain, ref, ref_record, ref_array, Element, simple, records, Thing, value, place, array, structure, Offers, itself, referred, contents, contents_referred, address, array_address, record_address, Widens, alike, wider, Reference, Need, mode, number, reference, elements, components, scalar, pointed, Fits, widened, wanted, a_number, a_reference, an_array, a_record, a_place, a_pointer}
use Rattle.statics.specs.JudgeExpressions.{same_plain, same_mode, same_element, number_of, ref_of, widens, only_array, only_record, fit_ref, fit_mode, fit}
use Rattle.statics.proofs.Decide.{Tells, found, none}

-- a test that passes, and one that fails
pub yes : {P : Type 0} → P → Decides true P
yes p = (λ e. p, λ q. refl)

pub no : {P : Type 0} → ¬ P → Decides false P
no n = (λ e. absurd (true≢false (sym e)), λ p. absurd (n p))

pub tells_like : {A : Type 0} {H : A → Type 0} {o : Option A} (K : A → Type 0) → ((a : A) → H a → K a) → ((a : A) → K a → H a) → Tells H o → Tells K o
tells_like K f g (none t) = none (λ a k. t a (g a k))
tells_like K f g (found t one) = found (f _ t) (λ b k. one b (g b k))

pub tells_if : {A : Type 0} {P : Type 0} (b : Bool) (a : A) → Decides b P → Tells (λ c. P × (c ≡ a)) (then_some b a)
tells_if true a d = found (d.0 refl, refl) (λ b x. x.1)
tells_if false a d = none (λ b x. not_from_Decides false d refl x.0)

pub tells_unit : {P : Type 0} (b : Bool) → Decides b P → Tells (λ (u : Unit {0}). P) (then_some b tt)
tells_unit b d = tells_like _ (λ u x. x.0) (λ u p. (p, refl)) (tells_if b tt d)

pub tells_cond : {A : Type 0} {P : Type 0} {K : A → Type 0} (b : Bool) {o : Option A} → Decides b P → Tells K o → Tells (λ c. P × K c) (cond b o None)
tells_cond true d (none k) = none (λ a x. k a x.1)
tells_cond true d (found k one) = found (d.0 refl, k) (λ b x. one b x.1)
tells_cond false d k = none (λ a x. not_from_Decides false d refl x.0)

pub tells_maybe : {A B : Type 0} {H : A → Type 0} {o : Option A} (f : A → B) → Tells H o → Tells (λ b. (a : A) × H a × (b ≡ f a)) (option_map f o)
tells_maybe f (none t) = none (λ b x. t x.0 x.1)
tells_maybe f (found {a} t one) = found (a, t, refl) (λ b x. rw (← (one x.0 x.1)) x.2)

pub tells_bind : {A B : Type 0} {H : A → Type 0} {o : Option A} (K : A → B → Type 0) (f : A → Option B) → Tells H o → ((a : A) → Tells (K a) (f a)) → Tells (Pair H K) (option_and_then f o)
tells_bind K f (none t) g = none (λ b x. t x.0 x.1)
tells_bind {A} {B} {H} K f (found {a} t one) g = go (g a)
  where
    go : {o : Option B} → Tells (K a) o → Tells (Pair H K) o
    go (none k) = none (λ b x. k b (subst (λ y. K y b) (one x.0 x.1) x.2))
    go (found k only) = found (a, t, k) (λ b x. only b (subst (λ y. K y b) (one x.0 x.1) x.2))

pub same_plain_decides : (k l : Plain) → Decides (same_plain k l) (k ≡ l)
same_plain_decides int int = yes refl
same_plain_decides byte byte = yes refl
same_plain_decides _ _ = no (λ e. grind arith)

mutual
  pub same_mode_decides : (m k : Mode) → Decides (same_mode m k) (m ≡ k)
  same_mode_decides (plain k) (plain l) = Decides-like _ (λ e. ap plain e) (λ e. cc) (same_plain_decides k l)
  same_mode_decides (ref k) (ref l) = Decides-like _ (λ e. ap ref e) (λ e. cc) (same_plain_decides k l)
  same_mode_decides (ref_record r) (ref_record s) = Decides-like _ (λ e. ap ref_record e) (λ e. cc) (bytes_eq-Decides r s)
  same_mode_decides (ref_array d) (ref_array f) = Decides-like _ (λ e. ap ref_array e) (λ e. cc) (same_element_decides d f)
  same_mode_decides m k = no (λ e. grind arith)

  pub same_element_decides : (d f : Element) → Decides (same_element d f) (d ≡ f)
  same_element_decides (simple m) (simple k) = Decides-like _ (λ e. ap simple e) (λ e. cc) (same_mode_decides m k)
  same_element_decides (records r) (records s) = Decides-like _ (λ e. ap records e) (λ e. cc) (bytes_eq-Decides r s)
  same_element_decides d f = no (λ e. grind arith)

-- the plain mode offered, and the reference offered
abbrev Numeric : Thing → Plain → Type 0
Numeric t k = (n : ℕ) × Offers t (plain k) n

abbrev Refers : Thing → Mode → Type 0
Refers t m = (n : ℕ) × Offers t m n × Reference m

-- the plain mode that something offers is the one that number_of finds
number_only : {t : Thing} {m : Mode} {n : ℕ} → Offers t m n → (k : Plain) → m ≡ plain k → number_of t ≡ Some k
number_only o k e = grind arith

one_number : {t : Thing} {l : Plain} → number_of t ≡ Some l → (k : Plain) → Numeric t k → k ≡ l
one_number e k x = let y = number_only x.1 k refl in cc

no_number : {t : Thing} → number_of t ≡ None → (k : Plain) → Numeric t k → ⊥
no_number e k x = let y = number_only x.1 k refl in grind arith

number_tells : (t : Thing) → Tells (Numeric t) (number_of t)
number_tells (value (plain l)) = found (0, itself) (one_number refl)
number_tells (value (ref l)) = found (1, referred) (one_number refl)
number_tells (place b (plain l)) = found (1, contents) (one_number refl)
number_tells (place b (ref l)) = found (2, contents_referred) (one_number refl)
number_tells _ = none (no_number refl)

-- the reference that something offers is the one that ref_of finds
ref_only : {t : Thing} {m : Mode} {n : ℕ} → Offers t m n → Reference m → ref_of t ≡ Some m
ref_only o r = grind arith

one_ref : {t : Thing} {m : Mode} → ref_of t ≡ Some m → (k : Mode) → Refers t k → k ≡ m
one_ref e k x = let y = ref_only x.1 x.2 in cc

no_ref : {t : Thing} → ref_of t ≡ None → (k : Mode) → Refers t k → ⊥
no_ref e k x = let y = ref_only x.1 x.2 in grind arith

ref_tells : (t : Thing) → Tells (Refers t) (ref_of t)
ref_tells (value (plain k)) = none (no_ref refl)
ref_tells (value m) = found (0, itself, tt) (one_ref refl)
ref_tells (place true (plain k)) = found (0, address, tt) (one_ref refl)
ref_tells (place false (plain k)) = none (no_ref refl)
ref_tells (place b m) = found (1, contents, tt) (one_ref refl)
ref_tells (array d) = found (0, array_address, tt) (one_ref refl)
ref_tells (structure r) = found (0, record_address, tt) (one_ref refl)

widens_decides : (k l : Plain) → Decides (widens k l) (Widens k l)
widens_decides int int = yes alike
widens_decides int byte = no (λ w. elim w [ ])
widens_decides byte int = yes wider
widens_decides byte byte = yes alike

wanted_back : {m c : Mode} {t : Thing} → Fits (mode m) t c → Reference m → Pair (Refers t) (λ k c. (k ≡ m) × (c ≡ m)) c
wanted_back f r = grind arith

fit_ref_tells : (m : Mode) (t : Thing) → Reference m → Tells (Fits (mode m) t) (fit_ref m t)
fit_ref_tells m t r = tells_like _ to (λ c f. wanted_back f r) (tells_bind (λ k c. (k ≡ m) × (c ≡ m)) _ (ref_tells t) (λ k. tells_if _ m (same_mode_decides k m)))
  where
    to : (c : Mode) → Pair (Refers t) (λ k c. (k ≡ m) × (c ≡ m)) c → Fits (mode m) t c
    to c x = rw x.2.1 (wanted (rw x.2.0 at x.1.1) r)

mode_tells : (m : Mode) (t : Thing) → Tells (Fits (mode m) t) (fit_mode m t)
mode_tells (plain l) t = tells_like _ to back (tells_bind (λ k c. Widens k l × (c ≡ plain l)) _ (number_tells t) (λ k. tells_if _ (plain l) (widens_decides k l)))
  where
    to : (c : Mode) → Pair (Numeric t) (λ k c. Widens k l × (c ≡ plain l)) c → Fits (mode (plain l)) t c
    to c x = rw x.2.1 (widened x.1.1 x.2.0)

    back : (c : Mode) → Fits (mode (plain l)) t c → Pair (Numeric t) (λ k c. Widens k l × (c ≡ plain l)) c
    back c (widened {k = k} {n = n} o w) = (k, (n, o), (w, refl))
    back c (wanted o r) = absurd r
mode_tells m t = fit_ref_tells m t tt

-- of the references, those to arrays, and those to records
abbrev ArrayRef : Mode → Mode → Type 0
ArrayRef m c = (e : Element) × (m ≡ ref_array e) × (c ≡ ref_array e)

abbrev RecordRef : Mode → Mode → Type 0
RecordRef m c = (r : Word) × (m ≡ ref_record r) × (c ≡ ref_record r)

only_array_tells : (m : Mode) → Tells (ArrayRef m) (only_array m)
only_array_tells (ref_array e) = found (e, refl, refl) (λ c x. x.2 ∙ sym x.1)
only_array_tells _ = none (λ c x. let e = x.1 in grind arith)

only_record_tells : (m : Mode) → Tells (RecordRef m) (only_record m)
only_record_tells (ref_record r) = found (r, refl, refl) (λ c x. x.2 ∙ sym x.1)
only_record_tells _ = none (λ c x. let e = x.1 in grind arith)

place_one : {b : Bool} {m c : Mode} → Fits scalar (place b m) c → c ≡ m
place_one a_place = refl

pointer_one : {b : Bool} {k : Plain} {c : Mode} → Fits pointed (place b (ref k)) c → c ≡ plain k
pointer_one a_pointer = refl

pub fit_tells : (n : Need) (t : Thing) → Tells (Fits n t) (fit n t)
fit_tells (mode m) t = mode_tells m t
fit_tells number t = tells_like _ to back (tells_maybe plain (number_tells t))
  where
    to : (c : Mode) → (k : Plain) × Numeric t k × (c ≡ plain k) → Fits number t c
    to c x = rw x.2 (a_number x.1.1)

    back : (c : Mode) → Fits number t c → (k : Plain) × Numeric t k × (c ≡ plain k)
    back c (a_number {k = k} {n = n} o) = (k, (n, o), refl)
fit_tells reference t = tells_like _ to back (ref_tells t)
  where
    to : (c : Mode) → Refers t c → Fits reference t c
    to c x = a_reference x.1 x.2

    back : (c : Mode) → Fits reference t c → Refers t c
    back c (a_reference {n = n} o r) = (n, o, r)
fit_tells elements t = tells_like _ to back (tells_bind ArrayRef only_array (ref_tells t) only_array_tells)
  where
    to : (c : Mode) → Pair (Refers t) ArrayRef c → Fits elements t c
    to c x = rw x.2.2 (an_array (rw x.2.1 at x.1.1))

    back : (c : Mode) → Fits elements t c → Pair (Refers t) ArrayRef c
    back c (an_array {e = e} {n = n} o) = (ref_array e, (n, o, tt), (e, refl, refl))
fit_tells components t = tells_like _ to back (tells_bind RecordRef only_record (ref_tells t) only_record_tells)
  where
    to : (c : Mode) → Pair (Refers t) RecordRef c → Fits components t c
    to c x = rw x.2.2 (a_record (rw x.2.1 at x.1.1))

    back : (c : Mode) → Fits components t c → Pair (Refers t) RecordRef c
    back c (a_record {r = r} {n = n} o) = (ref_record r, (n, o, tt), (r, refl, refl))
fit_tells scalar (place b m) = found a_place (λ c f. place_one f)
fit_tells pointed (place b (ref k)) = found a_pointer (λ c f. pointer_one f)
fit_tells scalar _ = none (λ c f. elim f [ ])
fit_tells pointed _ = none (λ c f. elim f [ ])
