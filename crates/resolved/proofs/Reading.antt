-- So many reads give what is needed. Assumes nothing.
use Rattle.std.proofs.Common.{◌≡◌, ℕ, Some, refl, subst, inl, inr, arith}
use Rattle.statics.specs.Modes.{Plain, int, byte, Mode, plain, ref, ref_record, ref_array, Thing, Offers, contents, Widens, Reference, Need, mode, Fits, widened, wanted, a_number, a_reference, an_array, a_record, a_place, a_pointer}
use Rattle.statics.specs.JudgeExpressions.{number_of}
use Rattle.resolved.specs.Reads.{plain_reads, reference_reads}
use Rattle.resolved.specs.Theorems.{Brings}

plain_offer : {t : Thing} {m : Mode} {n : ℕ} → Offers t m n → (k : Plain) → m ≡ plain k → (number_of t ≡ Some k) × (n ≡ plain_reads t)
plain_offer o k e = grind arith

reference_offer : {t : Thing} {m : Mode} {n : ℕ} → Offers t m n → Reference m → n ≡ reference_reads t
reference_offer o r = grind arith

offers_plain : {t : Thing} {k : Plain} {n : ℕ} → Offers t (plain k) n → Offers t (plain k) (plain_reads t)
offers_plain {t} {k} o = subst (λ l. Offers t (plain k) l) (plain_offer o k refl).1 o

offers_reference : {t : Thing} {m : Mode} {n : ℕ} → Offers t m n → Reference m → Offers t m (reference_reads t)
offers_reference {t} {m} o r = subst (λ l. Offers t m l) (reference_offer o r) o

widened_reads : (t : Thing) (k l : Plain) → Widens k l → number_of t ≡ Some k → Offers t (plain k) (plain_reads t) → Brings (mode (plain l)) t (plain l)
widened_reads t int int w e o = inl (rw e, o)
widened_reads t byte byte w e o = inl (refl, o)
widened_reads t byte int w e o = inr (rw e, refl, o)
widened_reads t int byte w e o = elim w [ ]

mode_reads : (t : Thing) (m : Mode) → Reference m → Offers t m (reference_reads t) → Brings (mode m) t m
mode_reads t (plain k) r o = absurd r
mode_reads t (ref k) r o = inl (refl, o)
mode_reads t (ref_record w) r o = inl (refl, o)
mode_reads t (ref_array e) r o = inl (refl, o)

pub reads_give : {n : Need} {t : Thing} {m : Mode} → Fits n t m → Brings n t m
reads_give (widened {t} {k} {l} o w) = widened_reads t k l w (plain_offer o k refl).0 (offers_plain o)
reads_give (wanted {t} {m} o r) = mode_reads t m r (offers_reference o r)
reads_give (a_number o) = inl (refl, offers_plain o)
reads_give (a_reference o r) = inl (refl, offers_reference o r)
reads_give (an_array o) = inl (refl, offers_reference o tt)
reads_give (a_record o) = inl (refl, offers_reference o tt)
reads_give (a_place {b}) = (b, refl, refl)
reads_give (a_pointer {k}) = (k, refl, contents)
