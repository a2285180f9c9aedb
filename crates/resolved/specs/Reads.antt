-- How often a form is read, and whether it is widened, to meet a need. Assumes nothing.
use Rattle.std.specs.Prelude.{ℕ, zero, suc, Bool, true, false, cond, Some, Option}
use Rattle.statics.specs.Modes.{Plain, int, byte, plain, ref, Thing, value, place, Need, mode, number, scalar, pointed}
use Rattle.statics.specs.JudgeExpressions.{number_of}
use Rattle.resolved.specs.Forms.{Form}
use Rattle.resolved.specs.Forms as form

-- to INT or BYTE: a place is read, and so is what it refers to
abbrev pub plain_reads : Thing → ℕ
plain_reads (value (ref k)) = 1
plain_reads (place b (plain k)) = 1
plain_reads (place b m) = 2
plain_reads t = 0

-- to a reference: a place of a plain mode, an array and a record give their address, a place of a REF mode its contents
abbrev pub reference_reads : Thing → ℕ
reference_reads (place b (plain k)) = 0
reference_reads (place b m) = 1
reference_reads t = 0

-- a place to store into stays as it is; behind VAL the place that refers to it is read
abbrev pub reads : Need → Thing → ℕ
reads (mode (plain k)) t = plain_reads t
reads number t = plain_reads t
reads scalar t = 0
reads pointed t = 1
reads n t = reference_reads t

-- widened exactly where INT is needed of a BYTE
abbrev pub widens_for : Need → Option Plain → Bool
widens_for (mode (plain int)) (Some byte) = true
widens_for n o = false

abbrev pub read_times : ℕ → Form → Form
read_times zero x = x
read_times (suc n) x = form.read (read_times n x)

-- the form of t, brought to what is needed
abbrev pub brought_form : Need → Thing → Form → Form
brought_form n t x = let y = read_times (reads n t) x in cond (widens_for n (number_of t)) (form.widened y) y
