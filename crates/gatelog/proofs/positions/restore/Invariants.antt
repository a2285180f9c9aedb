use Rattle.std.proofs.Common.{◌≡◌, ◌*◌, length, drop}
use Rattle.std.specs.Slice.Iter.{chunks_exact_rest, chunks_exact_size}
use Rattle.gatelog.specs.Restored.{entries_in, Stands}
use Rattle.gatelog.proofs.positions.restore.Given as goal

abbrev pub invariant-loop-record : goal.invariant-loop-record
invariant-loop-record l =
    record {
      size : chunks_exact_size l.record-iterator ≡ 6;
      rest : chunks_exact_rest l.record-iterator ≡ drop (6 * length l.yielded) l.bytes;
      stands : Stands l.positions (entries_in (length l.yielded) l.bytes);
    }
