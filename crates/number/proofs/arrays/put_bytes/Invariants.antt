use Rattle.std.proofs.Common.{length, ◌≡◌}
use Rattle.std.proofs.Math.Seq.{paste}
use Rattle.number.proofs.arrays.put_bytes.Given as goal

-- the buffer has the first i bytes from the place on
abbrev pub invariant-loop-i : goal.invariant-loop-i
invariant-loop-i l = (l.buffer ≡ paste l.initial.buffer l.at l.bytes l.i) × (length l.buffer ≡ length l.initial.buffer)
