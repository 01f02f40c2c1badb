use Rattle.std.proofs.Common.{length, take, ◌≡◌}
use Rattle.number.specs.Number.{overwritten, word_bytes}
use Rattle.number.proofs.arrays.put_words.Given as goal

-- the buffer is overwritten, from the place on, with the bytes of the first i numbers
abbrev pub invariant-loop-i : goal.invariant-loop-i
invariant-loop-i l =
    (l.buffer ≡ overwritten l.at (word_bytes (take l.i l.numbers)) l.initial.buffer) × (length l.buffer ≡ length l.initial.buffer)
