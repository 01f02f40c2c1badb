-- What the writer refuses, and for what. Renders the last sentence of "The numbers", on the file writer, without the order of its refusals. `Writer` says which of several faults is told; here stands that what is told is a fault, that what has a
-- fault is refused, and that a refusal leaves the lent buffer as it was. A fault is what it is for the reader, but for lengths and room. Proved in `proofs/Faults.antt`.
use Rattle.std.specs.Prelude.{◌≡◌, Bool, not, List, ℕ, eqb, ltb, length, Err}
use Rattle.terms.specs.Refusal.{Refuses, refusal_in}
use Rattle.schedule.specs.Faults.{fault_at}
use Rattle.schedule.specs.Format.{file_length}
use Rattle.writer.specs.Types.{Refusal, Sizes}
use Rattle.writer.specs.Writer.{buffer_after, write_file}

-- what a writer is handed: SHORT is arrays of different lengths, ROOM a buffer that the file does not fit in
abbrev pub writing_has : Sizes → List ℕ → List ℕ → ℕ → ℕ → ℕ → Bool
writing_has s kinds operands room =
    fault_at s (length kinds) kinds operands (not (eqb (length kinds) (length operands))) (ltb room (file_length (length kinds)))

-- the writer refuses for a fault that there is, and writes nothing that has one; `write` promises it
abbrev pub WriterRefusesFaults : Type 0
WriterRefusesFaults =
    (s : Sizes) (kinds operands : List ℕ) (room : ℕ) → Refuses (writing_has s kinds operands room) (refusal_in (write_file s kinds operands room))

-- what is refused leaves the lent buffer as it was
abbrev pub RefusedUntouched : Type 0
RefusedUntouched =
    (s : Sizes) (kinds operands buffer : List ℕ) (r : Refusal)
    → write_file s kinds operands (length buffer) ≡ Err r → buffer_after s kinds operands buffer ≡ buffer
