-- Writing a file. Renders the last two sentences of "The numbers": what the file writer takes, and what it refuses, in that order.
use Rattle.std.specs.Prelude.{not, List, [], ◌∷◌, ℕ, eqb, ltb, length, Result, Ok, Err}
use Rattle.writer.specs.Types.{Room, Short, Sizes, Refusal}
use Rattle.schedule.specs.Check.{check_ranges, fail_if, first}
use Rattle.schedule.specs.Entries.{check_entries}
use Rattle.schedule.specs.Format.{file_length, file_of}
use Rattle.number.specs.Number.{overwritten}

-- the checks of what is to be written into a buffer of so many bytes, in their order
abbrev pub writing_checks : Sizes → List ℕ → List ℕ → ℕ → List (Result Unit Refusal)
writing_checks s kinds operands room =
    check_ranges s (length kinds)
    ∷ fail_if (not (eqb (length kinds) (length operands))) Short
    ∷ check_entries s kinds operands
    ∷ fail_if (ltb room (file_length (length kinds))) Room
    ∷ []

abbrev pub check_writing : Sizes → List ℕ → List ℕ → ℕ → Result Unit Refusal
check_writing s kinds operands room = first (writing_checks s kinds operands room)

abbrev pub writing_of : ℕ → Result Unit Refusal → Result ℕ Refusal
writing_of n (Ok _) = Ok n
writing_of n (Err r) = Err r

-- the writer's answer: how many bytes the file has, or the refusal
abbrev pub write_file : Sizes → List ℕ → List ℕ → ℕ → Result ℕ Refusal
write_file s kinds operands room = writing_of (file_length (length kinds)) (check_writing s kinds operands room)

abbrev pub buffer_if : List ℕ → List ℕ → Result Unit Refusal → List ℕ
buffer_if file buffer (Ok _) = overwritten 0 file buffer
buffer_if file buffer (Err r) = buffer

-- what the buffer holds afterwards: the file and, beyond it, what it held; if refused, all that it held
abbrev pub buffer_after : Sizes → List ℕ → List ℕ → List ℕ → List ℕ
buffer_after s kinds operands buffer = buffer_if (file_of s kinds operands) buffer (check_writing s kinds operands (length buffer))
