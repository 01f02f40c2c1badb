-- Reading a file. Renders the line "Order" of "The numbers" up to the entries (8 is for whoever lends a buffer), with request 3 of 02, by which the entries are checked from the decoded sizes and the two arrays; and, of "Parts" and "Required forms by place", the sentences on the operand array. The kinds are cut likewise.
use Rattle.std.specs.Prelude.{Bool, cond, not, List, [], ◌∷◌, ◌++◌, ℕ, ◌+◌, eqb, leb, ltb, length, drop, take, Result, Ok, Err}
use Rattle.schedule.specs.Types.{Refusal, Room, Short, Sizes}
use Rattle.schedule.specs.Check.{check_ranges, fail_if, first}
use Rattle.schedule.specs.Entries.{check_entries}
use Rattle.schedule.specs.Format.{entries_in, file_length, kinds_in, operands_in, sizes_in}

-- the checks of a file before its entries, in their order: of its sizes, and of the length that they ask for
abbrev pub size_checks : List ℕ → List (Result Unit Refusal)
size_checks file =
    fail_if (ltb (length file) 28) Short
    ∷ check_ranges (sizes_in file) (entries_in file)
    ∷ fail_if (not (eqb (length file) (file_length (entries_in file)))) Short
    ∷ []

-- all checks of a file, in their order: behind those, the check of its entries
abbrev pub reading_checks : List ℕ → List (Result Unit Refusal)
reading_checks file = size_checks file ++ (check_entries (sizes_in file) (kinds_in (entries_in file) file) (operands_in (entries_in file) file) ∷ [])

abbrev pub reading_of : List ℕ → Result Unit Refusal → Result (Sizes × ℕ) Refusal
reading_of file (Ok _) = Ok (sizes_in file, entries_in file)
reading_of file (Err r) = Err r

-- the reader's answer: its sizes and the number of its entries, or the refusal
abbrev pub read_file : List ℕ → Result (Sizes × ℕ) Refusal
read_file file = reading_of file (first (reading_checks file))

-- why nothing came of a file, for whoever knows that nothing did: its own refusal; of an accepted file, ROOM, which is all that remains
abbrev pub refusal_of : Result (Sizes × ℕ) Refusal → Refusal
refusal_of (Ok (s, entries)) = Room
refusal_of (Err r) = r

-- ── Parts of the caller's bytes ─────────────────────────────────────────────────────────────────────────────────────────────

-- whether so many kinds lie in a file; those of a file that was read do, but a reading of another file may be handed in
abbrev pub holds_kinds : List ℕ → ℕ → Bool
holds_kinds file entries = leb (28 + entries) (length file)

-- a part of a file, by what reading it answered; nothing of one that is refused, and nothing where there are not so many kinds
abbrev pub part_of : List ℕ → Result (Sizes × ℕ) Refusal → (ℕ → List ℕ) → List ℕ
part_of file (Ok (s, entries)) part = cond (holds_kinds file entries) (part entries) []
part_of file (Err r) part = []

-- the kind bytes: the entries' number of bytes from 28 on
abbrev pub kind_part : List ℕ → Result (Sizes × ℕ) Refusal → List ℕ
kind_part file answer = part_of file answer (λ entries. take entries (drop 28 file))

-- the operands' bytes: from 28 + entries to the end
abbrev pub operand_part : List ℕ → Result (Sizes × ℕ) Refusal → List ℕ
operand_part file answer = part_of file answer (λ entries. drop (28 + entries) file)

-- A part is not a copy: it lies in the caller's memory, so many bytes behind the file's first. (A place in memory is a block and an offset in it.)
abbrev pub behind : ℕ → ℕ × ℕ → ℕ × ℕ
behind n place = (place.0, n + place.1)

-- where a part starts; where there is none, the empty part lies at the file's first byte, which 01 leaves open
abbrev pub start_of : List ℕ → Result (Sizes × ℕ) Refusal → (ℕ → ℕ) → ℕ
start_of file (Ok (s, entries)) start = cond (holds_kinds file entries) (start entries) 0
start_of file (Err r) start = 0

abbrev pub kind_start : List ℕ → Result (Sizes × ℕ) Refusal → ℕ
kind_start file answer = start_of file answer (λ entries. 28)

abbrev pub operand_start : List ℕ → Result (Sizes × ℕ) Refusal → ℕ
operand_start file answer = start_of file answer (λ entries. 28 + entries)
