-- Files at their edges, as one table over the definitions: the last line of "Rehearsals" but for its trace, the example of "The program's lines" byte by byte, every size at the ends of its range and just past them (4,096 entries are found in
-- range, not read), every kind with operands that are allowed and that are not, all other kind bytes, files with several faults, which show the order of the checks, and parts that are no file's. `proofs/Edges.antt` proves one fact: every row holds.
use Rattle.std.specs.Prelude.{Bool, true, false, ◌&&◌, List, [], ◌∷◌, ◌++◌, map, ℕ, ◌+◌, eqb, length, replicate, take, Result, Ok, Err}
use Rattle.terms.specs.Refusal.{refused_by}
use Rattle.terms.specs.Kinds.{entry_of, kind_of, operand_of}
use Rattle.terms.specs.Lists.{equal, range_from}
use Rattle.terms.specs.Numbers.{is_no_entry}
use Rattle.terms.specs.Sizes.{sized}
use Rattle.schedule.specs.Types.{Refusal, Short, Sizes}
use Rattle.schedule.specs.Types.{BeginPut, BeginSteal, BeginTake, ClientStore, Drain, Entry, ThiefStep, WorkerStep}
use Rattle.number.specs.Number.{little_endian, word_bytes}
use Rattle.schedule.specs.Format.{size_bytes, size_numbers, words_in}
use Rattle.schedule.specs.Entries.{check_parts, entry_at, entry_to_obey}
use Rattle.schedule.specs.Reader.{kind_part, kind_start, operand_part, operand_start, read_file, refusal_of}

-- the sizes of the example of "The program's lines", and the same with another number of thieves
abbrev pub example : Sizes
example = sized 4 1 0 1 1 0

abbrev pub with_thieves : ℕ → Sizes
with_thieves thieves = sized 4 1 0 1 thieves 0

-- ── Rows ────────────────────────────────────────────────────────────────────────────────────────────────────────────────────

pub data Row : Type 0 where
  -- a file that is read: its sizes, its kinds' bytes, one for each entry, and its operands' bytes, which lie where they should
  accepts : (file : List ℕ) → Sizes → (kinds operands : List ℕ) → Row
  -- a file that is refused, with number and place; no part of it is handed back
  refuses : (file : List ℕ) (number place : ℕ) → Row
  -- the entry that a kind and an operand mean
  means : (thieves kind operand : ℕ) → Entry → Row
  -- the place of two arrays, kinds and operands' bytes, at which there is no entry, with number and place; a step of a thief that no machine has stands in
  no_entry : (thieves : ℕ) (kinds operands : List ℕ) (at number place : ℕ) → Row
  -- what the check of the entries tells of two parts, kinds and operands' bytes: nothing, or number and place
  passes : (thieves : ℕ) (kinds operands : List ℕ) → Row
  fails : (thieves : ℕ) (kinds operands : List ℕ) (number place : ℕ) → Row
  -- the two parts of a file by a reading that says so many entries, whatever the file says, and where they lie
  cuts : (file : List ℕ) (entries : ℕ) (kinds operands : List ℕ) (kindsAt operandsAt : ℕ) → Row
  -- a file that is cut by the answer that it is refused, whatever it is: no part of it is handed back
  cuts_nothing : (file : List ℕ) → Row

abbrev pub is_read : Sizes → ℕ → Result (Sizes × ℕ) Refusal → Bool
is_read s n (Ok (t, entries)) = equal (size_numbers s n) (size_numbers t entries)
is_read s n (Err r) = false

abbrev pub is_not_read : ℕ → ℕ → Result (Sizes × ℕ) Refusal → Bool
is_not_read number place (Ok (s, entries)) = false
is_not_read number place (Err r) = refused_by r number place

abbrev pub is_same : Entry → Entry → Bool
is_same e f = eqb (kind_of e) (kind_of f) && eqb (operand_of e) (operand_of f)

abbrev pub is_entry : Entry → Result Entry Refusal → Bool
is_entry e (Ok f) = is_same e f
is_entry e (Err r) = false

abbrev pub is_passed : Result Unit Refusal → Bool
is_passed (Ok _) = true
is_passed (Err r) = false

abbrev pub is_failed : ℕ → ℕ → Result Unit Refusal → Bool
is_failed number place (Ok _) = false
is_failed number place (Err r) = refused_by r number place

-- the parts of a file by a reading, and where they start
abbrev pub are_parts : List ℕ → Result (Sizes × ℕ) Refusal → List ℕ → List ℕ → ℕ → ℕ → Bool
are_parts file answer kinds operands kindsAt operandsAt =
    equal (kind_part file answer) kinds
    && equal (operand_part file answer) operands
    && eqb (kind_start file answer) kindsAt
    && eqb (operand_start file answer) operandsAt

abbrev pub holds : Row → Bool
holds (accepts file s kinds operands) =
    is_read s (length kinds) (read_file file) && are_parts file (read_file file) kinds operands 28 (28 + length kinds) && refused_by (refusal_of (read_file file)) 8 0
holds (refuses file number place) =
    is_not_read number place (read_file file) && are_parts file (read_file file) [] [] 0 0 && refused_by (refusal_of (read_file file)) number place
holds (means thieves kind operand e) =
    let found = entry_at (with_thieves thieves) (kind ∷ []) (words_in (little_endian 4 operand)) 0 in
    is_entry e (entry_of thieves 0 kind operand) && is_entry e found && is_same e (entry_to_obey found)
holds (no_entry thieves kinds operands at number place) =
    let found = entry_at (with_thieves thieves) kinds (words_in operands) at in
    is_no_entry number place found && is_same (ThiefStep 4294967295) (entry_to_obey found)
holds (passes thieves kinds operands) = is_passed (check_parts (with_thieves thieves) kinds operands)
holds (fails thieves kinds operands number place) = is_failed number place (check_parts (with_thieves thieves) kinds operands)
holds (cuts_nothing file) = are_parts file (Err Short) [] [] 0 0
holds (cuts file entries kinds operands kindsAt operandsAt) = are_parts file (Ok (example, entries)) kinds operands kindsAt operandsAt

-- ── Files ───────────────────────────────────────────────────────────────────────────────────────────────────────────────────

-- A file put together from its parts: sizes, kinds and operands, one behind the other. It does not go by `layout`, so that the rows do not lean on what they test. The order of bytes and of
-- sizes shows where bytes are written out: in the example, and in the file of six different sizes, of which one has the bytes 1, 2, 3 and 4.
abbrev pub file_with : Sizes → List ℕ → List ℕ → List ℕ
file_with s kinds operands = word_bytes (size_numbers s (length kinds)) ++ (kinds ++ word_bytes operands)

abbrev pub example_file : List ℕ
example_file =
    4 ∷ 0 ∷ 0 ∷ 0 ∷ 1 ∷ 0 ∷ 0 ∷ 0 ∷ 0 ∷ 0 ∷ 0 ∷ 0 ∷ 1 ∷ 0 ∷ 0 ∷ 0 ∷ 1 ∷ 0 ∷ 0 ∷ 0 ∷ 0 ∷ 0 ∷ 0 ∷ 0 ∷ 6 ∷ 0 ∷ 0 ∷ 0
    ∷ 2 ∷ 4 ∷ 4 ∷ 4 ∷ 0 ∷ 4
    ∷ 7 ∷ 0 ∷ 0 ∷ 0 ∷ 0 ∷ 0 ∷ 0 ∷ 0 ∷ 0 ∷ 0 ∷ 0 ∷ 0 ∷ 0 ∷ 0 ∷ 0 ∷ 0 ∷ 0 ∷ 0 ∷ 0 ∷ 0 ∷ 0 ∷ 0 ∷ 0 ∷ 0
    ∷ []

abbrev pub example_operands : List ℕ
example_operands = 7 ∷ 0 ∷ 0 ∷ 0 ∷ 0 ∷ 0 ∷ []

-- six different sizes, so that none can stand for another
abbrev pub different : Sizes
different = sized 256 33 2 17 8 67305985

abbrev pub different_file : List ℕ
different_file = 0 ∷ 1 ∷ 0 ∷ 0 ∷ 33 ∷ 0 ∷ 0 ∷ 0 ∷ 2 ∷ 0 ∷ 0 ∷ 0 ∷ 17 ∷ 0 ∷ 0 ∷ 0 ∷ 8 ∷ 0 ∷ 0 ∷ 0 ∷ 1 ∷ 2 ∷ 3 ∷ 4 ∷ 0 ∷ 0 ∷ 0 ∷ 0 ∷ []

-- ── The table ───────────────────────────────────────────────────────────────────────────────────────────────────────────────

-- sizes in range: 28 bytes are a file of no entries
abbrev pub alone : Sizes → Row
alone s = accepts (size_bytes s 0) s [] []

-- a size out of its range is given as the fault, whether the file has the right length or not (where the entries are too many, neither has)
abbrev pub out_of_range : Sizes → ℕ → ℕ → List Row
out_of_range s entries place = refuses (size_bytes s entries) 1 place ∷ refuses (size_bytes s entries ++ (0 ∷ [])) 1 place ∷ []

-- one entry that is refused, with two thieves
abbrev pub refuses_entry : ℕ → ℕ → ℕ → Row
refuses_entry kind operand number = refuses (file_with (with_thieves 2) (kind ∷ []) (operand ∷ [])) number 0

abbrev pub lengths : List Row
lengths =
    refuses [] 2 0
    ∷ refuses (replicate 4 0) 2 0
    ∷ refuses (take 27 (size_bytes example 0)) 2 0
    ∷ refuses (take 27 (size_bytes (sized 0 0 64 65 0 0) 0)) 2 0
    ∷ alone example
    ∷ refuses (size_bytes example 0 ++ (0 ∷ [])) 2 0
    ∷ refuses (size_bytes example 1) 2 0
    ∷ refuses (size_bytes example 4096) 2 0
    ∷ refuses (take 57 example_file) 2 0
    ∷ refuses (example_file ++ (0 ∷ [])) 2 0
    ∷ []

abbrev pub sizes : List Row
sizes =
    alone (sized 2 1 0 0 1 0)
    ∷ alone (sized 256 64 63 64 8 2147483647)
    -- no size limits another: a margin that is too small, a spacing and a margin beyond the buffer
    ∷ alone (sized 4 64 0 1 1 0)
    ∷ alone (sized 2 1 63 64 1 0)
    ∷ accepts different_file different [] []
    ∷ out_of_range (sized 1 1 0 0 1 0) 0 0
    ++ out_of_range (sized 257 1 0 0 1 0) 0 0
    ++ out_of_range (sized 2 0 0 0 1 0) 0 1
    ++ out_of_range (sized 2 65 0 0 1 0) 0 1
    ++ out_of_range (sized 2 1 64 0 1 0) 0 2
    ++ out_of_range (sized 2 1 0 65 1 0) 0 3
    ++ out_of_range (sized 2 1 0 0 0 0) 0 4
    ++ out_of_range (sized 2 1 0 0 9 0) 0 4
    ++ out_of_range (sized 2 1 0 0 1 2147483648) 0 5
    ++ out_of_range (sized 2 1 0 0 1 4294967295) 0 5
    ++ out_of_range (sized 2 1 0 0 1 0) 4097 6
    -- of several the lowest place
    ++ out_of_range (sized 2 1 64 65 0 0) 4097 2
    ++ out_of_range (sized 2 1 0 0 9 0) 4097 4
    ++ out_of_range (sized 1 0 64 65 0 2147483648) 4097 0
    ++ out_of_range (sized 2 1 0 0 1 2147483648) 4097 5
    ++ out_of_range (sized 2 65 64 0 1 0) 0 1
    ++ out_of_range (sized 2 1 0 0 9 2147483648) 0 4
    -- a size whose lowest byte would be in range
    ++ out_of_range (sized 2 257 0 0 1 0) 0 1
    ++ out_of_range (sized 2 1 256 0 1 0) 0 2
    ++ out_of_range (sized 2 1 0 256 1 0) 0 3
    ++ out_of_range (sized 2 1 0 0 257 0) 0 4
    ++ out_of_range (sized 2 1 0 0 1 0) 65536 6

abbrev pub entries : List Row
entries =
    means 2 0 0 Drain
    ∷ means 2 1 0 ClientStore
    ∷ means 2 2 4294967295 (BeginPut 4294967295)
    ∷ means 2 2 0 (BeginPut 0)
    ∷ means 2 3 0 BeginTake
    ∷ means 2 4 0 WorkerStep
    ∷ means 2 5 0 (BeginSteal 0)
    ∷ means 2 5 1 (BeginSteal 1)
    ∷ means 8 6 7 (ThiefStep 7)
    ∷ accepts example_file example (2 ∷ 4 ∷ 4 ∷ 4 ∷ 0 ∷ 4 ∷ []) (word_bytes example_operands)
    ∷ accepts (file_with (with_thieves 2) (0 ∷ 1 ∷ 2 ∷ 3 ∷ 4 ∷ 5 ∷ 6 ∷ []) (0 ∷ 0 ∷ 4294967295 ∷ 0 ∷ 0 ∷ 0 ∷ 1 ∷ [])) (with_thieves 2)
    (0 ∷ 1 ∷ 2 ∷ 3 ∷ 4 ∷ 5 ∷ 6 ∷ [])
    (word_bytes (0 ∷ 0 ∷ 4294967295 ∷ 0 ∷ 0 ∷ 0 ∷ 1 ∷ []))
    ∷ accepts (file_with (with_thieves 8) (5 ∷ 6 ∷ []) (7 ∷ 0 ∷ [])) (with_thieves 8) (5 ∷ 6 ∷ []) (7 ∷ 0 ∷ 0 ∷ 0 ∷ 0 ∷ 0 ∷ 0 ∷ 0 ∷ [])
    ∷ accepts (file_with example (5 ∷ 6 ∷ []) (0 ∷ 0 ∷ [])) example (5 ∷ 6 ∷ []) (replicate 8 0)
    -- an operand just past its limit, or one of which only the lowest byte would be allowed
    ∷ refuses_entry 0 1 4
    ∷ refuses_entry 0 256 4
    ∷ refuses_entry 1 16777216 4
    ∷ refuses_entry 3 65536 4
    ∷ refuses_entry 4 4294967040 4
    ∷ refuses_entry 5 2 4
    ∷ refuses_entry 5 256 4
    ∷ refuses_entry 6 2 4
    ∷ refuses_entry 6 16777216 4
    ∷ refuses (file_with (with_thieves 8) (0 ∷ 2 ∷ 5 ∷ 6 ∷ 5 ∷ []) (0 ∷ 9 ∷ 7 ∷ 8 ∷ 8 ∷ [])) 4 3
    -- within an entry the kind first; of the entries the first faulty one; the length before all of them
    ∷ refuses_entry 7 9 3
    ∷ refuses (file_with (with_thieves 2) (0 ∷ 255 ∷ []) (0 ∷ 0 ∷ [])) 3 1
    ∷ refuses (file_with (with_thieves 2) (2 ∷ 5 ∷ 7 ∷ []) (3 ∷ 2 ∷ 0 ∷ [])) 4 1
    ∷ refuses (file_with (with_thieves 2) (2 ∷ 9 ∷ 5 ∷ []) (3 ∷ 0 ∷ 2 ∷ [])) 3 1
    ∷ refuses (file_with (with_thieves 2) (7 ∷ []) (0 ∷ []) ++ (0 ∷ [])) 2 0
    -- a place that one of the arrays does not have
    ∷ no_entry 2 (0 ∷ []) (0 ∷ 0 ∷ 0 ∷ 0 ∷ []) 1 2 0
    ∷ no_entry 2 (0 ∷ []) (0 ∷ 0 ∷ 0 ∷ []) 0 2 0
    ∷ no_entry 2 (7 ∷ []) [] 0 2 0
    ∷ no_entry 2 (0 ∷ []) (replicate 8 0) 1 2 0
    ∷ no_entry 2 (0 ∷ []) (replicate 4 0) 18446744073709551615 2 0
    -- a place that both have, whatever else they have
    ∷ no_entry 2 (7 ∷ 0 ∷ []) (replicate 4 0) 0 3 0
    ∷ no_entry 2 (7 ∷ []) (replicate 9 0) 0 3 0
    ∷ no_entry 2 (5 ∷ []) (word_bytes (2 ∷ [])) 0 4 0
    -- every byte above 6
    ∷ map (λ kind. no_entry 8 (0 ∷ kind ∷ []) (replicate 8 0) 1 3 1) (range_from 7 249)

-- the check of the entries by itself, with parts that need not be a file's
abbrev pub parts : List Row
parts =
    passes 2 [] []
    ∷ passes 2 (0 ∷ 2 ∷ 5 ∷ []) (word_bytes (0 ∷ 9 ∷ 1 ∷ []))
    -- the first faulty entry, also where it is the last one or has two faults
    ∷ fails 2 (0 ∷ 2 ∷ 5 ∷ []) (word_bytes (0 ∷ 9 ∷ 2 ∷ [])) 4 2
    ∷ fails 2 (0 ∷ 2 ∷ 9 ∷ []) (word_bytes (0 ∷ 9 ∷ 2 ∷ [])) 3 2
    ∷ fails 2 (0 ∷ 7 ∷ 5 ∷ 8 ∷ []) (word_bytes (0 ∷ 1 ∷ 2 ∷ 0 ∷ [])) 3 1
    ∷ fails 2 (5 ∷ 7 ∷ 5 ∷ 8 ∷ []) (word_bytes (2 ∷ 1 ∷ 2 ∷ 0 ∷ [])) 4 0
    -- thieves are judged by the sizes that are lent, whether these are in range or not
    ∷ fails 1 (6 ∷ []) (word_bytes (1 ∷ [])) 4 0
    ∷ passes 9 (6 ∷ []) (word_bytes (8 ∷ []))
    ∷ fails 0 (5 ∷ []) (word_bytes (0 ∷ [])) 4 0
    -- parts that do not belong together, whatever stands in them
    ∷ fails 2 (7 ∷ []) [] 2 0
    ∷ fails 2 (0 ∷ []) (replicate 3 0) 2 0
    ∷ fails 2 (0 ∷ []) (replicate 5 0) 2 0
    ∷ fails 2 (0 ∷ []) (replicate 8 0) 2 0
    ∷ fails 2 [] (0 ∷ []) 2 0
    ∷ fails 2 (7 ∷ 0 ∷ []) (replicate 4 0) 2 0
    -- a reading that is another file's: one of fewer entries, one whose kinds just lie in the file, and one whose kinds do not
    ∷ cuts example_file 1 (2 ∷ []) ((4 ∷ 4 ∷ 4 ∷ 0 ∷ 4 ∷ []) ++ word_bytes example_operands) 28 29
    ∷ cuts example_file 30 ((2 ∷ 4 ∷ 4 ∷ 4 ∷ 0 ∷ 4 ∷ []) ++ word_bytes example_operands) [] 28 58
    ∷ cuts example_file 31 [] [] 0 0
    ∷ cuts example_file 18446744073709551615 [] [] 0 0
    ∷ cuts (different_file ++ (0 ∷ [])) 1 (0 ∷ []) [] 28 29
    ∷ cuts (take 27 example_file) 0 [] [] 0 0
    ∷ cuts_nothing example_file
    ∷ []

abbrev pub edges : List Row
edges = lengths ++ sizes ++ entries ++ parts
