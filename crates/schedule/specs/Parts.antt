-- The parts and the entries of a file, and that its check and its run go by decoded sizes and the two parts alone, as request 3 of 02 has it. But for that and the operand part, nothing here is a sentence of the papers: it follows from "The schedule file". Proved in `proofs/Parts.antt`.
use Rattle.std.specs.Prelude.{◌≡◌, List, ◌++◌, ℕ, ◌+◌, ◌*◌, ◌≤◌, ◌<◌, get_or, length, take, Ok}
use Rattle.claim.specs.Implementation.{Implementation}
use Rattle.terms.specs.Kinds.{entry_of, kind_of, operand_of}
use Rattle.schedule.specs.Types.{Entry, Sizes}
use Rattle.schedule.specs.Check.{first}
use Rattle.schedule.specs.Entries.{check_parts, entry_at}
use Rattle.schedule.specs.Format.{entries_in, kinds_in, operands_in, sizes_in, words_in}
use Rattle.schedule.specs.Reader.{kind_part, kind_start, operand_part, operand_start, read_file, reading_of, size_checks}
use Rattle.schedule.specs.Run.{outcomes_from_by, outcomes_in_by, summary_from_by, summary_in_by, trace_after_by, trace_put}
use Rattle.schedule.specs.Trace.{trace_length}

-- an allowed entry has the kind and the operand that it was read from
abbrev pub EntriesAsRead : Type 0
EntriesAsRead =
    (thieves place kind operand : ℕ) (entry : Entry)
    → entry_of thieves place kind operand ≡ Ok entry → (kind_of entry ≡ kind) × (operand_of entry ≡ operand)

-- an entry of an accepted file, looked up in the two parts that are handed back: it is allowed, and it has the kind and the operand that stand in the file
pub record EntryOfFile (file : List ℕ) (s : Sizes) (entries at : ℕ) : Type 0 where
  pub entry : Entry
  pub allowed : entry_at s (kind_part file (read_file file)) (words_in (operand_part file (read_file file))) at ≡ Ok entry
  pub kind : kind_of entry ≡ get_or (kinds_in entries file) at 0
  pub operand : operand_of entry ≡ get_or (operands_in entries file) at 0

-- the two parts that are handed back lie where they should, are all of the file behind its sizes and hold the two arrays, and every entry is allowed and stands as in the file
pub record Parts (file : List ℕ) (s : Sizes) (entries : ℕ) : Type 0 where
  pub whole : take 28 file ++ (kind_part file (read_file file) ++ operand_part file (read_file file)) ≡ file
  pub four_each : length (operand_part file (read_file file)) ≡ 4 * entries
  pub kinds_start : kind_start file (read_file file) ≡ 28
  pub operands_start : operand_start file (read_file file) ≡ 28 + entries
  pub kinds : kind_part file (read_file file) ≡ kinds_in entries file
  pub operands : words_in (operand_part file (read_file file)) ≡ operands_in entries file
  pub each : (at : ℕ) → at < entries → EntryOfFile file s entries at

abbrev pub PartsOfAccepted : Type 0
PartsOfAccepted = (file : List ℕ) (s : Sizes) (entries : ℕ) → read_file file ≡ Ok (s, entries) → Parts file s entries

-- Where sizes and length are right, the check of the two parts decides whether the file is read, and the refusal.
abbrev pub ReadByParts : Type 0
ReadByParts =
    (file : List ℕ) → first (size_checks file) ≡ Ok tt
    → let right = Ok (sizes_in file, entries_in file) in
    read_file file ≡ reading_of file (check_parts (sizes_in file) (kind_part file right) (operand_part file right))

-- and the outcomes of a file that is read, by any queue, what is told of them, and the trace that is put where there is room for it, are those of its decoded sizes and its two parts
abbrev pub RunByParts : {M : Type 0} → Implementation M Entry → Type 0
RunByParts b =
    (file : List ℕ) (s : Sizes) (n : ℕ) → read_file file ≡ Ok (s, n)
    → let os = outcomes_from_by b s (kind_part file (read_file file)) (words_in (operand_part file (read_file file))) in
    (outcomes_in_by b file ≡ os)
    × (summary_in_by b file ≡ summary_from_by b s (kind_part file (read_file file)) (words_in (operand_part file (read_file file))))
    × ((trace : List ℕ) → trace_length n ≤ length trace → trace_after_by b file trace ≡ trace_put os trace)
