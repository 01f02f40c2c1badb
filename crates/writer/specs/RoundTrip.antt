-- Files that are read and written back, and the other way round. Nothing of this is a sentence of 01: it follows from "The schedule file", and joins reader and writer. Proved in `proofs/RoundTrip.antt`.
use Rattle.std.specs.Prelude.{◌≡◌, true, List, ◌++◌, ℕ, ◌≤◌, length, drop, take, Ok}
use Rattle.writer.specs.Types.{Sizes}
use Rattle.schedule.specs.Format.{all_below, file_of, kinds_in, operands_in}
use Rattle.schedule.specs.Reader.{read_file}
use Rattle.writer.specs.Writer.{buffer_after, write_file}

-- an accepted file, of bytes, is the file of its sizes and arrays, and so it is written back, byte for byte, into any buffer that it fits in
pub record WrittenBack (file : List ℕ) (s : Sizes) (entries : ℕ) : Type 0 where
  pub same : file_of s (kinds_in entries file) (operands_in entries file) ≡ file
  pub told : (room : ℕ) → length file ≤ room → write_file s (kinds_in entries file) (operands_in entries file) room ≡ Ok (length file)
  pub bytes : (buffer : List ℕ) → length file ≤ length buffer
      → buffer_after s (kinds_in entries file) (operands_in entries file) buffer ≡ file ++ drop (length file) buffer

abbrev pub ReadThenWritten : Type 0
ReadThenWritten =
    (file : List ℕ) → all_below 256 file ≡ true
    → (s : Sizes) (entries : ℕ) → read_file file ≡ Ok (s, entries) → WrittenBack file s entries

-- what has been written, with operands of 32 bits, is read as the same sizes and the same arrays
pub record ReadBack (s : Sizes) (kinds operands file : List ℕ) : Type 0 where
  pub accepted : read_file file ≡ Ok (s, length kinds)
  pub kinds_same : kinds_in (length kinds) file ≡ kinds
  pub operands_same : operands_in (length kinds) file ≡ operands

abbrev pub WrittenThenRead : Type 0
WrittenThenRead =
    (s : Sizes) (kinds operands : List ℕ) → all_below 4294967296 operands ≡ true
    → (buffer : List ℕ) (n : ℕ) → write_file s kinds operands (length buffer) ≡ Ok n
    → ReadBack s kinds operands (take n (buffer_after s kinds operands buffer))
