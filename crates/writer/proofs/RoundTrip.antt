-- What is read is written back byte for byte, and what was written is read back.
use Rattle.std.proofs.Common.{Ok}
use mathlib.Core.Path.{◌≡◌, refl, ap, sym, ◌∙◌}
use mathlib.Core.Bool.{true}
use mathlib.Core.List.{List, [], ◌++◌, append-nil}
use Prim.Native.Nat.{ℕ, ◌+◌, ◌*◌, ◌≤◌}
use native.Mathlib.Nat.{zero-add}
use native.Mathlib.Omega.{arith}
use lib.ListN.{drop, get_or, length, replicate, take, take-append-drop}
use lib.Seq.{drop_at, drop-drop, take_at}
use borrow.Author.Tests.{lt-ltb}
use Rattle.terms.proofs.Laws.Sizes.{sizes_bounds}
use Rattle.writer.specs.Types.{Sizes}
use Rattle.schedule.specs.Check.{check_ranges}
use Rattle.schedule.specs.Entries.{check_entries}
use Rattle.schedule.specs.Format.{all_below, decode, encode, entries_in, file_of, kinds_in, layout, operands_in, size_numbers, sizes_in}
use Rattle.writer.specs.RoundTrip.{ReadBack, ReadThenWritten, WrittenBack, WrittenThenRead}
use Rattle.writer.specs.Writer.{writing_of, buffer_after, buffer_if}
use Rattle.schedule.proofs.Laws.Reader.{Readable, accepted_readable, readable_accepted}
use Rattle.writer.proofs.Laws.Writer.{Writable, writable_passes, written_writable}
use Rattle.schedule.proofs.Laws.Check.{few_entries, ranges_sizes}
use Rattle.schedule.proofs.Laws.Entries.{entries_bytes}
use Rattle.schedule.proofs.Laws.Format.{decode_encode, encode_decode, fitting, fitting_append, fitting_replicate}
use Rattle.schedule.proofs.Laws.Format.{length-file_of, length-kinds_in, length-operands_in, total_layout}

-- ── Read, then written ──────────────────────────────────────────────────────────────────────────────────────────────────────

-- the numbers of a file: its sizes, its kinds, its operands
numbers_in_lem : (file : List ℕ)
    → let n = entries_in file in size_numbers (sizes_in file) n ++ (kinds_in n file ++ operands_in n file) ≡ decode (layout n) file
numbers_in_lem file =
    let n = entries_in file in
    let numbers = decode (layout n) file in
    ap (λ l. size_numbers (sizes_in file) n ++ (kinds_in n file ++ l)) (sym (drop-drop n 7 numbers))
    ∙ ap (λ l. size_numbers (sizes_in file) n ++ l) (take-append-drop n (drop 7 numbers))

module _ (file : List ℕ) (p : Readable file) where
  -- an accepted file is the file of its sizes and arrays
  file_again : all_below 256 file ≡ true → let n = entries_in file in file_of (sizes_in file) (kinds_in n file) (operands_in n file) ≡ file
  file_again below =
      let n = entries_in file in
      ap (λ k. encode (layout k) (size_numbers (sizes_in file) k ++ (kinds_in n file ++ operands_in n file))) (length-kinds_in n file)
      ∙ ap (encode (layout n)) (numbers_in_lem file)
      ∙ encode_decode (layout n) file below (p.long ∙ sym (total_layout n))

  -- .. and can be written into any buffer that it fits in
  writable_again : (room : ℕ) → length file ≤ room
      → let n = entries_in file in Writable (sizes_in file) (kinds_in n file) (operands_in n file) room
  writable_again room fits =
      let n = entries_in file in
      record {
        ranges = ap (check_ranges (sizes_in file)) (length-kinds_in n file) ∙ p.ranges;
        parallel = length-kinds_in n file ∙ sym (length-operands_in n file);
        each = p.each;
        fits = omega (arith, length-kinds_in n file, p.long);
      }

-- what is written stands at the front of the buffer, and nothing else changes
buffer_written : (s : Sizes) (kinds operands buffer : List ℕ) → Writable s kinds operands (length buffer)
    → buffer_after s kinds operands buffer ≡ file_of s kinds operands ++ drop (length (file_of s kinds operands)) buffer
buffer_written s kinds operands buffer p =
    let file = file_of s kinds operands in
    ap (buffer_if file buffer) (writable_passes s kinds operands (length buffer) p) ∙ ap (λ n. file ++ drop n buffer) (zero-add (length file))

written_back : (file : List ℕ) → all_below 256 file ≡ true → Readable file → WrittenBack file (sizes_in file) (entries_in file)
written_back file below p =
    let n = entries_in file in
    let s = sizes_in file in
    let kinds = kinds_in n file in
    let operands = operands_in n file in
    let long : 28 + 5 * length kinds ≡ length file = omega (arith, length-kinds_in n file, p.long) in
    record {
      same = file_again file p below;
      told = λ room fits.
          ap (writing_of (28 + 5 * length kinds)) (writable_passes s kinds operands room (writable_again file p room fits)) ∙ ap Ok long;
      bytes = λ buffer fits.
          buffer_written s kinds operands buffer (writable_again file p (length buffer) fits)
          ∙ ap (λ l. l ++ drop (length l) buffer) (file_again file p below);
    }

pub read_then_written : ReadThenWritten
read_then_written file below s entries e =
    let known = accepted_readable file s entries e in
    rw (known.0, known.1.0) (written_back file below known.1.1)

-- ── Written, then read ──────────────────────────────────────────────────────────────────────────────────────────────────────

module _ (s : Sizes) (kinds operands : List ℕ) (words : all_below 4294967296 operands ≡ true) (room : ℕ) (p : Writable s kinds operands room) where
  -- sizes in range fit four bytes each
  sizes_fit : fitting (layout 0) (size_numbers s (length kinds)) ≡ true
  sizes_fit =
      let b = sizes_bounds s (ranges_sizes s (length kinds) p.ranges) in
      let few = few_entries s (length kinds) p.ranges in
      rw (
        lt-ltb s.slots 4294967296 (omega arith),
        lt-ltb s.buffer 4294967296 (omega arith),
        lt-ltb s.spacing 4294967296 (omega arith),
        lt-ltb s.margin 4294967296 (omega arith),
        lt-ltb s.thieves 4294967296 (omega arith),
        lt-ltb s.start 4294967296 (omega arith),
        lt-ltb (length kinds) 4294967296 (omega arith),
      )

  numbers_fit : fitting (layout (length kinds)) (size_numbers s (length kinds) ++ (kinds ++ operands)) ≡ true
  numbers_fit =
      let n = length kinds in
      let kinds-fit = fitting_replicate 1 kinds ∙ entries_bytes s kinds operands p.each in
      let operands-fit = ap (λ k. fitting (replicate k 4) operands) p.parallel ∙ fitting_replicate 4 operands ∙ words in
      fitting_append (replicate 7 4) (replicate n 1 ++ replicate n 4) (size_numbers s n) (kinds ++ operands) sizes_fit
      (fitting_append (replicate n 1) (replicate n 4) kinds operands kinds-fit operands-fit)

  -- the numbers that stand in a written file
  numbers_read : decode (layout (length kinds)) (file_of s kinds operands) ≡ size_numbers s (length kinds) ++ (kinds ++ operands)
  numbers_read =
      let numbers = size_numbers s (length kinds) ++ (kinds ++ operands) in
      ap (decode (layout (length kinds))) (sym (append-nil (file_of s kinds operands)))
      ∙ decode_encode (layout (length kinds)) numbers [] numbers_fit

  -- .. and so its sizes and its two arrays

  size_numbers_read : decode (layout 0) (file_of s kinds operands) ≡ size_numbers s (length kinds)
  size_numbers_read = ap (take 7) numbers_read

  sizes_read : sizes_in (file_of s kinds operands) ≡ s
  sizes_read = ap sizes_of size_numbers_read
    where
      sizes_of : List ℕ → Sizes
      sizes_of l =
          record {
            slots = get_or l 0 0;
            buffer = get_or l 1 0;
            spacing = get_or l 2 0;
            margin = get_or l 3 0;
            thieves = get_or l 4 0;
            start = get_or l 5 0;
          }

  entries_read : entries_in (file_of s kinds operands) ≡ length kinds
  entries_read = ap (λ l. get_or l 6 0) size_numbers_read

  kinds_read : kinds_in (length kinds) (file_of s kinds operands) ≡ kinds
  kinds_read = ap (λ l. take (length kinds) (drop 7 l)) numbers_read ∙ take_at kinds operands (length kinds) refl

  operands_read : operands_in (length kinds) (file_of s kinds operands) ≡ operands
  operands_read =
      ap (drop (7 + length kinds)) numbers_read
      ∙ sym (drop-drop (length kinds) 7 (size_numbers s (length kinds) ++ (kinds ++ operands)))
      ∙ drop_at kinds operands (length kinds) refl

  written_readable : Readable (file_of s kinds operands)
  written_readable =
      let file = file_of s kinds operands in
      let same_ranges : check_ranges (sizes_in file) (entries_in file) ≡ check_ranges s (length kinds) = λ i. check_ranges (sizes_read i) (entries_read i) in
      let same_entries : check_entries (sizes_in file) (kinds_in (length kinds) file) (operands_in (length kinds) file)
      ≡ check_entries s kinds operands =
      λ i. check_entries (sizes_read i) (kinds_read i) (operands_read i) in
      record {
        ranges = same_ranges ∙ p.ranges;
        long = rw entries_read (length-file_of s kinds operands p.parallel);
        each = ap (λ k. check_entries (sizes_in file) (kinds_in k file) (operands_in k file)) entries_read ∙ same_entries ∙ p.each;
      }

  read_back : ReadBack s kinds operands (file_of s kinds operands)
  read_back =
      record {
        accepted = readable_accepted (file_of s kinds operands) written_readable ∙ (λ i. Ok ((sizes_read i), (entries_read i)));
        kinds_same = kinds_read;
        operands_same = operands_read;
      }

pub written_then_read : WrittenThenRead
written_then_read s kinds operands words buffer n e =
    let known = written_writable s kinds operands (length buffer) n e in
    let p = known.1 in
    let file = file_of s kinds operands in
    let long : length file ≡ n = length-file_of s kinds operands p.parallel ∙ sym known.0 in
    rw (buffer_written s kinds operands buffer p, take_at file (drop (length file) buffer) n long)
    (read_back s kinds operands words (length buffer) p)
