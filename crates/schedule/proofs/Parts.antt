-- The parts of an accepted file are all of it behind the sizes and hold its arrays, each of its entries is allowed and stands as in the file, and its check and its run go by the parts.
use mathlib.Core.Path.{ap, sym, ◌∙◌, ◌≡◌}
use mathlib.Core.Bool.{true}
use mathlib.Core.List.{List, ◌++◌}
use Prim.Native.Nat.{ℕ, ◌+◌, ◌*◌, ◌<◌}
use native.Mathlib.Omega.{arith}
use lib.ListN.{drop, get_or, length, take, take-append-drop}
use lib.Seq.{drop-drop}
use borrow.Author.Tests.{le-leb}
use Rattle.terms.proofs.Laws.Tests.{by_test}
use Rattle.claim.specs.Implementation.{Implementation}
use Rattle.schedule.specs.Types.{Entry}
use Rattle.schedule.specs.Entries.{entry_at}
use Rattle.schedule.specs.Format.{entries_in, kinds_in, operands_in, sizes_in, words_in}
use Rattle.schedule.specs.Parts.{EntriesAsRead, EntryOfFile, PartsOfAccepted, ReadByParts, RunByParts}
use Rattle.schedule.specs.Reader.{holds_kinds, kind_part, kind_start, operand_part, operand_start, read_file, reading_of}
use Rattle.schedule.specs.Run.{trace_put}
use Rattle.schedule.proofs.Laws.Reader.{Readable, accepted_readable, kinds_cut, kinds_taken, length_operands_cut, operands_cut, operands_drop, parts_checked, readable_accepted, sizes_decide}
use Rattle.schedule.proofs.Laws.Run.{parts_obeyed, parts_outcomes, parts_summary, trace_after_run, trace_fits_lem}
use Rattle.schedule.proofs.Laws.Entries.{check_allowed, entries_passed, entry_as_read, entry_at_both}
use Rattle.schedule.proofs.Laws.Format.{length-kinds_in, length-operands_in}

pub entries_as_read : EntriesAsRead
entries_as_read thieves place kind operand entry allowed = entry_as_read thieves place kind operand entry allowed

module _ (file : List ℕ) (p : Readable file) where
  kinds_handed : kind_part file (read_file file) ≡ kinds_in (entries_in file) file
  kinds_handed = ap (kind_part file) (readable_accepted file p) ∙ kinds_cut file (sizes_in file) (entries_in file) p.long

  operands_handed : words_in (operand_part file (read_file file)) ≡ operands_in (entries_in file) file
  operands_handed = ap (λ r. words_in (operand_part file r)) (readable_accepted file p) ∙ operands_cut file (sizes_in file) (entries_in file) p.long

  -- the parts are all of the file behind its sizes
  parts_whole : take 28 file ++ (kind_part file (read_file file) ++ operand_part file (read_file file)) ≡ file
  parts_whole =
      let n = entries_in file in
      (λ i. take 28 file ++ (kind_part file (readable_accepted file p i) ++ operand_part file (readable_accepted file p i)))
      ∙ (λ i. take 28 file ++ (kinds_taken file (sizes_in file) n p.long i ++ operands_drop file (sizes_in file) n p.long i))
      ∙ ap (λ l. take 28 file ++ (take n (drop 28 file) ++ l)) (sym (drop-drop n 28 file))
      ∙ ap (λ l. take 28 file ++ l) (take-append-drop n (drop 28 file))
      ∙ take-append-drop 28 file

  operand_bytes : length (operand_part file (read_file file)) ≡ 4 * entries_in file
  operand_bytes = ap (λ r. length (operand_part file r)) (readable_accepted file p) ∙ length_operands_cut file (sizes_in file) (entries_in file) p.long

  kinds_held : holds_kinds file (entries_in file) ≡ true
  kinds_held = le-leb (28 + entries_in file) (length file) (omega (arith, p.long))

  entry_handed : (at : ℕ) → at < entries_in file → EntryOfFile file (sizes_in file) (entries_in file) at
  entry_handed at below =
      let entries = entries_in file in
      let kinds = kinds_in entries file in
      let operands = operands_in entries file in
      let s = sizes_in file in
      let there : at < length kinds = omega (arith, length-kinds_in entries file) in
      let there_too : at < length operands = omega (arith, length-operands_in entries file) in
      let found = check_allowed (entry_at s kinds operands at) (entries_passed s kinds operands p.each at there) in
      let meant = entry_as_read s.thieves at (get_or kinds at 0) (get_or operands at 0) found.0 (sym (entry_at_both s kinds operands at there there_too) ∙ found.1) in
      record {
        entry = found.0;
        allowed = (λ i. entry_at s (kinds_handed i) (operands_handed i) at) ∙ found.1;
        kind = meant.0;
        operand = meant.1;
      }

pub parts_of_accepted : PartsOfAccepted
parts_of_accepted file s entries e =
    let known = accepted_readable file s entries e in
    let p = known.1.1 in
    rw (known.0, known.1.0)
    (record {
      whole = parts_whole file p;
      four_each = operand_bytes file p;
      kinds_start = ap (kind_start file) (readable_accepted file p) ∙ by_test 28 0 (kinds_held file p);
      operands_start = ap (operand_start file) (readable_accepted file p) ∙ by_test (28 + entries_in file) 0 (kinds_held file p);
      kinds = kinds_handed file p;
      operands = operands_handed file p;
      each = entry_handed file p;
    })

pub read_by_parts : ReadByParts
read_by_parts file right =
    let decided = (sizes_decide file (sizes_in file) (entries_in file) (ap (reading_of file) right)).1.1 in
    decided.1 ∙ ap (reading_of file) (sym (parts_checked file (sizes_in file) (entries_in file) decided.0.long))

pub run_by_parts : {M : Type 0} (b : Implementation M Entry) → RunByParts b
run_by_parts b file s n accepted =
    let parts = parts_obeyed file accepted (ap (kind_part file) accepted) (ap (operand_part file) accepted) in (
      sym (parts_outcomes b parts),
      sym (parts_summary b parts),
      λ trace enough. trace_after_run b file trace accepted (trace_fits_lem n (length trace) parts.few enough) ∙ ap (λ os. trace_put os trace) (sym (parts_outcomes b parts)),
    )
