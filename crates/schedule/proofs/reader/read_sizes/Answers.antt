-- what it decodes is what stands in the file, and its tests are the checks of the sizes in their order
use Rattle.std.proofs.Common.{◌≡◌, ◌∙◌, ◌+◌, ◌*◌, ◌≤◌, ℕ, List, length, ap, sym, Result, Ok, Err}
use Rattle.std.proofs.lemmas.Result.{err_from_is_err_and}
use lib.Dec.{lit<}
use Rattle.terms.proofs.Laws.Tests.{known}
use Rattle.number.specs.Number.{word_at}
use Rattle.schedule.specs.Types.{Refusal, Sizes}
use Rattle.schedule.specs.Check.{check_ranges}
use Rattle.schedule.specs.Format.{entries_in, sizes_in}
use Rattle.schedule.proofs.Laws.Reader.{size_in_at, sizes_accepted, sizes_out_of_range, sizes_short}
use Rattle.schedule.proofs.reader.read_sizes.Goals as goal

-- the number of entries that was decoded is that of the file
entries_read : (file : List ℕ) {n : ℕ} → 28 ≤ length file → n ≡ word_at file 24 → n ≡ entries_in file
entries_read file there decoded = decoded ∙ sym (size_in_at file there 6 (lit< tt))

-- and the check of the sizes is that of the file's
ranges_checked : (file : List ℕ) {s : Sizes} {n : ℕ} {c : Result Unit Refusal} → 28 ≤ length file → s ≡ sizes_in file → n ≡ word_at file 24 → c ≡ check_ranges s n
    → c ≡ check_ranges (sizes_in file) (entries_in file)
ranges_checked file there sizes decoded checks = checks ∙ (λ i. check_ranges (sizes i) (entries_read file there decoded i))

pub returns-in_err-check_ranges : goal.returns-in_err-check_ranges
returns-in_err-check_ranges c =
    let file = c.args.file.now in
    let there : 28 ≤ length file = c.if-file-lt-SIZES_BYTES.false in
    let failed = err_from_is_err_and c.from_residual.result c.from_residual.ensures.1 in
    failed.1
    ∙ ap Err failed.2
    ∙ sym (sizes_out_of_range file there _ (known (ranges_checked file there c.sizes_in-sizes.ensures c.word_at-entries.ensures c.check_ranges.ensures) c.in_err-check_ranges.was))

pub returns-then-file-entries : goal.returns-then-file-entries
returns-then-file-entries c =
    let file = c.args.file.now in
    let there : 28 ≤ length file = c.if-file-lt-SIZES_BYTES.false in
    sym (sizes_short file there (known (ranges_checked file there c.sizes_in-sizes.ensures c.word_at-entries.ensures c.check_ranges.ensures) c.in_ok-check_ranges.was)
    (λ same. c.if-file-entries.true (same ∙ ap (λ n. 28 + 5 * n) (sym (entries_read file there c.word_at-entries.ensures)))))

pub returns : goal.returns
returns c =
    let file = c.args.file.now in
    let there : 28 ≤ length file = c.if-file-lt-SIZES_BYTES.false in
    (λ i. Ok (c.sizes_in-sizes.ensures i, entries_read file there c.word_at-entries.ensures i))
    ∙ sym (sizes_accepted file there (known (ranges_checked file there c.sizes_in-sizes.ensures c.word_at-entries.ensures c.check_ranges.ensures) c.in_ok-check_ranges.was)
    (c.if-file-entries.false ∙ ap (λ n. 28 + 5 * n) (entries_read file there c.word_at-entries.ensures)))
