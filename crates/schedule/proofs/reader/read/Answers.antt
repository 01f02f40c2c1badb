-- the sizes decide, and behind them the check of the two parts, which are the file's arrays
use Rattle.std.proofs.Common.{◌≡◌, ◌∙◌, ◌+◌, ◌*◌, ℕ, List, ap, sym, Result, Ok, Err}
use Rattle.std.proofs.lemmas.Result.{err_from_is_err_and}
use Rattle.schedule.specs.Types.{Refusal, Sizes}
use Rattle.schedule.specs.Entries.{check_entries, check_parts}
use Rattle.schedule.specs.Format.{entries_in, kinds_in, operands_in, sizes_in}
use Rattle.schedule.specs.Reader.{kind_part, operand_part, read_file, reading_of}
use Rattle.schedule.proofs.Faults.{read_promises}
use Rattle.schedule.proofs.Laws.Reader.{parts_checked, sizes_decide, sizes_read, sizes_refused}
use Rattle.schedule.proofs.reader.read.Goals as goal

-- where the sizes are right, the check of the two parts decides
decided : (file : List ℕ) {s : Sizes} {n : ℕ} {reading : Result (Sizes × ℕ) Refusal} {kinds operands : List ℕ} {checked : Result Unit Refusal}
    → reading ≡ sizes_read file → reading ≡ Ok (s, n)
    → kinds ≡ kind_part file reading → operands ≡ operand_part file reading → checked ≡ check_parts s kinds operands
    → (reading ≡ Ok (sizes_in file, entries_in file)) × (read_file file ≡ reading_of file checked)
decided file {s} {n} sized accepted kinds_are operands_are checks =
    let right = sizes_decide file s n (sym sized ∙ accepted) in
    let long = right.1.1.0.long ∙ ap (λ k. 28 + 5 * k) (sym right.1.0) in
    let checked =
    checks
    ∙ (λ i. check_parts s (kinds_are i) (operands_are i))
    ∙ ap (λ r. check_parts s (kind_part file r) (operand_part file r)) accepted
    ∙ parts_checked file s n long
    ∙ (λ i. check_entries (right.0 i) (kinds_in (right.1.0 i) file) (operands_in (right.1.0 i) file))
    in
    (accepted ∙ (λ i. Ok (right.0 i, right.1.0 i)), right.1.1.1 ∙ ap (reading_of file) (sym checked))

pub returns-in_default-clause-refuses : goal.returns-in_default-clause-refuses
returns-in_default-clause-refuses c =
    let file = c.args.file.now in
    let refused = sizes_refused file _ (sym c.read_sizes-reading.ensures ∙ c.in_default.is) in
    (read_promises file c.read_sizes-reading.result (c.in_default.is ∙ sym refused)).1

pub returns-in_err-check_entries : goal.returns-in_err-check_entries
returns-in_err-check_entries c =
    let file = c.args.file.now in
    let by_parts = decided file c.read_sizes-reading.ensures c.in-Ok.is c.kind_part-kinds.ensures.result_value c.operand_part-operands.ensures.result_value c.check_entries.ensures.value in
    let failed = err_from_is_err_and c.from_residual.result c.from_residual.ensures.1 in
    let p = read_promises file _ (failed.1 ∙ ap Err failed.2 ∙ sym (by_parts.1 ∙ ap (reading_of file) c.in_err-check_entries.was)) in
    record { value = p.0; refuses = p.1 }

pub returns : goal.returns
returns c =
    let file = c.args.file.now in
    let by_parts = decided file c.read_sizes-reading.ensures c.in-Ok.is c.kind_part-kinds.ensures.result_value c.operand_part-operands.ensures.result_value c.check_entries.ensures.value in
    let p = read_promises file _ (by_parts.0 ∙ sym (by_parts.1 ∙ ap (reading_of file) c.in_ok-check_entries.was)) in
    record { value = p.0; refuses = p.1 }
