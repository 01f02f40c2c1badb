-- what the reading is decides, then the checks behind it; a sheet that is written is that of the run
use Rattle.std.proofs.Common.{◌≡◌, ◌∙◌, ℕ, List, length, ap, sym, Result, Err}
use Rattle.std.proofs.lemmas.Result.{err_from_is_err_and}
use Rattle.number.specs.Number.{overwritten}
use Rattle.schedule.specs.Check.{first}
use Rattle.schedule.specs.Run.{outcomes_in, schedule_in}
use Rattle.share_sheet.specs.Filling.{AcceptedFrom, entries}
use Rattle.share_sheet.specs.Sheet.{answer_by, buffer_if, checks_after_reading, make_sheet, sheet_of}
use Rattle.share_sheet.specs.Types.{Accepted, Refusal}
use Rattle.share_sheet.proofs.Faults.{sheet_refuses, sheet_tells}
use Rattle.share_sheet.proofs.Laws.Sheet.{behind_decides, file_decides}
use Rattle.share_sheet.proofs.sheet.share_sheet.Goals as goal

-- of an accepted file, what the checks behind found decides
decided : (file : List ℕ) (count room : ℕ) {a : Accepted} {found told : Result Unit Refusal} → AcceptedFrom file a → found ≡ first (checks_after_reading a.sizes (entries a) count room) → found ≡ told
    → answer_by count told ≡ make_sheet file count room
decided file count room {a} from finds is =
    sym (behind_decides file count room a.sizes _ from.read ∙ ap (answer_by count) (ap (λ es. first (checks_after_reading a.sizes es count room)) (sym from.same_entries) ∙ sym finds ∙ is))

pub returns-in_err-schedule-clause-refuses : goal.returns-in_err-schedule-clause-refuses
returns-in_err-schedule-clause-refuses c =
    let failed = err_from_is_err_and c.from_residual.result c.from_residual.ensures.1 in
    sheet_refuses c.args.file.now c.args.count (length c.args.sheet.now) c.from_residual.result
    (failed.1 ∙ ap Err failed.2 ∙ sym (file_decides c.args.file.now c.args.count (length c.args.sheet.now) _ c.in_err-schedule.ensures))

pub returns-in_err-check_sheet-clause-value : goal.returns-in_err-check_sheet-clause-value
returns-in_err-check_sheet-clause-value c =
    let failed = err_from_is_err_and c.from_residual-in_err-check_sheet.result c.from_residual-in_err-check_sheet.ensures.1 in
    failed.1 ∙ ap Err failed.2 ∙ decided c.args.file.now c.args.count (length c.args.sheet.now) c.in_ok-schedule.ensures c.check_sheet.ensures c.in_err-check_sheet.was

pub returns-in_err-check_sheet-clause-sheet_after : goal.returns-in_err-check_sheet-clause-sheet_after
returns-in_err-check_sheet-clause-sheet_after c =
    let a = c.args in
    ap (buffer_if (sheet_of a.count (schedule_in a.file.now) (outcomes_in a.file.now)) a.sheet.now) (decided a.file.now a.count (length a.sheet.now) c.in_ok-schedule.ensures c.check_sheet.ensures c.in_err-check_sheet.was)

pub returns-in_err-check_sheet-clause-refuses : goal.returns-in_err-check_sheet-clause-refuses
returns-in_err-check_sheet-clause-refuses c = sheet_refuses c.args.file.now c.args.count (length c.args.sheet.now) c.from_residual-in_err-check_sheet.result (returns-in_err-check_sheet-clause-value c)

-- ── A sheet that is written ─────────────────────────────────────────────────────────────────────────────────────────────────

pub returns-clause-value : goal.returns-clause-value
returns-clause-value c = decided c.args.file.now c.args.count (length c.args.sheet.now) c.in_ok-schedule.ensures c.check_sheet.ensures c.in_ok-check_sheet.was

pub returns-clause-sheet_after : goal.returns-clause-sheet_after
returns-clause-sheet_after c =
    let a = c.args in
    c.put_sheet.ensures
    ∙ (λ i. overwritten 0 (sheet_of a.count (c.in_ok-schedule.ensures.same_entries i) (c.in_ok-schedule.ensures.same_outcomes i)) a.sheet.now)
    ∙ ap (buffer_if (sheet_of a.count (schedule_in a.file.now) (outcomes_in a.file.now)) a.sheet.now) (returns-clause-value c)

pub returns-clause-sheet_tells : goal.returns-clause-sheet_tells
returns-clause-sheet_tells c = sheet_tells c.args.file.now c.args.count c.args.sheet.now _ _ (returns-clause-value c) (returns-clause-sheet_after c)

pub returns-clause-refuses : goal.returns-clause-refuses
returns-clause-refuses c = sheet_refuses c.args.file.now c.args.count (length c.args.sheet.now) _ (returns-clause-value c)
