-- What is refused has the fault that is given, and what has a fault is refused; a refusal leaves the lent buffer as it was, and a sheet what lies beyond it.
use Rattle.std.proofs.Common.{Result, Ok, Err}
use mathlib.Core.Path.{◌≡◌, refl, ap, sym, ◌∙◌, subst}
use mathlib.Core.Bool.{Bool, true, false, and-false, not, ◌&&◌, false≢true}
use mathlib.Core.List.{List}
use Prim.Native.Nat.{ℕ, zero, suc, ◌+◌}
use native.Mathlib.Nat.{zero-add}
use lib.Dec.{eqb, ltb}
use lib.ListN.{drop, get_or, length}
use lib.Seq.{drop_at}
use borrow.Author.Tests.{eqb-true, le-ltb}
use Rattle.terms.specs.Refusal.{Refuses, number_of, place_of, refusal_in}
use Rattle.terms.specs.Sizes.{enough_margin, within}
use Rattle.terms.proofs.Laws.Tests.{and_left, and_right, decide, either}
use Rattle.schedule.specs.Check.{first}
use Rattle.schedule.specs.Faults.{faults_of, file_has}
use Rattle.schedule.specs.Format.{entries_in, kinds_in, sizes_in}
use Rattle.schedule.specs.Reader.{read_file}
use Rattle.schedule.specs.Run.{outcomes_in, schedule_in}
use Rattle.schedule.proofs.Faults.{reader_refuses_faults, still_fault}
use Rattle.schedule.proofs.Laws.Check.{fail_if_failed, first_failed}
use Rattle.schedule.proofs.Laws.Reader.{accepted_readable, readable_accepted}
use Rattle.share_sheet.specs.Types.{Margin, Refusal, Room, Size, Sizes}
use Rattle.share_sheet.specs.Faults.{BeyondUntouched, RefusedSheetUntouched, SheetRefusesFaults, sheet_has}
use Rattle.share_sheet.specs.Given.{SheetTells}
use Rattle.share_sheet.specs.Sheet.{buffer_if, checks_after_reading, sheet_after, make_sheet, answer_by, sheet_length, sheet_of}
use Rattle.share_sheet.proofs.FirstBlock.{check_tells_first_block}
use Rattle.share_sheet.proofs.Laws.Sheet.{Fit, behind_decides, file_decides, length-sheet_of, passed_fit, written_length}
use Rattle.share_sheet.proofs.Given.{every_sheet_tells}

module _ (file : List ℕ) (count room : ℕ) where
  abbrev small : Bool
  small = ltb room (sheet_length count)

  -- no file has a fault with a sheet's number, nor one of an eighth size
  no_such : (number place : ℕ) → file_has file number place ≡ true → (k : ℕ) → file_has file k place ≡ (ltb place (length (kinds_in (entries_in file) file)) && false) → eqb number k ≡ true → ⊥
  no_such number place e k none same =
      false≢true (sym (and-false (ltb place (length (kinds_in (entries_in file) file)))) ∙ sym none ∙ subst (λ n. file_has file n place ≡ true) (eqb-true number k same) e)

  -- a fault of the file is one here
  file_fault : (number place : ℕ) → file_has file number place ≡ true → sheet_has file count room number place ≡ true
  file_fault number place e =
      decide (λ b. b ≡ true) (eqb number 10) (λ ten. absurd (no_such number place e 10 refl ten))
      (λ not-ten.
      decide (λ b. b ≡ true) (eqb number 9) (λ nine. absurd (no_such number place e 9 refl nine))
      (λ not-nine. decide (λ b. b ≡ true) (eqb number 1 && eqb place 7) (λ eighth. absurd (no_eighth eighth)) (λ other. still_fault file small number place e)))
    where
      no_eighth : (eqb number 1 && eqb place 7) ≡ true → ⊥
      no_eighth p =
          let one = eqb-true number 1 (and_left (eqb number 1) (eqb place 7) p) in
          let seven = eqb-true place 7 (and_right (eqb number 1) (eqb place 7) p) in
          false≢true (sym ((λ i. file_has file (one i) (seven i))) ∙ e)

  -- what a check behind the reader's failed with is a fault
  behind_fault : (r : Refusal) (i : ℕ) → get_or (checks_after_reading (sizes_in file) (schedule_in file) count room) i (Ok tt) ≡ Err r → sheet_has file count room (number_of r) (place_of r) ≡ true
  behind_fault r zero e = let found = fail_if_failed (not (within 1 255 count)) (Size 7) e in rw (found.1, found.0)
  behind_fault r (suc zero) e = let found = fail_if_failed (not (enough_margin (sizes_in file))) Margin e in rw (found.1, found.0)
  behind_fault r (suc (suc zero)) e =
      let first = check_tells_first_block count (schedule_in file) in
      ap (λ n. sheet_has file count room n (place_of r)) (ap number_of (first.told r e)) ∙ first.here r e
  behind_fault r (suc (suc (suc zero))) e = let found = fail_if_failed small Room e in rw (found.1, found.0)
  behind_fault r (suc (suc (suc (suc i)))) e = cc

  -- what passed all of them has none
  no_fault_lem : first (checks_after_reading (sizes_in file) (schedule_in file) count room) ≡ Ok tt → ((number place : ℕ) → file_has file number place ≡ false) → (number place : ℕ)
      → sheet_has file count room number place ≡ false
  no_fault_lem passed clean number place =
      either (λ b. b ≡ false) (eqb number 10) ((check_tells_first_block count (schedule_in file)).passed fit.right place)
      (either (λ b. b ≡ false) (eqb number 9) (rw (fit.enough, and-false (eqb place 3)))
      (either (λ b. b ≡ false) (eqb number 1 && eqb place 7) (rw fit.inside) (ap (λ b. faults_of file b number place) (le-ltb room (sheet_length count) fit.fits) ∙ clean number place)))
    where
      fit : Fit (sizes_in file) (schedule_in file) count room
      fit = passed_fit (sizes_in file) (schedule_in file) count room passed

pub sheet_refuses_faults : SheetRefusesFaults
sheet_refuses_faults file count room = go (read_file file) refl (reader_refuses_faults file)
  where
    behind : (c : Result Unit Refusal) → first (checks_after_reading (sizes_in file) (schedule_in file) count room) ≡ c → ((number place : ℕ) → file_has file number place ≡ false) → Refuses (sheet_has file count room) (refusal_in (answer_by count c))
    behind (Ok _) passed clean = no_fault_lem file count room passed clean
    behind (Err r) failed clean = let found = first_failed (checks_after_reading (sizes_in file) (schedule_in file) count room) r failed in behind_fault file count room r found.0 found.1.1.0

    go : (answer : Result (Sizes × ℕ) Refusal) → read_file file ≡ answer → Refuses (file_has file) (refusal_in (read_file file)) → Refuses (sheet_has file count room) (refusal_in (make_sheet file count room))
    go (Err r) e faults =
        subst (λ a. Refuses (sheet_has file count room) (refusal_in a)) (sym (file_decides file count room r e))
        (file_fault file count room (number_of r) (place_of r) (subst (λ a. Refuses (file_has file) (refusal_in a)) e faults))
    go (Ok (s, n)) e faults =
        let readable = readable_accepted file (accepted_readable file s n e).1.1 in
        subst (λ a. Refuses (sheet_has file count room) (refusal_in a)) (sym (behind_decides file count room (sizes_in file) (entries_in file) readable))
        (behind (first (checks_after_reading (sizes_in file) (schedule_in file) count room)) refl (subst (λ a. Refuses (file_has file) (refusal_in a)) e faults))

pub refused_sheet_untouched : RefusedSheetUntouched
refused_sheet_untouched file count buffer r e = ap (buffer_if (sheet_of count (schedule_in file) (outcomes_in file)) buffer) e

pub beyond_untouched : BeyondUntouched
beyond_untouched file count buffer n written =
    let new = sheet_of count (schedule_in file) (outcomes_in file) in
    let long : length new ≡ n = length-sheet_of count (schedule_in file) (outcomes_in file) ∙ written_length file count (length buffer) n written in
    ap (λ a. drop n (buffer_if new buffer a)) written ∙ drop_at new (drop (0 + length new) buffer) n long ∙ ap (λ k. drop k buffer) (zero-add (length new) ∙ long)

-- what `share_sheet` promises, of the answer that it hands back and of the buffer

pub sheet_refuses : (file : List ℕ) (count room : ℕ) (answer : Result ℕ Refusal) → answer ≡ make_sheet file count room → Refuses (sheet_has file count room) (refusal_in answer)
sheet_refuses file count room answer told = subst (λ a. Refuses (sheet_has file count room) (refusal_in a)) (sym told) (sheet_refuses_faults file count room)

pub sheet_tells : (file : List ℕ) (count : ℕ) (buffer : List ℕ) (answer : Result ℕ Refusal) (after : List ℕ) → answer ≡ make_sheet file count (length buffer) → after ≡ sheet_after file count buffer
    → SheetTells file count after answer
sheet_tells file count buffer answer after told put n written =
    subst (λ l. SheetTells file count l (make_sheet file count (length buffer))) (sym put) (every_sheet_tells file count buffer) n (sym told ∙ written)
