-- What is refused, and for what. Renders the checks of request 2, in 02, one by one and without their order; the reader's are those of `schedule`. `Sheet` says which of several faults is told; here stands that what is told is a fault, that what has a fault is
-- refused, that a refusal leaves the lent buffer as it was, and that a sheet leaves what lies beyond it. BLOCK is said a second time here, in other words. Proved in `proofs/Faults.antt`. At the end stands that the first wrong begin put is told, exactly when there is one.
use Rattle.std.specs.Prelude.{◌≡◌, Bool, true, false, cond, not, ◌&&◌, ◌||◌, List, ℕ, ◌<◌, eqb, ltb, length, drop, get_or, Result, Ok, Err}
use Rattle.terms.specs.Kinds.{kind_of, operand_of}
use Rattle.terms.specs.Lists.{all, range}
use Rattle.terms.specs.Refusal.{Refuses, place_of, refusal_in}
use Rattle.terms.specs.Sizes.{enough_margin, within}
use Rattle.schedule.specs.Faults.{faults_of}
use Rattle.schedule.specs.Format.{sizes_in}
use Rattle.schedule.specs.Run.{schedule_in}
use Rattle.share_sheet.specs.Types.{Block, Drain, Entry, Refusal}
use Rattle.share_sheet.specs.Sheet.{check_blocks, sheet_after, make_sheet, sheet_length}

-- the entry at a place is a begin put with this operand
abbrev pub puts_at : List Entry → ℕ → ℕ → Bool
puts_at es x at = eqb (kind_of (get_or es at Drain)) 2 && eqb (operand_of (get_or es at Drain)) x

-- an operand is that of a begin put before a place
abbrev pub put_before : List Entry → ℕ → ℕ → Bool
put_before es x place = not (all (λ at. not (puts_at es x at)) (range place))

-- Whether the entry at a place has the fault BLOCK: it is a begin put, and its operand is 0, above the count, or that of an earlier one.
abbrev pub block_has : ℕ → List Entry → ℕ → Bool
block_has count es place =
    let x = operand_of (get_or es place Drain) in
    eqb (kind_of (get_or es place Drain)) 2 && ((eqb x 0 || ltb count x) || put_before es x place)

-- Whether there is the fault with this number at this place: BLOCK of an entry, MARGIN of the margin, SIZE of the count, or one of the file's; ROOM is a buffer that the sheet does not fit in.
abbrev pub sheet_has : List ℕ → ℕ → ℕ → ℕ → ℕ → Bool
sheet_has file count room number place =
    cond (eqb number 10) (block_has count (schedule_in file) place)
    (cond (eqb number 9) (eqb place 3 && not (enough_margin (sizes_in file)))
    (cond (eqb number 1 && eqb place 7) (not (within 1 255 count)) (faults_of file (ltb room (sheet_length count)) number place)))

-- a sheet is refused only for a fault that there is, and never written where there is one; `share_sheet` promises it
abbrev pub SheetRefusesFaults : Type 0
SheetRefusesFaults = (file : List ℕ) (count room : ℕ) → Refuses (sheet_has file count room) (refusal_in (make_sheet file count room))

-- what is refused leaves the lent buffer as it was
abbrev pub RefusedSheetUntouched : Type 0
RefusedSheetUntouched =
    (file : List ℕ) (count : ℕ) (buffer : List ℕ) (r : Refusal) → make_sheet file count (length buffer) ≡ Err r → sheet_after file count buffer ≡ buffer

-- what lies beyond a sheet that is written stays as it was
abbrev pub BeyondUntouched : Type 0
BeyondUntouched =
    (file : List ℕ) (count : ℕ) (buffer : List ℕ) (n : ℕ) → make_sheet file count (length buffer) ≡ Ok n → drop n (sheet_after file count buffer) ≡ drop n buffer

-- ── The first wrong begin put ───────────────────────────────────────────────────────────────────────────────────────────────

-- a check tells BLOCK of the first entry that has it, exactly when there is one
pub record TellsFirstBlock (count : ℕ) (es : List Entry) (answer : Result Unit Refusal) : Type 0 where
  pub told : (r : Refusal) → answer ≡ Err r → r ≡ Block (place_of r)
  pub here : (r : Refusal) → answer ≡ Err r → block_has count es (place_of r) ≡ true
  pub none_before : (r : Refusal) → answer ≡ Err r → (before : ℕ) → before < place_of r → block_has count es before ≡ false
  pub passed : answer ≡ Ok tt → (place : ℕ) → block_has count es place ≡ false

-- so it is of the blocks' check; proved in `proofs/FirstBlock.antt`
abbrev pub CheckTellsFirstBlock : Type 0
CheckTellsFirstBlock = (count : ℕ) (es : List Entry) → TellsFirstBlock count es (check_blocks count es)
