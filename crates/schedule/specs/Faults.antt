-- What is refused, and for what. Renders 1 to 4, of "The numbers", one by one and without their order, and 8 for a run; the library `writer` has them for what is written. `Reader` and `Run` say which of several faults is told; here stands that what is told is a
-- fault, that what has a fault is refused, and that a refusal leaves the lent buffer as it was. Kinds and operands are said a second time here, in other words; ranges and layout are those of `Check` and `Format`. Proved in `proofs/Faults.antt`. At the end stands that the first faulty entry is told, exactly when there is one.
use Rattle.std.specs.Prelude.{◌≡◌, Bool, true, false, cond, not, ◌&&◌, ◌||◌, List, ℕ, ◌*◌, ◌<◌, eqb, leb, ltb, length, get_or, Result, Ok, Err}
use Rattle.claim.specs.Implementation.{Implementation}
use Rattle.terms.specs.Refusal.{Refuses, number_of, place_of, refusal_in}
use Rattle.schedule.specs.Types.{Entry, Refusal, Short, Sizes}
use Rattle.schedule.specs.Check.{sizes_kept}
use Rattle.schedule.specs.Entries.{check_entries}
use Rattle.schedule.specs.Format.{entries_in, file_length, kinds_in, operands_in, sizes_in, words_in}
use Rattle.schedule.specs.Reader.{read_file}
use Rattle.schedule.specs.Run.{run_file_by, trace_after_by}
use Rattle.schedule.specs.Trace.{trace_length}

-- any number for kind 2, a thief below the number of thieves for 5 and 6, and 0 for the others
abbrev pub operand_allowed : ℕ → ℕ → ℕ → Bool
operand_allowed thieves kind operand = cond (eqb kind 2) true (cond (eqb kind 5 || eqb kind 6) (ltb operand thieves) (eqb operand 0))

-- Whether the entry at a place has the fault with this number: KIND, by its kind alone, or else WHO, by its operand.
abbrev pub entry_has : Sizes → List ℕ → List ℕ → ℕ → ℕ → Bool
entry_has s kinds operands number place =
    ltb place (length kinds)
    && cond (eqb number 3) (ltb 6 (get_or kinds place 0))
    (cond (eqb number 4) (leb (get_or kinds place 0) 6 && not (operand_allowed s.thieves (get_or kinds place 0) (get_or operands place 0))) false)

-- Whether there is the fault with this number at this place. Whether a length is wrong, or the room too small, is handed in: it is one thing for a file and another for a writer.
abbrev pub fault_at : Sizes → ℕ → List ℕ → List ℕ → Bool → Bool → ℕ → ℕ → Bool
fault_at s entries kinds operands wrongLength no_room number place =
    cond (eqb number 1) (not (get_or (sizes_kept s entries) place true))
    (cond (eqb number 2) (eqb place 0 && wrongLength)
    (cond (eqb number 8) (eqb place 0 && no_room) (entry_has s kinds operands number place)))

-- a file: SHORT is a file without room for the seven sizes, or of another length than these say. (Where sizes are missing, their bytes count as 0.)
abbrev pub faults_of : List ℕ → Bool → ℕ → ℕ → Bool
faults_of file =
    fault_at (sizes_in file) (entries_in file) (kinds_in (entries_in file) file) (operands_in (entries_in file) file)
    (ltb (length file) 28 || not (eqb (length file) (file_length (entries_in file))))

-- a file that is only read is never refused for want of room
abbrev pub file_has : List ℕ → ℕ → ℕ → Bool
file_has file = faults_of file false

-- a file that is run: ROOM is a buffer that its trace does not fit in
abbrev pub run_has : List ℕ → ℕ → ℕ → ℕ → Bool
run_has file room = faults_of file (ltb room (trace_length (entries_in file)))

-- `read` and `run` promise of the refusal in their answer that its number and place are those of a fault that there is, and that what is not refused has none (`Refuses`).

-- the reader refuses for a fault that the file has, and accepts no file that has one; and so does whoever runs a file, by whichever queue
abbrev pub ReaderRefusesFaults : Type 0
ReaderRefusesFaults = (file : List ℕ) → Refuses (file_has file) (refusal_in (read_file file))

abbrev pub RunnerRefusesFaults : {M : Type 0} → Implementation M Entry → Type 0
RunnerRefusesFaults b = (file : List ℕ) (room : ℕ) → Refuses (run_has file room) (refusal_in (run_file_by b file room))

-- what is refused leaves the lent buffer as it was
abbrev pub RefusedRunUntouched : {M : Type 0} → Implementation M Entry → Type 0
RefusedRunUntouched b = (file trace : List ℕ) (r : Refusal) → run_file_by b file (length trace) ≡ Err r → trace_after_by b file trace ≡ trace

-- ── The first faulty entry ──────────────────────────────────────────────────────────────────────────────────────────────────

-- the first faulty entry is the one at this place, and its fault has this number
pub record FirstFault (s : Sizes) (kinds operands : List ℕ) (number place : ℕ) : Type 0 where
  pub here : entry_has s kinds operands number place ≡ true
  pub none_before : (other before : ℕ) → before < place → entry_has s kinds operands other before ≡ false

-- A check tells the first faulty entry exactly when there is one. Renders the second sentence of request 3, in 02.
pub record TellsFirstFault (s : Sizes) (kinds operands : List ℕ) (answer : Result Unit Refusal) : Type 0 where
  -- what it tells is the first faulty entry's number and place
  pub told : (r : Refusal) → answer ≡ Err r → FirstFault s kinds operands (number_of r) (place_of r)
  -- the first faulty entry, where there is one, it tells
  pub found : (number place : ℕ) → FirstFault s kinds operands number place → (r : Refusal) × ((answer ≡ Err r) × ((number_of r ≡ number) × (place_of r ≡ place)))
  -- and what it passes has none
  pub passed : answer ≡ Ok tt → (number place : ℕ) → entry_has s kinds operands number place ≡ false

-- so it is of two parallel arrays; proved in `proofs/FirstFault.antt`
abbrev pub CheckTellsFirstFault : Type 0
CheckTellsFirstFault = (s : Sizes) (kinds operands : List ℕ) → length operands ≡ length kinds → TellsFirstFault s kinds operands (check_entries s kinds operands)

-- `check_entries` promises it of two parts that belong together, and to refuse others as SHORT
pub record PartsTellFirstFault (s : Sizes) (kinds bytes : List ℕ) (answer : Result Unit Refusal) : Type 0 where
  pub together : length bytes ≡ 4 * length kinds → TellsFirstFault s kinds (words_in bytes) answer
  pub apart : (length bytes ≡ 4 * length kinds → ⊥) → answer ≡ Err Short
