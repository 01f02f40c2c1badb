-- The share sheet of a design: which party planned which block. Renders request 2, in 02. A sheet says of each block what the run's outcomes say of it; that no two entries answer TASK with the same block is a theorem (`Given`).
use Rattle.std.specs.Prelude.{◌≡◌, Bool, false, cond, not, ◌&&◌, ◌||◌, List, [], ◌∷◌, ◌++◌, map, ℕ, ◌+◌, ◌*◌, eqb, ltb, length, get_or, take, Result, Ok, Err}
use Rattle.terms.specs.Kinds.{party_number}
use Rattle.terms.specs.Lists.{concat_map, occurrences, range, range_from}
use Rattle.terms.specs.Outcome.{number_of, value_of}
use Rattle.terms.specs.Sizes.{enough_margin, within}
use Rattle.properties.specs.ExactlyOnce.{number_put}
use Rattle.number.specs.Number.{overwritten}
use Rattle.schedule.specs.Check.{fail_if, first}
use Rattle.schedule.specs.Format.{arrays, encode, sizes_in}
use Rattle.schedule.specs.Reader.{reading_checks}
use Rattle.schedule.specs.Run.{outcomes_in, schedule_in}
use Rattle.share_sheet.specs.Types.{BeginPut, BeginSteal, BeginTake, Block, ClientStore, Drain, Entry, Margin, Moved, Outcome, Room, Size, Sizes, ThiefStep, WorkerStep, Refusal}

-- ── What a sheet says of a block ────────────────────────────────────────────────────────────────────────────────────────────

-- an outcome is TASK, with this block's number
abbrev pub gives : ℕ → Outcome → Bool
gives block o = eqb (number_of o) 17 && eqb (value_of o) block

-- the entries that answered TASK with the block, in their order
abbrev pub giving : ℕ → List Outcome → List ℕ
giving block os = concat_map (λ at. cond (gives block (get_or os at Moved)) (at ∷ []) []) (range (length os))

pub record Share : Type 0 where
  -- 0 for the worker and i + 1 for thief i; 255 for a block that was not given
  pub party : ℕ
  -- the entry that answered TASK; 0 for a block that was not given
  pub entry : ℕ

-- the share, from the entries that answered TASK with the block. Of a sheet that is written there is one at most (`Given`); else the first counts.
abbrev pub share_by : List Entry → List ℕ → Share
share_by es [] = record { party = 255; entry = 0 }
share_by es (at ∷ l) = record { party = party_number (get_or es at Drain); entry = at }

-- the share of a block in a run, by its entries and their outcomes
abbrev pub share_of : List Entry → List Outcome → ℕ → Share
share_of es os block = share_by es (giving block os)

-- ── Its bytes ───────────────────────────────────────────────────────────────────────────────────────────────────────────────

-- the blocks of a design of so many, in their order
abbrev pub blocks : ℕ → List ℕ
blocks count = range_from 1 count

-- How many bytes each number of a sheet has, in the sheet's order: the count one, then the parties and the entries.
abbrev pub sheet_layout : ℕ → List ℕ
sheet_layout count = 1 ∷ arrays count

-- how many bytes it has
abbrev pub sheet_length : ℕ → ℕ
sheet_length count = 1 + 5 * count

-- the party and the entry of each block

abbrev pub parties_of : ℕ → List Entry → List Outcome → List ℕ
parties_of count es os = map (λ b. (share_of es os b).party) (blocks count)

abbrev pub places_of : ℕ → List Entry → List Outcome → List ℕ
places_of count es os = map (λ b. (share_of es os b).entry) (blocks count)

abbrev pub sheet_of : ℕ → List Entry → List Outcome → List ℕ
sheet_of count es os = encode (sheet_layout count) (count ∷ (parties_of count es os ++ places_of count es os))

-- ── Checks ──────────────────────────────────────────────────────────────────────────────────────────────────────────────────

-- an entry is a begin put of a number that is no block's, or one of those used before
abbrev pub wrong_put : ℕ → List ℕ → Entry → Bool
wrong_put count used Drain = false
wrong_put count used ClientStore = false
wrong_put count used (BeginPut x) = not (within 1 count x) || ltb 0 (occurrences x used)
wrong_put count used BeginTake = false
wrong_put count used WorkerStep = false
wrong_put count used (BeginSteal i) = false
wrong_put count used (ThiefStep i) = false

-- the numbers that the first so many entries begin to put, whatever their outcomes are
abbrev pub puts_up_to : ℕ → List Entry → List ℕ
puts_up_to n es = concat_map number_put (take n es)

-- the entry at a place is a begin put whose operand is 0, above the count or used by an earlier begin put
abbrev pub wrong_block : ℕ → List Entry → ℕ → Bool
wrong_block count es at = wrong_put count (puts_up_to at es) (get_or es at Drain)

-- all begin puts: the first wrong one decides
abbrev pub check_blocks : ℕ → List Entry → Result Unit Refusal
check_blocks count es = first (map (λ at. fail_if (wrong_block count es at) (Block at)) (range (length es)))

-- the checks of a schedule that was read, in their order; 7, the count's place for SIZE, follows those of a file's seven sizes
abbrev pub checks_after_reading : Sizes → List Entry → ℕ → ℕ → List (Result Unit Refusal)
checks_after_reading s es count room =
    fail_if (not (within 1 255 count)) (Size 7)
    ∷ fail_if (not (enough_margin s)) Margin
    ∷ check_blocks count es
    ∷ fail_if (ltb room (sheet_length count)) Room
    ∷ []

-- all checks, in their order: the reader's come first
abbrev pub sheet_checks : List ℕ → ℕ → ℕ → List (Result Unit Refusal)
sheet_checks file count room = reading_checks file ++ checks_after_reading (sizes_in file) (schedule_in file) count room

-- ── The answer, and the lent buffer ─────────────────────────────────────────────────────────────────────────────────────────

abbrev pub answer_by : ℕ → Result Unit Refusal → Result ℕ Refusal
answer_by count (Ok _) = Ok (sheet_length count)
answer_by count (Err r) = Err r

-- the answer for a file, a count and a buffer of so many bytes: how many bytes the sheet has, or the refusal
abbrev pub make_sheet : List ℕ → ℕ → ℕ → Result ℕ Refusal
make_sheet file count room = answer_by count (first (sheet_checks file count room))

abbrev pub buffer_if : List ℕ → List ℕ → Result ℕ Refusal → List ℕ
buffer_if new buffer (Ok n) = overwritten 0 new buffer
buffer_if new buffer (Err r) = buffer

-- what the buffer holds afterwards: the sheet and, beyond it, what it held; if refused, all that it held
abbrev pub sheet_after : List ℕ → ℕ → List ℕ → List ℕ
sheet_after file count buffer = buffer_if (sheet_of count (schedule_in file) (outcomes_in file)) buffer (make_sheet file count (length buffer))

-- The length that 02 gives as a number is the layout's. Proved in `proofs/Laws/Sheet.antt`.
abbrev pub SheetLength : Type 0
SheetLength = (count : ℕ) (es : List Entry) (os : List Outcome) → length (sheet_of count es os) ≡ sheet_length count
