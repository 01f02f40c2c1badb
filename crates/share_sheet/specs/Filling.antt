-- What the functions that check blocks and fill a sheet promise each other. Nothing here is of the papers: `Sheet` says what a sheet is; that it is filled so is proved in `proofs/Laws`.
use Rattle.std.specs.Prelude.{◌≡◌, Bool, true, false, cond, not, ◌||◌, List, [], ◌∷◌, ℕ, ◌-◌, ◌≤◌, ◌<◌, eqb, length, get_or, set, Result, Ok, Err}
use Rattle.terms.specs.Kinds.{party_number}
use Rattle.terms.specs.Sizes.{within}
use Rattle.schedule.specs.Trace.{line_in, line_of, trace_length}
use Rattle.schedule.specs.Format.{words_in}
use Rattle.schedule.specs.Reader.{read_file}
use Rattle.schedule.specs.Run.{entries_of, outcomes_from, outcomes_in, schedule_in}
use Rattle.share_sheet.specs.Types.{Accepted, Drain, Entry, Moved, Outcome, Refusal}
use Rattle.share_sheet.specs.Sheet.{gives}

-- ── An accepted file ────────────────────────────────────────────────────────────────────────────────────────────────────────

-- its entries, and their outcomes

abbrev pub entries : Accepted → List Entry
entries a = entries_of a.sizes a.kinds.now (words_in a.operands.now)

abbrev pub outcomes : Accepted → List Outcome
outcomes a = outcomes_from a.sizes a.kinds.now (words_in a.operands.now)

-- it is the file with these bytes
pub record AcceptedFrom (file : List ℕ) (a : Accepted) : Type 0 where
  pub read : read_file file ≡ Ok (a.sizes, length a.kinds.now)
  pub same_entries : entries a ≡ schedule_in file
  pub same_outcomes : outcomes a ≡ outcomes_in file

-- what reading the file with these bytes hands on
abbrev pub ReadAs : List ℕ → Result Accepted Refusal → Type 0
ReadAs file (Ok a) = AcceptedFrom file a
ReadAs file (Err r) = read_file file ≡ Err r

-- ── Which blocks are used ───────────────────────────────────────────────────────────────────────────────────────────────────

-- whether the number that an entry begins to put, in a list of at most one, is wrong, by marks that say which numbers are used
abbrev pub wrong_by_marks : ℕ → List Bool → List ℕ → Bool
wrong_by_marks count marks [] = false
wrong_by_marks count marks (x ∷ l) = not (within 1 count x) || get_or marks x false

-- the marks with that number's
abbrev pub marked : List ℕ → List Bool → List Bool
marked [] marks = marks
marked (x ∷ l) marks = set marks x true

-- ── Who was given which ─────────────────────────────────────────────────────────────────────────────────────────────────────

-- a list with one number for each block, after an outcome with this number and value: TASK sets that of its block
abbrev pub noted : ℕ → ℕ → ℕ → List ℕ → List ℕ
noted number block what l = cond (eqb number 17) (set l (block - 1) what) l

-- the lines of a trace of so many entries are those of these outcomes
pub record TraceOf (entries : ℕ) (os : List Outcome) (trace : List ℕ) : Type 0 where
  pub long : trace_length entries ≤ length trace
  pub lines : (at : ℕ) → at < entries → line_in entries trace at ≡ line_of (get_or os at Moved)

-- every entry's party fits a byte
abbrev pub PartiesFit : List Entry → Type 0
PartiesFit es = (at : ℕ) → party_number (get_or es at Drain) < 256

-- each TASK gives one of so many blocks, and no two give the same
pub record GivenOnce (count : ℕ) (os : List Outcome) : Type 0 where
  pub block : (at x : ℕ) → at < length os → gives x (get_or os at Moved) ≡ true → within 1 count x ≡ true
  pub once : (at other x : ℕ) → at < length os → other < length os → gives x (get_or os at Moved) ≡ true → gives x (get_or os other Moved) ≡ true → at ≡ other
