-- What is true of every sheet that is written, by demand 3. Renders, of request 2 in 02, the sentence that each stored block has one party at most and that every TASK in the trace stands in the sheet. `share_sheet` promises it.
use Rattle.std.specs.Prelude.{◌≡◌, true, List, ℕ, ◌+◌, ◌<◌, length, get_or, take, Result, Ok}
use Rattle.terms.specs.Kinds.{party_number}
use Rattle.terms.specs.Lists.{occurrences}
use Rattle.terms.specs.Sizes.{within}
use Rattle.machine.specs.Linearizable.{ff_the}
use Rattle.properties.specs.ExactlyOnce.{stored}
use Rattle.schedule.specs.Format.{decode, entries_in, sizes_in}
use Rattle.schedule.specs.Run.{outcomes_in, schedule_in}
use Rattle.schedule.specs.Trace.{line_in, trace_of}
use Rattle.share_sheet.specs.Types.{Drain, Refusal}
use Rattle.share_sheet.specs.Sheet.{Share, sheet_after, make_sheet, sheet_layout}

-- the trace of the file's run has TASK with this number at this entry
pub record TaskAt (file : List ℕ) (at block : ℕ) : Type 0 where
  pub there : at < entries_in file
  pub line : line_in (entries_in file) (trace_of (outcomes_in file)) at ≡ record { number = 17; value = block }

-- what the bytes of a sheet of so many blocks say of a block: of the numbers in them, number 0 is the count, number b the party of block b, and number count + b its entry
abbrev pub share_in : ℕ → List ℕ → ℕ → Share
share_in count sheet block = record { party = get_or (decode (sheet_layout count) sheet) block 0; entry = get_or (decode (sheet_layout count) sheet) (count + block) 0 }

-- what holds of a sheet's bytes, for a schedule file and a count of blocks
pub record SheetFacts (file : List ℕ) (count : ℕ) (sheet : List ℕ) : Type 0 where
  -- the sheet begins with the count
  pub counts : get_or (decode (sheet_layout count) sheet) 0 0 ≡ count
  -- every TASK in the trace stands in the sheet: its number is a block, of which the sheet has its party and its entry
  pub stands : (at block : ℕ) → TaskAt file at block
      → (within 1 count block ≡ true) × (share_in count sheet block ≡ record { party = party_number (get_or (schedule_in file) at Drain); entry = at })
  -- no two entries claim one place of the sheet, so that each block that was stored has one party at most
  pub once : (at other block : ℕ) → TaskAt file at block → TaskAt file other block → at ≡ other
  -- a block that the sheet calls not given was never answered, and has no entry
  pub not_given : (block : ℕ) → within 1 count block ≡ true → (share_in count sheet block).party ≡ 255 → (at : ℕ) → TaskAt file at block → ⊥
  pub no_entry : (block : ℕ) → within 1 count block ≡ true → (share_in count sheet block).party ≡ 255 → (share_in count sheet block).entry ≡ 0
  -- a block with a party: the entry that the sheet names answered TASK with it, and it is that party's ..
  pub given : (block : ℕ) → within 1 count block ≡ true → ((share_in count sheet block).party ≡ 255 → ⊥)
      → TaskAt file (share_in count sheet block).entry block × (party_number (get_or (schedule_in file) (share_in count sheet block).entry Drain) ≡ (share_in count sheet block).party)
  -- .. and before that entry the block was put, STORED, and just once
  pub put_before : (block : ℕ) → within 1 count block ≡ true → ((share_in count sheet block).party ≡ 255 → ⊥)
      → occurrences block (stored ff_the (sizes_in file) (take (share_in count sheet block).entry (schedule_in file))) ≡ 1

-- so it is wherever the answer is that a sheet was written
abbrev pub SheetTells : List ℕ → ℕ → List ℕ → Result ℕ Refusal → Type 0
SheetTells file count sheet answer = (n : ℕ) → answer ≡ Ok n → SheetFacts file count sheet

-- Proved in `proofs/Given.antt`.
abbrev pub EverySheetTells : Type 0
EverySheetTells = (file : List ℕ) (count : ℕ) (buffer : List ℕ) → SheetTells file count (sheet_after file count buffer) (make_sheet file count (length buffer))
