-- Answers and lent memory by example, as one table over the definitions: refusals as numbers of 64 bits, sizes and totals put into lent bytes, what a refused file and too few bytes leave as it was, and which of two refusals is told.
-- `proofs/Answers.antt` proves one fact: every row holds.
use Rattle.std.specs.Prelude.{Bool, ◌&&◌, List, [], ◌∷◌, ◌++◌, ℕ, eqb, length, take}
use Rattle.terms.specs.Lists.{equal}
use Rattle.terms.specs.Sizes.{sized}
use Rattle.terms.specs.declared.refusal.Refusal.TheVariants.{Size, Short, Kind, Who, Margin, Block}
use Rattle.schedule.specs.Edges.{different, different_file, example, example_file, example_operands}
use Rattle.schedule.specs.Format.{size_bytes}
use Rattle.schedule.specs.Reader.{read_file}
use Rattle.schedule.specs.Runs.{before, drains, example_trace, file, two_takes_and_a_steal}
use Rattle.comparison.specs.Alike.{likeness}
use Rattle.share_sheet.specs.Sheet.{sheet_after, make_sheet}
use Rattle.share_sheet.specs.Sheets.{design, design_sheet, enough}
use Rattle.writer.specs.Writer.{write_file}
use Rattle.exports.specs.Types.{FfCl, FfThe, Queue, Refusal, Room, Sizes}
use Rattle.exports.specs.Answer.{likeness_answer, reading_answer, refusal_answer, run_into, running_answer, sheet_answer, sizes_after, totals_after, trace_into, writing_answer}

pub data Row : Type 0 where
  -- a refusal, and the number that is answered
  answers : Refusal → ℕ → Row
  -- a file, bytes lent for its sizes, what is answered, and what the bytes hold afterwards
  reads : (file bytes : List ℕ) (answer : ℕ) (after : List ℕ) → Row
  -- a queue, a file, a trace buffer, bytes lent for the totals, what is answered, and what buffer and bytes hold afterwards; of the buffer as many bytes as are given
  runs : Queue → (file trace totals : List ℕ) (answer : ℕ) (begins after : List ℕ) → Row
  -- two files, and what is answered
  compares : (first second : List ℕ) (answer : ℕ) → Row
  -- sizes, arrays and room, and what is answered
  writes : Sizes → (kinds operands : List ℕ) (room answer : ℕ) → Row
  -- a file, a count of blocks and a buffer, what is answered, and what the buffer holds afterwards
  shares : (file : List ℕ) (count : ℕ) (buffer : List ℕ) (answer : ℕ) (after : List ℕ) → Row

abbrev pub holds : Row → Bool
holds (answers r answer) = eqb (refusal_answer r) answer
holds (reads file bytes answer after) = eqb (reading_answer (read_file file) bytes) answer && equal (sizes_after (read_file file) bytes) after
holds (runs q file trace totals answer begins after) =
    eqb (running_answer (run_into q file (length trace) totals)) answer
    && equal (take (length begins) (trace_into q file trace totals)) begins
    && equal (totals_after (run_into q file (length trace) totals) totals) after
holds (compares first second answer) = eqb (likeness_answer (likeness first second)) answer
holds (writes s kinds operands room answer) = eqb (writing_answer (write_file s kinds operands room)) answer
holds (shares file count buffer answer after) = eqb (sheet_answer (make_sheet file count (length buffer))) answer && equal (sheet_after file count buffer) after

-- four small numbers in sixteen bytes
abbrev pub four_words : ℕ → ℕ → ℕ → ℕ → List ℕ
four_words a b c d = a ∷ 0 ∷ 0 ∷ 0 ∷ b ∷ 0 ∷ 0 ∷ 0 ∷ c ∷ 0 ∷ 0 ∷ 0 ∷ d ∷ 0 ∷ 0 ∷ 0 ∷ []

abbrev pub table : List Row
table =
    -- the number in the upper half, the place in the lower
    answers (Size 6) 4294967302
    ∷ answers Short 8589934592
    ∷ answers (Kind 1) 12884901889
    ∷ answers (Who 4095) 17179873279
    ∷ answers Room 34359738368
    ∷ answers Margin 38654705667
    ∷ answers (Block 4095) 42949677055
    -- six sizes in 24 bytes, and nothing in fewer; a fault of the file comes first
    ∷ reads example_file (before 26) 6 (take 24 example_file ++ before 2)
    ∷ reads different_file (before 24) 0 (take 24 different_file)
    ∷ reads (size_bytes (sized 4 2 0 0 1 0) 0) (before 24) 0 (take 24 (size_bytes (sized 4 2 0 0 1 0) 0))
    ∷ reads example_file (before 23) 34359738368 (before 23)
    ∷ reads (example_file ++ (0 ∷ [])) (before 24) 8589934592 (before 24)
    ∷ reads [] (before 23) 8589934592 (before 23)
    -- three totals and how far memory lagged in 16 bytes, and nothing in fewer; what is refused leaves trace and totals
    ∷ runs FfThe example_file (before 34) (before 17) 0 (6 ∷ 0 ∷ 0 ∷ 0 ∷ []) (four_words 0 0 1 0 ++ before 1)
    ∷ runs FfThe example_file (before 36) (before 17) 0 (example_trace ++ before 2) (four_words 0 0 1 0 ++ before 1)
    ∷ runs FfThe (file (sized 4 2 0 1 1 0) two_takes_and_a_steal) (before 139) (before 16) 0 (27 ∷ 0 ∷ 0 ∷ 0 ∷ []) (four_words 3 0 0 2)
    ∷ runs FfThe (file (sized 4 2 0 2 1 0) (two_takes_and_a_steal ++ drains)) (before 149) (before 16) 0 (29 ∷ 0 ∷ 0 ∷ 0 ∷ []) (four_words 2 1 0 2)
    ∷ runs FfThe example_file (before 34) (before 15) 34359738368 (before 4) (before 15)
    ∷ runs FfThe example_file (before 33) (before 16) 34359738368 (before 4) (before 16)
    ∷ runs FfThe [] (before 34) (before 16) 8589934592 (before 4) (before 16)
    ∷ runs FfThe [] (before 34) (before 15) 8589934592 (before 4) (before 15)
    -- so it is for FF-CL, whose second take here has to wait for drains
    ∷ runs FfCl example_file (before 36) (before 17) 0 (example_trace ++ before 2) (four_words 0 0 1 0 ++ before 1)
    ∷ runs FfCl (file (sized 4 2 0 1 1 0) two_takes_and_a_steal) (before 139) (before 16) 0 (27 ∷ 0 ∷ 0 ∷ 0 ∷ []) (four_words 2 0 1 2)
    ∷ runs FfCl example_file (before 34) (before 15) 34359738368 (before 4) (before 15)
    ∷ runs FfCl example_file (before 33) (before 16) 34359738368 (before 4) (before 16)
    ∷ runs FfCl [] (before 34) (before 16) 8589934592 (before 4) (before 16)
    -- alike, not alike, and refused, the first file first
    ∷ compares example_file example_file 1
    ∷ compares example_file different_file 0
    ∷ compares [] (size_bytes (sized 4 65 0 1 1 0) 0) 8589934592
    ∷ compares example_file (size_bytes (sized 4 65 0 1 1 0) 0) 4294967297
    -- how long the file is, or the refusal
    ∷ writes example (2 ∷ 4 ∷ 4 ∷ 4 ∷ 0 ∷ 4 ∷ []) example_operands 58 58
    ∷ writes different [] [] 27 34359738368
    ∷ writes example (0 ∷ 7 ∷ []) (0 ∷ 0 ∷ []) 38 12884901889
    -- how long the sheet is, or the refusal
    ∷ shares (file enough design) 5 (before 27) 26 (design_sheet ++ before 1)
    ∷ shares (file enough design) 5 (before 25) 34359738368 (before 25)
    ∷ shares (file enough design) 256 (before 26) 4294967303 (before 26)
    ∷ shares [] 0 [] 8589934592 []
    ∷ []
