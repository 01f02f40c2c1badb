-- What an exported function answers, and what lent memory holds afterwards. Numbers and places are those of "The numbers, by who can cause them" in the scope paper, 01.
use Rattle.std.specs.Prelude.{Bool, true, false, cond, List, [], ◌∷◌, ℕ, ◌+◌, ◌*◌, ◌%◌, ltb, length, Result, Ok, Err}
use Rattle.terms.specs.Refusal.{number_of, place_of}
use Rattle.schedule.specs.Reader.{read_file, refusal_of}
use Rattle.schedule.specs.Run.{run_file_on, trace_after_on}
use Rattle.number.specs.Number.{word_put}
use Rattle.exports.specs.Types.{First, Queue, Refusal, RefusedFile, Room, Second, Sizes, Summary}

-- a refusal as one number of 64 bits: its number in the upper half, and in the lower the 32 lowest bits of its place. Places are below 4,096, so that is the place.
abbrev pub refusal_answer : Refusal → ℕ
refusal_answer r = number_of r * 4294967296 + place_of r % 4294967296

-- a number, as how many bytes a file or a sheet has, or the refusal
abbrev pub result_answer : Result ℕ Refusal → ℕ
result_answer (Ok n) = n
result_answer (Err r) = refusal_answer r

-- what was written, and a sheet that was made
abbrev pub writing_answer : Result ℕ Refusal → ℕ
writing_answer r = result_answer r

abbrev pub sheet_answer : Result ℕ Refusal → ℕ
sheet_answer r = result_answer r

-- numbers put one behind the other into lent bytes, four bytes each, the least significant first; the functions below see to it that all fit
abbrev pub words_put : ℕ → List ℕ → List ℕ → List ℕ
words_put at [] bytes = bytes
words_put at (n ∷ ns) bytes = words_put (at + 4) ns (word_put at n bytes)

-- ── Reading ─────────────────────────────────────────────────────────────────────────────────────────────────────────────────

abbrev pub too_few : ℕ → List ℕ → Bool
too_few needed bytes = ltb (length bytes) needed

-- the number of entries, or the refusal; 24 bytes are to be lent for the sizes
abbrev pub reading_answer : Result (Sizes × ℕ) Refusal → List ℕ → ℕ
reading_answer (Ok (s, entries)) bytes = cond (too_few 24 bytes) (refusal_answer Room) entries
reading_answer (Err r) bytes = refusal_answer r

-- six sizes in the order of the file, as written there
abbrev pub sizes_put : Sizes → List ℕ → List ℕ
sizes_put s bytes = words_put 0 (s.slots ∷ s.buffer ∷ s.spacing ∷ s.margin ∷ s.thieves ∷ s.start ∷ []) bytes

-- what the bytes that are lent for the sizes hold afterwards
abbrev pub sizes_after : Result (Sizes × ℕ) Refusal → List ℕ → List ℕ
sizes_after (Ok (s, entries)) bytes = cond (too_few 24 bytes) bytes (sizes_put s bytes)
sizes_after (Err r) bytes = bytes

-- ── Running ─────────────────────────────────────────────────────────────────────────────────────────────────────────────────

-- the answer of a queue's run into a trace buffer of so many bytes; 16 bytes are to be lent for the totals, or nothing is run
abbrev pub run_into : Queue → List ℕ → ℕ → List ℕ → Result Summary Refusal
run_into q file room totals = cond (too_few 16 totals) (Err (refusal_of (read_file file))) (run_file_on q file room)

-- 0, or the refusal
abbrev pub running_answer : Result Summary Refusal → ℕ
running_answer (Ok t) = 0
running_answer (Err r) = refusal_answer r

-- four numbers in the order of the program's last line: three totals, and beside them how far memory lagged at most
abbrev pub summary_put : Summary → List ℕ → List ℕ
summary_put t bytes = words_put 0 (t.tally.given ∷ t.tally.aborts ∷ t.tally.waits ∷ t.hidden ∷ []) bytes

-- what the bytes that are lent for the totals hold afterwards, and what the trace buffer does
abbrev pub totals_after : Result Summary Refusal → List ℕ → List ℕ
totals_after (Ok t) bytes = summary_put t bytes
totals_after (Err r) bytes = bytes

abbrev pub trace_into : Queue → List ℕ → List ℕ → List ℕ → List ℕ
trace_into q file trace totals = cond (too_few 16 totals) trace (trace_after_on q file trace)

-- ── Comparing ───────────────────────────────────────────────────────────────────────────────────────────────────────────────

-- 1 for alike, 0 for not alike, or the refusal of the file that decides
abbrev pub likeness_answer : Result Bool RefusedFile → ℕ
likeness_answer (Ok true) = 1
likeness_answer (Ok false) = 0
likeness_answer (Err (First r)) = refusal_answer r
likeness_answer (Err (Second r)) = refusal_answer r
