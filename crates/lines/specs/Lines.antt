-- What is printed for a file, by the program of each queue. Renders "The program's lines" and, of request 4 in 02, what the last line of "rehearse" gains at its end. Programs of later requests print 01's lines as they stand, so that of FF-CL does (request 5).
use Rattle.std.specs.Prelude.{cond, List, [], ◌∷◌, ◌++◌, ℕ, ◌+◌, Result, Ok, Err}
use Rattle.terms.specs.Outcome as outcome
use Rattle.terms.specs.Refusal as refusal
use Rattle.terms.specs.Sizes.{enough_margin, margin_in_use}
use Rattle.schedule.specs.Reader.{read_file}
use Rattle.schedule.specs.Run.{outcomes_in_on, summary_in_on}
use Rattle.lines.specs.Types.{FfCl, FfThe, Outcome, Queue, Refusal, Sizes, Summary, Tally}
use Rattle.lines.specs.Text.{ascii, decimal, line}

-- whether the margin in use is at least the needed one
abbrev pub margin_word : Sizes → List ℕ
margin_word s = cond (enough_margin s) (ascii "enough") (ascii "short")

-- the first line: six sizes, the margin being the one in use, and the word
abbrev pub sizes_line : Sizes → List ℕ
sizes_line s =
    line
    (decimal s.slots
    ∷ decimal s.buffer
    ∷ decimal s.spacing
    ∷ decimal (margin_in_use s)
    ∷ decimal s.thieves
    ∷ decimal s.start
    ∷ margin_word s
    ∷ [])

-- the line of an entry: its number, counted from 0, and its outcome's number and value
abbrev pub entry_line : ℕ → Outcome → List ℕ
entry_line at o = line (decimal at ∷ decimal (outcome.number_of o) ∷ decimal (outcome.value_of o) ∷ [])

-- the lines of all entries from a number on
abbrev pub entry_lines : ℕ → List Outcome → List ℕ
entry_lines at [] = []
entry_lines at (o ∷ os) = entry_line at o ++ entry_lines (at + 1) os

-- the words of 01's last line: three totals
abbrev pub totals_words : Tally → List (List ℕ)
totals_words t = ascii "given" ∷ decimal t.given ∷ ascii "aborts" ∷ decimal t.aborts ∷ ascii "waits" ∷ decimal t.waits ∷ []

-- the last line of "rehearse": these and, at its end, how far memory lagged at most
abbrev pub last_line : Summary → List ℕ
last_line t = line (totals_words t.tally ++ (ascii "hidden" ∷ decimal t.hidden ∷ []))

-- the last line, by the queue that is run
abbrev pub last_line_on : Queue → Summary → List ℕ
last_line_on FfThe t = last_line t
last_line_on FfCl t = line (totals_words t.tally)

-- the only line of a refused file
abbrev pub refusal_line : Refusal → List ℕ
refusal_line r = line (ascii "refused" ∷ decimal (refusal.number_of r) ∷ ascii "place" ∷ decimal (refusal.place_of r) ∷ [])

-- the lines of a queue's run with these outcomes and this summary
abbrev pub run_lines : Queue → Sizes → List Outcome → Summary → List ℕ
run_lines q s os t = sizes_line s ++ entry_lines 0 os ++ last_line_on q t

-- all lines, by the reader's answer
abbrev pub lines_for : Queue → List ℕ → Result (Sizes × ℕ) Refusal → List ℕ
lines_for q file (Ok (s, entries)) = run_lines q s (outcomes_in_on q file) (summary_in_on q file)
lines_for q file (Err r) = refusal_line r

-- what the program of a queue prints for a file
abbrev pub lines_of : Queue → List ℕ → List ℕ
lines_of q file = lines_for q file (read_file file)
