-- Runs, as one table over the definitions: the example of "The program's lines", the last line of "Rehearsals" with its trace, M2 and M3 as traces, every outcome in the bytes of a trace, rooms one byte short, refusals in their order, parts that nobody has checked, how far memory lagged, and each outcome counted, also at the largest total. `proofs/Runs.antt` proves one fact: every row holds.
use Rattle.std.specs.Prelude.{Bool, true, false, not, ◌&&◌, List, [], ◌∷◌, ◌++◌, map, ℕ, eqb, replicate, Result, Ok, Err}
use Rattle.terms.specs.declared.outcome.Outcome.TheVariants.{Moved, Place, Early, Wait, Stored, Task, Empty, Abort, Full, End}
use Rattle.terms.specs.Lists.{equal}
use Rattle.terms.specs.Outcome.{number_of}
use Rattle.terms.specs.Tally.{counted}
use Rattle.machine.specs.Machine.{fresh}
use Rattle.schedule.specs.Types.{Outcome, Refusal, Sizes, Summary, Tally}
use Rattle.schedule.specs.Types.{BeginPut, BeginSteal, BeginTake, ClientStore, Drain, Entry, ThiefStep, WorkerStep}
use Rattle.terms.specs.Sizes.{sized}
use Rattle.terms.specs.Refusal.{refused_by}
use Rattle.schedule.specs.Edges.{example_file, file_with}
use Rattle.terms.specs.Kinds.{kind_of, operand_of}
use Rattle.schedule.specs.Format.{file_of, words_in}
use Rattle.schedule.specs.Run.{after_steps, hidden_of_steps, outcomes_from, outcomes_of_steps, run_file, summary_from, trace_after, trace_put}
use Rattle.schedule.specs.Trace.{trace_fits}

-- ── Rows ────────────────────────────────────────────────────────────────────────────────────────────────────────────────────

pub data Row : Type 0 where
  -- a file that is run with a buffer of so many bytes: what the buffer holds afterwards, and what is told, the totals and how far memory lagged
  runs : (file : List ℕ) (room : ℕ) (after : List ℕ) (given aborts waits hidden : ℕ) → Row
  -- a file that is not run, with number and place; the buffer, of so many bytes, holds what it held
  declines : (file : List ℕ) (room number place : ℕ) → Row
  -- sizes, kinds and operands' bytes that are obeyed without a check: what the buffer holds afterwards, and what is told
  obeys : Sizes → (kinds operands : List ℕ) (room : ℕ) (after : List ℕ) (given aborts waits hidden : ℕ) → Row
  -- a trace of so many entries, and whether it fits so many bytes
  fits : (entries room : ℕ) → Bool → Row
  -- steps from the fresh machine and these totals: the outcomes' numbers, the numbers that are handed on, and the totals afterwards
  steps : Sizes → Tally → List Entry → (numbers hidden : List ℕ) → Tally → Row
  -- totals with one outcome more
  counts : Tally → Outcome → Tally → Row

abbrev pub equal_totals : Tally → Tally → Bool
equal_totals t u = eqb t.given u.given && eqb t.aborts u.aborts && eqb t.waits u.waits

abbrev pub totals : ℕ → ℕ → ℕ → Tally
totals given aborts waits = record { given = given; aborts = aborts; waits = waits }

abbrev pub tells : Summary → ℕ → ℕ → ℕ → ℕ → Bool
tells t given aborts waits hidden = equal_totals t.tally (totals given aborts waits) && eqb t.hidden hidden

abbrev pub is_run : ℕ → ℕ → ℕ → ℕ → Result Summary Refusal → Bool
is_run given aborts waits hidden (Ok t) = tells t given aborts waits hidden
is_run given aborts waits hidden (Err r) = false

abbrev pub is_not_run : ℕ → ℕ → Result Summary Refusal → Bool
is_not_run number place (Ok t) = false
is_not_run number place (Err r) = refused_by r number place

-- a buffer before it is lent; no file, trace or sheet of a table has a byte 170
abbrev pub before : ℕ → List ℕ
before room = replicate room 170

abbrev pub holds : Row → Bool
holds (runs file room after given aborts waits hidden) =
    is_run given aborts waits hidden (run_file file room) && equal (trace_after file (before room)) after
holds (declines file room number place) = is_not_run number place (run_file file room) && equal (trace_after file (before room)) (before room)
holds (obeys s kinds operands room after given aborts waits hidden) =
    tells (summary_from s kinds (words_in operands)) given aborts waits hidden && equal (trace_put (outcomes_from s kinds (words_in operands)) (before room)) after
holds (fits entries room true) = trace_fits entries room
holds (fits entries room false) = not (trace_fits entries room)
holds (steps s t es numbers hidden after) =
    equal (map number_of (outcomes_of_steps (fresh s) t es)) numbers && equal (hidden_of_steps (fresh s) t es) hidden && equal_totals (after_steps (fresh s) t es).1 after
holds (counts t o after) = equal_totals (counted t o) after

-- ── Files and parts of traces ───────────────────────────────────────────────────────────────────────────────────────────────

-- the file of a schedule
abbrev pub file : Sizes → List Entry → List ℕ
file s es = file_of s (map kind_of es) (map operand_of es)

-- a put that need not wait, and the drains of its two stores
abbrev pub put : ℕ → List Entry
put x = BeginPut x ∷ WorkerStep ∷ WorkerStep ∷ WorkerStep ∷ []

abbrev pub drains : List Entry
drains = Drain ∷ Drain ∷ []

-- a take of a task that is not the last one
abbrev pub take : List Entry
take = BeginTake ∷ WorkerStep ∷ WorkerStep ∷ WorkerStep ∷ []

abbrev pub steal : ℕ → List Entry
steal i = BeginSteal i ∷ replicate 6 (ThiefStep i)

-- the values of so many entries that gave no task
abbrev pub no_task : ℕ → List ℕ
no_task n = replicate n 0 ++ replicate n 0 ++ replicate n 0 ++ replicate n 0

-- ── The rows ────────────────────────────────────────────────────────────────────────────────────────────────────────────────

-- the trace of the example of "The program's lines"
abbrev pub example_trace : List ℕ
example_trace = (6 ∷ 0 ∷ 0 ∷ 0 ∷ []) ++ (0 ∷ 0 ∷ 0 ∷ 7 ∷ 0 ∷ 16 ∷ []) ++ no_task 6

-- M2 and M3, which differ in the margin: the thief gets 11 once more, or ABORT
abbrev pub two_takes_and_a_steal : List Entry
two_takes_and_a_steal = put 11 ++ drains ++ put 12 ++ drains ++ take ++ take ++ steal 0

abbrev pub two_takes : List ℕ
two_takes = (27 ∷ 0 ∷ 0 ∷ 0 ∷ []) ++ (0 ∷ 0 ∷ 0 ∷ 16 ∷ 0 ∷ 0 ∷ 0 ∷ 0 ∷ 0 ∷ 16 ∷ 0 ∷ 0 ∷ 0 ∷ 0 ∷ 0 ∷ 17 ∷ 0 ∷ 0 ∷ 0 ∷ 17 ∷ [])

abbrev pub two_taken : List ℕ
two_taken = no_task 15 ++ (12 ∷ 0 ∷ 0 ∷ 0 ∷ []) ++ no_task 3 ++ (11 ∷ 0 ∷ 0 ∷ 0 ∷ []) ++ no_task 6

-- every outcome but FULL, and a task whose number has four different bytes
abbrev pub many_outcomes : List Entry
many_outcomes =
    (WorkerStep ∷ [])
    ++ put 305419896
    ++ (BeginPut 1 ∷ WorkerStep ∷ [])
    ++ (Drain ∷ Drain ∷ Drain ∷ [])
    ++ steal 0
    ++ take
    ++ (BeginTake ∷ ClientStore ∷ ClientStore ∷ BeginTake ∷ WorkerStep ∷ Drain ∷ Drain ∷ [])
    ++ (WorkerStep ∷ WorkerStep ∷ WorkerStep ∷ Drain ∷ WorkerStep ∷ WorkerStep ∷ WorkerStep ∷ WorkerStep ∷ Drain ∷ WorkerStep ∷ [])

abbrev pub many_numbers : List ℕ
many_numbers =
    (5 ∷ [])
    ++ (0 ∷ 0 ∷ 0 ∷ 16 ∷ [])
    ++ (0 ∷ 21 ∷ [])
    ++ (0 ∷ 0 ∷ 7 ∷ [])
    ++ (0 ∷ 0 ∷ 0 ∷ 0 ∷ 0 ∷ 0 ∷ 19 ∷ [])
    ++ (0 ∷ 0 ∷ 0 ∷ 17 ∷ [])
    ++ (6 ∷ 0 ∷ 7 ∷ 0 ∷ 7 ∷ 0 ∷ 0 ∷ [])
    ++ (0 ∷ 0 ∷ 7 ∷ 0 ∷ 0 ∷ 0 ∷ 0 ∷ 7 ∷ 0 ∷ 18 ∷ [])

-- the outcomes of two puts, each drained, of two takes, and of the drains of these
abbrev pub taken_and_drained : List ℕ
taken_and_drained = 0 ∷ 0 ∷ 0 ∷ 16 ∷ 0 ∷ 0 ∷ 0 ∷ 0 ∷ 0 ∷ 16 ∷ 0 ∷ 0 ∷ 0 ∷ 0 ∷ 0 ∷ 17 ∷ 0 ∷ 0 ∷ 0 ∷ 17 ∷ 0 ∷ 0 ∷ []

abbrev pub ran_rows : List Row
ran_rows =
    runs example_file 34 example_trace 0 0 1 0
    ∷ runs example_file 37 (example_trace ++ before 3) 0 0 1 0
    ∷ declines example_file 33 8 0
    ∷ declines example_file 0 8 0
    ∷ runs (file (sized 4 1 0 1 1 0) []) 4 (0 ∷ 0 ∷ 0 ∷ 0 ∷ []) 0 0 0 0
    ∷ declines (file (sized 4 1 0 1 1 0) []) 3 8 0
    ∷ runs (file (sized 4 2 0 1 1 0) two_takes_and_a_steal) 139 (two_takes ++ (0 ∷ 0 ∷ 0 ∷ 0 ∷ 0 ∷ 0 ∷ 17 ∷ []) ++ two_taken ++ (11 ∷ 0 ∷ 0 ∷ 0 ∷ [])) 3 0 0 2
    ∷ runs (file (sized 4 2 0 2 1 0) two_takes_and_a_steal) 139 (two_takes ++ (0 ∷ 0 ∷ 0 ∷ 0 ∷ 0 ∷ 0 ∷ 19 ∷ []) ++ two_taken ++ no_task 1) 2 1 0 2
    ∷ runs (file (sized 4 2 0 0 1 0) two_takes_and_a_steal) 139 (two_takes ++ (0 ∷ 0 ∷ 0 ∷ 0 ∷ 0 ∷ 0 ∷ 19 ∷ []) ++ two_taken ++ no_task 1) 2 1 0 2
    ∷ runs (file (sized 2 2 1 0 1 2147483646) many_outcomes) 194
    ((38 ∷ 0 ∷ 0 ∷ 0 ∷ []) ++ many_numbers ++ no_task 20 ++ (120 ∷ 86 ∷ 52 ∷ 18 ∷ []) ++ no_task 17) 1 1 5 1
    ∷ runs (file (sized 2 2 0 2 1 0) (put 1 ++ drains ++ (BeginPut 2 ∷ WorkerStep ∷ []))) 44
    ((8 ∷ 0 ∷ 0 ∷ 0 ∷ []) ++ (0 ∷ 0 ∷ 0 ∷ 16 ∷ 0 ∷ 0 ∷ 0 ∷ 20 ∷ []) ++ no_task 8) 0 0 0 0
    ∷ runs (file (sized 4 1 0 1 2 0) (BeginSteal 0 ∷ BeginSteal 1 ∷ BeginSteal 0 ∷ [])) 19 ((3 ∷ 0 ∷ 0 ∷ 0 ∷ []) ++ (0 ∷ 0 ∷ 5 ∷ []) ++ no_task 3) 0 0 0 0
    ∷ runs (file (sized 4 1 0 1 1 0) (replicate 256 Drain)) 1284 ((0 ∷ 1 ∷ 0 ∷ 0 ∷ []) ++ replicate 256 7 ++ no_task 256) 0 0 256 0
    -- the largest number is the last
    ∷ runs (file (sized 4 1 0 1 1 0) (BeginTake ∷ WorkerStep ∷ [])) 14 ((2 ∷ 0 ∷ 0 ∷ 0 ∷ []) ++ (0 ∷ 0 ∷ []) ++ no_task 2) 0 0 0 1
    -- .. or neither the first nor the last
    ∷ runs (file (sized 4 2 0 1 1 0) (put 11 ++ drains ++ put 12 ++ drains ++ take ++ take ++ drains)) 114
    ((22 ∷ 0 ∷ 0 ∷ 0 ∷ []) ++ taken_and_drained ++ no_task 15 ++ (12 ∷ 0 ∷ 0 ∷ 0 ∷ []) ++ no_task 3 ++ (11 ∷ 0 ∷ 0 ∷ 0 ∷ []) ++ no_task 2) 2 0 0 2
    ∷ declines [] 0 2 0
    ∷ declines (file (sized 4 65 0 1 1 0) []) 0 1 1
    ∷ declines (file (sized 4 1 0 1 1 0) (ThiefStep 0 ∷ ThiefStep 1 ∷ [])) 0 4 1
    ∷ declines (example_file ++ (0 ∷ [])) 100 2 0
    ∷ declines (file_with (sized 4 1 0 1 1 0) (7 ∷ []) (0 ∷ [])) 0 3 0
    ∷ declines (file_with (sized 4 1 0 1 1 0) (7 ∷ []) (0 ∷ [])) 9 3 0
    ∷ []

-- Parts that nobody has checked: a byte that is no kind, too few operands, too many, sizes out of range; a trace that does not fit, of which nothing is put. The
-- longest trace just fits, and one of more entries never does.
abbrev pub obeyed_rows : List Row
obeyed_rows =
    obeys (sized 4 1 0 1 1 0) (1 ∷ 7 ∷ 0 ∷ []) (replicate 12 0) 19 ((3 ∷ 0 ∷ 0 ∷ 0 ∷ []) ++ (0 ∷ 7 ∷ 0 ∷ []) ++ no_task 3) 0 0 1 0
    ∷ obeys (sized 4 1 0 1 1 0) (1 ∷ 0 ∷ []) (replicate 4 0) 14 ((2 ∷ 0 ∷ 0 ∷ 0 ∷ []) ++ (0 ∷ 7 ∷ []) ++ no_task 2) 0 0 1 0
    ∷ obeys (sized 4 1 0 1 1 0) (1 ∷ []) (replicate 8 0) 10 ((1 ∷ 0 ∷ 0 ∷ 0 ∷ []) ++ (0 ∷ []) ++ no_task 1 ++ before 1) 0 0 0 0
    ∷ obeys (sized 4 65 0 1 1 0) (1 ∷ []) (replicate 4 0) 9 ((1 ∷ 0 ∷ 0 ∷ 0 ∷ []) ++ (7 ∷ []) ++ no_task 1) 0 0 1 0
    ∷ obeys (sized 4 1 0 1 1 0) (0 ∷ []) (replicate 4 0) 8 (before 8) 0 0 1 0
    ∷ obeys (sized 4 1 0 1 1 0) (0 ∷ []) (replicate 4 0) 0 [] 0 0 1 0
    ∷ obeys (sized 4 1 0 1 1 0) (3 ∷ 4 ∷ 0 ∷ []) (replicate 12 0) 0 [] 0 0 0 1
    ∷ obeys (sized 4 65 0 1 1 0) (3 ∷ 4 ∷ []) (replicate 8 0) 0 [] 0 0 2 0
    ∷ fits 4096 20484 true
    ∷ fits 4096 20483 false
    ∷ fits 4097 20489 false
    ∷ fits 0 4 true
    ∷ fits 0 3 false
    ∷ []

-- steps with totals that are not none, also at their largest, and each outcome counted
abbrev pub counted_rows : List Row
counted_rows =
    steps (sized 4 1 0 1 1 0) (totals 5 6 8) (Drain ∷ steal 0) (7 ∷ 0 ∷ 0 ∷ 0 ∷ 0 ∷ 0 ∷ 0 ∷ 19 ∷ []) (replicate 8 0) (totals 5 7 9)
    ∷ steps (sized 4 2 0 2 1 0) (totals 4294967294 6 4294967295) (put 7 ++ drains ++ take ++ (WorkerStep ∷ Drain ∷ Drain ∷ []))
    (0 ∷ 0 ∷ 0 ∷ 16 ∷ 0 ∷ 0 ∷ 0 ∷ 0 ∷ 0 ∷ 17 ∷ 5 ∷ 0 ∷ 7 ∷ []) (replicate 7 0 ++ (1 ∷ 1 ∷ 1 ∷ 1 ∷ 0 ∷ 0 ∷ [])) (totals 4294967295 6 4294967295)
    ∷ steps (sized 4 65 0 1 1 0) (totals 5 6 8) (Drain ∷ BeginTake ∷ []) (7 ∷ 7 ∷ []) (0 ∷ 0 ∷ []) (totals 5 6 10)
    ∷ counts (totals 5 6 8) (Task 3) (totals 6 6 8)
    ∷ counts (totals 5 6 8) Abort (totals 5 7 8)
    ∷ counts (totals 5 6 8) Wait (totals 5 6 9)
    ∷ counts (totals 5 6 8) Moved (totals 5 6 8)
    ∷ counts (totals 5 6 8) Place (totals 5 6 8)
    ∷ counts (totals 5 6 8) Early (totals 5 6 8)
    ∷ counts (totals 5 6 8) Stored (totals 5 6 8)
    ∷ counts (totals 5 6 8) Empty (totals 5 6 8)
    ∷ counts (totals 5 6 8) Full (totals 5 6 8)
    ∷ counts (totals 5 6 8) End (totals 5 6 8)
    ∷ counts (totals 4294967294 4294967294 4294967294) (Task 3) (totals 4294967295 4294967294 4294967294)
    ∷ counts (totals 4294967295 4294967295 4294967295) (Task 3) (totals 4294967295 4294967295 4294967295)
    ∷ counts (totals 4294967295 4294967295 4294967295) Abort (totals 4294967295 4294967295 4294967295)
    ∷ counts (totals 4294967295 4294967295 4294967295) Wait (totals 4294967295 4294967295 4294967295)
    ∷ []

abbrev pub table : List Row
table = ran_rows ++ obeyed_rows ++ counted_rows
