-- A file run, by any queue on its machine, and one step of a run. A name that ends in `By` is of any queue, and one that ends in `On` of the one that is named; the same name without these letters is of FF-THE. Renders "Order" and "Trace", of "The numbers", as far as they are about a run, 8 ROOM, the totals of "The program's lines", and of request 4, in 02, that each entry hands its number on.
use Rattle.std.specs.Prelude.{◌≡◌, cond, false, List, [], ◌∷◌, map, ℕ, ◌<◌, ltb, length, get_or, replicate, Result, Ok, Err}
use Rattle.terms.specs.declared.outcome.Outcome.TheVariants.{Moved, Wait}
use Rattle.terms.specs.Kinds.{kind_of, operand_of}
use Rattle.terms.specs.Tally.{counted, none_counted}
use Rattle.terms.specs.Lists.{range}
use Rattle.terms.specs.Sizes.{sizes_in_range}
use Rattle.claim.specs.Implementation.{Implementation}
use Rattle.claim.specs.Run.{hidden_of, machine_after, outcomes_of}
use Rattle.machine.specs.Linearizable.{ff_the}
use Rattle.cas.specs.Linearizable.{ff_cl}
use Rattle.machine.specs.Machine.{done, fresh}
use Rattle.machine.specs.Obey.{obey}
use Rattle.schedule.specs.Types.{Entry, FfCl, FfThe, Machine, Outcome, Queue, Refusal, Room, Sizes, Stepped, Summary, Tally}
use Rattle.schedule.specs.Entries.{entry_at, entry_to_obey}
use Rattle.schedule.specs.Format.{entries_in, kinds_in, operands_in, sizes_in}
use Rattle.number.specs.Number.{overwritten}
use Rattle.schedule.specs.Reader.{read_file}
use Rattle.schedule.specs.Totals.{summary_by, tally_of}
use Rattle.schedule.specs.Trace.{trace_fits, trace_length, trace_of}

-- ── One step ────────────────────────────────────────────────────────────────────────────────────────────────────────────────

-- an entry obeyed, and the tally brought up to date by its outcome
abbrev pub stepped : Machine → Tally → Entry → Stepped
stepped m t e = record { machine = (obey m e).machine; tally = counted t (obey m e).outcome; outcome = (obey m e).outcome; hidden = (obey m e).hidden }

-- the outcomes and the numbers of one step after the other, and the machine and the totals after the last
abbrev pub outcomes_of_steps : Machine → Tally → List Entry → List Outcome
outcomes_of_steps m t [] = []
outcomes_of_steps m t (e ∷ es) = (stepped m t e).outcome ∷ outcomes_of_steps (stepped m t e).machine (stepped m t e).tally es

abbrev pub hidden_of_steps : Machine → Tally → List Entry → List ℕ
hidden_of_steps m t [] = []
hidden_of_steps m t (e ∷ es) = (stepped m t e).hidden ∷ hidden_of_steps (stepped m t e).machine (stepped m t e).tally es

abbrev pub after_steps : Machine → Tally → List Entry → Machine × Tally
after_steps m t [] = (m, t)
after_steps m t (e ∷ es) = after_steps (stepped m t e).machine (stepped m t e).tally es

-- ── What a file has a queue do ──────────────────────────────────────────────────────────────────────────────────────────────

-- the entries of two arrays, a kind and an operand each, in their order
abbrev pub entries_of : Sizes → List ℕ → List ℕ → List Entry
entries_of s kinds operands = map (λ at. entry_to_obey (entry_at s kinds operands at)) (range (length kinds))

-- the entries of a file
abbrev pub schedule_in : List ℕ → List Entry
schedule_in file = entries_of (sizes_in file) (kinds_in (entries_in file) file) (operands_in (entries_in file) file)

module _ {M : Type 0} (b : Implementation M Entry) where
  -- the outcomes of two arrays, obeyed one by one from the fresh machine; `AnyArraysObeyed`, below, says what comes of sizes and arrays that are not checked
  abbrev pub outcomes_from_by : Sizes → List ℕ → List ℕ → List Outcome
  outcomes_from_by s kinds operands = outcomes_of b (b.fresh s) (entries_of s kinds operands)

  -- .. and what is told of all of them
  abbrev pub summary_from_by : Sizes → List ℕ → List ℕ → Summary
  summary_from_by s kinds operands = summary_by b (b.fresh s) (entries_of s kinds operands)

  -- the outcomes of a file
  abbrev pub outcomes_in_by : List ℕ → List Outcome
  outcomes_in_by file = outcomes_of b (b.fresh (sizes_in file)) (schedule_in file)

  -- .. and what is told of all of them
  abbrev pub summary_in_by : List ℕ → Summary
  summary_in_by file = summary_by b (b.fresh (sizes_in file)) (schedule_in file)

-- a buffer into which the trace of these outcomes is put: at its front, if it fits; else it stays as it was
abbrev pub trace_put : List Outcome → List ℕ → List ℕ
trace_put os buffer = cond (trace_fits (length os) (length buffer)) (overwritten 0 (trace_of os) buffer) buffer

-- ── A run ───────────────────────────────────────────────────────────────────────────────────────────────────────────────────

-- a new trace over what a buffer held, unless the file was refused
abbrev pub trace_if : List ℕ → List ℕ → Result Summary Refusal → List ℕ
trace_if new trace (Ok t) = overwritten 0 new trace
trace_if new trace (Err r) = trace

module _ {M : Type 0} (b : Implementation M Entry) where
  -- the reader's refusals come first, then ROOM
  abbrev pub running_by : List ℕ → ℕ → Result (Sizes × ℕ) Refusal → Result Summary Refusal
  running_by file room (Err r) = Err r
  running_by file room (Ok (s, entries)) = cond (ltb room (trace_length entries)) (Err Room) (Ok (summary_in_by b file))

  -- the answer of running a file, with a trace buffer of so many bytes: the summary, or the refusal
  abbrev pub run_file_by : List ℕ → ℕ → Result Summary Refusal
  run_file_by file room = running_by file room (read_file file)

  -- what the trace buffer holds afterwards: the trace and, beyond it, what it held; if refused, all that it held
  abbrev pub trace_after_by : List ℕ → List ℕ → List ℕ
  trace_after_by file trace = trace_if (trace_of (outcomes_in_by b file)) trace (run_file_by file (length trace))

-- ── Of FF-THE ───────────────────────────────────────────────────────────────────────────────────────────────────────────────

-- the outcomes of two arrays, and what is told of all of them

abbrev pub outcomes_from : Sizes → List ℕ → List ℕ → List Outcome
outcomes_from = outcomes_from_by ff_the

abbrev pub summary_from : Sizes → List ℕ → List ℕ → Summary
summary_from = summary_from_by ff_the

-- the outcomes of a file, and what is told of all of them

abbrev pub outcomes_in : List ℕ → List Outcome
outcomes_in = outcomes_in_by ff_the

abbrev pub summary_in : List ℕ → Summary
summary_in = summary_in_by ff_the

-- the answer of running a file, and what the trace buffer holds afterwards

abbrev pub run_file : List ℕ → ℕ → Result Summary Refusal
run_file = run_file_by ff_the

abbrev pub trace_after : List ℕ → List ℕ → List ℕ
trace_after = trace_after_by ff_the

-- ── Of the queue that is named ──────────────────────────────────────────────────────────────────────────────────────────────

abbrev pub outcomes_from_on : Queue → Sizes → List ℕ → List ℕ → List Outcome
outcomes_from_on FfThe = outcomes_from_by ff_the
outcomes_from_on FfCl = outcomes_from_by ff_cl

abbrev pub summary_from_on : Queue → Sizes → List ℕ → List ℕ → Summary
summary_from_on FfThe = summary_from_by ff_the
summary_from_on FfCl = summary_from_by ff_cl

abbrev pub outcomes_in_on : Queue → List ℕ → List Outcome
outcomes_in_on FfThe = outcomes_in_by ff_the
outcomes_in_on FfCl = outcomes_in_by ff_cl

abbrev pub summary_in_on : Queue → List ℕ → Summary
summary_in_on FfThe = summary_in_by ff_the
summary_in_on FfCl = summary_in_by ff_cl

abbrev pub run_file_on : Queue → List ℕ → ℕ → Result Summary Refusal
run_file_on FfThe = run_file_by ff_the
run_file_on FfCl = run_file_by ff_cl

abbrev pub trace_after_on : Queue → List ℕ → List ℕ → List ℕ
trace_after_on FfThe = trace_after_by ff_the
trace_after_on FfCl = trace_after_by ff_cl

-- ── What a run is ───────────────────────────────────────────────────────────────────────────────────────────────────────────

-- Whoever steps from the fresh machine, with nothing counted, sees the outcomes, the numbers and the totals of the run. Proved in `proofs/Schedules.antt`, as is what follows.
abbrev pub RunBySteps : Type 0
RunBySteps =
    (s : Sizes) (es : List Entry)
    → (outcomes_of_steps (fresh s) none_counted es ≡ outcomes_of ff_the (fresh s) es)
    × (hidden_of_steps (fresh s) none_counted es ≡ hidden_of ff_the (fresh s) es)
    × (after_steps (fresh s) none_counted es ≡ (machine_after ff_the (fresh s) es, tally_of (outcomes_of ff_the (fresh s) es)))

-- where no entry is allowed, every machine of FF-THE answers 7 and stays as it is
abbrev pub NoEntryWaits : Type 0
NoEntryWaits = (m : Machine) (r : Refusal) → obey m (entry_to_obey (Err r)) ≡ done Wait m

-- sizes and arrays that are not checked: each place has its outcome, 7 where no entry is allowed, and 7 everywhere, with the number 0, if a size is out of range
pub record AnyArrays {M : Type 0} (b : Implementation M Entry) (s : Sizes) (kinds operands : List ℕ) : Type 0 where
  pub each : length (outcomes_from_by b s kinds operands) ≡ length kinds
  pub no_entry : (at : ℕ) (r : Refusal) → at < length kinds → entry_at s kinds operands at ≡ Err r → get_or (outcomes_from_by b s kinds operands) at Moved ≡ Wait
  pub out_of_range : sizes_in_range s ≡ false → outcomes_from_by b s kinds operands ≡ replicate (length kinds) Wait
  pub nothing_hidden : sizes_in_range s ≡ false → (summary_from_by b s kinds operands).hidden ≡ 0

abbrev pub AnyArraysObeyed : {M : Type 0} → Implementation M Entry → Type 0
AnyArraysObeyed b = (s : Sizes) (kinds operands : List ℕ) → AnyArrays b s kinds operands

-- the entries of an accepted file are all of it: their kinds and operands are its arrays
abbrev pub ScheduleOfFile : Type 0
ScheduleOfFile =
    (file : List ℕ) (s : Sizes) (n : ℕ) → read_file file ≡ Ok (s, n)
    → (map kind_of (schedule_in file) ≡ kinds_in n file) × (map operand_of (schedule_in file) ≡ operands_in n file)
