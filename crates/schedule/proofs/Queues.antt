-- What is so of any queue, of the queue that is named: each law by the two that it can be.
use mathlib.Core.Path.{◌≡◌}
use mathlib.Core.Bool.{true}
use mathlib.Core.List.{List, map}
use Prim.Native.Nat.{ℕ, ◌≤◌, ◌<◌}
use lib.ListN.{length}
use Rattle.std.proofs.Common.{Ok, Err}
use Rattle.cas.specs.Linearizable.{ff_cl}
use Rattle.machine.specs.Linearizable.{ff_the}
use Rattle.terms.specs.Outcome.{value_of}
use Rattle.terms.specs.Refusal.{Refuses, refusal_in}
use Rattle.schedule.specs.Types.{FfCl, FfThe, Queue, Refusal, Room, Sizes}
use Rattle.schedule.specs.Demand3.{RunLinearizesOn}
use Rattle.schedule.specs.Faults.{run_has}
use Rattle.schedule.specs.Format.{all_below, words_in}
use Rattle.schedule.specs.Hidden.{RunWithinNeeded}
use Rattle.schedule.specs.Reader.{read_file}
use Rattle.schedule.specs.Run.{outcomes_from_on, outcomes_in_on, run_file_on, summary_from_on, summary_in_on, trace_after_on, trace_put}
use Rattle.schedule.specs.Trace.{trace_fits, trace_length}
use Rattle.schedule.proofs.Demand3.{run_linearizes}
use Rattle.schedule.proofs.Faults.{refused_run_untouched, runner_refuses_faults}
use Rattle.schedule.proofs.FfCl.{ff_cl_proved}
use Rattle.schedule.proofs.FfThe.{ff_the_proved}
use Rattle.schedule.proofs.HiddenNumber.{run_within_needed}
use Rattle.schedule.proofs.Laws.Run as law
use Rattle.schedule.proofs.Laws.Run.{PartsOf}

-- what is so of FF-THE and of FF-CL
pub by_queue : (P : Queue → Type 0) → P FfThe → P FfCl → (q : Queue) → P q
by_queue P the cl FfThe = the
by_queue P the cl FfCl = cl

-- ── Two parts ───────────────────────────────────────────────────────────────────────────────────────────────────────────────

module _ (q : Queue) {file : List ℕ} {s : Sizes} {kinds operands : List ℕ} {n : ℕ} (parts : PartsOf file s kinds operands n) where
  -- the outcomes of a file's parts are the file's
  pub parts_outcomes : outcomes_from_on q s kinds (words_in operands) ≡ outcomes_in_on q file
  parts_outcomes = by_queue (λ q. outcomes_from_on q s kinds (words_in operands) ≡ outcomes_in_on q file) (law.parts_outcomes ff_the parts) (law.parts_outcomes ff_cl parts) q

  -- .. and what is told of them
  pub parts_summary : summary_from_on q s kinds (words_in operands) ≡ summary_in_on q file
  parts_summary = by_queue (λ q. summary_from_on q s kinds (words_in operands) ≡ summary_in_on q file) (law.parts_summary ff_the parts) (law.parts_summary ff_cl parts) q

-- there are as many outcomes as entries
pub length-outcomes_from : (q : Queue) (s : Sizes) (kinds operands : List ℕ) → length (outcomes_from_on q s kinds operands) ≡ length kinds
length-outcomes_from q s kinds operands =
    by_queue (λ q. length (outcomes_from_on q s kinds operands) ≡ length kinds) (law.length-outcomes_from ff_the s kinds operands) (law.length-outcomes_from ff_cl s kinds operands) q

-- every value fits four bytes
pub parts_values_fit : (q : Queue) (s : Sizes) (kinds bytes : List ℕ) → all_below 256 bytes ≡ true → all_below 4294967296 (map value_of (outcomes_from_on q s kinds (words_in bytes))) ≡ true
parts_values_fit q s kinds bytes below =
    by_queue (λ q. all_below 4294967296 (map value_of (outcomes_from_on q s kinds (words_in bytes))) ≡ true)
    (law.parts_values_fit ff_the ff_the_proved s kinds bytes below) (law.parts_values_fit ff_cl ff_cl_proved s kinds bytes below) q

-- ── A file ──────────────────────────────────────────────────────────────────────────────────────────────────────────────────

module _ (q : Queue) (file : List ℕ) (room : ℕ) where
  -- what is not read is not run
  pub run_refused : {r : Refusal} → read_file file ≡ Err r → run_file_on q file room ≡ Err r
  run_refused {r} told = by_queue (λ q. run_file_on q file room ≡ Err r) (law.run_refused ff_the file room r told) (law.run_refused ff_cl file room r told) q

  module _ {s : Sizes} {n : ℕ} (told : read_file file ≡ Ok (s, n)) where
    -- nor what has too little room
    pub run_without_room : room < trace_length n → run_file_on q file room ≡ Err Room
    run_without_room small =
        by_queue (λ q. run_file_on q file room ≡ Err Room) (law.run_without_room ff_the file room s n told small) (law.run_without_room ff_cl file room s n told small) q

    -- all else is
    pub run_with_room : trace_length n ≤ room → run_file_on q file room ≡ Ok (summary_in_on q file)
    run_with_room fits = by_queue (λ q. run_file_on q file room ≡ Ok (summary_in_on q file)) (law.run_with_room ff_the file room s n told fits) (law.run_with_room ff_cl file room s n told fits) q

  -- it is refused for its faults
  pub refuses_faults : Refuses (run_has file room) (refusal_in (run_file_on q file room))
  refuses_faults = by_queue (λ q. Refuses (run_has file room) (refusal_in (run_file_on q file room))) (runner_refuses_faults ff_the file room) (runner_refuses_faults ff_cl file room) q

  -- memory lags by the needed margin at most
  pub within_needed : RunWithinNeeded file (run_file_on q file room)
  within_needed = by_queue (λ q. RunWithinNeeded file (run_file_on q file room)) (run_within_needed ff_the ff_the_proved file room) (run_within_needed ff_cl ff_cl_proved file room) q

module _ (q : Queue) (file trace : List ℕ) where
  -- a refusal leaves the buffer as it was
  pub untouched : {r : Refusal} → run_file_on q file (length trace) ≡ Err r → trace_after_on q file trace ≡ trace
  untouched {r} =
      by_queue (λ q. run_file_on q file (length trace) ≡ Err r → trace_after_on q file trace ≡ trace) (refused_run_untouched ff_the file trace r) (refused_run_untouched ff_cl file trace r) q

  -- the trace of an accepted file stands in a buffer that has room for it
  pub trace_after_run : {s : Sizes} {n : ℕ} → read_file file ≡ Ok (s, n) → trace_fits n (length trace) ≡ true → trace_after_on q file trace ≡ trace_put (outcomes_in_on q file) trace
  trace_after_run told fits =
      by_queue (λ q. trace_after_on q file trace ≡ trace_put (outcomes_in_on q file) trace) (law.trace_after_run ff_the file trace told fits) (law.trace_after_run ff_cl file trace told fits) q

  -- demand 3 is true of it
  pub linearizes : all_below 256 file ≡ true → RunLinearizesOn q file (trace_after_on q file trace) (run_file_on q file (length trace))
  linearizes bytes =
      by_queue (λ q. RunLinearizesOn q file (trace_after_on q file trace) (run_file_on q file (length trace)))
      (run_linearizes ff_the ff_the_proved file trace bytes) (run_linearizes ff_cl ff_cl_proved file trace bytes) q
