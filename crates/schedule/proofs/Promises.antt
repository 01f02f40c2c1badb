-- What `run_on` promises, of the answer and the buffer that it hands back: by what they are equal to, all the rest.
use mathlib.Core.Path.{◌≡◌, refl, subst, sym}
use mathlib.Core.Bool.{true}
use mathlib.Core.List.{List}
use Prim.Native.Nat.{ℕ}
use lib.ListN.{length}
use Rattle.std.proofs.Common.{Result}
use Rattle.terms.specs.Refusal.{Refuses, refusal_in}
use Rattle.schedule.specs.Types.{Queue, Refusal, Summary}
use Rattle.schedule.specs.Demand3.{RunLinearizesOn}
use Rattle.schedule.specs.Faults.{run_has}
use Rattle.schedule.specs.Format.{all_below}
use Rattle.schedule.specs.Hidden.{RunWithinNeeded}
use Rattle.schedule.specs.Run.{run_file_on, trace_after_on}
use Rattle.schedule.proofs.Queues.{linearizes, refuses_faults, within_needed}

abbrev Promised : Queue → List ℕ → List ℕ → Result Summary Refusal → List ℕ → Type 0
Promised q file trace answer after =
    (answer ≡ run_file_on q file (length trace))
    × ((after ≡ trace_after_on q file trace)
    × (RunLinearizesOn q file after answer × (Refuses (run_has file (length trace)) (refusal_in answer) × RunWithinNeeded file answer)))

module _ (q : Queue) (file trace : List ℕ) (bytes : all_below 256 file ≡ true) {answer : Result Summary Refusal} where
  pub run_promises : {after : List ℕ} → answer ≡ run_file_on q file (length trace) → after ≡ trace_after_on q file trace → Promised q file trace answer after
  run_promises told held =
      subst (λ t. Promised q file trace answer t) (sym held)
      (subst (λ r. Promised q file trace r (trace_after_on q file trace)) (sym told)
      (refl, (refl, (linearizes q file trace bytes, (refuses_faults q file (length trace), within_needed q file (length trace))))))
