-- Where a call takes effect. Renders, of "The machine", the sentence on the steps at which calls take effect. The steps are those
-- of `Worker` and `Thief`.
use Rattle.std.specs.Prelude.{Bool, false, not, ℕ, eqb}
use Rattle.std.specs.Int.Signed.{le_z}
use Rattle.terms.specs.Outcome.{is_answer, number_of}
use Rattle.terms.specs.Sizes.{margin_in_use}
use Rattle.claim.specs.Calls.{Effect, none, decided, only_where}
use Rattle.machine.specs.Types.{Entry, Drain, ClientStore, BeginPut, BeginTake, WorkerStep, BeginSteal, ThiefStep, Machine, Outcome, Full, ThiefCall, StealLock, StealLoadHead, StealRaiseHead, StealLoadTail, StealLoadSlot, StealUnlockTask, StealRestoreHead, StealUnlockAbort, WorkerCall, PutLoadHead, PutStoreSlot, PutStoreTail, TakeStoreTail, TakeLoadHead, TakeLoadSlot, TakeLock, TakeReloadHead, TakeRestoreTail, TakeUnlockEmpty, TakeUnlockTask, TakeLoadLastSlot}
use Rattle.machine.specs.Machine.{thief_call, thief_tail}
use Rattle.machine.specs.Thief.{keeps_margin}

abbrev pub is_full_outcome : Outcome → Bool
is_full_outcome o = eqb (number_of o) (number_of Full)

-- A put takes effect at step 3, or at step 1 where it ends there, which is FULL or END; a take at step 2 where t ≥ h, otherwise at step 4. The
-- outcome is that of the step.
abbrev pub worker_effect : Outcome → Machine → WorkerCall → Effect
worker_effect o m WorkerCall.Idle = none
worker_effect o m (PutLoadHead x) = only_where (is_answer o) (is_full_outcome o)
worker_effect o m (PutStoreSlot x) = none
worker_effect o m PutStoreTail = decided false
worker_effect o m TakeStoreTail = none
worker_effect o m (TakeLoadHead t) = only_where (le_z m.head.at t.at) false
worker_effect o m (TakeLoadSlot t) = none
worker_effect o m (TakeLock t) = none
worker_effect o m (TakeReloadHead t) = decided false
worker_effect o m (TakeRestoreTail t) = none
worker_effect o m TakeUnlockEmpty = none
worker_effect o m (TakeUnlockTask t) = none
worker_effect o m (TakeLoadLastSlot t) = none

-- a steal at step 4, by the margin that it keeps
abbrev pub effect_keeping : ℕ → Machine → ThiefCall → Effect
effect_keeping margin m ThiefCall.Idle = none
effect_keeping margin m StealLock = none
effect_keeping margin m StealLoadHead = none
effect_keeping margin m (StealRaiseHead h) = none
effect_keeping margin m (StealLoadTail h) = decided (not (keeps_margin h (thief_tail m) margin))
effect_keeping margin m (StealLoadSlot h) = none
effect_keeping margin m (StealUnlockTask x) = none
effect_keeping margin m (StealRestoreHead h) = none
effect_keeping margin m StealUnlockAbort = none

abbrev pub thief_effect : Machine → ThiefCall → Effect
thief_effect m c = effect_keeping (margin_in_use m.sizes) m c

abbrev pub effect_of : Outcome → Machine → Entry → Effect
effect_of o m Drain = none
effect_of o m ClientStore = none
effect_of o m (BeginPut x) = none
effect_of o m BeginTake = none
effect_of o m WorkerStep = worker_effect o m m.worker.call
effect_of o m (BeginSteal i) = none
effect_of o m (ThiefStep i) = thief_effect m (thief_call m i)
