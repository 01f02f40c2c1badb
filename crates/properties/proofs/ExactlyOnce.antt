-- No task is lost or given twice by FF-THE: from the invariant of demand 3.
use mathlib.Core.Path.{◌≡◌, refl}
use mathlib.Core.List.{[], ◌∷◌}
use Rattle.claim.specs.Calls.{Party, worker, thief}
use Rattle.claim.proofs.Stored.{StoresAtOnce, stored_times}
use Rattle.machine.specs.Machine.{thief_call}
use Rattle.machine.specs.Linearizable.{ff_the, owes, thief_owes, worker_owes}
use Rattle.machine.proofs.Laws.Obey.{ff_the_lawful}
use Rattle.machine.proofs.Linearizable.Theorem.{fresh_plain, invariant_shows, run_stands_now}
use Rattle.properties.specs.Types.{Machine, Abort, ThiefCall, StealLock, StealLoadHead, StealRaiseHead, StealLoadTail, StealLoadSlot, StealUnlockTask, StealRestoreHead, StealUnlockAbort, WorkerCall, PutLoadHead, PutStoreSlot, PutStoreTail, TakeStoreTail, TakeLoadHead, TakeLoadSlot, TakeLock, TakeReloadHead, TakeRestoreTail, TakeUnlockEmpty, TakeUnlockTask, TakeLoadLastSlot}
use Rattle.properties.specs.ExactlyOnce.{AccountedByNumber, NoneLostOrGivenTwice}
use Rattle.properties.proofs.Laws.ExactlyOnce.{accounted, exactly_once}
use Rattle.properties.proofs.Renumbering.{blind_to_numbers}

-- no call owes STORED: a put answers at its effect
worker_owes_none : (m : Machine) (c : WorkerCall) → stored_times (worker_owes m c) ≡ 0
worker_owes_none m WorkerCall.Idle = refl
worker_owes_none m (PutLoadHead x) = refl
worker_owes_none m (PutStoreSlot x) = refl
worker_owes_none m PutStoreTail = refl
worker_owes_none m TakeStoreTail = refl
worker_owes_none m (TakeLoadHead t) = refl
worker_owes_none m (TakeLoadSlot t) = refl
worker_owes_none m (TakeLock t) = refl
worker_owes_none m (TakeReloadHead t) = refl
worker_owes_none m (TakeRestoreTail t) = refl
worker_owes_none m TakeUnlockEmpty = refl
worker_owes_none m (TakeUnlockTask t) = refl
worker_owes_none m (TakeLoadLastSlot t) = refl

thief_owes_none : (m : Machine) (c : ThiefCall) → stored_times (thief_owes (Abort ∷ []) m c) ≡ 0
thief_owes_none m ThiefCall.Idle = refl
thief_owes_none m StealLock = refl
thief_owes_none m StealLoadHead = refl
thief_owes_none m (StealRaiseHead h) = refl
thief_owes_none m (StealLoadTail h) = refl
thief_owes_none m (StealLoadSlot h) = refl
thief_owes_none m (StealUnlockTask x) = refl
thief_owes_none m (StealRestoreHead h) = refl
thief_owes_none m StealUnlockAbort = refl

stores_at_once : StoresAtOnce ff_the
stores_at_once = record { owes_none = owes_none; told = λ c. refl }
  where
    owes_none : (m : Machine) (p : Party) → stored_times (owes m p) ≡ 0
    owes_none m worker = worker_owes_none m m.worker.call
    owes_none m (thief i) = thief_owes_none m (thief_call m i)

pub accounted_by_number : AccountedByNumber ff_the
accounted_by_number s es ranged enough short =
    accounted ff_the ff_the_lawful stores_at_once (invariant_shows s enough) (fresh_plain s ranged) es short (run_stands_now s es ranged enough)

pub none_lost_or_given_twice : NoneLostOrGivenTwice ff_the
none_lost_or_given_twice = exactly_once ff_the accounted_by_number blind_to_numbers
