-- What the machine needs to know of the worker's steps, to perform them: one line for each.
use mathlib.Core.Path.{◌≡◌}
use mathlib.Core.Bool.{true, ◌&&◌}
use Prim.Native.Nat.{ℕ, ◌<◌}
use Rattle.terms.proofs.Laws.Tests.{decide, either}
use Rattle.stores.specs.Lock.{is_nobody}
use Rattle.stores.proofs.Laws.StoreBuffer.{PushFits}
use Rattle.machine.specs.Types.{Maker, Some, Outcome, StoreKind, WorkerCall, PutLoadHead, PutStoreSlot, PutStoreTail, TakeStoreTail, TakeLoadHead, TakeLoadSlot, TakeLock, TakeReloadHead, TakeRestoreTail, TakeUnlockEmpty, TakeUnlockTask, TakeLoadLastSlot, WorkerView, WorkerMove}
use Rattle.machine.specs.Worker.{at_end, at_or_above_head, head_is_past, is_full, storing, worker_move}

-- a step makes a store only where there is room
module _ (places n : ℕ) (v : WorkerView) (fits : v.room ≡ true → n < places) where
  abbrev Fits : WorkerMove → Type 0
  Fits d = PushFits places d.push n

  storing_fits : (w : Maker) (k : StoreKind) (o : Outcome) (c : WorkerCall) → Fits (storing (Some (w, k)) o c v)
  storing_fits w k o c = decide Fits v.room fits (λ e. tt)

  pub push_fits : (c : WorkerCall) → Fits (worker_move c v)
  push_fits WorkerCall.Idle = tt
  push_fits (PutLoadHead x) = either Fits (at_end v) tt (either Fits (is_full v) tt tt)
  push_fits (PutStoreSlot x) = storing_fits _ _ _ _
  push_fits PutStoreTail = storing_fits _ _ _ _
  push_fits TakeStoreTail = storing_fits _ _ _ _
  push_fits (TakeLoadHead t) = either Fits (at_or_above_head t v) tt tt
  push_fits (TakeLoadSlot t) = tt
  push_fits (TakeLock t) = either Fits (is_nobody v.lock.holder && v.drained) tt tt
  push_fits (TakeReloadHead t) = either Fits (head_is_past t v) tt tt
  push_fits (TakeRestoreTail t) = storing_fits _ _ _ _
  push_fits TakeUnlockEmpty = either Fits v.drained tt tt
  push_fits (TakeUnlockTask t) = either Fits v.drained tt tt
  push_fits (TakeLoadLastSlot t) = tt
