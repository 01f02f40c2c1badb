-- What the machine needs to know of the worker's steps, to perform them: one line for each.
use mathlib.Core.Path.{◌≡◌}
use mathlib.Core.Bool.{true}
use Prim.Native.Nat.{ℕ, ◌<◌}
use Rattle.terms.proofs.Laws.Tests.{decide, either}
use Rattle.stores.proofs.Laws.StoreBuffer.{PushFits}
use Rattle.cas.specs.Types.{Maker, Some, Outcome, StoreKind, WorkerCall, PutLoadHead, PutStoreSlot, PutStoreTail, TakeStoreTail, TakeLoadHead, TakeLoadSlot, TakeTailToHead, TakeTailPastHead, TakeSwapHead, TakeLoadLastSlot, WorkerView, WorkerMove}
use Rattle.cas.specs.Worker.{at_end, is_above_head, is_full, is_head, storing, worker_move}

-- a step makes a store only where there is room
module _ (places n : ℕ) (v : WorkerView) (fits : v.room ≡ true → n < places) where
  abbrev Fits : WorkerMove → Type 0
  Fits d = PushFits places d.push n

  storing_fits : (w : Maker) (k : StoreKind) (o : Outcome) (c : WorkerCall) → Fits (storing (Some (w, k)) o c v)
  storing_fits w k o c = decide Fits v.room fits (λ e. tt)

  pub push_fits : (c : WorkerCall) → Fits (worker_move c v)
  push_fits WorkerCall.Idle = tt
  push_fits (PutLoadHead x) = either Fits (at_end v) tt (either Fits (is_full v) tt tt)
  push_fits (PutStoreSlot x) = storing_fits _ _ _ _
  push_fits PutStoreTail = storing_fits _ _ _ _
  push_fits TakeStoreTail = storing_fits _ _ _ _
  push_fits (TakeLoadHead t) = either Fits (is_above_head t v) tt (either Fits (is_head t v) tt tt)
  push_fits (TakeLoadSlot t) = tt
  push_fits (TakeTailToHead h) = storing_fits _ _ _ _
  push_fits (TakeTailPastHead t) = storing_fits _ _ _ _
  push_fits (TakeSwapHead t) = either Fits v.drained (either Fits (is_head t v) tt tt) tt
  push_fits (TakeLoadLastSlot t) = tt
