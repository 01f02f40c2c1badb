-- What a call was begun as and what it owes depend on one load at most: that of the index that it is about to load.
use mathlib.Core.Path.{◌≡◌, refl, ap, sym, ◌∙◌}
use mathlib.Core.List.{List, [], ◌∷◌}
use Prim.Native.Nat.{ℕ}
use Rattle.stores.proofs.Laws.Index.{idx}
use Rattle.claim.specs.Calls.{a_put}
use Rattle.machine.specs.Types.{Index, Machine, Outcome, Task, ThiefCall, StealLock, StealLoadHead, StealRaiseHead, StealLoadTail, StealLoadSlot, StealUnlockTask, StealRestoreHead, StealUnlockAbort, WorkerCall, PutLoadHead, PutStoreSlot, PutStoreTail, TakeStoreTail, TakeLoadHead, TakeLoadSlot, TakeLock, TakeReloadHead, TakeRestoreTail, TakeUnlockEmpty, TakeUnlockTask, TakeLoadLastSlot}
use Rattle.machine.specs.Machine.{memory_load, worker_load, worker_tail}
use Rattle.machine.specs.Linearizable.{thief_owes, worker_owes}
use Rattle.machine.proofs.Linearizable.Invariant.{HoldsTail, worker_begun}

-- ── The worker: its load at its own tail ────────────────────────────────────────────────────────────────────────────────────

module _ (m t : Machine) (seen : ℕ) (same : worker_load m (idx seen) ≡ worker_load t (idx seen)) where
  load_same : (i : Index) → i ≡ idx seen → worker_load m i ≡ worker_load t i
  load_same i here = ap (worker_load m) here ∙ same ∙ ap (worker_load t) (sym here)

  pub worker_owes_same : (c : WorkerCall) → HoldsTail c seen → worker_owes m c ≡ worker_owes t c
  worker_owes_same WorkerCall.Idle here = refl
  worker_owes_same (PutLoadHead x) here = refl
  worker_owes_same (PutStoreSlot x) here = refl
  worker_owes_same PutStoreTail here = refl
  worker_owes_same TakeStoreTail here = refl
  worker_owes_same (TakeLoadHead i) here = refl
  worker_owes_same (TakeLoadSlot i) here = ap (λ x. Task x ∷ []) (load_same i here)
  worker_owes_same (TakeLock i) here = refl
  worker_owes_same (TakeReloadHead i) here = refl
  worker_owes_same (TakeRestoreTail i) here = refl
  worker_owes_same TakeUnlockEmpty here = refl
  worker_owes_same (TakeUnlockTask i) here = ap (λ x. Task x ∷ []) (load_same i here)
  worker_owes_same (TakeLoadLastSlot i) here = ap (λ x. Task x ∷ []) (load_same i here)

  pub worker_begun_same : (c : WorkerCall) → worker_tail m ≡ idx seen → worker_tail t ≡ idx seen → worker_begun m c ≡ worker_begun t c
  worker_begun_same WorkerCall.Idle tail tail' = refl
  worker_begun_same (PutLoadHead x) tail tail' = refl
  worker_begun_same (PutStoreSlot x) tail tail' = refl
  worker_begun_same PutStoreTail tail tail' = ap a_put (load_same (worker_tail m) tail ∙ ap (worker_load t) (tail ∙ sym tail'))
  worker_begun_same TakeStoreTail tail tail' = refl
  worker_begun_same (TakeLoadHead i) tail tail' = refl
  worker_begun_same (TakeLoadSlot i) tail tail' = refl
  worker_begun_same (TakeLock i) tail tail' = refl
  worker_begun_same (TakeReloadHead i) tail tail' = refl
  worker_begun_same (TakeRestoreTail i) tail tail' = refl
  worker_begun_same TakeUnlockEmpty tail tail' = refl
  worker_begun_same (TakeUnlockTask i) tail tail' = refl
  worker_begun_same (TakeLoadLastSlot i) tail tail' = refl

-- ── A thief: the slot that it has stolen and not loaded ─────────────────────────────────────────────────────────────────────

pub thief_owes_same :
    (denied : List Outcome) (m t : Machine) (c : ThiefCall) → ((h : Index) → c ≡ StealLoadSlot h → memory_load m h ≡ memory_load t h) → thief_owes denied m c ≡ thief_owes denied t c
thief_owes_same denied m t ThiefCall.Idle same = refl
thief_owes_same denied m t StealLock same = refl
thief_owes_same denied m t StealLoadHead same = refl
thief_owes_same denied m t (StealRaiseHead h) same = refl
thief_owes_same denied m t (StealLoadTail h) same = refl
thief_owes_same denied m t (StealLoadSlot h) same = ap (λ x. Task x ∷ []) (same h refl)
thief_owes_same denied m t (StealUnlockTask x) same = refl
thief_owes_same denied m t (StealRestoreHead h) same = refl
thief_owes_same denied m t StealUnlockAbort same = refl
