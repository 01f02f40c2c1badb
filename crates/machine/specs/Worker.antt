-- Each step of a put and of a take: what it does, from what the worker sees. Renders, of "The machine", "Put", "Take", and the
-- paragraph on what locking, unlocking and a new pending store need; and 5 and 7 of "The numbers" for them. Each store names the call that makes it, since request 1 has the spacing rule go by
-- that (`counts`, of `stores`).
use Rattle.std.specs.Prelude.{◌≡◌, Bool, true, false, cond, ◌&&◌, ℕ, ◌-◌, ◌≤◌, pos, ◌+ℤ◌, ◌-ℤ◌}
use Rattle.std.specs.Int.Signed.{le_z}
use Rattle.stores.specs.Index.{eq_z, index_in_range, next, previous, slot_index_in_range}
use Rattle.stores.specs.Lock.{is_nobody}
use Rattle.machine.specs.Types.{Index, Option, None, Some, Nobody, TheWorker, Outcome, Moved, Place, Wait, Stored, Task, Empty, Full, End, Maker, StoreKind, APut, ATake, Holder, Tail, Slot, WorkerCall, PutLoadHead, PutStoreSlot, PutStoreTail, TakeStoreTail, TakeLoadHead, TakeLoadSlot, TakeLock, TakeReloadHead, TakeRestoreTail, TakeUnlockEmpty, TakeUnlockTask, TakeLoadLastSlot, WorkerView, WorkerMove}

-- ── Calls ───────────────────────────────────────────────────────────────────────────────────────────────────────────────────

-- an index that a call holds only to load its slot is a slot's
abbrev pub worker_in_range : WorkerCall → Bool
worker_in_range WorkerCall.Idle = true
worker_in_range (PutLoadHead x) = true
worker_in_range (PutStoreSlot x) = true
worker_in_range PutStoreTail = true
worker_in_range TakeStoreTail = true
worker_in_range (TakeLoadHead t) = index_in_range t
worker_in_range (TakeLoadSlot t) = slot_index_in_range t
worker_in_range (TakeLock t) = index_in_range t
worker_in_range (TakeReloadHead t) = index_in_range t
worker_in_range (TakeRestoreTail t) = index_in_range t
worker_in_range TakeUnlockEmpty = true
worker_in_range (TakeUnlockTask t) = slot_index_in_range t
worker_in_range (TakeLoadLastSlot t) = slot_index_in_range t

-- whether the worker's call runs
abbrev pub worker_runs : WorkerCall → Bool
worker_runs WorkerCall.Idle = false
worker_runs (PutLoadHead x) = true
worker_runs (PutStoreSlot x) = true
worker_runs PutStoreTail = true
worker_runs TakeStoreTail = true
worker_runs (TakeLoadHead t) = true
worker_runs (TakeLoadSlot t) = true
worker_runs (TakeLock t) = true
worker_runs (TakeReloadHead t) = true
worker_runs (TakeRestoreTail t) = true
worker_runs TakeUnlockEmpty = true
worker_runs (TakeUnlockTask t) = true
worker_runs (TakeLoadLastSlot t) = true

-- from which slot the next step loads
abbrev pub loads : WorkerCall → Option Index
loads WorkerCall.Idle = None
loads (PutLoadHead x) = None
loads (PutStoreSlot x) = None
loads PutStoreTail = None
loads TakeStoreTail = None
loads (TakeLoadHead t) = None
loads (TakeLoadSlot t) = Some t
loads (TakeLock t) = None
loads (TakeReloadHead t) = None
loads (TakeRestoreTail t) = None
loads TakeUnlockEmpty = None
loads (TakeUnlockTask t) = None
loads (TakeLoadLastSlot t) = Some t

-- what the worker's steps need of what it sees, to be computed in 64 bits
pub record WorkerViewInRange (v : WorkerView) : Type 0 where
  pub slots : 1 ≤ v.slots
  pub tail : index_in_range v.tail ≡ true
  pub head : index_in_range v.head ≡ true
  pub call : worker_in_range v.call ≡ true

-- ── How a step ends ─────────────────────────────────────────────────────────────────────────────────────────────────────────

-- the entry is refused: all stays as it is
abbrev pub stays : Outcome → WorkerView → WorkerMove
stays o v = record { push = None; lock = v.lock; call = v.call; outcome = o }

-- the call goes on: this step is next
abbrev pub goes_on : WorkerCall → WorkerView → WorkerMove
goes_on c v = record { push = None; lock = v.lock; call = c; outcome = Moved }

-- the call ends with this answer
abbrev pub answers : Outcome → WorkerView → WorkerMove
answers o v = record { push = None; lock = v.lock; call = WorkerCall.Idle; outcome = o }

-- 7 WAIT where the step's need is not met
abbrev pub needing : Bool → WorkerView → WorkerMove → WorkerMove
needing met v d = cond met d (stays Wait v)

-- a store, which needs room
abbrev pub storing : Option (Maker × StoreKind) → Outcome → WorkerCall → WorkerView → WorkerMove
storing p o c v = needing v.room v (record { push = p; lock = v.lock; call = c; outcome = o })

-- the lock gets this holder, where what that needs is met
abbrev pub locking : Bool → Holder → Outcome → WorkerCall → WorkerView → WorkerMove
locking met h o c v = needing met v (record { push = None; lock = record { holder = h }; call = c; outcome = o })

-- ── Put ─────────────────────────────────────────────────────────────────────────────────────────────────────────────────────

-- the worker's tail has its greatest value
abbrev pub at_end : WorkerView → Bool
at_end v = eq_z v.tail.at (pos 2147483647)

-- tail − head ≥ slots − 1
abbrev pub is_full : WorkerView → Bool
is_full v = le_z (pos (v.slots - 1)) (v.tail.at -ℤ v.head.at)

-- step 1: look at head, and end there if the tail is at its end or the slots are filled
abbrev pub put_load_head : ℕ → WorkerView → WorkerMove
put_load_head x v = cond (at_end v) (answers End v) (cond (is_full v) (answers Full v) (goes_on (PutStoreSlot x) v))

-- step 2: store the number in the slot that the tail points to
abbrev pub put_store_slot : ℕ → WorkerView → WorkerMove
put_store_slot x v = storing (Some (APut, Slot x v.tail)) Moved PutStoreTail v

-- step 3: store the tail, one higher, and answer
abbrev pub put_store_tail : WorkerView → WorkerMove
put_store_tail v = storing (Some (APut, Tail (next v.tail))) Stored WorkerCall.Idle v

-- ── Take ────────────────────────────────────────────────────────────────────────────────────────────────────────────────────

-- step 1: store the tail, one lower; t is that index from here on
abbrev pub take_store_tail : WorkerView → WorkerMove
take_store_tail v = storing (Some (ATake, Tail (previous v.tail))) Moved (TakeLoadHead (previous v.tail)) v

-- t ≥ head
abbrev pub at_or_above_head : Index → WorkerView → Bool
at_or_above_head t v = le_z v.head.at t.at

-- step 2: look at head; if it is not above t the slot is next, else the lock
abbrev pub take_load_head : Index → WorkerView → WorkerMove
take_load_head t v = cond (at_or_above_head t v) (goes_on (TakeLoadSlot t) v) (goes_on (TakeLock t) v)

-- step 3 without the lock, and step 6 after it: load from the slot of t and answer
abbrev pub take_load_slot : WorkerView → WorkerMove
take_load_slot v = answers (Task v.loaded) v

-- step 3 where head is above t: take the lock, with nothing pending
abbrev pub take_lock : Index → WorkerView → WorkerMove
take_lock t v = locking (is_nobody v.lock.holder && v.drained) TheWorker Moved (TakeReloadHead t) v

-- head ≥ t + 1
abbrev pub head_is_past : Index → WorkerView → Bool
head_is_past t v = le_z (t.at +ℤ pos 1) v.head.at

-- step 4: look at head again; if it is still above t the tail is put back next, else the lock is freed
abbrev pub take_reload_head : Index → WorkerView → WorkerMove
take_reload_head t v = cond (head_is_past t v) (goes_on (TakeRestoreTail t) v) (goes_on (TakeUnlockTask t) v)

-- step 5 where head is above t: put the tail back
abbrev pub take_restore_tail : Index → WorkerView → WorkerMove
take_restore_tail t v = storing (Some (ATake, Tail (next t))) Moved TakeUnlockEmpty v

-- step 6 where head is above t: free the lock and answer
abbrev pub take_unlock_empty : WorkerView → WorkerMove
take_unlock_empty v = locking v.drained Nobody Empty WorkerCall.Idle v

-- step 5 where head is not above t: free the lock
abbrev pub take_unlock_task : Index → WorkerView → WorkerMove
take_unlock_task t v = locking v.drained Nobody Moved (TakeLoadLastSlot t) v

-- the next step of the worker's call; 5 PLACE where no call runs
abbrev pub worker_move : WorkerCall → WorkerView → WorkerMove
worker_move WorkerCall.Idle v = stays Place v
worker_move (PutLoadHead x) v = put_load_head x v
worker_move (PutStoreSlot x) v = put_store_slot x v
worker_move PutStoreTail v = put_store_tail v
worker_move TakeStoreTail v = take_store_tail v
worker_move (TakeLoadHead t) v = take_load_head t v
worker_move (TakeLoadSlot t) v = take_load_slot v
worker_move (TakeLock t) v = take_lock t v
worker_move (TakeReloadHead t) v = take_reload_head t v
worker_move (TakeRestoreTail t) v = take_restore_tail t v
worker_move TakeUnlockEmpty v = take_unlock_empty v
worker_move (TakeUnlockTask t) v = take_unlock_task t v
worker_move (TakeLoadLastSlot t) v = take_load_slot v
