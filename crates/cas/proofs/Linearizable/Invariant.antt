-- The invariant: what is true after every entry of a run, of the machine, of the plain queue beside it, and of the calls in progress.
--
-- Indices are natural numbers, one above (`Laws.Index`, of `stores`). The queue's tail is one past the newest task that stands: the worker's tail, or one
-- more while a take has lowered the worker's tail and taken nothing. No lock is there: what a thief has seen is of use only while head is still the
-- index that it has loaded, and so nothing is said of the task of a thief whose head is gone: its swap fails.
--
-- `Sound` holds whichever margin is set; `Agrees` needs one that is enough.
use mathlib.Core.Path.{◌≡◌}
use mathlib.Core.List.{List, []}
use Prim.Native.Nat.{ℕ, ◌+◌, ◌≤◌, ◌<◌}
use lib.ListN.{length}
use Rattle.terms.specs.Sizes.{margin_in_use, needed_margin}
use Rattle.terms.proofs.Laws.Sizes.{SizeBounds}
use Rattle.stores.specs.StoreBuffer.{pending}
use Rattle.stores.proofs.Laws.Index.{idx}
use Rattle.stores.proofs.Laws.Chain.{SlotsWithin}
use Rattle.stores.proofs.Laws.Pending.{Memory, Pending}
use Rattle.stores.proofs.Laws.Spacing.{asked}
use Rattle.claim.specs.PlainQueue.{PlainQueue, StoredTask}
use Rattle.claim.specs.Calls.{Begun, nothing, a_put, a_take, a_steal, Party, worker, thief}
use Rattle.claim.proofs.Laws.Tasks.{Shows, task_at}
use Rattle.cas.specs.Types.{Index, Machine, Store, ThiefCall, StealLoadHead, StealLoadTail, StealLoadSlot, StealSwapHead, WorkerCall, PutLoadHead, PutStoreSlot, PutStoreTail, TakeStoreTail, TakeLoadHead, TakeLoadSlot, TakeTailToHead, TakeTailPastHead, TakeSwapHead, TakeLoadLastSlot}
use Rattle.cas.specs.Machine.{memory_load, thief_call, worker_load, worker_tail}

-- ── The worker's call ───────────────────────────────────────────────────────────────────────────────────────────────────────

-- 1 while the worker's tail is below the queue's: a take has lowered it and taken nothing
abbrev pub lowered : WorkerCall → ℕ
lowered WorkerCall.Idle = 0
lowered (PutLoadHead x) = 0
lowered (PutStoreSlot x) = 0
lowered PutStoreTail = 0
lowered TakeStoreTail = 0
lowered (TakeLoadHead t) = 1
lowered (TakeLoadSlot t) = 0
lowered (TakeTailToHead h) = 1
lowered (TakeTailPastHead t) = 1
lowered (TakeSwapHead t) = 0
lowered (TakeLoadLastSlot t) = 0

-- 1 while a put that has passed its test is to fill the slot of the tail
abbrev pub filling : WorkerCall → ℕ
filling WorkerCall.Idle = 0
filling (PutLoadHead x) = 0
filling (PutStoreSlot x) = 1
filling PutStoreTail = 1
filling TakeStoreTail = 0
filling (TakeLoadHead t) = 0
filling (TakeLoadSlot t) = 0
filling (TakeTailToHead h) = 0
filling (TakeTailPastHead t) = 0
filling (TakeSwapHead t) = 0
filling (TakeLoadLastSlot t) = 0

-- The index that a take holds, by the worker's tail and by the head that the take has loaded: before that it is the tail; then, if it is not above head, it
-- is that head, which is above the tail, or the tail, or one below the tail that was put past it.
abbrev pub HoldsIndex : WorkerCall → ℕ → ℕ → Type 0
HoldsIndex WorkerCall.Idle seen saw = Unit {0}
HoldsIndex (PutLoadHead x) seen saw = Unit {0}
HoldsIndex (PutStoreSlot x) seen saw = Unit {0}
HoldsIndex PutStoreTail seen saw = Unit {0}
HoldsIndex TakeStoreTail seen saw = Unit {0}
HoldsIndex (TakeLoadHead t) seen saw = t ≡ idx seen
HoldsIndex (TakeLoadSlot t) seen saw = t ≡ idx seen
HoldsIndex (TakeTailToHead h) seen saw = (h ≡ idx saw) × (seen < saw)
HoldsIndex (TakeTailPastHead t) seen saw = (t ≡ idx saw) × (seen ≡ saw)
HoldsIndex (TakeSwapHead t) seen saw = (t ≡ idx saw) × (seen ≡ saw + 1)
HoldsIndex (TakeLoadLastSlot t) seen saw = (t ≡ idx saw) × (seen ≡ saw + 1)

-- The stores that are due behind the pending ones before a take may store again are at most the stores that the spacing rule still
-- asks for. A take that has begun and not stored has waited for them all, and from its store on all are asked for again.
abbrev pub Spaced : WorkerCall → ℕ → ℕ → ℕ → Type 0
Spaced WorkerCall.Idle owed asked spacing = owed ≤ asked
Spaced (PutLoadHead x) owed asked spacing = owed ≤ asked
Spaced (PutStoreSlot x) owed asked spacing = owed ≤ asked
Spaced PutStoreTail owed asked spacing = owed ≤ asked
Spaced TakeStoreTail owed asked spacing = (owed ≤ 0) × (asked ≡ spacing)
Spaced (TakeLoadHead t) owed asked spacing = owed ≤ asked
Spaced (TakeLoadSlot t) owed asked spacing = owed ≤ asked
Spaced (TakeTailToHead h) owed asked spacing = owed ≤ asked
Spaced (TakeTailPastHead t) owed asked spacing = owed ≤ asked
Spaced (TakeSwapHead t) owed asked spacing = owed ≤ asked
Spaced (TakeLoadLastSlot t) owed asked spacing = owed ≤ asked

-- what was begun; a put past its second step has its number in the slot of the tail, x
abbrev pub worker_begun : ℕ → WorkerCall → Begun
worker_begun x WorkerCall.Idle = nothing
worker_begun x (PutLoadHead y) = a_put y
worker_begun x (PutStoreSlot y) = a_put y
worker_begun x PutStoreTail = a_put x
worker_begun x TakeStoreTail = a_take
worker_begun x (TakeLoadHead t) = a_take
worker_begun x (TakeLoadSlot t) = a_take
worker_begun x (TakeTailToHead h) = a_take
worker_begun x (TakeTailPastHead t) = a_take
worker_begun x (TakeSwapHead t) = a_take
worker_begun x (TakeLoadLastSlot t) = a_take

-- ── The calls of thieves ────────────────────────────────────────────────────────────────────────────────────────────────────

abbrev pub thief_begun : ThiefCall → Begun
thief_begun ThiefCall.Idle = nothing
thief_begun StealLoadHead = a_steal
thief_begun (StealLoadTail h) = a_steal
thief_begun (StealLoadSlot h) = a_steal
thief_begun (StealSwapHead x h) = a_steal

-- The head h that a thief has loaded: not below start, not above head, and not above `most`.
pub record Aim (start head most : ℕ) (h : Index) : Type 0 where
  pub at : ℕ
  pub is : h ≡ idx at
  pub floor : start + 1 ≤ at
  pub reached : at ≤ head
  pub top : at ≤ most

-- by its call: a thief that has seen the tail above it by more than a margin holds an index that is below the tail's greatest value
abbrev pub AimOf : ℕ → ℕ → ThiefCall → Type 0
AimOf start head ThiefCall.Idle = Unit {0}
AimOf start head StealLoadHead = Unit {0}
AimOf start head (StealLoadTail h) = Aim start head 2147483648 h
AimOf start head (StealLoadSlot h) = Aim start head 2147483647 h
AimOf start head (StealSwapHead x h) = Aim start head 2147483647 h

-- What makes a swap at head safe, with `stores` pending and `bare` in memory's slot of head.
pub record Sure (head bound bare : ℕ) (stores : List Store) (tasks : List StoredTask) : Type 0 where
  -- a task stands, so that a put does not come back to its slot, nor a take past it without a swap
  pub some : 0 < length tasks
  -- no pending store is to its slot
  pub above : SlotsWithin head bound stores
  -- memory's slot has its number
  pub number : (task_at tasks 0).number ≡ bare

-- A thief past its margin test, while what it has loaded is head, is sure of its swap, A; past its load of the slot it has the number x of the oldest task, too.
abbrev pub SureOf : Index → Type 0 → ℕ → ThiefCall → Type 0
SureOf head A x ThiefCall.Idle = Unit {0}
SureOf head A x StealLoadHead = Unit {0}
SureOf head A x (StealLoadTail h) = Unit {0}
SureOf head A x (StealLoadSlot h) = h ≡ head → A
SureOf head A x (StealSwapHead y h) = h ≡ head → A × (x ≡ y)

-- ── The machine ─────────────────────────────────────────────────────────────────────────────────────────────────────────────

-- memory, with nothing between it and the buffer
abbrev pub memory_of : Machine → Memory
memory_of m = record { front = []; tail = m.tail; slots = m.slots }

-- Head, which only swaps raise.
pub record HeadState (start : ℕ) (head : Index) : Type 0 where
  pub at : ℕ
  pub is : head ≡ idx at
  -- the head that the worker's last take has loaded, or a lower one: head has not gone back since
  pub saw : ℕ
  pub floor : start + 1 ≤ saw
  pub reached : saw ≤ at
  -- no swap raises it past the tail's greatest value
  pub top : at ≤ 2147483648

-- The queue's tail, by what the worker has done to it.
pub record TailState (start saw seen : ℕ) (c : WorkerCall) : Type 0 where
  pub holds : HoldsIndex c seen saw
  -- it is never below start, nor above its greatest value, also after a put that has passed its test
  pub floor : start + 1 ≤ seen + lowered c
  pub top : seen + lowered c + filling c ≤ 2147483648

-- A machine after n entries, whichever margin is set, with the worker's call c.
pub record Sound (n : ℕ) (m : Machine) (c : WorkerCall) : Type 0 where
  -- the sizes are in range, and memory and the thieves are as many as they were made
  pub sizes : SizeBounds m.sizes
  pub memory : length m.slots ≡ 256
  pub long : length m.thieves ≡ 8
  -- the pending stores lead from memory's tail to the worker's
  pub buffer : Pending m.sizes (memory_of m) m.tail m.buffer
  pub head : HeadState m.sizes.start m.head
  -- the queue's tail is where the worker's call has left it
  pub tail : TailState m.sizes.start head.saw buffer.seen c
  -- the next take store is as far off as the spacing rule keeps it
  pub spaced : Spaced c buffer.owed (asked m.spacing m.sizes.spacing) m.sizes.spacing
  -- the spacing count counts entries
  pub counted : m.spacing.count ≤ n
  -- each thief has loaded a head that was there
  pub aims : (i : ℕ) → AimOf m.sizes.start head.at (thief_call m i)

-- ── Machine and plain queue ─────────────────────────────────────────────────────────────────────────────────────────────────

-- The plain queue's tasks stand in the slots of the machine m. low: by how much the worker's tail is below the queue's; fill: how many slots a put is
-- about to fill; seen and head: the worker's tail, and head; bound: an index above that of every pending slot store.
pub record Agrees (m : Machine) (low fill seen head bound : ℕ) (q : PlainQueue) : Type 0 where
  -- the margin is enough
  pub enough : needed_margin m.sizes.buffer m.sizes.spacing ≤ margin_in_use m.sizes
  -- the tasks reach from head to the queue's tail
  pub count : head + length q.tasks ≡ seen + low
  -- the sum is the queue's tail
  pub sum : q.sum + 1 ≡ seen + low
  -- from head on they lie in slots of their own, with the one that a put is about to fill ..
  pub room : seen + low + fill ≤ head + m.sizes.slots
  -- .. and so do all pending slot stores
  pub below : bound ≤ head + m.sizes.slots
  -- the worker would load the tasks' numbers, in their order
  pub shows : Shows (λ k. worker_load m (idx k)) head q.tasks
  -- a thief past its margin test whose head stands is sure of its swap
  pub sure : (i : ℕ) → SureOf m.head (Sure head bound (memory_load m (idx head)) (pending m.buffer) q.tasks) (task_at q.tasks 0).number (thief_call m i)

-- .. for a sound machine
abbrev pub AgreesOn : {n : ℕ} {m : Machine} {c : WorkerCall} → Sound n m c → PlainQueue → Type 0
AgreesOn {m = m} {c = c} v q = Agrees m (lowered c) (filling c) v.buffer.seen v.head.at v.buffer.bound q

-- ── A run watched ───────────────────────────────────────────────────────────────────────────────────────────────────────────

-- What each party's call was begun as. That the plain queue has answered to it what it owes is said in `claim`, of any queue (`Entries`).
abbrev pub begun_of : Machine → Party → Begun
begun_of m worker = worker_begun (worker_load m (worker_tail m)) m.worker.call
begun_of m (thief i) = thief_begun (thief_call m i)

-- the invariant, as `claim` asks for it: of a machine after n entries, and of the plain queue beside it

abbrev pub Holds : ℕ → Machine → Type 0
Holds n m = Sound n m m.worker.call

abbrev pub HoldsBeside : (n : ℕ) (m : Machine) → Holds n m → PlainQueue → Type 0
HoldsBeside n m v q = AgreesOn v q
