-- The invariant: what is true after every entry of a run, of the machine, of the plain queue beside it, and of the calls in progress.
--
-- Indices are natural numbers, one above (`Laws.Index`). Two of them are not in the machine. The queue's tail is one past the newest task
-- that stands: the worker's tail, or one more while a take has lowered the worker's tail and taken nothing. And lo is where the slots begin
-- that may not be written over: at a stolen task that its thief has yet to load, or else at the oldest task.
--
-- `Sound` holds whichever margin is set; `Agrees` needs one that is enough.
use mathlib.Core.Path.{◌≡◌}
use mathlib.Core.Bool.{Bool, true, false, cond}
use mathlib.Core.List.{List, [], foldl, ◌∷◌}
use Prim.Native.Nat.{ℕ, ◌+◌, ◌≤◌, ◌<◌}
use native.Mathlib.Omega.{arith}
use lib.Dec.{eqb}
use lib.ListN.{length}
use Rattle.terms.specs.Sizes.{margin_in_use, needed_margin}
use Rattle.terms.proofs.Laws.Sizes.{SizeBounds}
use Rattle.stores.specs.StoreBuffer.{slots_after}
use Rattle.stores.proofs.Laws.Index.{idx}
use Rattle.stores.proofs.Laws.Chain.{SlotsWithin}
use Rattle.stores.proofs.Laws.Pending.{Memory, Pending, unlanded}
use Rattle.stores.proofs.Laws.Spacing.{asked}
use Rattle.claim.specs.PlainQueue.{PlainQueue}
use Rattle.claim.specs.Calls.{Begun, nothing, a_put, a_take, a_steal, Party, PartyCall, worker, thief}
use Rattle.claim.proofs.Follows.{Follows}
use Rattle.machine.specs.Types.{Holder, Nobody, TheWorker, TheThief, Index, Machine, Sizes, Store, ThiefCall, StealLock, StealLoadHead, StealRaiseHead, StealLoadTail, StealLoadSlot, StealUnlockTask, StealRestoreHead, StealUnlockAbort, WorkerCall, PutLoadHead, PutStoreSlot, PutStoreTail, TakeStoreTail, TakeLoadHead, TakeLoadSlot, TakeLock, TakeReloadHead, TakeRestoreTail, TakeUnlockEmpty, TakeUnlockTask, TakeLoadLastSlot, Outcome, Abort}
use Rattle.machine.specs.Update.{with_memory}
use Rattle.machine.specs.Machine.{thief_call, worker_load, worker_tail}
use Rattle.machine.specs.Linearizable.{thief_owes, worker_owes}
pub use Rattle.claim.proofs.Laws.Tasks.{Shows, task_at}

-- ── The worker's call ───────────────────────────────────────────────────────────────────────────────────────────────────────

-- 1 while the worker's tail is below the queue's: a take has lowered it and taken nothing
abbrev pub lowered : WorkerCall → ℕ
lowered WorkerCall.Idle = 0
lowered (PutLoadHead x) = 0
lowered (PutStoreSlot x) = 0
lowered PutStoreTail = 0
lowered TakeStoreTail = 0
lowered (TakeLoadHead t) = 1
lowered (TakeLoadSlot t) = 0
lowered (TakeLock t) = 1
lowered (TakeReloadHead t) = 1
lowered (TakeRestoreTail t) = 1
lowered TakeUnlockEmpty = 0
lowered (TakeUnlockTask t) = 0
lowered (TakeLoadLastSlot t) = 0

-- 1 while a put that has passed its test is to fill the slot of the tail
abbrev pub filling : WorkerCall → ℕ
filling WorkerCall.Idle = 0
filling (PutLoadHead x) = 0
filling (PutStoreSlot x) = 1
filling PutStoreTail = 1
filling TakeStoreTail = 0
filling (TakeLoadHead t) = 0
filling (TakeLoadSlot t) = 0
filling (TakeLock t) = 0
filling (TakeReloadHead t) = 0
filling (TakeRestoreTail t) = 0
filling TakeUnlockEmpty = 0
filling (TakeUnlockTask t) = 0
filling (TakeLoadLastSlot t) = 0

-- the index that a take holds is the worker's tail
abbrev pub HoldsTail : WorkerCall → ℕ → Type 0
HoldsTail WorkerCall.Idle seen = Unit {0}
HoldsTail (PutLoadHead x) seen = Unit {0}
HoldsTail (PutStoreSlot x) seen = Unit {0}
HoldsTail PutStoreTail seen = Unit {0}
HoldsTail TakeStoreTail seen = Unit {0}
HoldsTail (TakeLoadHead t) seen = t ≡ idx seen
HoldsTail (TakeLoadSlot t) seen = t ≡ idx seen
HoldsTail (TakeLock t) seen = t ≡ idx seen
HoldsTail (TakeReloadHead t) seen = t ≡ idx seen
HoldsTail (TakeRestoreTail t) seen = t ≡ idx seen
HoldsTail TakeUnlockEmpty seen = Unit {0}
HoldsTail (TakeUnlockTask t) seen = t ≡ idx seen
HoldsTail (TakeLoadLastSlot t) seen = t ≡ idx seen

-- whether the worker is between its lock and its unlock
abbrev pub locked : WorkerCall → Bool
locked WorkerCall.Idle = false
locked (PutLoadHead x) = false
locked (PutStoreSlot x) = false
locked PutStoreTail = false
locked TakeStoreTail = false
locked (TakeLoadHead t) = false
locked (TakeLoadSlot t) = false
locked (TakeLock t) = false
locked (TakeReloadHead t) = true
locked (TakeRestoreTail t) = true
locked TakeUnlockEmpty = true
locked (TakeUnlockTask t) = true
locked (TakeLoadLastSlot t) = false

-- The stores that are due behind the pending ones before a take may store again are at most the stores that the spacing rule still
-- asks for. A take that has begun and not stored has waited for them all, and from its store on all are asked for again.
abbrev pub Spaced : WorkerCall → ℕ → ℕ → ℕ → Type 0
Spaced WorkerCall.Idle owed asked spacing = owed ≤ asked
Spaced (PutLoadHead x) owed asked spacing = owed ≤ asked
Spaced (PutStoreSlot x) owed asked spacing = owed ≤ asked
Spaced PutStoreTail owed asked spacing = owed ≤ asked
Spaced TakeStoreTail owed asked spacing = (owed ≤ 0) × (asked ≡ spacing)
Spaced (TakeLoadHead t) owed asked spacing = owed ≤ asked
Spaced (TakeLoadSlot t) owed asked spacing = owed ≤ asked
Spaced (TakeLock t) owed asked spacing = owed ≤ asked
Spaced (TakeReloadHead t) owed asked spacing = owed ≤ asked
Spaced (TakeRestoreTail t) owed asked spacing = owed ≤ asked
Spaced TakeUnlockEmpty owed asked spacing = owed ≤ asked
Spaced (TakeUnlockTask t) owed asked spacing = owed ≤ asked
Spaced (TakeLoadLastSlot t) owed asked spacing = owed ≤ asked

-- what was begun; a put past its second step has its number in the slot of the tail
abbrev pub worker_begun : Machine → WorkerCall → Begun
worker_begun m WorkerCall.Idle = nothing
worker_begun m (PutLoadHead x) = a_put x
worker_begun m (PutStoreSlot x) = a_put x
worker_begun m PutStoreTail = a_put (worker_load m (worker_tail m))
worker_begun m TakeStoreTail = a_take
worker_begun m (TakeLoadHead t) = a_take
worker_begun m (TakeLoadSlot t) = a_take
worker_begun m (TakeLock t) = a_take
worker_begun m (TakeReloadHead t) = a_take
worker_begun m (TakeRestoreTail t) = a_take
worker_begun m TakeUnlockEmpty = a_take
worker_begun m (TakeUnlockTask t) = a_take
worker_begun m (TakeLoadLastSlot t) = a_take

-- ── The call of the thief inside the lock ───────────────────────────────────────────────────────────────────────────────────

-- 1 while head is above the oldest task: raised, and nothing stolen
abbrev pub raised : ThiefCall → ℕ
raised ThiefCall.Idle = 0
raised StealLock = 0
raised StealLoadHead = 0
raised (StealRaiseHead h) = 0
raised (StealLoadTail h) = 1
raised (StealLoadSlot h) = 0
raised (StealUnlockTask x) = 0
raised (StealRestoreHead h) = 1
raised StealUnlockAbort = 0

-- 1 while the thief has stolen a task and not loaded it
abbrev pub stolen : ThiefCall → ℕ
stolen ThiefCall.Idle = 0
stolen StealLock = 0
stolen StealLoadHead = 0
stolen (StealRaiseHead h) = 0
stolen (StealLoadTail h) = 0
stolen (StealLoadSlot h) = 1
stolen (StealUnlockTask x) = 0
stolen (StealRestoreHead h) = 0
stolen StealUnlockAbort = 0

-- head is above lo by one at most
pub raised_stolen : (p : ThiefCall) → raised p + stolen p ≤ 1
raised_stolen ThiefCall.Idle = omega arith
raised_stolen StealLock = omega arith
raised_stolen StealLoadHead = omega arith
raised_stolen (StealRaiseHead h) = omega arith
raised_stolen (StealLoadTail h) = omega arith
raised_stolen (StealLoadSlot h) = omega arith
raised_stolen (StealUnlockTask x) = omega arith
raised_stolen (StealRestoreHead h) = omega arith
raised_stolen StealUnlockAbort = omega arith

-- the index that it holds is lo
abbrev pub HoldsHead : ThiefCall → ℕ → Type 0
HoldsHead ThiefCall.Idle lo = Unit {0}
HoldsHead StealLock lo = Unit {0}
HoldsHead StealLoadHead lo = Unit {0}
HoldsHead (StealRaiseHead h) lo = h ≡ idx lo
HoldsHead (StealLoadTail h) lo = h ≡ idx lo
HoldsHead (StealLoadSlot h) lo = h ≡ idx lo
HoldsHead (StealUnlockTask x) lo = Unit {0}
HoldsHead (StealRestoreHead h) lo = h ≡ idx lo
HoldsHead StealUnlockAbort lo = Unit {0}

-- whether a thief is outside the lock
abbrev pub outside : ThiefCall → Bool
outside ThiefCall.Idle = true
outside StealLock = true
outside StealLoadHead = false
outside (StealRaiseHead h) = false
outside (StealLoadTail h) = false
outside (StealLoadSlot h) = false
outside (StealUnlockTask x) = false
outside (StealRestoreHead h) = false
outside StealUnlockAbort = false

abbrev pub thief_begun : ThiefCall → Begun
thief_begun ThiefCall.Idle = nothing
thief_begun StealLock = a_steal
thief_begun StealLoadHead = a_steal
thief_begun (StealRaiseHead h) = a_steal
thief_begun (StealLoadTail h) = a_steal
thief_begun (StealLoadSlot h) = a_steal
thief_begun (StealUnlockTask x) = a_steal
thief_begun (StealRestoreHead h) = a_steal
thief_begun StealUnlockAbort = a_steal

-- ── Mutual exclusion ────────────────────────────────────────────────────────────────────────────────────────────────────────

-- the lock, whether the worker is inside it, and the call of the thief inside, which is no call where nobody or the worker holds the lock
abbrev pub Exclusive : Holder → Bool → ThiefCall → Type 0
Exclusive Nobody working p = (working ≡ false) × (p ≡ ThiefCall.Idle)
Exclusive TheWorker working p = (working ≡ true) × (p ≡ ThiefCall.Idle)
Exclusive (TheThief i) working p = (working ≡ false) × (outside p ≡ false)

-- the thief that holds the lock, which is one of the k that are there, is the one inside, and every other is outside
abbrev pub InPlace : Bool → ℕ → ℕ → ThiefCall → ThiefCall → Type 0
InPlace true k i p c = (c ≡ p) × (i < k)
InPlace false k i p c = outside c ≡ true

abbrev pub holds : Holder → ℕ → Bool
holds Nobody i = false
holds TheWorker i = false
holds (TheThief j) i = eqb i j

-- ── The machine ─────────────────────────────────────────────────────────────────────────────────────────────────────────────

-- What FF-THE runs on: the memory below the buffer, the margin that thieves keep, and the calls that the plain queue is told of, by what was begun
-- and what it answers.
pub record Environment : Type 0 where
  pub memory : Memory
  pub margin : ℕ
  pub is_told : Begun → Outcome → Bool

-- a margin that is enough for as many stores as the buffer holds and as lie below it
abbrev pub Enough : Environment → Sizes → Type 0
Enough g z = needed_margin (length g.memory.front + z.buffer) z.spacing ≤ g.margin

-- what a steal owes that gets nothing
abbrev pub denied : Environment → List Outcome
denied g = cond (g.is_told a_steal Abort) (Abort ∷ []) []

-- the machine's own memory, with nothing between it and the buffer
abbrev pub plain_memory : Machine → Memory
plain_memory m = record { front = []; tail = m.tail; slots = m.slots }

-- .. with the margin in use
abbrev pub plain_telling : (Begun → Outcome → Bool) → Machine → Environment
plain_telling is_told m = record { memory = plain_memory m; margin = margin_in_use m.sizes; is_told = is_told }

-- .. and where the plain queue is told of every call
abbrev pub plain : Machine → Environment
plain m = plain_telling (λ begun answer. true) m

-- the machine as thieves load it
abbrev pub bare : Environment → Machine → Machine
bare g m = with_memory g.memory.slots g.memory.tail m.buffer m

-- Head, by what the thief inside has done to it.
pub record HeadState (start : ℕ) (head : Index) (p : ThiefCall) : Type 0 where
  -- where a stolen task lies that is still to be loaded, or else the oldest task
  pub lo : ℕ
  -- head is lo, or one above while the thief has raised it
  pub head_is_lem : head ≡ idx (lo + (raised p + stolen p))
  pub holds_head : HoldsHead p lo
  -- no task lies below start, and none is stolen from past the tail's greatest value
  pub floor : start + 1 ≤ lo
  pub top : lo + stolen p ≤ 2147483648

-- memory's head
abbrev pub head_at : {start : ℕ} {head : Index} {p : ThiefCall} → HeadState start head p → ℕ
head_at {p = p} v = v.lo + (raised p + stolen p)

-- The queue's tail, by what the worker has done to it.
pub record TailState (start seen : ℕ) (c : WorkerCall) : Type 0 where
  pub holds_tail : HoldsTail c seen
  -- the queue's tail is never below start, nor above its greatest value, also after a put that has passed its test
  pub floor : start + 1 ≤ seen + lowered c
  pub top : seen + lowered c + filling c ≤ 2147483648

-- A machine after n entries, whichever margin is set, with the worker's call c, and p the call of the thief inside.
pub record Sound (g : Environment) (n : ℕ) (m : Machine) (c : WorkerCall) (p : ThiefCall) : Type 0 where
  -- the sizes are in range, and memory is as long as it was made
  pub sizes : SizeBounds m.sizes
  pub memory : length g.memory.slots ≡ 256
  pub margin_some : 1 ≤ g.margin
  -- the worker's slots are memory's after the stores below the buffer
  pub slots_after_lem : foldl (λ l a. slots_after m.sizes.slots l a.kind) g.memory.slots g.memory.front ≡ m.slots
  -- the pending stores lead from memory's tail to the worker's
  pub buffer : Pending m.sizes g.memory m.tail m.buffer
  -- head is where the thief inside has left it
  pub head : HeadState m.sizes.start m.head p
  -- the queue's tail is where the worker's call has left it
  pub tail : TailState m.sizes.start buffer.seen c
  -- the next take store is as far off as the spacing rule keeps it
  pub spaced : Spaced c buffer.owed (asked m.spacing m.sizes.spacing) m.sizes.spacing
  -- the spacing count counts entries
  pub counted : m.spacing.count ≤ n
  -- worker and thief are not inside at once
  pub lock : Exclusive m.lock.holder (locked c) p

-- ── Machine and plain queue ─────────────────────────────────────────────────────────────────────────────────────────────────

-- The plain queue's tasks stand in the slots as the worker loads them, `load`, of n slots, with the stores b not landed. low: by how much the
-- worker's tail is below the queue's; fill: how many slots a put is about to fill; gone: how many tasks are stolen and not loaded.
pub record Agrees (n : ℕ) (load : ℕ → ℕ) (b : List Store) (low fill gone seen lo bound : ℕ) (q : PlainQueue) : Type 0 where
  -- the tasks reach from the oldest, past one that is stolen and not loaded, to the queue's tail
  pub count : lo + gone + length q.tasks ≡ seen + low
  -- the sum is the queue's tail
  pub sum : q.sum + 1 ≡ seen + low
  -- from lo on they lie in slots of their own, with the one that a put is about to fill ..
  pub room : seen + low + fill ≤ lo + n
  -- .. and so do all pending slot stores
  pub below : bound ≤ lo + n
  -- the worker would load the tasks' numbers, in their order
  pub shows : Shows load (lo + gone) q.tasks
  -- what a thief is about to load is not written over
  pub unwritten : gone ≡ 1 → SlotsWithin lo bound b

-- .. for a sound machine
abbrev pub AgreesOn : {g : Environment} {n : ℕ} {m : Machine} {c : WorkerCall} {p : ThiefCall} → Sound g n m c p → PlainQueue → Type 0
AgreesOn {g = g} {m = m} {c = c} {p = p} v q =
    Agrees m.sizes.slots (λ k. worker_load m (idx k)) (unlanded g.memory m.buffer) (lowered c) (filling c) (stolen p) v.buffer.seen v.head.lo v.buffer.bound q

-- ── A run watched ───────────────────────────────────────────────────────────────────────────────────────────────────────────

-- A run of sizes s, after n entries, in the environment g, with m the machine as the worker loads it. E says that the margin is enough.
pub record Invariant (E : Type 0) (s : Sizes) (n : ℕ) (g : Environment) (m : Machine) (q : PlainQueue) (calls : Party → PartyCall) : Type 0 where
  -- the call of the thief inside the lock
  pub inside : ThiefCall
  -- the sizes never change
  pub sizes_are : m.sizes ≡ s
  pub long : length m.thieves ≡ 8
  pub sound : Sound g n m m.worker.call inside
  -- the thief that holds the lock is inside, and every other is outside
  pub thieves : (i : ℕ) → InPlace (holds m.lock.holder i) m.sizes.thieves i inside (thief_call m i)
  -- with enough margin, the tasks are in the slots ..
  pub agrees : E → AgreesOn sound q
  -- .. and what each party's call owes is what the plain queue has answered to it
  pub worker_call : E → Follows (calls worker) (worker_begun m m.worker.call) (worker_owes m m.worker.call)
  pub thief_call_lem : E → (i : ℕ) → Follows (calls (thief i)) (thief_begun (thief_call m i)) (thief_owes (denied g) (bare g m) (thief_call m i))
