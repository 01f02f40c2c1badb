-- Demand 3: with enough margin, for every list of entries, every answer is that of the plain queue, and no task is lost or given twice.
-- Renders the two last paragraphs of "Demand 3's plain queue". What is claimed of a list is said in the crate `claim` (`Linearizes`), of any
-- queue; here stands what it has to know of FF-THE. It is proved in `proofs/Linearizable/Theorem.antt`.
use Rattle.std.specs.Prelude.{◌≡◌, true, List, [], ◌∷◌, map, ℕ, ◌-◌, ◌≤◌, length}
use Rattle.terms.specs.Sizes.{enough_margin, sizes_in_range}
use Rattle.claim.specs.PlainQueue.{Limits}
use Rattle.claim.specs.Calls.{Party, worker, thief, begun_by, is_step, party_of}
use Rattle.claim.specs.Implementation.{Implementation}
use Rattle.claim.specs.Watch.{watch_fresh, watched}
use Rattle.claim.specs.Linearizable.{Linearizable}
use Rattle.stores.specs.Index.{next}
use Rattle.stores.specs.Load.{loaded_between}
use Rattle.machine.specs.Types.{Entry, Holder, Nobody, TheWorker, TheThief, Index, Machine, Outcome, Task, Empty, Abort, Sizes, ThiefCall, StealLock, StealLoadHead, StealRaiseHead, StealLoadTail, StealLoadSlot, StealUnlockTask, StealRestoreHead, StealUnlockAbort, WorkerCall, PutLoadHead, PutStoreSlot, PutStoreTail, TakeStoreTail, TakeLoadHead, TakeLoadSlot, TakeLock, TakeReloadHead, TakeRestoreTail, TakeUnlockEmpty, TakeUnlockTask, TakeLoadLastSlot}
use Rattle.machine.specs.Machine.{fresh, thief_call, memory_load, worker_load, worker_tail}
use Rattle.machine.specs.Obey.{machine_after, obey}
use Rattle.machine.specs.Effect.{effect_of}

-- ── What a running call past its effect is going to answer ──────────────────────────────────────────────────────────────────

-- a task is what the call would now load from its slot
abbrev pub worker_owes : Machine → WorkerCall → List Outcome
worker_owes m WorkerCall.Idle = []
worker_owes m (PutLoadHead x) = []
worker_owes m (PutStoreSlot x) = []
worker_owes m PutStoreTail = []
worker_owes m TakeStoreTail = []
worker_owes m (TakeLoadHead t) = []
worker_owes m (TakeLoadSlot t) = Task (worker_load m t) ∷ []
worker_owes m (TakeLock t) = []
worker_owes m (TakeReloadHead t) = []
worker_owes m (TakeRestoreTail t) = Empty ∷ []
worker_owes m TakeUnlockEmpty = Empty ∷ []
worker_owes m (TakeUnlockTask t) = Task (worker_load m t) ∷ []
worker_owes m (TakeLoadLastSlot t) = Task (worker_load m t) ∷ []

-- a task is what the call would now load from its slot, or what it has loaded; denied: what a steal owes that gets nothing
abbrev pub thief_owes : List Outcome → Machine → ThiefCall → List Outcome
thief_owes denied m ThiefCall.Idle = []
thief_owes denied m StealLock = []
thief_owes denied m StealLoadHead = []
thief_owes denied m (StealRaiseHead h) = []
thief_owes denied m (StealLoadTail h) = []
thief_owes denied m (StealLoadSlot h) = Task (memory_load m h) ∷ []
thief_owes denied m (StealUnlockTask x) = Task x ∷ []
thief_owes denied m (StealRestoreHead h) = denied
thief_owes denied m StealUnlockAbort = denied

abbrev pub owes : Machine → Party → List Outcome
owes m worker = worker_owes m m.worker.call
owes m (thief i) = thief_owes (Abort ∷ []) m (thief_call m i)

-- ── The tasks that stand ────────────────────────────────────────────────────────────────────────────────────────────────────

-- where no call runs: the worker's loads from head up to its tail − 1
abbrev pub standing_in_slots : Machine → List ℕ
standing_in_slots m = loaded_between (worker_load m) m.head (worker_tail m)

-- While calls run: a steal that has raised head above h, and has not got the task there, leaves it standing ..
abbrev pub head_before : Index → ThiefCall → Index
head_before head ThiefCall.Idle = head
head_before head StealLock = head
head_before head StealLoadHead = head
head_before head (StealRaiseHead h) = head
head_before head (StealLoadTail h) = h
head_before head (StealLoadSlot h) = head
head_before head (StealUnlockTask x) = head
head_before head (StealRestoreHead h) = h
head_before head StealUnlockAbort = head

-- .. and so does a take that has lowered the tail to t, and has not got the task there, if there is one
abbrev pub tail_before : Index → WorkerCall → Index
tail_before tail WorkerCall.Idle = tail
tail_before tail (PutLoadHead x) = tail
tail_before tail (PutStoreSlot x) = tail
tail_before tail PutStoreTail = tail
tail_before tail TakeStoreTail = tail
tail_before tail (TakeLoadHead t) = next t
tail_before tail (TakeLoadSlot t) = tail
tail_before tail (TakeLock t) = next t
tail_before tail (TakeReloadHead t) = next t
tail_before tail (TakeRestoreTail t) = next t
tail_before tail TakeUnlockEmpty = tail
tail_before tail (TakeUnlockTask t) = tail
tail_before tail (TakeLoadLastSlot t) = tail

-- of the thieves only the one that has the lock can have raised head
abbrev pub call_inside : Machine → Holder → ThiefCall
call_inside m Nobody = ThiefCall.Idle
call_inside m TheWorker = ThiefCall.Idle
call_inside m (TheThief i) = thief_call m i

-- the numbers of the tasks that stand, at any moment
abbrev pub standing_now : Machine → List ℕ
standing_now m = loaded_between (worker_load m) (head_before m.head (call_inside m m.lock.holder)) (tail_before (worker_tail m) m.worker.call)

-- ── The claim ───────────────────────────────────────────────────────────────────────────────────────────────────────────────

-- FULL comes only with slots − 1 or more tasks standing, STORED only with fewer than slots
abbrev pub limits : Sizes → Limits
limits s = record { full = s.slots - 1; stored = s.slots }

-- FF-THE, the queue of 002's Figures 2a, 2b and 3, as far as the claim has to know it: the plain queue is told of every call
abbrev pub ff_the : Implementation Machine Entry
ff_the =
    record {
      fresh = fresh;
      next = λ m e. (obey m e).machine;
      outcome = λ m e. (obey m e).outcome;
      hidden = λ m e. (obey m e).hidden;
      party = party_of;
      begins = begun_by;
      is_step = is_step;
      effect = λ m e. effect_of (obey m e).outcome m e;
      owes = owes;
      standing = standing_in_slots;
      standing_now = standing_now;
      is_told = λ begun answer. true;
      limits = limits;
    }

-- Demand 3, one claim for a whole list: up to 4,096 entries, from the fresh machine, under sizes in range with enough margin. An operand that
-- is not allowed needs no exception: a thief that is not there gets 7.
abbrev pub Demand3 : Type 0
Demand3 =
    (s : Sizes) (es : List Entry)
    → sizes_in_range s ≡ true
    → enough_margin s ≡ true
    → length es ≤ 4096
    → Linearizable ff_the s es

-- At every moment the tasks that stand are, oldest first, those of `standing_now`; where no call runs, that is 01's list, a field of the claim. Proved beside demand 3.
abbrev pub StandsNow : Type 0
StandsNow =
    (s : Sizes) (es : List Entry)
    → sizes_in_range s ≡ true
    → enough_margin s ≡ true
    → map (λ t. t.number) (watched ff_the (watch_fresh ff_the s) es).queue.tasks ≡ standing_now (machine_after (fresh s) es)
