-- Demand 3 for the compare-and-swap queue: with enough margin, for every list of entries, every call of which the plain queue is told gets its answer, and no task is lost or given twice. Renders the last sentence of request 5 in 02: where each call takes effect, and of which calls
-- the plain queue is not told. What is claimed of a list is said in the crate `claim` (`Linearizes`), of any queue. It is proved in `proofs/Linearizable/Theorem.antt`.
use Rattle.std.specs.Prelude.{◌≡◌, Bool, true, false, not, List, [], ◌∷◌, map, ℕ, ◌≤◌, eqb, length, take}
use Rattle.terms.specs.Outcome.{is_answer, number_of}
use Rattle.terms.specs.Sizes.{enough_margin, needed_margin, sizes_in_range}
use Rattle.claim.specs.PlainQueue.{Limits, PlainQueue}
use Rattle.claim.specs.Calls.{Begun, nothing, a_put, a_take, a_steal, Effect, none, decided, only_where, Party, worker, thief, begun_by, is_step, party_of}
use Rattle.claim.specs.Implementation.{Implementation}
use Rattle.claim.specs.Watch.{watch_fresh, watched}
use Rattle.claim.specs.Linearizable.{Linearizable}
use Rattle.stores.specs.Index.{eq_z, next}
use Rattle.stores.specs.Load.{loaded_between}
use Rattle.cas.specs.Types.{Entry, Drain, ClientStore, BeginPut, BeginTake, WorkerStep, BeginSteal, ThiefStep, Index, Machine, Outcome, Task, Empty, Abort, Full, Sizes, ThiefCall, StealLoadHead, StealLoadTail, StealLoadSlot, StealSwapHead, WorkerCall, PutLoadHead, PutStoreSlot, PutStoreTail, TakeStoreTail, TakeLoadHead, TakeLoadSlot, TakeTailToHead, TakeTailPastHead, TakeSwapHead, TakeLoadLastSlot}
use Rattle.cas.specs.Machine.{fresh, takes_pending, thief_call, worker_load, worker_tail}
use Rattle.cas.specs.Entries.{machine_after, obey}

-- ── Where a call takes effect ───────────────────────────────────────────────────────────────────────────────────────────────

-- A put at step 3, or at step 1 where it ends there, which is FULL or END, as in 01. A take at its load of h, unless t = h: then at its swap, won or lost; that effect is decided as one of a swap, which the plain queue's sum leaves out. The outcome is that of the step.
abbrev pub worker_effect : Outcome → Machine → WorkerCall → Effect
worker_effect o m WorkerCall.Idle = none
worker_effect o m (PutLoadHead x) = only_where (is_answer o) (eqb (number_of o) (number_of Full))
worker_effect o m (PutStoreSlot x) = none
worker_effect o m PutStoreTail = decided false
worker_effect o m TakeStoreTail = none
worker_effect o m (TakeLoadHead t) = only_where (not (eq_z t.at m.head.at)) false
worker_effect o m (TakeLoadSlot t) = none
worker_effect o m (TakeTailToHead h) = none
worker_effect o m (TakeTailPastHead t) = none
worker_effect o m (TakeSwapHead t) = decided true
worker_effect o m (TakeLoadLastSlot t) = none

-- a steal at the swap that succeeds, which answers TASK; ABORT at its load of T. A steal that finds EMPTY there takes no effect, and neither does a swap that fails.
abbrev pub thief_effect : Outcome → ThiefCall → Effect
thief_effect o ThiefCall.Idle = none
thief_effect o StealLoadHead = none
thief_effect o (StealLoadTail h) = only_where (eqb (number_of o) (number_of Abort)) true
thief_effect o (StealLoadSlot h) = none
thief_effect o (StealSwapHead x h) = only_where (is_answer o) false

abbrev pub effect_of : Outcome → Machine → Entry → Effect
effect_of o m Drain = none
effect_of o m ClientStore = none
effect_of o m (BeginPut x) = none
effect_of o m BeginTake = none
effect_of o m WorkerStep = worker_effect o m m.worker.call
effect_of o m (BeginSteal i) = none
effect_of o m (ThiefStep i) = thief_effect o (thief_call m i)

-- ── What a running call past its effect is going to answer ──────────────────────────────────────────────────────────────────

-- a task is what the call would now load from its slot
abbrev pub worker_owes : (Index → ℕ) → WorkerCall → List Outcome
worker_owes load WorkerCall.Idle = []
worker_owes load (PutLoadHead x) = []
worker_owes load (PutStoreSlot x) = []
worker_owes load PutStoreTail = []
worker_owes load TakeStoreTail = []
worker_owes load (TakeLoadHead t) = []
worker_owes load (TakeLoadSlot t) = Task (load t) ∷ []
worker_owes load (TakeTailToHead h) = Empty ∷ []
worker_owes load (TakeTailPastHead t) = []
worker_owes load (TakeSwapHead t) = []
worker_owes load (TakeLoadLastSlot t) = Task (load t) ∷ []

-- a steal answers where it takes effect, and owes nothing; what it holds before is said below (`LoadedIsTheTask`)
abbrev pub owes : Machine → Party → List Outcome
owes m worker = worker_owes (worker_load m) m.worker.call
owes m (thief i) = []

-- ── The tasks that stand ────────────────────────────────────────────────────────────────────────────────────────────────────

-- where no call runs: the worker's loads from the slots of head up to its tail − 1
abbrev pub standing_in_slots : Machine → List ℕ
standing_in_slots m = loaded_between (worker_load m) m.head (worker_tail m)

-- while calls run: a take that has lowered the tail to t, and has not got the task there, if there is one, leaves it standing
abbrev pub tail_before : Index → WorkerCall → Index
tail_before tail WorkerCall.Idle = tail
tail_before tail (PutLoadHead x) = tail
tail_before tail (PutStoreSlot x) = tail
tail_before tail PutStoreTail = tail
tail_before tail TakeStoreTail = tail
tail_before tail (TakeLoadHead t) = next t
tail_before tail (TakeLoadSlot t) = tail
tail_before tail (TakeTailToHead h) = h
tail_before tail (TakeTailPastHead t) = next t
tail_before tail (TakeSwapHead t) = tail
tail_before tail (TakeLoadLastSlot t) = tail

-- the numbers of the tasks that stand, at any moment: head moves only by a swap, as a task leaves
abbrev pub standing_now : Machine → List ℕ
standing_now m = loaded_between (worker_load m) m.head (tail_before (worker_tail m) m.worker.call)

-- ── The claim ───────────────────────────────────────────────────────────────────────────────────────────────────────────────

-- the plain queue is told of every call but a steal that answers EMPTY: a put may lag, so that a thief finds none where tasks stand
abbrev pub told_of_all_but_empty_steals : Begun → Outcome → Bool
told_of_all_but_empty_steals nothing o = true
told_of_all_but_empty_steals (a_put x) o = true
told_of_all_but_empty_steals a_take o = true
told_of_all_but_empty_steals a_steal o = not (eqb (number_of o) (number_of Empty))

-- A put is FULL at tail − head ≥ slots, and no thief raises head before it has the task there: so FULL comes only with slots tasks or more standing, and STORED only with fewer. (There are never more than slots.)
abbrev pub limits : Sizes → Limits
limits s = record { full = s.slots; stored = s.slots }

-- FF-CL, the queue of 002's Figures 2c and 4, as far as the claim has to know it
abbrev pub ff_cl : Implementation Machine Entry
ff_cl =
    record {
      fresh = fresh;
      next = λ m e. (obey m e).machine;
      outcome = λ m e. (obey m e).outcome;
      hidden = λ m e. (obey m e).hidden;
      party = party_of;
      begins = begun_by;
      is_step = is_step;
      effect = λ m e. effect_of (obey m e).outcome m e;
      owes = owes;
      standing = standing_in_slots;
      standing_now = standing_now;
      is_told = told_of_all_but_empty_steals;
      limits = limits;
    }

-- Demand 3, one claim for a whole list: up to 4,096 entries, from the fresh machine, under sizes in range with enough margin
abbrev pub Demand3 : Type 0
Demand3 =
    (s : Sizes) (es : List Entry)
    → sizes_in_range s ≡ true
    → enough_margin s ≡ true
    → length es ≤ 4096
    → Linearizable ff_cl s es

-- ── What else is true of every list ─────────────────────────────────────────────────────────────────────────────────────────

-- the plain queue after a list
abbrev pub queue_of : Sizes → List Entry → PlainQueue
queue_of s es = (watched ff_cl (watch_fresh ff_cl s) es).queue

-- At every moment the tasks that stand are, oldest first, those of `standing_now`; where no call runs, that is 01's list, a field of the claim.
abbrev pub StandsNow : Type 0
StandsNow =
    (s : Sizes) (es : List Entry)
    → sizes_in_range s ≡ true
    → enough_margin s ≡ true
    → map (λ t. t.number) (queue_of s es).tasks ≡ standing_now (machine_after (fresh s) es)

-- A thief loads its value before its effect. From that load on, at every moment at which its swap would succeed, what it has loaded is the number of the task that would leave: the oldest that stands.
abbrev pub LoadedIsTheTask : Type 0
LoadedIsTheTask =
    (s : Sizes) (es : List Entry)
    → sizes_in_range s ≡ true
    → enough_margin s ≡ true
    → (i x : ℕ) (h : Index)
    → thief_call (machine_after (fresh s) es) i ≡ StealSwapHead x h
    → h ≡ (machine_after (fresh s) es).head
    → map (λ t. t.number) (take 1 (queue_of s es).tasks) ≡ x ∷ []

-- There are never more tasks than slots, so that FULL, which comes only with slots or more, comes with exactly slots.
abbrev pub NeverMoreThanSlots : Type 0
NeverMoreThanSlots = (s : Sizes) (es : List Entry) → sizes_in_range s ≡ true → enough_margin s ≡ true → length (queue_of s es).tasks ≤ s.slots

-- The stores of take step 1 that are pending are at most as many as the needed margin, whichever margin is set (02's request 4).
abbrev pub TakeStoresWithinNeeded : Type 0
TakeStoresWithinNeeded = (s : Sizes) (es : List Entry) → sizes_in_range s ≡ true → takes_pending (machine_after (fresh s) es) ≤ needed_margin s.buffer s.spacing
