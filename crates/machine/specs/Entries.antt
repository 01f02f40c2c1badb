-- The entries that are no step of a call: a drain, a client store, and the beginnings. Renders, of "The machine", the drain and when the spacing count begins anew; and 5, 6 and 7 of "The numbers" for them.
use Rattle.std.specs.Prelude.{cond, not, ℕ}
use Rattle.stores.specs.Spacing.{take_begins, too_early}
use Rattle.stores.specs.StoreBuffer.{drop_oldest, oldest, slots_after, tail_after}
use Rattle.machine.specs.Types.{Client, Done, Machine, TheClient, Some, Moved, Place, Early, ThiefCall, StealLock, WorkerCall, PutLoadHead, TakeStoreTail}
use Rattle.machine.specs.Update.{with_memory, with_spacing, with_store, with_thief, with_worker}
use Rattle.machine.specs.Worker.{worker_runs}
use Rattle.machine.specs.Thief.{thief_runs}
use Rattle.machine.specs.Machine.{done, has_room, needing, nothing_pending, thief_call}

-- ── The memory ──────────────────────────────────────────────────────────────────────────────────────────────────────────────

-- the machine after its oldest pending store has reached memory; a client store has no place there
abbrev pub drained : Machine → Machine
drained m =
    with_memory
    (slots_after m.sizes.slots m.slots (oldest m.buffer).kind)
    (tail_after m.tail (oldest m.buffer).kind)
    (drop_oldest m.buffer)
    m

-- 7 WAIT where nothing is pending
abbrev pub drain : Machine → Done
drain m = needing (not (nothing_pending m)) m (done Moved (drained m))

-- ── The worker ──────────────────────────────────────────────────────────────────────────────────────────────────────────────

-- 5 PLACE for a beginning or a client store while the worker's call runs
abbrev pub unless_worker_runs : Machine → Done → Done
unless_worker_runs m d = cond (worker_runs m.worker.call) (done Place m) d

-- the worker's call goes on: this step is next
abbrev pub worker_goes_on : WorkerCall → Machine → Done
worker_goes_on c m = done Moved (with_worker c m)

-- a client store, which counts
abbrev pub make_client_store : Machine → Done
make_client_store m = unless_worker_runs m (needing (has_room m) m (done Moved (with_store (Some (TheClient, Client)) m)))

abbrev pub begin_put : ℕ → Machine → Done
begin_put x m = unless_worker_runs m (worker_goes_on (PutLoadHead x) m)

-- 6 EARLY against the spacing rule
abbrev pub begin_take : Machine → Done
begin_take m = unless_worker_runs m (cond (too_early m.spacing m.sizes.spacing) (done Early m) (worker_goes_on TakeStoreTail (with_spacing take_begins m)))

-- ── A thief ─────────────────────────────────────────────────────────────────────────────────────────────────────────────────

-- the call of thief i goes on: this step is next
abbrev pub thief_goes_on : ℕ → ThiefCall → Machine → Done
thief_goes_on i c m = done Moved (with_thief i c m)

-- 5 PLACE for a beginning while that thief's call runs
abbrev pub begin_steal : ℕ → Machine → Done
begin_steal i m = cond (thief_runs (thief_call m i)) (done Place m) (thief_goes_on i StealLock m)
