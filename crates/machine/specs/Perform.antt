-- A step on the machine: what a party sees of it, and what the step does to it. The steps themselves are in `Worker` and `Thief`; what the
-- parties load is in `Machine`.
use Rattle.std.specs.Prelude.{ℕ}
use Rattle.terms.specs.Sizes.{margin_in_use}
use Rattle.machine.specs.Types.{Done, Machine, ThiefCall, ThiefMove, ThiefView, WorkerCall, WorkerMove, WorkerView}
use Rattle.machine.specs.Worker.{loads, worker_move}
use Rattle.machine.specs.Thief.{loads as thief_loads, thief_move}
use Rattle.machine.specs.Update.{with_head, with_lock, with_store, with_thief, with_worker}
use Rattle.machine.specs.Machine.{done, has_room, memory_loads, nothing_pending, thief_tail, worker_loads, worker_tail}

-- ── The worker ──────────────────────────────────────────────────────────────────────────────────────────────────────────────

-- what it sees at a step of this call
abbrev pub worker_view : Machine → WorkerCall → WorkerView
worker_view m c =
    record {
      call = c;
      slots = m.sizes.slots;
      tail = worker_tail m;
      head = m.head;
      lock = m.lock;
      room = has_room m;
      drained = nothing_pending m;
      loaded = worker_loads m (loads c);
    }

-- what its move does: the store that it makes is pending, and counted if it counts; lock and call are as the move says
abbrev pub perform_worker : Machine → WorkerMove → Done
perform_worker m d = done d.outcome (with_worker d.call (with_lock d.lock.holder (with_store d.push m)))

-- the next step of its call
abbrev pub step_of_worker : Machine → WorkerCall → Done
step_of_worker m c = perform_worker m (worker_move c (worker_view m c))

-- ── A thief ─────────────────────────────────────────────────────────────────────────────────────────────────────────────────

-- what thief i sees at a step of this call, with the margin that it keeps ..
abbrev pub view_keeping : ℕ → Machine → ℕ → ThiefCall → ThiefView
view_keeping margin m i c =
    record {
      call = c;
      me = i;
      head = m.head;
      tail = thief_tail m;
      lock = m.lock;
      margin = margin;
      loaded = memory_loads m (thief_loads c);
    }

-- .. which is the margin in use
abbrev pub thief_view : Machine → ℕ → ThiefCall → ThiefView
thief_view m i c = view_keeping (margin_in_use m.sizes) m i c

-- what the move of thief i does: head, lock and call are as the move says
abbrev pub perform_thief : ℕ → Machine → ThiefMove → Done
perform_thief i m d = done d.outcome (with_thief i d.call (with_lock d.lock.holder (with_head d.head m)))

-- the next step of the call of thief i, with the margin that it keeps ..
abbrev pub step_keeping : ℕ → ℕ → Machine → ThiefCall → Done
step_keeping margin i m c = perform_thief i m (thief_move c (view_keeping margin m i c))

-- .. which is the margin in use
abbrev pub step_of_thief : ℕ → Machine → ThiefCall → Done
step_of_thief i m c = step_keeping (margin_in_use m.sizes) i m c
