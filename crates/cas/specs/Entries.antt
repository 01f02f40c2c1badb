-- An entry obeyed, and a list of them: the steps of `Worker` and `Thief` on the machine, a drain, a client store and the beginnings, which are 01's. Renders, of 01's "The machine", the drain and when the spacing count begins anew, of "Parts" what an
-- operation does first, and of "The numbers" 5, 6 and 7 and their order; and of request 4, in 02, for which machine a number is handed on.
use Rattle.std.specs.Prelude.{◌≡◌, true, false, cond, not, ◌&&◌, List, ℕ, ◌≤◌, length}
use Rattle.terms.specs.Kinds.{thief_is_there}
use Rattle.terms.specs.Lists.{after, each}
use Rattle.terms.specs.Outcome.{is_refusal}
use Rattle.terms.specs.Sizes.{margin_in_use, sizes_in_range}
use Rattle.stores.specs.Spacing.{take_begins, too_early}
use Rattle.stores.specs.StoreBuffer.{drop_oldest, oldest, slots_after, tail_after}
use Rattle.cas.specs.Types.{Client, Done, Entry, Drain, ClientStore, BeginPut, BeginTake, WorkerStep, BeginSteal, ThiefStep, Machine, TheClient, Some, Outcome, Moved, Place, Early, Wait, Sizes, ThiefCall, StealLoadHead, ThiefMove, ThiefView, WorkerCall, PutLoadHead, TakeStoreTail, WorkerMove, WorkerView}
use Rattle.cas.specs.Worker.{loads, worker_move, worker_runs}
use Rattle.cas.specs.Thief.{loads as thief_loads, thief_move, thief_runs}
use Rattle.cas.specs.Machine.{done, fresh, has_room, hidden, in_range, memory_loads, needing, nothing_pending, thief_call, with_head, with_memory, with_spacing, with_store, with_thief, with_worker, worker_loads, worker_tail}

-- ── Steps ───────────────────────────────────────────────────────────────────────────────────────────────────────────────────

-- what the worker sees at a step of this call
abbrev pub worker_view : Machine → WorkerCall → WorkerView
worker_view m c =
    record {
      call = c;
      slots = m.sizes.slots;
      tail = worker_tail m;
      head = m.head;
      room = has_room m;
      drained = nothing_pending m;
      loaded = worker_loads m (loads c);
    }

-- what its move does: the store that it makes is pending, and counted if it counts; head and call are as the move says
abbrev pub perform_worker : Machine → WorkerMove → Done
perform_worker m d = done d.outcome (with_worker d.call (with_head d.head (with_store d.push m)))

-- the next step of its call
abbrev pub step_of_worker : Machine → WorkerCall → Done
step_of_worker m c = perform_worker m (worker_move c (worker_view m c))

-- what a thief sees at a step of this call: memory, whatever is pending
abbrev pub thief_view : Machine → ThiefCall → ThiefView
thief_view m c = record { call = c; head = m.head; tail = m.tail; margin = margin_in_use m.sizes; loaded = memory_loads m (thief_loads c) }

-- what the move of thief i does: head and call are as the move says
abbrev pub perform_thief : ℕ → Machine → ThiefMove → Done
perform_thief i m d = done d.outcome (with_thief i d.call (with_head d.head m))

-- the next step of the call of thief i
abbrev pub step_of_thief : ℕ → Machine → ThiefCall → Done
step_of_thief i m c = perform_thief i m (thief_move c (thief_view m c))

-- ── The entries that are no step of a call ──────────────────────────────────────────────────────────────────────────────────

-- the machine after its oldest pending store has reached memory; a client store has no place there
abbrev pub drained : Machine → Machine
drained m =
    with_memory
    (slots_after m.sizes.slots m.slots (oldest m.buffer).kind)
    (tail_after m.tail (oldest m.buffer).kind)
    (drop_oldest m.buffer)
    m

-- 7 WAIT where nothing is pending
abbrev pub drain : Machine → Done
drain m = needing (not (nothing_pending m)) m (done Moved (drained m))

-- 5 PLACE for a beginning or a client store while the worker's call runs
abbrev pub unless_worker_runs : Machine → Done → Done
unless_worker_runs m d = cond (worker_runs m.worker.call) (done Place m) d

-- a client store, which counts
abbrev pub make_client_store : Machine → Done
make_client_store m = unless_worker_runs m (needing (has_room m) m (done Moved (with_store (Some (TheClient, Client)) m)))

abbrev pub begin_put : ℕ → Machine → Done
begin_put x m = unless_worker_runs m (done Moved (with_worker (PutLoadHead x) m))

-- 6 EARLY against the spacing rule
abbrev pub begin_take : Machine → Done
begin_take m =
    unless_worker_runs m (cond (too_early m.spacing m.sizes.spacing) (done Early m) (done Moved (with_worker TakeStoreTail (with_spacing take_begins m))))

-- 5 PLACE for a beginning while that thief's call runs
abbrev pub begin_steal : ℕ → Machine → Done
begin_steal i m = cond (thief_runs (thief_call m i)) (done Place m) (done Moved (with_thief i StealLoadHead m))

-- ── An entry ────────────────────────────────────────────────────────────────────────────────────────────────────────────────

-- each of the seven kinds, on a machine in range and with a thief that is there
abbrev pub obey_in_range : Machine → Entry → Done
obey_in_range m Drain = drain m
obey_in_range m ClientStore = make_client_store m
obey_in_range m (BeginPut x) = begin_put x m
obey_in_range m BeginTake = begin_take m
obey_in_range m WorkerStep = step_of_worker m m.worker.call
obey_in_range m (BeginSteal i) = begin_steal i m
obey_in_range m (ThiefStep i) = step_of_thief i m (thief_call m i)

-- 7 comes first, where the machine is not in range or the entry's thief is not there; only otherwise is the entry obeyed
abbrev pub obey : Machine → Entry → Done
obey m e = cond (in_range m && thief_is_there m.sizes e) (obey_in_range m e) (done Wait m)

-- ── What is so of every machine and every entry ─────────────────────────────────────────────────────────────────────────────

-- Proved in `proofs/Laws/Obey.antt`. 5, 6 and 7 leave the machine as it is; and 7 comes first.
abbrev pub RefusalKeeps : Type 0
RefusalKeeps = (m : Machine) (e : Entry) → is_refusal (obey m e).outcome ≡ true → (obey m e).machine ≡ m

abbrev pub OutOfRangeWaits : Type 0
OutOfRangeWaits = (m : Machine) (e : Entry) → (in_range m && thief_is_there m.sizes e) ≡ false → obey m e ≡ done Wait m

-- whether the entry moved, answered or was refused, the number that it hands on is that of the machine that it returns
abbrev pub HandsOnHidden : Type 0
HandsOnHidden = (m : Machine) (e : Entry) → (obey m e).hidden ≡ hidden (obey m e).machine

-- ── A list of entries, each on the machine left by the one before it ────────────────────────────────────────────────────

abbrev pub machine_after : Machine → List Entry → Machine
machine_after m es = after (λ m e. (obey m e).machine) m es

abbrev pub outcomes_of : Machine → List Entry → List Outcome
outcomes_of m es = each (λ m e. (obey m e).machine) (λ m e. (obey m e).outcome) m es

-- A run of at most 4,096 entries never leads out of range, whichever margin is set. Proved in `proofs/Linearizable/AnyMargin.antt`.
abbrev pub RunInRange : Type 0
RunInRange = (s : Sizes) (es : List Entry) → sizes_in_range s ≡ true → length es ≤ 4096 → in_range (machine_after (fresh s) es) ≡ true
